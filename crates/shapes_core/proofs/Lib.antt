pub mod DigitLemmas
pub mod GammaLemmas
pub mod NameLemmas
pub mod PaddedLemmas
pub mod SpanLemmas
