pub mod FilesLemmas
pub mod FrontLemmas
pub mod HeldLemmas
