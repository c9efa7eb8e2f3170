pub mod BlockLaws
pub mod LeadExamples
pub mod Leads
pub mod Outputs
pub mod Plain
pub mod Sizes
pub mod Sources
