pub mod Assigned
pub mod Codes
pub mod FitExamples
pub mod Fits
pub mod Homes
