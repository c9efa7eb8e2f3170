pub mod Ends
pub mod Errors
pub mod Examples
pub mod Ran
pub mod Starts
