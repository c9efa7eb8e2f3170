pub mod Calls
pub mod Causes
pub mod Counts
pub mod Files
pub mod Held
pub mod Limits
pub mod Memory
