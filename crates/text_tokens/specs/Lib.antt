pub mod Bytes
pub mod Kinds
pub mod Runs
pub mod Separators
pub mod Tokens
