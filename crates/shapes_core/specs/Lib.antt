pub mod Gamma
pub mod Limits
pub mod Name
pub mod Padded
pub mod Shape
