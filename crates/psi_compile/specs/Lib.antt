pub mod Assembled
pub mod Assigned
pub mod Built
pub mod Compiled
pub mod Demands
pub mod Errors
pub mod Unbuilt
