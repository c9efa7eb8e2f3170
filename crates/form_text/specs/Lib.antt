pub mod Examples
pub mod NestPieces
pub mod NestSpelling
pub mod Pieces
pub mod Spelling
pub mod Strides
