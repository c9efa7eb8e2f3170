pub mod CompileLemmas
pub mod MadeLemmas
mod NestHomeLemmas
mod NestLemmas
mod NestProgramLemmas
mod NestShapeLemmas
mod NestSourceLemmas
pub mod ReadLemmas
mod ServeAccessLemmas
mod ServeAreaLemmas
mod ServeInputLemmas
mod ServeLemmas
mod ServeListLemmas
mod ServeNestLemmas
mod ServeOperatorLemmas
mod ServeSourceLemmas
pub mod UnbuiltLemmas
