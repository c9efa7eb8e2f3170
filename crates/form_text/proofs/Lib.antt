pub mod JoinLemmas
pub mod LineLemmas
pub mod NormalLemmas
pub mod OperationalLemmas
pub mod PoolLemmas
pub mod StackLemmas
pub mod StrideLemmas
