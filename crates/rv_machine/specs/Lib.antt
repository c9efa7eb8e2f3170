pub mod Budgets
pub mod Flows
pub mod Views
