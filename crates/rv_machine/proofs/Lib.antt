mod BudgetLemmas
mod WalkLemmas
