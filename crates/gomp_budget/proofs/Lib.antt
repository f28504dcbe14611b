pub mod BudgetExamples
pub mod RangeExamples
