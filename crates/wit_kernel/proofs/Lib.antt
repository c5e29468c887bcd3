pub mod Example
pub mod First
pub mod PairsTold
