pub mod Records
pub mod ListedLabels
pub mod Accounts
pub mod LawKept
pub mod ChartsTold
