pub mod HeadChecks
pub mod Kinds
pub mod LineChecks
pub mod ReduceChecks
pub mod States
pub mod Walks
