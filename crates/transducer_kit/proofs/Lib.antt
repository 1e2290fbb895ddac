pub mod ActionLemmas
pub mod Closing
pub mod EmitLemmas
pub mod Feeding
pub mod Lists
pub mod SpreadLemmas
pub mod StepLemmas
