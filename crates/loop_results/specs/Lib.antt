pub mod Ends
pub mod Extremes
pub mod Groups
pub mod Laws
pub mod Orders
pub mod ResultTexts
pub mod Results
