pub mod Operations
pub mod Grammar
pub mod Reading
pub mod Claims
