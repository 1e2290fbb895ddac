pub mod TreesTried
pub mod Worked
