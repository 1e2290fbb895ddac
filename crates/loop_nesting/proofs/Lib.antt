pub mod Run
pub mod Sound
pub mod Complete
pub mod Answers
