pub mod Counts
pub mod HostModels
pub mod Keyed
pub mod Laws
pub mod MemoryModels
pub mod Reading
pub mod SystemReads
pub mod Writing
