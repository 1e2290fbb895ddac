pub mod InputFaults
pub mod InputFits
pub mod InputNames
pub mod SameKinds
pub mod SameTowers
