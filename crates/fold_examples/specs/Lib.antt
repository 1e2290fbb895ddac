pub mod Sums
pub mod SumLaws
pub mod UntilLaws
pub mod Carried
pub mod CarriedLaws
