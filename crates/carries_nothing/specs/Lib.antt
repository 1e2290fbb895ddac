pub mod Alike
pub mod Blocks
pub mod Bodies
pub mod Carriers
pub mod Laws
pub mod Parts
