pub mod EndedLists
pub mod ScanLayers
pub mod ScanLemmas
pub mod Scanned
