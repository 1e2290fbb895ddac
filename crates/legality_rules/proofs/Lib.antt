pub mod CutLemmas
pub mod FirstLemmas
pub mod Layers
pub mod OpenPaths
pub mod RisingLemmas
pub mod RuleLemmas
pub mod Trees
pub mod Worked
