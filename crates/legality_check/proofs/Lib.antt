mod CheckLemmas
pub mod FormedScopes
mod InputLaws
mod Shared
mod Whole
