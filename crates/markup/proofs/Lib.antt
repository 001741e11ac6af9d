pub mod Tame
pub mod Tags
