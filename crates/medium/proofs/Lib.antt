pub mod Held
pub mod Windows
