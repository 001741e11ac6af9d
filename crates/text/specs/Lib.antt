pub mod Stands
pub mod Gathers
