pub mod Exits
pub mod Forms8
pub mod Forms16
pub mod Fronts
pub mod Lawful
