pub mod Texts
pub mod Parts
pub mod Faults
pub mod Finds
pub mod Any
pub mod Examines
