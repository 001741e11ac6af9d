pub mod Classes
pub mod Members
pub mod Spelling
pub mod Safe
pub mod Theorems
