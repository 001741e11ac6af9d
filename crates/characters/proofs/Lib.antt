pub mod Deciding
pub mod Members
pub mod Safe
