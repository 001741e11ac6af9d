pub mod Never
pub mod Ordering
pub mod Deciding
