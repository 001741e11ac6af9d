pub mod Least
pub mod Whole
pub mod Deciding
pub mod Checks
pub mod Inside
pub mod LineEnds
pub mod Right
pub mod Documents
