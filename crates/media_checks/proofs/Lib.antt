pub mod Moved
pub mod Fetches
