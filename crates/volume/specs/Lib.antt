pub mod Blocks
pub mod Renewed
pub mod Seen
pub mod Kept
pub mod Laws
