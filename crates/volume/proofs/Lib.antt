pub mod Chunks
pub mod Volumes
pub mod Sealing
pub mod Verdicts
pub mod Puts
