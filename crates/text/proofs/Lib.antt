pub mod Standing
pub mod Gathering
