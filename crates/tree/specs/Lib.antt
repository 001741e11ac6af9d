pub mod Names
pub mod Tree
pub mod Lawful
pub mod Rules
pub mod Paths
pub mod Calls
pub mod Edits
pub mod Faults
