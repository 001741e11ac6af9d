pub mod Prefixes
pub mod Document
pub mod Packet
pub mod Faults
pub mod Promises
