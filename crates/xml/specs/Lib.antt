pub mod Faults
pub mod Reader
pub mod Namespaces
pub mod Document
pub mod Rules
pub mod Reading
