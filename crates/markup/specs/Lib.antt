pub mod Elements
pub mod Clean
