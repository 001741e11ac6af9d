pub mod Order
pub mod Reserved
pub mod Xml
pub mod Ordered
