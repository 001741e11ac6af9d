pub mod Tokens
pub mod Grammar
pub mod Scan
pub mod Exact
