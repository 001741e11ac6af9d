pub mod Codes
pub mod Faults
pub mod Starts
pub mod Tails
pub mod Utf8
pub mod Utf8Laws
pub mod Utf16
pub mod Utf16Laws
