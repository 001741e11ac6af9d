pub mod Options
pub mod Names
pub mod References
pub mod Runs
pub mod Goes
pub mod Takes
pub mod Widths
pub mod Sound
