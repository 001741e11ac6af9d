pub mod Cells
pub mod Access
pub mod Faults
pub mod Frames
pub mod Laws
