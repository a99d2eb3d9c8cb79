pub mod Standing
pub mod Noted
pub mod Parts
