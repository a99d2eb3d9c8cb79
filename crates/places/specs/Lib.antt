pub mod Asking
pub mod Spots
