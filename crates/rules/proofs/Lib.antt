pub mod Holding
pub mod Refused
pub mod Piles
pub mod Stepping
