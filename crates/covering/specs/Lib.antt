pub mod Labels
pub mod Sights
