pub mod Labels
pub mod Insertions
pub mod Namings
pub mod Tables
pub mod Cursors
pub mod Rewrites
pub mod Passes
pub mod Sizes
