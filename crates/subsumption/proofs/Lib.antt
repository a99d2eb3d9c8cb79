pub mod Insides
pub mod Removals
pub mod Passing
pub mod Lifting
