pub mod Resolving
pub mod Writing
pub mod Eliminating
