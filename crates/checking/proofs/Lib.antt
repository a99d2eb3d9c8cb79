pub mod Passing
pub mod Clausewise
pub mod Reading
pub mod Noting
