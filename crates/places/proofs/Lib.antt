pub mod Searching
pub mod Making
pub mod Clausewise
pub mod Alike
