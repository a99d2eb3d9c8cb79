pub mod Alike
pub mod Denying
pub mod Lifting
