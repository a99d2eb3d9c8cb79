pub mod Alike
pub mod Yielding
pub mod Striking
pub mod Lifting
