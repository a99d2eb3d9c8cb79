pub mod Refusing
pub mod Opening
pub mod Adding
pub mod Closing
pub mod Running
pub mod Delivering
pub mod Unwound
