pub mod Showing
pub mod Closing
pub mod Stepping
pub mod Unwinding
pub mod Running
pub mod Examples
