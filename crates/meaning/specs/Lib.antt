pub mod Answers
pub mod Unwinding
pub mod Accepted
pub mod Running
pub mod Steps
pub mod Calls
pub mod LeastCosts
