pub mod Orders
pub mod Folding
