pub mod Appending
pub mod Mixing
pub mod Pairing
pub mod Items
pub mod Clashing
pub mod Eliminables
pub mod Turns
pub mod Laying
