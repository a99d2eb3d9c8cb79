pub mod Searching
pub mod Meeting
pub mod Mending
pub mod Billing
pub mod Parts
pub mod Ceilings
