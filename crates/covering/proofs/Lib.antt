pub mod Searches
pub mod Weighing
pub mod Coverings
pub mod Onward
pub mod Unpaid
