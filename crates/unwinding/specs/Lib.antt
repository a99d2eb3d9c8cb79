pub mod Bytes
pub mod Charges
