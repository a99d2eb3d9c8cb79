pub mod Rising
pub mod Flags
