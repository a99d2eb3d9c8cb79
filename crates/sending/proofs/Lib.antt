pub mod Members
pub mod Normals
pub mod Noting
pub mod Refusing
pub mod Reading
pub mod Signs
pub mod Writing
