pub mod Labelling
pub mod Surveys
