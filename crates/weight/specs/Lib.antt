pub mod Kind
pub mod Wholes
pub mod Tiers
pub mod Total
pub mod TierLaws
