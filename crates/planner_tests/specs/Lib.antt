pub mod Trying
pub mod Plans
pub mod Judging
