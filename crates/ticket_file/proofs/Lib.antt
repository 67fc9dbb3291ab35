pub mod Unique
mod Orders
mod Steps
mod Whole
pub mod Verdicts
pub mod Judged
