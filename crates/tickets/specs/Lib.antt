pub mod Refusals
pub mod Collections
pub mod Planner
