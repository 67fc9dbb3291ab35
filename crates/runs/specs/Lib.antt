pub mod Tables
pub mod Supports
pub mod Orders
pub mod Planner
pub mod Ledger
pub mod Whole
