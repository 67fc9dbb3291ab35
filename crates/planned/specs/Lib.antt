pub mod Judging
pub mod Texts
pub mod Records
pub mod Plans
pub mod Reports
