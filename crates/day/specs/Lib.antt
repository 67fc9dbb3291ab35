pub mod Judging
pub mod Contents
pub mod Texts
pub mod Reports
