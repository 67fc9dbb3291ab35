pub mod Judging
pub mod TablePrices
