pub mod Keys
pub mod Works
pub mod Terms
pub mod Steps
pub mod Prices
pub mod Laws
