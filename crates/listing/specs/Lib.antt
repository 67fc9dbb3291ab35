pub mod Placing
pub mod Sinks
pub mod Ranges
pub mod Texts
pub mod Lines
pub mod Listings
