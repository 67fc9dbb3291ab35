pub mod Placing
pub mod Unique
mod Lengths
mod Rows
mod Made
mod Tables
pub mod Floors
pub mod Listings
