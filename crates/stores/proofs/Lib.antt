pub mod Moves
pub mod Counts
pub mod Firsts
mod Bits
mod BitCounts
pub mod Parities
pub mod Held
