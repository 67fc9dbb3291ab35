pub mod Consequences
pub mod Orders
mod Sifting
mod Slots
mod Trees
