pub mod Gathering
mod Lines
mod Outcomes
