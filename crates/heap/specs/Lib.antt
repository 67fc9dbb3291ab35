pub mod Keys
pub mod Laws
pub mod Steps
pub mod Trees
pub mod Waiting
