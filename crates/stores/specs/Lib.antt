pub mod Sets
pub mod SetLaws
pub mod Words
pub mod BitRows
pub mod Bounds
