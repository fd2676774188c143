pub mod Entries
pub mod Table
pub mod Arguments
