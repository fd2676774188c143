pub mod WorkedStages
pub mod MarkLists
pub mod MarkedDays
mod Flags
mod Inclusive
