pub mod ClosingLaws
pub mod Firsts
pub mod OpeningLaws
pub mod SlotNumbers
pub mod TermLaws
pub mod Writes
