pub mod Books
pub mod Exhibit
pub mod Exists
pub mod Journals
pub mod Reckoned
pub mod Sessions
pub mod Theorem
