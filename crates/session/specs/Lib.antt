pub mod Frames
pub mod Letters
pub mod Replies
pub mod Runs
pub mod Steps
pub mod Stops
pub mod Views
