pub mod Form
pub mod Read
pub mod Places
pub mod Heads
pub mod Values
