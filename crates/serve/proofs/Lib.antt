pub mod Reading
mod Printing
mod Framing
