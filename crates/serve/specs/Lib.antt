pub mod Capacity
pub mod Held
pub mod Taken
pub mod Printed
pub mod Sessions
