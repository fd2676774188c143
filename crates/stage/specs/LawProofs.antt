-- The proofs of the two rules' laws. A trait's law is proved by what stands in specs/, so these lemmas stand here.
pub mod Counts
pub mod Gaps
pub mod Windows
pub mod Lawful
