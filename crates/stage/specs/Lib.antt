pub mod Asked
pub mod WorkedStages
pub mod Marked
pub mod Rules
pub mod Laws
pub mod LawProofs
