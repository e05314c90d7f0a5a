pub mod Marks
pub mod Chosen
pub mod Phases
pub mod MarkingSound
pub mod OfMarking
