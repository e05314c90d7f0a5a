pub mod Manners
pub mod Phases
pub mod Probes
pub mod FailingSound
pub mod OfFailing
