pub mod Lanes
pub mod ProbeState
