pub mod Pieces
pub mod Summaries
pub mod Changes
pub mod Fronts
pub mod Queries
