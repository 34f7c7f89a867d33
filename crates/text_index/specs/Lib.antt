pub mod Marks
pub mod Stretches
pub mod Places
