pub mod Faults
pub mod Calls
pub mod Requests
pub mod Program
