pub mod Head
pub mod Routes
pub mod Fields
pub mod Bodies
pub mod Requests
pub mod Faults
pub mod Laws
