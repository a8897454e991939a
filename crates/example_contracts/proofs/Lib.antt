pub mod Sending
pub mod Viewing
