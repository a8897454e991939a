pub mod Program
pub mod Shown
pub mod Internals
