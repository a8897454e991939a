pub mod Parser
pub mod Erasures
pub mod Internals
pub mod Pieces
pub mod Calls
pub mod Streams
