pub mod Failing
pub mod Remote
pub mod Spots
