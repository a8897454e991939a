-- Chains of screens, and viewers of mirrors, on every terminal
pub mod Chains
pub mod Viewers
