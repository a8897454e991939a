-- The automaton
pub mod Steps
pub mod Alike
-- Numbers and parts of a sequence
pub mod Lists
pub mod ParameterGroups
pub mod ParameterNumbers
-- Texts
pub mod Readback
pub mod Leading
pub mod Characters
pub mod Selectors
