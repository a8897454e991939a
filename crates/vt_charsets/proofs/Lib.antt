-- The translator always stands for some reading
pub mod Standing
-- A byte of a sequence is collected
pub mod Collecting
-- Joined input, and the loop over it
pub mod Joined
-- A byte that is kept
pub mod Kept
-- The length of a translation
pub mod Lengths
-- Input that designates nothing but ASCII
pub mod Identity
-- The parser reads a translation as the input
pub mod Parsed
-- A translation is not changed by translating it again
pub mod Twice
-- Examples
pub mod Examples
