-- Screens and their steps
pub mod Screen
pub mod Pages
pub mod ModeStep
pub mod Sgr
pub mod Steps
pub mod Calls
pub mod Meanings
pub mod Controls
pub mod Run
pub mod CallsOfRun
pub mod Texts
-- What output does to terminals that read it
pub mod Reading
pub mod Shown
pub mod AnyRegion
pub mod Again
pub mod Chain
pub mod MadeOf
pub mod Escapes
pub mod Touched
pub mod TextResults
-- Texts of rows
pub mod Contents
pub mod Capture
pub mod Streamed
pub mod RowsShown
pub mod Selectors
-- Options
pub mod States
pub mod Diffs
pub mod Repeating
pub mod ShortMoves
pub mod Gaps
pub mod Portable
-- For models, private contracts and proofs only
pub mod Internals
