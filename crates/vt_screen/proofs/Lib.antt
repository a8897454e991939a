-- Steps: what each keeps, and how the code performs it
pub mod StepCells
pub mod StepScrollback
pub mod StepInvariant
mod StepPages
pub mod StepRuns
pub mod StepEvents
pub mod StepRegions
-- Sizes of screens and pages
pub mod SizePage
pub mod SizeCursors
pub mod SizeRuns
-- Calls to callbacks
pub mod CallsReported
pub mod CallsNone
-- Rows that scroll off, and U+FE0F
pub mod TrailingBlanks
pub mod Streaming
mod Selectors
-- Reading output
pub mod ReadSgr
pub mod ReadTexts
pub mod ReadOperations
pub mod Shown
pub mod ReadRedraws
pub mod ReadRows
pub mod ReadStates
pub mod ReadMoved
pub mod ReadShifted
-- Plain terminals that are plain again
pub mod AgainPlain
pub mod AgainMoved
pub mod AgainStates
pub mod AgainForms
-- The elements of output
pub mod MadeOf
pub mod MadeEscapes
pub mod MadeContents
pub mod MadeCaptures
-- Shorter movements and gaps
pub mod ReadCharacters
pub mod ReadRoutes
pub mod ReadElements
pub mod ReadGaps
pub mod ShortOutput
pub mod ShortMoves
-- Runs written with REP
pub mod RepeatRooms
pub mod RepeatSteps
pub mod RepeatTokens
mod RepeatCuts
pub mod RepeatRead
pub mod RepeatDiffs
-- Portable output
pub mod PortableSgr
pub mod PortableReads
pub mod PortableMoves
pub mod PortableElements
pub mod PortableRepeats
pub mod PortableExamples
-- Positions that output touches
pub mod TouchReads
