-- Terminals that agree with a canvas
mod Elements
mod Agrees
mod Pages
mod Puts
mod Glyphs
mod Apart
-- They follow operations that are tidy and portable
mod Characters
mod Follows
mod OpSteps
mod Ops
mod Sure
mod Flags
mod Lists
-- The script is tidy
mod TidyParts
mod TidyGlyphs
mod TidyCells
mod TidyPens
mod TidyLinks
mod TidyRows
mod TidyCursor
mod TidyScript
-- Redraws, diffs and chains
mod Shown
mod Every
pub mod Boxes
-- Terminals that obey the laws
mod Printed
mod CanvasEdits
mod CanvasErasing
mod CanvasStrays
mod CanvasLaws
mod DecEdits
mod DecLaws
