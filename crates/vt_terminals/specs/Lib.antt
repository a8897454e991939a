-- The elements of output, terminals and their laws
pub mod Element
pub mod Terminal
pub mod Laws
pub mod Room
pub mod BlackBox
pub mod Sound
pub mod CanvasTerminal
pub mod DecTerminal
