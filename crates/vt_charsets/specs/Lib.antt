-- The effect of controls and sequences on the character sets
pub mod Sets
-- The translation of whole input
pub mod Translation
-- The value of a translator
pub mod Charsets
-- Input that designates nothing but ASCII
pub mod Ascii
-- Auxiliary definitions of private functions
pub mod Internals
-- The events of the parser
pub mod Events
