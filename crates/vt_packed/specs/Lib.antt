-- The items of a packed row, and their texts
pub mod Items
-- Packed rows
pub mod Packed
-- For private contracts and proofs only
pub mod Internals
