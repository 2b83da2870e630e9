-- The words of the visit record.
pub mod Packing
