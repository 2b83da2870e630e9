-- A login line cut at its marks.
pub mod Cuts
