-- The laws of quads side by side.
pub mod SideBySide
