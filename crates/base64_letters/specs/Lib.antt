-- The alphabet of base 64.
pub mod Letters
