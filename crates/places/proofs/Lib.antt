-- The laws of places.
pub mod PlaceLaws
