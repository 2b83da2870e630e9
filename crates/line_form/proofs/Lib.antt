-- The laws of the login line.
pub mod Cuts
pub mod Inverse
pub mod Lengths
pub mod RoundTrip
pub mod Cases
