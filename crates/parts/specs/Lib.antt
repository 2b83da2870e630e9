-- A matrix of which parts are lent.
pub mod Parts
