-- Choosing costs for a gateway (request 109).
pub mod Greatest
pub mod Choice
pub mod Fitting
