-- The key that a state gives, and its comparison with a stored one.
pub mod Key
