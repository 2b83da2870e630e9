-- The round and n rounds over G, and their inverses.
pub mod Round
