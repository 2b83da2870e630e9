-- Words of 64 bits and G, with the addition of G as a parameter, and what undoes them.
pub mod Word
pub mod Mixers
pub mod G
