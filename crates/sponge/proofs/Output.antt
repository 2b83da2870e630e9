-- The words of the output, for the crates above. Assumes nothing.
pub use Rattle.rate.proofs.Words.{length-rand, get_or-rand, rand-words}
