-- The laws of answers and of the counts, and which words of the matrix a derivation changes.
pub mod Answering
pub mod UsedMatrix
