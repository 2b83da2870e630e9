-- What follows from the marks of a line.
pub mod Marks
