-- The numbers of accounts, as the code compares them.
pub mod Numbers
