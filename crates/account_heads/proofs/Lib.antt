-- What the tests of an account in front say.
pub mod Tests
