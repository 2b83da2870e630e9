-- The key that a state gives, and its comparison with a stored one.
pub use Rattle.key_bytes.specs.KeyBytes.{piece_bytes, calls_between, calls_before}
unfoldable pub use Rattle.key_bytes.specs.KeyBytes.{full_calls, piece, key_bytes, pieces, squeezed}
unfoldable pub use Rattle.lists.specs.Every.{same_bytes}
