-- The laws of the key's bytes, passed on. Assumes nothing.
pub use Rattle.key_bytes.proofs.KeyLaws.{pieces_calls}
