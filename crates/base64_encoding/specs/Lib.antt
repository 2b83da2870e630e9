-- Base 64: bytes as text, and text as bytes.
pub mod Base64
