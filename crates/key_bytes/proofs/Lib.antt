-- The laws of the key's bytes and of the calls between them.
pub mod KeyLaws
