-- The laws of words, of the mixers' additions and of G.
pub mod WordLaws
pub mod Additions
pub mod GLaws
