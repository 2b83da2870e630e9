-- A derivation's input and its absorption.
pub mod Input
