-- Laws of a matrix of which parts are lent.
pub mod PartLaws
