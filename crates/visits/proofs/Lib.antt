-- The laws of the visits, of their record and of its encoding.
pub mod EncodingLaws
pub mod Recording
pub mod VisitsUndone
pub mod VisitsWithin
