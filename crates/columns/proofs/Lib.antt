-- Where rows lie, what a column keeps of a comparison of two works, and which words it changes.
pub mod RowLaws
pub mod View
pub mod ColumnSteps
pub mod Within
