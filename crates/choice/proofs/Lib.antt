-- The laws of the choice of costs, and what is promised of it.
pub mod GreatestLaws
pub mod LimitLaws
pub mod TimeLaws
pub mod BestLaws
pub mod ChosenLaws
pub mod Chosen
