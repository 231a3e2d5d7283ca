pub mod ByName
pub mod Indexed
pub mod NumberLaws
pub mod ParamLaws
pub mod ParameterLaws
pub mod RangeLaws
pub mod TableLaws
pub mod TurnLaws
