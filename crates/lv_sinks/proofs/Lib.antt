pub mod ClockLaws
pub mod PartLaws
pub mod ShapeLaws
pub mod SinkLaws
pub mod SinkReads
