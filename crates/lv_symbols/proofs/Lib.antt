mod GivenLaws
mod LoopLaws
mod PartLaws
mod ScopeLaws
