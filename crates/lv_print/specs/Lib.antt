pub mod Written
pub mod Paper
pub mod Literals
pub mod Expressions
pub mod Unplaced
pub mod Reads
pub mod Sources
pub mod UnplacedSources
