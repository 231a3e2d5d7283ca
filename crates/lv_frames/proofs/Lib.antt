pub mod AllOfModules
pub mod AllOfTurns
pub mod Before
pub mod Clocks
pub mod Narrow
pub mod Said
pub mod Stands
