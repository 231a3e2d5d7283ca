pub mod ItemArms
pub mod LeftLaws
pub mod NodeLaws
pub mod StmtArms
pub mod Sums
pub mod Totals
