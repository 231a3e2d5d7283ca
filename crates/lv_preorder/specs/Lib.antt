pub mod Counted
pub mod Origins
