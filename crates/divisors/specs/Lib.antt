pub mod Gcd
pub mod GcdLaws
pub mod Table
pub mod TableLaws
