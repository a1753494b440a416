pub mod Built
pub mod BuiltLaws
pub mod SoundLaws
pub mod ClearedLaws
pub mod Lent
