pub mod ForceLaws
pub mod SoundLaws
