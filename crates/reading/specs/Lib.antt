pub mod Held
pub mod HeldLaws
pub mod NotedLaws
pub mod ClearedLaws
pub mod Lent
pub mod LentLaws
