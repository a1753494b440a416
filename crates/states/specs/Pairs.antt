-- A pair with no comma, so that a long tuple can be laid out over several lines.
infixr 2 ◌▹◌
abbrev pub ◌▹◌ {ℓ ℓ'} : {A : Type ℓ} {B : Type ℓ'} → A → B → A × B
a ▹ b = (a, b)
