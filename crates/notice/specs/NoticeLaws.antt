-- The notice by the tests that the code makes. Assumes nothing.
use Rattle.std.specs.Prelude.{ℕ, ◌≡◌, refl, true, false, [], ◌++◌}
use Rattle.std.proofs.Common.{eq-eqb, ne_eqb}
use Rattle.state.specs.declared.Step.{Step}
use Rattle.state.specs.Step.{contradicts}
use Rattle.files.specs.Listing.{text}
use Rattle.text.specs.Decimal.{decimal}
use Rattle.notice.specs.Notice.{meaning, refused_text, left_text}

-- No number of the table before 10.
abbrev pub Other : ℕ → Type 0
Other n = ((((((((Unit {0} × (n ≡ 1 → ⊥)) × (n ≡ 2 → ⊥)) × (n ≡ 3 → ⊥)) × (n ≡ 4 → ⊥)) × (n ≡ 5 → ⊥)) × (n ≡ 6 → ⊥)) × (n ≡ 7 → ⊥)) × (n ≡ 8 → ⊥)) × (n ≡ 9 → ⊥)

pub meaning_other : (n : ℕ) → Other n → meaning n ≡ text "the file is longer than 65,536 bytes"
unfolding meaning
meaning_other n h =
    rw (
      ne_eqb n 1 h.0.0.0.0.0.0.0.0.1,
      ne_eqb n 2 h.0.0.0.0.0.0.0.1,
      ne_eqb n 3 h.0.0.0.0.0.0.1,
      ne_eqb n 4 h.0.0.0.0.0.1,
      ne_eqb n 5 h.0.0.0.0.1,
      ne_eqb n 6 h.0.0.0.1,
      ne_eqb n 7 h.0.0.1,
      ne_eqb n 8 h.0.1,
      ne_eqb n 9 h.1,
    ) refl

pub refused_none : (number offset : ℕ) → number ≡ 0 → refused_text number offset ≡ []
unfolding refused_text
refused_none number offset h = rw (eq-eqb number 0 h) refl

pub refused_some : (number offset : ℕ) → (number ≡ 0 → ⊥) → refused_text number offset ≡ text "refused: " ++ meaning number ++ text ", at byte " ++ decimal offset ++ text "\n"
unfolding refused_text
refused_some number offset h = rw (ne_eqb number 0 h) refl

pub left-none : (last : Step) → contradicts last ≡ false → left_text last ≡ []
unfolding left_text
left-none last h = rw h refl

pub left_some : (last : Step) → contradicts last ≡ true → left_text last ≡ text "no layout is left\n"
unfolding left_text
left_some last h = rw h refl
