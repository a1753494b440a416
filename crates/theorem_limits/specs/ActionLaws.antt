-- WHAT A RECORD LEAVES, by its shape: it writes the draft, closes the job, serves, or does nothing. A law that treats all records of one
-- shape alike goes by these, so that a further kind of record is a case here and not in it.
use Rattle.std.specs.Prelude.{ℕ, ◌≡◌, refl, Bool, true, false, List}
use Rattle.state.specs.declared.Step.{Step}
use Rattle.numeric.specs.Area.{Draft}
use Rattle.row_moves.specs.Between.{Live}
use Rattle.records.specs.Facts.{Facts, Action, begins, changes, closes, decides, settles, sifts, idles, facts}
use Rattle.files.specs.File.{Answer, File, with_draft, told, sealed_file, marked_file, settled_file, sifted_file, act}
use Rattle.theorem_limits.specs.Good.{Good}
use Rattle.theorem_limits.specs.FilesLaws.{both, Taken, building_turn, change_turn, serving_turn}

-- ---- ANY RECORD

module _ (f : File) (P : File → Type 0) (drafted : (d : Draft) → P (with_draft f d)) (sealed : P (sealed_file f))
    (served : (k : Step) (v : Live) (g : List ℕ) (as' : List Answer) → P (told f f.closed k v g as')) (idle : P f) where
  pub act_shapes : (a : Action) → P (act f a)
  unfolding act marked_file settled_file sifted_file
  act_shapes (begins n) = drafted _
  act_shapes (changes c) = drafted _
  act_shapes closes = sealed
  act_shapes (decides n v) = served _ _ _ _
  act_shapes settles = served _ _ _ _
  act_shapes sifts = served _ _ _ _
  act_shapes (idles x) = idle

-- ---- BEFORE THE SEAL no record serves, AFTER IT none writes the draft or closes it

pub started_if : (f : File) → Good f → f.sealed ≡ true → f.started ≡ true
started_if f g e = by f.started refl
  where
    by : (b : Bool) → f.started ≡ b → b ≡ true
    by true h = refl
    by false h = absurd (both e (g.unstarted h))

module _ (f : File) (P : Action → File → Type 0) (idle : (x : Facts) → P (idles x) f) where
  pub act_unsealed : f.sealed ≡ false → ((a : Action) (d : Draft) → P a (with_draft f d)) → (Taken f (facts closes) → P closes (act f closes)) → (a : Action) → Taken f (facts a)
      → P a (act f a)
  unfolding act
  act_unsealed e drafted sealed (begins n) t = drafted (begins n) _
  act_unsealed e drafted sealed (changes c) t = drafted (changes c) _
  act_unsealed e drafted sealed closes t = sealed t
  act_unsealed e drafted sealed (decides n v) t = absurd (both (serving_turn f t.turn) e)
  act_unsealed e drafted sealed settles t = absurd (both (serving_turn f t.turn) e)
  act_unsealed e drafted sealed sifts t = absurd (both (serving_turn f t.turn) e)
  act_unsealed e drafted sealed (idles x) t = idle x

  pub act_sealed : f.started ≡ true → f.sealed ≡ true → ((n v : ℕ) → Taken f (facts (decides n v)) → P (decides n v) (act f (decides n v)))
      → (Taken f (facts settles) → P settles (act f settles)) → (Taken f (facts sifts) → P sifts (act f sifts)) → (a : Action) → Taken f (facts a) → P a (act f a)
  unfolding act
  act_sealed s e marked settled sifted (begins n) t = absurd (both s t.turn)
  act_sealed s e marked settled sifted (changes c) t = absurd (both e (change_turn f c t).1)
  act_sealed s e marked settled sifted closes t = absurd (both e (building_turn f t.turn).1)
  act_sealed s e marked settled sifted (decides n v) t = marked n v t
  act_sealed s e marked settled sifted settles t = settled t
  act_sealed s e marked settled sifted sifts t = sifted t
  act_sealed s e marked settled sifted (idles x) t = idle x

-- all that serve alike
pub act-served : (f : File) (P : File → Type 0) → P f → f.started ≡ true → f.sealed ≡ true
    → ((k : Step) (v : Live) (g : List ℕ) (as' : List Answer) → P (told f f.closed k v g as')) → (a : Action) → Taken f (facts a) → P (act f a)
unfolding act marked_file settled_file sifted_file
act-served f P idle s e served = act_sealed f (λ (a : Action). P) (λ x. idle) s e (λ n v t. served _ _ _ _) (λ t. served _ _ _ _) (λ t. served _ _ _ _)
