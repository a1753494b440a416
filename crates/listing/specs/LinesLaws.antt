-- What stands on a line, by the tests that the code makes. Assumes nothing.
use Rattle.std.specs.Prelude.{ℕ, zero, suc, ◌-◌, ◌*◌, ◌<◌, ◌≤◌, ◌≡◌, refl, true, false, List, [], ◌++◌, length, take}
use Rattle.std.proofs.Common.{arith, ap, length-take, lt-ltb, le-ltb, eq-eqb, ne_eqb}
use Rattle.state.specs.declared.Step.TheVariants.{Contradiction}
use Rattle.words.specs.Mask.{bit, count}
use Rattle.memory.specs.Limits.{max_nodes}
use Rattle.files.specs.File.{settled, sifted}
use Rattle.files.specs.Listing.{text}
use Rattle.text.specs.Decimal.{decimal}
use Rattle.files.specs.declared.Given.{Given}
use Rattle.text.specs.Text.{joined}
use Rattle.listing.specs.Lines.{step_of, answer_of, node_at, end_line, refused_line, decided, node_text, last_text}

pub step_other : (n : ℕ) → (n ≡ 0 → ⊥) → (n ≡ 1 → ⊥) → step_of n ≡ Contradiction
unfolding step_of
step_other zero h k = absurd (h refl)
step_other (suc zero) h k = absurd (k refl)
step_other (suc (suc n)) h k = refl

pub answer_settle : (n v : ℕ) → n < 4 → answer_of n v ≡ settled (step_of n)
unfolding answer_of
answer_settle n v h = rw (lt-ltb n 4 h)

pub answer_sift : (n v : ℕ) → 4 ≤ n → answer_of n v ≡ sifted (step_of (n - 4)) v
unfolding answer_of
answer_sift n v h = rw (le-ltb n 4 h)

pub node_sure : (sure never : List ℕ) (n : ℕ) → bit sure n ≡ true → node_at sure never n ≡ text "node " ++ decimal n ++ text " sure\n"
unfolding node_at
node_sure sure never n h = rw h

pub node_never : (sure never : List ℕ) (n : ℕ) → bit sure n ≡ false → bit never n ≡ true → node_at sure never n ≡ text "node " ++ decimal n ++ text " never\n"
unfolding node_at
node_never sure never n h k = rw (h, k)

pub node_none : (sure never : List ℕ) (n : ℕ) → bit sure n ≡ false → bit never n ≡ false → node_at sure never n ≡ []
unfolding node_at
node_none sure never n h k = rw (h, k)

-- All 64 words of a mask are counted.
pub counted : (mask : List ℕ) → 64 ≤ length mask → count (take 64 mask) (64 * length (take 64 mask)) ≡ decided mask
counted mask h = ap (count (take 64 mask)) {x = 64 * length (take 64 mask)} {y = max_nodes} (omega (arith, length-take 64 mask))

-- ---- the parts

pub nodes_sealed : (g : Given) (sure never : List ℕ) → g.sealed ≡ true → node_text g sure never ≡ joined (node_at sure never) g.nodes
unfolding node_text
nodes_sealed g sure never h = rw h

pub nodes_none : (g : Given) (sure never : List ℕ) → g.sealed ≡ false → node_text g sure never ≡ []
unfolding node_text
nodes_none g sure never h = rw h

pub last_end : (g : Given) (sure never : List ℕ) → g.refused ≡ 0 → last_text g sure never ≡ end_line (decided sure) (decided never)
unfolding last_text
last_end g sure never h = rw (eq-eqb g.refused 0 h)

pub last_refused : (g : Given) (sure never : List ℕ) → (g.refused ≡ 0 → ⊥) → last_text g sure never ≡ refused_line g.refused g.at
unfolding last_text
last_refused g sure never h = rw (ne_eqb g.refused 0 h)
