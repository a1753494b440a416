-- The three parts of the listing find room one behind the other and are the listing. Assumes nothing.
use Rattle.std.specs.Prelude.{ℕ, ◌+◌, ◌*◌, ◌≤◌, ◌≡◌, refl, Bool, true, false, cond, List, length}
use Rattle.std.proofs.Common.{arith, mul-le-mul_left, ◌∙◌, subst}
use Rattle.memory.specs.Limits.{max_thresholds}
use Rattle.state.specs.declared.State.{State}
use Rattle.files.specs.declared.Given.{Given}
use Rattle.files.specs.Listing.{max_listing}
use Rattle.text.specs.Text.{Wrote, joined}
use Rattle.text.specs.TextLaws.{wrote_then, wrote_whole}
use Rattle.listing.specs.Lines.{max_row_line, max_last_line, max_front, row_at, front_text, row_count_of, last_text, InMasks, Answered, Sealed, Listable}
use Rattle.listing.specs.Shows.{Listed}
use Rattle.listing.specs.ShowsLaws.{shows_listing}

module _ {g : Given} {answers : List (List ℕ)} {states : List State} {sure never : List ℕ} (l : Listable g answers states sure never) where
  pub rows-most : (row_count_of g ≤ max_thresholds) × (row_count_of g ≤ length states)
  rows-most = by g.sealed l.sealed
    where
      by : (b : Bool) → (b ≡ true → Sealed g states sure never) → (cond b g.rows 0 ≤ max_thresholds) × (cond b g.rows 0 ≤ length states)
      by true h = ((h refl).rows, (h refl).in_states)
      by false h = (omega arith, omega arith)

  rows-size : (c : ℕ) → c ≡ row_count_of g → max_row_line * c ≤ max_row_line * max_thresholds
  rows-size c q =
      let h : c ≤ max_thresholds = omega (arith, q, rows-most.0) in
      mul-le-mul_left max_row_line h

  module _ (d : List ℕ) (long : max_listing ≤ length d) where
    pub front_room : (max_front ≤ length d) × Answered g answers × (g.sealed ≡ true → InMasks g sure never)
    front_room = (omega arith, l.answered, λ s. (l.sealed s).masks)

    pub rows_room : {e : List ℕ} {a : ℕ} (c : ℕ) → length e ≡ length d → Wrote max_front d e 0 a (front_text g answers sure never) → c ≡ row_count_of g
        → (a + max_row_line * c ≤ length e) × (c ≤ length states)
    rows_room c s f q = (omega (arith, f.within, rows-size c q), omega (arith, q, rows-most.1))

    pub last_room : {e₁ e₂ : List ℕ} {a b : ℕ} (c : ℕ) → length e₂ ≡ length d → Wrote max_front d e₁ 0 a (front_text g answers sure never) → c ≡ row_count_of g
        → Wrote (max_row_line * c) e₁ e₂ a b (joined (row_at states) c) → (b + max_last_line ≤ length e₂) × (g.refused ≡ 0 → (64 ≤ length sure) × (64 ≤ length never))
    last_room c s f q r = (omega (arith, f.within, r.within, rows-size c q), l.ended)

  pub list_all : {d e₁ e₂ e₃ : List ℕ} {a b r : ℕ} (c : ℕ) → Wrote max_front d e₁ 0 a (front_text g answers sure never) → c ≡ row_count_of g
      → Wrote (max_row_line * c) e₁ e₂ a b (joined (row_at states) c) → Wrote max_last_line e₂ e₃ b r (last_text g sure never) → Listed g answers states sure never d e₃ r
  list_all {d} {e₁} {e₂} {e₃} {a} {b} {r} c f q w x =
      let z : 0 ≤ length d = omega arith in
      let rows = subst (λ (n : ℕ). Wrote (max_row_line * c) e₁ e₂ a b (joined (row_at states) n)) q w in
      let y = wrote_whole (wrote_then z (wrote_then z f rows) x) in
      record {
        fits = omega (arith, f.within, w.within, x.within, rows-size c q);
        bytes = λ o shown. y.0 ∙ shows_listing shown;
        behind = y.1;
      }
