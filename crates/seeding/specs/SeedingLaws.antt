-- The loop of `seed_thresholds` over all rows: what holds at each. Assumes nothing.
use Rattle.std.specs.Prelude.{ℕ, ◌+◌, ◌<◌, ◌≤◌, ◌≡◌, refl, true, false, List, ◌∷◌, length, get_or, drop}
use Rattle.std.proofs.Common.{add-one, arith, sym, ap, ◌∙◌, drop_of_length-le, drop-cons}
use Rattle.memory.specs.Buffers.{HeldRows}
use Rattle.state.specs.declared.Step.{Step}
use Rattle.state.specs.declared.Step.TheVariants.{Unchanged}
use Rattle.state.specs.Step.{joined, contradicts}
use Rattle.rows.specs.Rows.{Row, no_row}
use Rattle.memory.specs.Ranges.{figure_limit}
use Rattle.row_moves.specs.Between.{Index, Live, did, run_with, run_row, seed_from}
use Rattle.row_moves.specs.Held.{held_row, Shaped, Holds}
use Rattle.row_moves.specs.HeldLaws.{run_held}
use Rattle.row_moves.specs.Ready.{ReadyLive}
use Rattle.row_moves.specs.ReadyLaws.{ready_run, ready_by}
use Rattle.row_moves.specs.LoopLaws.{seed_next, seed_stop, seed_end}

-- Seeding the rows from here on is seeding all.
pub record Seeding (h : HeldRows) (v₀ : Live) (row : ℕ) (k : Step) (v : Live) : Type 0 where
  pub ready : ReadyLive h figure_limit v
  pub whole : (x : Index) → Holds x h → seed_from x row (drop row x.rows) v k ≡ seed_from x 0 x.rows v₀ Unchanged

module _ (h : HeldRows) (v₀ : Live) where
  pub seeding_first : ReadyLive h figure_limit v₀ → Seeding h v₀ 0 Unchanged v₀
  seeding_first y = record { ready = y; whole = λ x z. refl }

  module _ (row : ℕ) (k : Step) (v : Live) (l : Seeding h v₀ row k v) where
    pub seeding_end : length h.rows ≤ row → (x : Index) → Holds x h → did v k ≡ seed_from x 0 x.rows v₀ Unchanged
    seeding_end t x z =
        seed_end x row v k
        ∙ ap (λ (rs : List Row). seed_from x row rs v k) (sym (drop_of_length-le x.rows {i = row} (omega (arith, z.many)))) ∙ l.whole x z

    module _ (y : Shaped h) (here : row < length h.rows) (v' : Live) (j : Step) (made : did v' j ≡ run_with (held_row h row) v row) where
      turned : (x : Index) → Holds x h → did v' j ≡ run_row x v row
      turned x z = made ∙ run_held x h z v row here

      rest : (x : Index) → Holds x h → get_or x.rows row no_row ∷ drop (row + 1) x.rows ≡ drop row x.rows
      rest x z = sym (drop-cons x.rows row no_row (omega (arith, z.many)) ∙ ap (λ (i : ℕ). get_or x.rows row no_row ∷ drop i x.rows) (sym (add-one row)))

      pub seeding_next : contradicts j ≡ false → (b : Step) → b ≡ joined k j → Seeding h v₀ (row + 1) b v'
      seeding_next c b e = record {
        ready = ready_by h figure_limit (did v' j) (run_with (held_row h row) v row) made (ready_run h figure_limit y v l.ready row here);
        whole = λ x z.
            ap (seed_from x (row + 1) (drop (row + 1) x.rows) v') e
            ∙ seed_next x row (get_or x.rows row no_row) (drop (row + 1) x.rows) v k (did v' j) (turned x z) c
            ∙ ap (λ (rs : List Row). seed_from x row rs v k) (rest x z) ∙ l.whole x z;
      }

      pub seeding_stop : contradicts j ≡ true → (x : Index) → Holds x h → did v' j ≡ seed_from x 0 x.rows v₀ Unchanged
      seeding_stop c x z =
          seed_stop x row (get_or x.rows row no_row) (drop (row + 1) x.rows) v k (did v' j) (turned x z) c
          ∙ ap (λ (rs : List Row). seed_from x row rs v k) (rest x z) ∙ l.whole x z
