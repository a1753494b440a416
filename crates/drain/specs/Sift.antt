-- Sifting: between settlings, rows that wait for it are tried by divisibility and by a sum search.
use Rattle.std.specs.Prelude.{ℕ, zero, suc, Bool, true, false, cond, List, get_or}
use Rattle.numeric.specs.Threshold.{Term}
use Rattle.state.specs.declared.Step.{Step}
use Rattle.state.specs.declared.Step.TheVariants.{Unchanged, Changed, Contradiction}
use Rattle.state.specs.Step.{joined, contradicts, is_unchanged}
use Rattle.queues.specs.Queue.{is_empty, oldest, next_row}
use Rattle.queues.specs.Marks.{is_decided}
use Rattle.rows.specs.Rows.{no_row}
use Rattle.intervals.specs.Residual.{Residual, threshold_residual}
use Rattle.searches.specs.Search.{search, search_step, search_visits}
use Rattle.row_moves.specs.Between.{Index, Live, state_at, with_marks, with_residuals}
use Rattle.drain.specs.Drain.{settle, turns}

-- A sift's state: the visits are those of its last search, 0 if it had none.
pub record Sifted : Type 0 where
  pub live : Live
  pub gcds : List ℕ
  pub step : Step
  pub visits : ℕ

abbrev pub sifted : Live → List ℕ → Step → ℕ → Sifted
sifted v g k n = record { live = v; gcds = g; step = k; visits = n }

-- The oldest row that waits is taken: divisibility, and if that leaves all as it was, a search.
unfoldable pub try_row : Index → Live → List ℕ → ℕ → Sifted
try_row x v gcds visits =
    let r = oldest v.residuals.queue in
    let terms = (get_or x.rows r no_row).terms in
    let a = threshold_residual terms (state_at v r) v.marks gcds in
    let after = with_residuals (with_marks v a.marks) (next_row v.residuals) in
    elim (is_unchanged a.step) [
      | true ↦
          let b = search terms (state_at v r) (is_decided a.marks) in
          sifted after a.gcds (search_step b) (search_visits visits b)
      | false ↦ sifted after a.gcds a.step visits
    ]

-- Settle, try a row, and again, until no row waits; a contradiction ends all.
unfoldable pub sift_from : ℕ → Index → Live → List ℕ → Step → ℕ → Sifted
sift_from zero x v gcds k visits = sifted v gcds k visits
sift_from (suc n) x v gcds k visits =
    let d = settle x v in
    elim (contradicts d.step) [
      | true ↦ sifted d.live gcds Contradiction visits
      | false ↦
          elim (is_empty d.live.residuals.queue) [
            | true ↦ sifted d.live gcds (joined k d.step) visits
            | false ↦
                let t = try_row x d.live gcds visits in
                elim (contradicts t.step)
                [ true ↦ t | false ↦ sift_from n x t.live t.gcds (joined (joined k d.step) t.step) t.visits ]
          ]
    ]

abbrev pub sift : Index → Live → List ℕ → Sifted
sift x v gcds = sift_from turns x v gcds Unchanged 0
