-- CLAUSE A, its first line: what the call gives depends on nothing that the lent memory held before, only on how long each buffer is.
use Rattle.std.specs.Prelude.{ℕ, ◌≡◌, refl, true, List, [], ◌∷◌, length, get_or, replicate, pos}
use Rattle.std.proofs.Common.{arith, sym, ap, ◌∙◌}
use Rattle.memory.specs.Buffers.{Work, raw_lists, raw, held_rows, built, kept, work, lengths, fits_by, fits, zeros, cleared, clear_raw, clear_built, clear_kept}
use Rattle.files.specs.File.{Outcome, file_of}
use Rattle.files.specs.Contents.{Out, laid, whole, given_of, out}
use Rattle.theorem_demands.specs.RefusalLaws.{served_when}

-- Each buffer is as long in one as in the other.
abbrev pub SameLengths : Work → Work → Type 0
SameLengths v w = lengths v ≡ lengths w

-- Clearing keeps the length, and nothing else.
pub zeros_same : {X : Type 0} (z : X) (l m : List X) → length l ≡ length m → zeros z l ≡ zeros z m
unfolding zeros
zeros_same z [] [] e = refl
zeros_same z [] (y ∷ m) e = absurd (omega arith)
zeros_same z (x ∷ l) [] e = absurd (omega arith)
zeros_same z (x ∷ l) (y ∷ m) e = ap (λ (t : List _). z ∷ t) (zeros_same z l m (omega arith))

module _ (v w : Work) (h : SameLengths v w) where
  fits-same : (input : List ℕ) → fits input v ≡ fits input w
  fits-same input = ap (λ (ms : List ℕ). fits_by ms (length input)) h

  at : (i : ℕ) → get_or (lengths v) i 0 ≡ get_or (lengths w) i 0
  at i = ap (λ (ms : List ℕ). get_or ms i 0) h

  raw_same : clear_raw v.raw ≡ clear_raw w.raw
  unfolding clear_raw
  raw_same =
      let a = v.raw.lists in
      let b = w.raw.lists in
      λ i. raw
      (raw_lists (zeros_same 0 a.raw-conditions b.raw-conditions (at 0) i) (zeros_same 0 a.raw-weights b.raw-weights (at 1) i)
      (zeros_same (replicate 2 0) a.thresholds b.thresholds (at 2) i))
      (zeros_same (pos 0) v.raw.bounds w.raw.bounds (at 3) i)

  built-same : clear_built v.built ≡ clear_built w.built
  unfolding clear_built
  built-same =
      let a = v.built.held in
      let b = w.built.held in
      λ i. built
      (held_rows (zeros_same 0 a.row-conditions b.row-conditions (at 4) i) (zeros_same 0 a.row-weights b.row-weights (at 5) i)
      (zeros_same (replicate 3 0) a.rows b.rows (at 6) i) (zeros_same (pos 0) a.guard_bounds b.guard_bounds (at 7) i)
      (zeros_same 0 a.guard_nodes b.guard_nodes (at 8) i))
      (zeros_same (replicate 3 0) v.built.nodes w.built.nodes (at 9) i) (zeros_same (replicate 2 0) v.built.edges w.built.edges (at 10) i)
      (zeros_same 0 v.built.links w.built.links (at 11) i)

  kept_same : clear_kept v.kept ≡ clear_kept w.kept
  unfolding clear_kept
  kept_same =
      let a = v.kept in
      let b = w.kept in
      λ i. kept (zeros_same (replicate 4 (pos 0)) a.figures b.figures (at 12) i) (zeros_same (replicate 5 0) a.cursors b.cursors (at 13) i)
      (zeros_same 0 a.sure b.sure (at 14) i) (zeros_same 0 a.never b.never (at 15) i) (zeros_same 0 a.search b.search (at 16) i)
      (zeros_same 0 a.gcds b.gcds (at 17) i) (zeros_same 0 a.node_queue b.node_queue (at 18) i)
      (zeros_same (replicate 4 0) a.row_queues b.row_queues (at 19) i) (zeros_same (replicate 2 0) a.answers b.answers (at 20) i)

  cleared-same : cleared v ≡ cleared w
  unfolding cleared
  cleared-same = λ i. work (raw_same i) (built-same i) (kept_same i)

-- What the call gives, over memory that is cleared.
abbrev over-cleared : Outcome → Work → Out
over-cleared o c = out (given_of o) (laid o.file c)

-- THE CALL FORGETS WHAT THE BUFFERS HELD
pub memory : (input : List ℕ) (v w : Work) → SameLengths v w → fits input v ≡ true → whole input v ≡ whole input w
memory input v w h e =
    served_when input v e ∙ ap (λ (c : Work). over-cleared (file_of input) c) (cleared-same v w h)
    ∙ sym (served_when input w (sym (fits-same v w h input) ∙ e))
