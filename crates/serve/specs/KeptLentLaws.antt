-- Laws of that struct: what keeps its buffers twice keeps them, and what it is when the buffers that were lent on come back.
use Rattle.std.specs.Prelude.{ℕ, ℤ, List, ◌≡◌, refl}
use Rattle.std.proofs.Common.{◌∙◌}
use Rattle.memory.specs.Buffers.{Kept, kept}
use Rattle.row_moves.specs.declared.Live.{Live}
use Rattle.serve.specs.declared.Kept.{Kept as LentKept}
use Rattle.serve.specs.KeptLent.{SameKept}

pub kept_self : (k : LentKept) → SameKept k k
kept_self k = (refl, refl, refl, refl, refl, refl, refl, refl, refl, refl, refl, refl, refl, refl, refl, refl, refl, refl)

pub kept_on : (k l m : LentKept) → SameKept k l → SameKept l m → SameKept k m
kept_on k l m e f = (
  f.0 ∙ e.0,
  f.1 ∙ e.1,
  f.2 ∙ e.2,
  f.3 ∙ e.3,
  f.4 ∙ e.4,
  f.5 ∙ e.5,
  f.6 ∙ e.6,
  f.7 ∙ e.7,
  f.8 ∙ e.8,
  f.9 ∙ e.9,
  f.10 ∙ e.10,
  f.11 ∙ e.11,
  f.12 ∙ e.12,
  f.13 ∙ e.13,
  f.14 ∙ e.14,
  f.15 ∙ e.15,
  f.16 ∙ e.16,
  f.17 ∙ e.17,
)

pub lent_back : (P : Kept → Type 0) (l : Live) {figures : List (List ℤ)} {cursors : List (List ℕ)} {sure never search gcds node_queue : List ℕ}
    {row_queues answers : List (List ℕ)} → figures ≡ l.figures.now → cursors ≡ l.cursors.now → sure ≡ l.sure.now → never ≡ l.never.now
    → node_queue ≡ l.node_queue.now → row_queues ≡ l.row_queues.now
    → P (kept l.figures.now l.cursors.now l.sure.now l.never.now search gcds l.node_queue.now l.row_queues.now answers)
    → P (kept figures cursors sure never search gcds node_queue row_queues answers)
lent_back P l e0 e1 e2 e3 e4 e5 p = rw (e0, e1, e2, e3, e4, e5) p
