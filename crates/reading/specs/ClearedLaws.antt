-- Cleared raw buffers are what reading asks, and what is read into them is what the call asks.
use Rattle.std.specs.Prelude.{ℕ, ◌≡◌, List, ℤ}
use Rattle.std.proofs.Common.{sym, subst}
use Rattle.memory.specs.Buffers.{Raw, clear_raw}
use Rattle.files.specs.declared.JobRead.{JobRead}
use Rattle.files.specs.JobPart.{JobPart}
use Rattle.reading.specs.Held.{Room, HeldPart}
use Rattle.memory.specs.ZerosLaws.{zeros_room}

pub cleared_room : (w : Raw) → Room w → Room (clear_raw w)
unfolding clear_raw
cleared_room w r = record {
  conditions = zeros_room _ w.lists.raw-conditions r.conditions;
  weights = zeros_room _ w.lists.raw-weights r.weights;
  thresholds = zeros_room _ w.lists.thresholds r.thresholds;
  bounds = zeros_room _ w.bounds r.bounds;
}

pub read_room : (w v : Raw) → Room w → v ≡ clear_raw w → Room v
read_room w v r e = subst Room (sym e) (cleared_room w r)

pub read_held : {j : JobPart} {r : JobRead} {cs ws : List ℕ} {ts : List (List ℕ)} {bs : List ℤ} (w v : Raw) → v ≡ clear_raw w → HeldPart j v r cs ws ts bs
    → HeldPart j (clear_raw w) r cs ws ts bs
read_held {j = j} {r = r} {cs = cs} {ws = ws} {ts = ts} {bs = bs} w v e h = subst (λ (u : Raw). HeldPart j u r cs ws ts bs) e h
