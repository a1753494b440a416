-- A MARK keeps the invariant with one node more in its start, and A SIFTING keeps it from the nodes that are decided after it: what
-- it decides beyond the rules is a start like any other.
use Rattle.std.specs.Prelude.{ℕ, ◌<◌, ◌≡◌, refl, Bool, true, false, not, List}
use Rattle.std.proofs.Common.{sym, ap, subst, ⊎_elim}
use Rattle.base.specs.TestLaws.{true-false, clash}
use Rattle.memory.specs.Limits.{max_nodes}
use Rattle.numeric.specs.Threshold.{Job}
use Rattle.numeric.specs.Least.{NodesRise}
use Rattle.state.specs.Step.{contradicts}
use Rattle.words.specs.Mask.{bit}
use Rattle.queues.specs.Queue.{Rows, oldest, next_row}
use Rattle.queues.specs.Marks.{Marks, is_decided, Decided, decide}
use Rattle.queues.proofs.MarksLaws.{decide_new}
use Rattle.row_moves.specs.Between.{Index, Live, state_at, with_marks, with_residuals}
use Rattle.row_moves.specs.KeepsLaws.{Small}
use Rattle.drain.specs.Drain.{index_of, mark, settle}
use Rattle.drain.specs.Sift.{Sifted, try_row, sift}
use Rattle.drain.specs.SiftLaws.{try_leaves, sift_walks}
use Rattle.drain.specs.Steps.{try_terms, try_residual, try_live}
use Rattle.theorem_ends.specs.KeepsLaws.{residual-named}
use Rattle.theorem_limits.specs.Good.{Fits}
use Rattle.theorem_ends.specs.Sound.{Indexed}
use Rattle.theorem_limits.specs.BuiltLaws.{indexed}
use Rattle.theorem_table.specs.Table.{Table, start}
use Rattle.theorem_follows.specs.DecideLaws.{decide_as}
use Rattle.queues.proofs.StayLaws.{decide-nothing, not-decided}
use Rattle.theorem_follows.specs.StartLaws.{mark_leads, restarted}
use Rattle.theorem_demands.specs.TableJobsLaws.{job_built, job_ordered, job_single}
use Rattle.theorem_demands.specs.TableTurnsLaws.{Steady, Goes, settle_goes}
use Rattle.theorem_demands.specs.TableSealsLaws.{own_start}

-- A MARK
pub mark_goes : (x : Index) (s : Table) (v : Live) (n : ℕ) (value : Bool) → n < max_nodes → Steady x s v → Goes x (decide_as value s n) (mark v n value)
unfolding mark
mark_goes x s v n value small (l, e, h) = let a = mark_leads x s l v h value n small in (λ c. (l, e, a.0 c), a.1)

-- The nodes decided so far as a new start.
pub steady_own : (x : Index) (sure never : ℕ → Bool) (v : Live) → Steady x (start sure never) v → Steady x (own_start v) v
steady_own x sure never v (l, e, h) = (l, e, restarted x sure never l v h)

-- Rows that wait for a residual play no part.
other_residuals : (x : Index) (s : Table) (v : Live) (q : Rows) → Steady x s v → Steady x s (with_residuals v q)
other_residuals x s v q (l, e, h) = (
  l,
  e,
  record {
    stands = record {
      sized = h.stands.sized;
      above = record { sure = h.stands.above.sure; never = h.stands.above.never; lower = h.stands.above.lower; upper = h.stands.above.upper };
      follows = λ u a rest. let f = h.stands.follows u a rest in record { sure = f.sure; never = f.never; lower = f.lower; upper = f.upper };
      apart = h.stands.apart;
      decided = h.stands.decided;
      known = h.stands.known;
      possible = h.stands.possible;
    };
    done = record { sized = h.done.sized; passed = h.done.passed; complete = h.done.complete; free = h.done.free; met = h.done.met };
    told = record { decided = h.told.decided; sure = h.told.sure; never = h.told.never };
    handed = record { sized = h.handed.sized; flags = h.handed.flags; handed = h.handed.handed };
    queued = h.queued;
  },
)

-- What the marks are part of, as they change.
abbrev Own : Index → Live → Marks → Type 0
Own x v m = Steady x (start (bit m.sure) (bit m.never)) (with_marks v m)

-- one more node decided, by whatever reason
own_decide : (x : Index) (v : Live) (value : Bool) (m : Marks) (n : ℕ) → n < max_nodes → Own x v m → Own x v (decide value m n).marks
unfolding mark
own_decide x v value m n small h =
    ⊎_elim (λ (d : is_decided m n ≡ true). subst (Own x v) (sym (decide-nothing value m n d)) h) (λ (d : is_decided m n ≡ false). by value d) (true-false (is_decided m n))
  where
    w : Live
    w = with_marks v m

    fine : (b : Bool) → is_decided m n ≡ false → contradicts (decide b m n).step ≡ false
    fine b d = ap (λ (y : Decided). contradicts y.step) (decide_new b m n (not-decided m n d b) (not-decided m n d (not b)))

    by : (b : Bool) → is_decided m n ≡ false → Own x v (decide b m n).marks
    by true d = steady_own x _ _ (with_marks v (decide true m n).marks) ((mark_goes x (start (bit m.sure) (bit m.never)) w n true small h).0 (fine true d))
    by false d = steady_own x _ _ (with_marks v (decide false m n).marks) ((mark_goes x (start (bit m.sure) (bit m.never)) w n false small h).0 (fine false d))

-- A ROW IS TRIED
pub try_keeps : (x : Index) → Indexed x → (v : Live) (gcds : List ℕ) (visits : ℕ) → Steady x (own_start v) v
    → let w = (try_row x v gcds visits).live in Steady x (own_start w) w
try_keeps x ix v gcds visits h =
    let r = oldest v.residuals.queue in
    let m = (try_residual x v gcds).marks in
    let own = residual-named (Own x v) Small (own_decide x v) (try_terms x v) (ix.conditions r) (state_at v r) v.marks gcds h in
    try_leaves x v gcds visits (λ (w : Live) (g : List ℕ). Steady x (own_start w) w)
    (other_residuals x (own_start (try_live x v gcds)) (with_marks v m) (next_row v.residuals) own)

-- A SIFTING
module _ (j : Job) (f : Fits j) (rises : NodesRise j.thresholds) where
  abbrev x : Index
  x = index_of j

  pub settle_keeps : (v : Live) → Steady x (own_start v) v → contradicts (settle x v).step ≡ false → let w = (settle x v).live in Steady x (own_start w) w
  settle_keeps v h c = steady_own x _ _ (settle x v).live ((settle_goes j x (job_built j) (job_ordered j f) (job_single j rises) (own_start v) v h).0 c)

  -- the nodes decided so far as a start
  abbrev Rests : Live → Type 0
  Rests v = Steady x (own_start v) v

  pub sift_keeps : (v : Live) (gcds : List ℕ) → Rests v → contradicts (sift x v gcds).step ≡ false → Rests (sift x v gcds).live
  sift_keeps v gcds h =
      sift_walks x (λ (n : ℕ) (u : Live) (g : List ℕ) (m : ℕ). Rests u) (λ (t : Sifted). contradicts t.step ≡ false → Rests t.live) (λ u g m k c p o. p)
      (λ n u g m p e o. absurd (clash true refl o)) (λ n u g m k c p e i o. settle_keeps u p e) (λ n u g m p e i q o. absurd (clash _ q o))
      (λ n u g m p e i q. try_keeps x (indexed j f) (settle x u).live g m (settle_keeps u p e)) v gcds h
