-- IT HOLDS ON: a job within the limits is sealed, and whatever marks, settles and sifts follow, its buffers serve and its memory can be
-- drained. Assumes nothing.
use Rattle.std.specs.Prelude.{ℕ, ◌≤◌, ◌≡◌, refl, Bool, true, false, ◌||◌, List, [], ◌∷◌, length, ℤ}
use Rattle.std.proofs.Common.{arith, sym, ap, ◌∙◌, subst}
use Rattle.base.specs.All.{All}
use Rattle.base.specs.TestLaws.{clash}
use Rattle.numeric.specs.Threshold.{Job}
use Rattle.words.specs.Mask.{bit}
use Rattle.queues.specs.Marks.{is_decided}
use Rattle.row_moves.specs.Between.{Index, Live}
use Rattle.drain.specs.Drain.{index_of, seal, mark, settle}
use Rattle.drain.specs.Sift.{sift}
use Rattle.memory.specs.Limits.{max_nodes, max_thresholds}
use Rattle.memory.specs.Ranges.{raw_limit}
use Rattle.memory.specs.Buffers.{Built}
use Rattle.files.specs.File.{begun}
use Rattle.job.specs.JobBuffers.{built_of}
use Rattle.theorem_limits.specs.Good.{Fits, Light}
use Rattle.theorem_limits.specs.BlankLaws.{blank-begun, same_at}
use Rattle.theorem_limits.specs.FilesLaws.{good_begun}
use Rattle.theorem_keeps.specs.Serves.{Serves, Going, Fresh}
use Rattle.theorem_keeps.specs.BeginsLaws.{going_seal, going_mark}
use Rattle.theorem_keeps.specs.SettlingLaws.{going_settle}
use Rattle.theorem_keeps.specs.SiftingLaws.{going_sift}
use Rattle.theorem_holds.proofs.ServedLaws.{Served}
use Rattle.theorem_holds.specs.Lent.{bounds_of, lent_of, Lendable}
use Rattle.theorem_holds.proofs.LentLaws.{served-built}
use Rattle.theorem_holds.specs.GoesLaws.{Deed, marks, settles, sifts, Inside, followed}

-- ---- cleared memory can be sealed

undecided : (n : ℕ) → is_decided begun.live.marks n ≡ false
undecided n = ap (λ (c : Bool). c || bit begun.live.marks.never n) (blank-begun.bits true n) ∙ blank-begun.bits false n

pub fresh-begun : (b : Built) → Fresh b begun.live
unfolding begun
fresh-begun b = record {
  sound = good_begun.live;
  tracked = record {
    queued = record {
      queue = good_begun.live.waits;
      decided = λ n e. absurd (clash false e refl);
      gone = λ n e. absurd (clash false e refl);
      left = λ n d e. absurd (clash (is_decided begun.live.marks n) d (undecided n));
    };
    low = λ n d. absurd (clash (is_decided begun.live.marks n) d (undecided n));
    dirty = λ r h. same_at max_thresholds r 0;
    residuals = λ r h. same_at max_thresholds r 0;
  };
}

-- ---- WHAT FOLLOWS A SEAL

pub going_on : (x : Index) (bounds : List ℤ) (b : Built) → Serves x bounds b → length b.nodes ≤ max_nodes → (ds : List Deed) → All (Inside (length b.nodes)) ds → (v : Live) (gcds : List ℕ)
    → Going b.held b.nodes v → Going b.held b.nodes (followed x ds v gcds)
unfolding followed
going_on x bounds b s few [] a v gcds g = g
going_on x bounds b s few (marks n value ∷ ds) a v gcds g =
    going_on x bounds b s few ds a.1 (mark v n value).live gcds (going_mark b v value n (let h = a.0 in omega arith) a.0 g)
going_on x bounds b s few (settles ∷ ds) a v gcds g = going_on x bounds b s few ds a.1 (settle x v).live gcds (going_settle x bounds b s v g)
going_on x bounds b s few (sifts ∷ ds) a v gcds g = going_on x bounds b s few ds a.1 (sift x v gcds).live (sift x v gcds).gcds (going_sift x bounds b s v gcds g)

-- A JOB WITHIN THE LIMITS, SEALED FROM CLEARED MEMORY: its buffers serve, and memory can be drained whatever follows.
pub goes_on_lem : (j : Job) → Fits j → Light raw_limit j → (w : Built) → Lendable w → (ds : List Deed) → All (Inside j.nodes) ds
    → let b = lent_of j (built_of j w) in Served j b × Going b.held b.nodes (followed (index_of j) ds (seal (index_of j) begun.live).live begun.gcds)
goes_on_lem j f l w p ds a =
    let b = lent_of j (built_of j w) in
    let s = served-built j f l w p in (
      s,
      going_on (index_of j) (bounds_of j) b s.serves (omega (arith, s.many, f.nodes)) ds (subst (λ (n : ℕ). All (Inside n) ds) (sym s.many) a)
          (seal (index_of j) begun.live).live begun.gcds (going_seal (index_of j) (bounds_of j) b s.serves s.totals begun.live (fresh-begun b)),
    )
