-- A FILE FROM ITS SEAL ON: behind the seal of a job within the limits, and behind each record that is taken then, the job's buffers
-- serve and memory can be drained. Assumes nothing.
use Rattle.std.specs.Prelude.{ℕ, ◌<◌, ◌≡◌, refl, false, length, eqb}
use Rattle.std.proofs.Common.{arith, sym, ap, ◌∙◌}
use Rattle.std.proofs.Math.Path.{subst}
use mathlib.Core.List.{List, [], ◌∷◌}
use borrow.Author.Tests.{leb-false}
use Rattle.memory.specs.Ranges.{raw_limit}
use Rattle.memory.specs.Buffers.{Built}
use Rattle.numeric.specs.Threshold.{Job}
use Rattle.numeric.specs.Area.{job_of}
use Rattle.drain.specs.Drain as Drain
use Rattle.drain.specs.Drain.{index_of}
use Rattle.drain.specs.Sift as Sift
use Rattle.records.specs.declared.Record.{Record}
use Rattle.records.specs.declared.Record.TheVariants.{Seal}
use Rattle.records.specs.Facts.{Action, decides, settles, sifts, action, facts}
use Rattle.files.specs.File.{File, begun, refusal, sealed_file, marked_file, settled_file, sifted_file, act, apply, after, Passed}
use Rattle.job.specs.JobBuffers.{built_of}
use Rattle.theorem_limits.specs.BuiltLaws.{fits_of}
use Rattle.theorem_limits.specs.Good.{Fits, Light, Good}
use Rattle.theorem_limits.specs.FilesLaws.{good_begun, both, Taken, taken, building_turn, good_apply, good_after}
use Rattle.theorem_limits.specs.ActionLaws.{act_shapes, act_sealed, started_if}
use Rattle.theorem_keeps.specs.Serves.{Serves, Going, Fresh}
use Rattle.theorem_keeps.specs.SettlingLaws.{going_settle}
use Rattle.theorem_keeps.specs.BeginsLaws.{going_seal, going_mark}
use Rattle.theorem_holds.specs.Lent.{bounds_of, lent_of, Lendable, Serving}
use Rattle.theorem_holds.proofs.LentLaws.{served-built}
use Rattle.theorem_holds.proofs.GoesLaws.{fresh-begun}
use Rattle.theorem_keeps.specs.SiftingLaws.{going_sift}

module _ (j : Job) (fits : Fits j) (light : Light raw_limit j) (w : Built) (p : Lendable w) where
  abbrev b : Built
  b = lent_of j (built_of j w)

  serves : Serves (index_of j) (bounds_of j) b
  serves = (served-built j fits light w p).serves

  -- BEHIND THE SEAL
  pub serving_seal : (f : File) → Good f → job_of f.draft ≡ j → Fresh b f.live → refusal f Seal ≡ 0 → Serving j w (apply f Seal)
  unfolding apply act sealed_file
  serving_seal f g e v h = record {
    good = good_apply f g Seal h;
    sealed = refl;
    closed = e;
    going = subst (λ (i : Job). Going b.held b.nodes (Drain.seal (index_of i) f.live).live) (sym e)
        (going_seal (index_of j) (bounds_of j) b serves (served-built j fits light w p).totals f.live v);
  }

  -- BEHIND EACH RECORD THAT IS TAKEN
  module _ (f : File) (s : Serving j w f) where
    there : (n : ℕ) → n < f.draft.nodes → n < length b.nodes
    there n h = omega (arith, (served-built j fits light w p).many, ap (λ (i : Job). i.nodes) (sym (s.good.same s.sealed) ∙ s.closed))

    marked : (n v : ℕ) → Taken f (facts (decides n v)) → Good (act f (decides n v)) → Serving j w (act f (decides n v))
    unfolding act marked_file
    marked n v t g =
        let h = leb-false f.draft.nodes n t.nodes in
        record {
          good = g;
          sealed = refl;
          closed = s.closed;
          going = going_mark b f.live (eqb v 1) n (omega (arith, s.good.draft.nodes)) (there n h) s.going;
        }

    settled : Good (act f settles) → Serving j w (act f settles)
    unfolding act settled_file
    settled g = record {
      good = g;
      sealed = refl;
      closed = s.closed;
      going = subst (λ (i : Job). Going b.held b.nodes (Drain.settle (index_of i) f.live).live) (sym s.closed)
          (going_settle (index_of j) (bounds_of j) b serves f.live s.going);
    }

    sifted : Good (act f sifts) → Serving j w (act f sifts)
    unfolding act sifted_file
    sifted g = record {
      good = g;
      sealed = refl;
      closed = s.closed;
      going = subst (λ (i : Job). Going b.held b.nodes (Sift.sift (index_of i) f.live f.gcds).live) (sym s.closed)
          (going_sift (index_of j) (bounds_of j) b serves f.live f.gcds s.going);
    }

    kept : (a : Action) → Taken f (facts a) → Good (act f a) → Serving j w (act f a)
    kept = act_sealed f (λ (a : Action) (h : File). Good h → Serving j w h) (λ x g. s) (started_if f s.good s.sealed) s.sealed marked (λ t. settled) (λ t. sifted)

    pub serving_apply : (r : Record) → refusal f r ≡ 0 → Serving j w (apply f r)
    unfolding apply
    serving_apply r h = kept (action r) (taken f r h) (good_apply f s.good r h)

  pub serving_after : (f : File) (rs : List Record) → Serving j w f → Passed f rs → Serving j w (after f rs)
  unfolding after
  serving_after f [] s h = s
  serving_after f (r ∷ rs) s h = serving_after (apply f r) rs (serving_apply f s r h.0) h.1

-- ---- UP TO THE SEAL memory is as it was cleared

abbrev Unsealed : File → Type 0
Unsealed f = f.sealed ≡ false → (b : Built) → Fresh b f.live

unsealed_act : (f : File) → Unsealed f → (a : Action) → Unsealed (act f a)
unfolding sealed_file
unsealed_act f u = act_shapes f Unsealed (λ d. u) (λ e. absurd (both refl e)) (λ k v g as' e. absurd (both refl e)) u

unsealed_after : (f : File) (rs : List Record) → Unsealed f → Unsealed (after f rs)
unfolding after apply
unsealed_after f [] u = u
unsealed_after f (r ∷ rs) u = unsealed_after (act f (action r)) rs (unsealed_act f u (action r))

-- A WHOLE FILE: records up to a seal that is taken, whose job has light weights, and any records taken behind it.
pub file_serves : (rs more : List Record) → let f = after begun rs in (p : Passed begun rs) → refusal f Seal ≡ 0 → (light : Light raw_limit (job_of f.draft)) (w : Built) (q : Lendable w)
    → Passed (apply f Seal) more → Serving (job_of f.draft) w (after (apply f Seal) more)
file_serves rs more p h light w q m =
    let f = after begun rs in
    let g = good_after begun rs good_begun p in
    let fresh = unsealed_after begun rs (λ e. fresh-begun) (building_turn f (taken f Seal h).turn).1 (lent_of (job_of f.draft) (built_of (job_of f.draft) w)) in
    serving_after (job_of f.draft) (fits_of g.draft) light w q (apply f Seal) more (serving_seal (job_of f.draft) (fits_of g.draft) light w q f g refl fresh h) m
