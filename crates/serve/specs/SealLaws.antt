-- THE SEAL of memory that can be sealed, and the records behind it: what the code requires and what it leaves. Assumes nothing.
use Rattle.std.specs.Prelude.{ℕ, ◌+◌, ◌<◌, ◌≤◌, ◌≡◌, refl, List, [], length, ℤ}
use Rattle.std.proofs.Common.{arith, subst, ◌∙◌}
use Rattle.std.proofs.Math.Path.{sym, ap}
use Rattle.memory.specs.Ranges.{total_limit}
use Rattle.numeric.specs.Area.{job_of}
use Rattle.memory.specs.Buffers.{Built, Kept}
use Rattle.base.specs.Laid.{over}
use Rattle.state.specs.declared.Step.{Step}
use Rattle.queues.specs.declared.Rings.{Rings}
use Rattle.queues.specs.Waiting.{Waits, Flags}
use Rattle.row_moves.specs.Between.{Index, Live, Did, did}
use Rattle.row_moves.specs.Held.{Shaped, Holds}
use Rattle.row_moves.specs.Ready.{Totals}
use Rattle.row_moves.specs.Numbers.{Tidy}
use Rattle.drain.specs.Drain as Drain
use Rattle.drain.specs.Drain.{index_of}
use Rattle.records.specs.declared.Record.TheVariants.{Seal}
use Rattle.records.specs.declared.Standing.{Standing}
use Rattle.checks.specs.Next.{Taken, next_at}
use Rattle.files.specs.File.{File, standing, refusal, told, sealed_file, act, apply, outcome}
use Rattle.theorem_limits.specs.BuiltLaws.{fits_of}
use Rattle.theorem_keeps.specs.Serves.{Fresh}
use Rattle.theorem_keeps.specs.Tries.{Scratch}
use Rattle.theorem_holds.proofs.ServedLaws.{Served}
use Rattle.theorem_holds.proofs.LentLaws.{served-built}
use Rattle.theorem_holds.proofs.FilesLaws.{serving_seal}
use Rattle.serve.specs.declared.Reached.{Reached}
use Rattle.serve.specs.Serve.{Lent, live_in, Lies, Seals, stood, Reaches, read_at}
use Rattle.answers.specs.Answers.{answers_of}
use Rattle.serve.specs.ReadLaws.{seal_goes}
use Rattle.serve.specs.ServeLaws.{reaches_ended}

module _ (bs : List ℤ) (b : Built) (base : List (List ℕ)) (f : File) (k : Kept) (first : Rings) (s : Seals bs b f) (l : Lies base f k first) where
  served : Served (job_of f.draft) b
  served = subst (Served (job_of f.draft)) (sym s.built) (served-built (job_of f.draft) (fits_of s.good.draft) s.light s.from s.lendable)

  -- What `settle::seal` requires.
  pub seals_holds : (x : Index) × Holds x b.held
  seals_holds = (index_of (job_of f.draft), served.serves.holds)

  pub seals_shaped : Shaped b.held
  seals_shaped = served.serves.shaped

  pub seals_totals : Totals total_limit b.held.row-conditions b.held.row-weights b.held.rows
  seals_totals = served.totals

  pub seals_room : length b.held.rows ≤ length (live_in k first).states
  seals_room = omega (arith, seals_shaped.few, s.fresh.sound.long, ap (λ (v : Live). length v.states) l.live)

  pub seals_waits : Waits (live_in k first).marks
  seals_waits = subst (λ (v : Live). Waits v.marks) (sym l.live) s.fresh.sound.waits

  pub seals_flags : Flags (live_in k first).residuals
  seals_flags = subst (λ (v : Live). Flags v.residuals) (sym l.live) s.fresh.sound.residuals

  lent : refusal f Seal ≡ 0 → Lent bs b (apply f Seal)
  lent h = record {
    job = job_of f.draft;
    fits = fits_of s.good.draft;
    light = s.light;
    from = s.from;
    lendable = s.lendable;
    built = s.built;
    bounds = s.bounds;
    serving = serving_seal (job_of f.draft) (fits_of s.good.draft) s.light s.from s.lendable f s.good refl (subst (λ (z : Built). Fresh z f.live) s.built s.fresh) h;
  }

  -- WHAT IT LEAVES
  module _ (m : Kept) (rings : Rings) (step : Step) (made : (x : Index) → Holds x b.held → did (live_in m rings) step ≡ Drain.seal x (live_in k first)) where
    whole : apply f Seal ≡ told f (job_of f.draft) step (live_in m rings) f.gcds f.answers
    unfolding apply act sealed_file
    whole =
        ap (λ (d : Did). told f (job_of f.draft) d.step d.live f.gcds f.answers)
        (ap (Drain.seal (index_of (job_of f.draft))) (sym l.live) ∙ sym (made (index_of (job_of f.draft)) served.serves.holds))

    pub seals_reaches : refusal f Seal ≡ 0 → Tidy m.figures m.cursors → m.gcds ≡ k.gcds → m.search ≡ k.search → m.answers ≡ k.answers
        → (o : Reached) → o.rings ≡ rings → o.last ≡ step → o.refused ≡ 0 → (from : Standing) → from ≡ standing f → o.standing ≡ stood from step from.answers
        → Reaches bs b base m o (outcome (apply f Seal) [] 0 o.at)
    seals_reaches passed tidy eg es ea o er el en from e q = record {
      lent = lent passed;
      lies = record {
        live = ap (live_in m) er ∙ sym (ap (λ (h : File). h.live) whole);
        tidy = tidy;
        gcds = eg ∙ l.gcds ∙ sym (ap (λ (h : File). h.gcds) whole);
        scratch = subst (Scratch m.gcds) (sym es) (subst (λ (g : List ℕ). Scratch g k.search) (sym eg) l.scratch);
        answers = ea ∙ l.answers ∙ ap (λ (h : File). over (answers_of h.answers) base) (sym whole);
        room = l.room;
      };
      standing = q ∙ ap (λ (z : Standing). stood z step z.answers) e ∙ ap (λ (h : File). standing h) (sym whole);
      last = el ∙ ap (λ (h : File). h.last) (sym whole);
      refused = en;
      at = refl;
    }

-- The records behind the seal are all from there on.
pub seals_whole : (bs : List ℤ) (b : Built) (base : List (List ℕ)) (f : File) (m : Kept) (o : Reached) (input : List ℕ) (at : ℕ) → at < length input
    → (from : Standing) → from ≡ standing f → next_at from input at ≡ Taken Seal
    → Reaches bs b base m o (read_at (length input) input (at + 1) (apply f Seal)) → Reaches bs b base m o (read_at (length input) input at f)
seals_whole bs b base f m o input at h from e n y =
    reaches_ended bs b base m o (read_at (length input) input (at + 1) (apply f Seal)) (read_at (length input) input at f)
    (seal_goes input at f h (ap (λ (z : Standing). next_at z input at) (sym e) ∙ n)).1 y

pub seals_passed : (f : File) (input : List ℕ) (at : ℕ) → at < length input → (from : Standing) → from ≡ standing f → next_at from input at ≡ Taken Seal → refusal f Seal ≡ 0
seals_passed f input at h from e n = (seal_goes input at f h (ap (λ (z : Standing). next_at z input at) (sym e) ∙ n)).0
