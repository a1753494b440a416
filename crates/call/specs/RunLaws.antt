-- The call as a whole: what the three phases leave is what the definitions say of the file. Assumes nothing.
use Rattle.std.specs.Prelude.{ℕ, zero, suc, ◌+◌, ◌<◌, ◌≤◌, ◌≡◌, refl, Bool, cond, not, List, [], ◌∷◌, length, drop, ℤ}
use Rattle.std.proofs.Common.{arith, sym, subst, ◌∙◌, ⊎_elim}
use Rattle.std.proofs.Math.Path.{ap}
use Rattle.std.proofs.Math.Bool.{true, false}
use Rattle.std.proofs.lemmas.Bool.{not-true, not-false}
use Rattle.memory.specs.Limits.{max_links}
use Rattle.memory.specs.Ranges.{raw_limit}
use Rattle.memory.specs.Buffers.{raw_lists, Raw, raw, Built, Kept, Work, work, fits, longest_input, clear_raw, clear_built, cleared}
use Rattle.memory.specs.LengthsLaws.{Sized, fits_sized, fits_input}
use Rattle.numeric.specs.Threshold.{Job}
use Rattle.numeric.specs.Area.{job_of}
use Rattle.rows.specs.Rows.{rows_of}
use Rattle.job.specs.JobBuffers.{raw_of, built_of}
use Rattle.records.specs.declared.Standing.{Standing}
use Rattle.records.specs.declared.Record.{Record}
use Rattle.records.specs.declared.Record.TheVariants.{Seal}
use Rattle.records.specs.Record.{record_at}
use Rattle.records.specs.Facts.{Action, action, facts}
use Rattle.checks.specs.Next.{Taken, next_at}
use Rattle.job.specs.Gathered.{job_in}
use Rattle.files.specs.declared.JobRead.{JobRead}
use Rattle.files.specs.File.{File, standing, refusal, sealed_file, act, apply, Outcome, refusal_at, read_from, file_of}
use Rattle.files.specs.FileLaws.{zero_or, read_on, read_stop}
use Rattle.files.specs.Contents.{laid, served, untouched, whole, out, nothing}
use Rattle.files.specs.JobPart.{JobPart, job_part_of}
use Rattle.files.specs.JobPartLaws.{file_goes_on, file-ends}
use Rattle.reading.specs.Held.{Room, HeldPart}
use Rattle.theorem_limits.specs.Good.{Light, Good}
use Rattle.theorem_limits.specs.FilesLaws.{good_apply, both, Taken as Passes, taken, refused_by_lem}
use Rattle.theorem_limits.specs.ActionLaws.{act-served, started_if}
use Rattle.theorem_holds.proofs.GatheredLaws.{gathered_light}
use Rattle.serve.specs.declared.Reached.{Reached}
use Rattle.serve.specs.Serve.{read_at}
use Rattle.serve.specs.ReadLaws.{ended, taken_any, seal_goes}
use Rattle.serve_phase.specs.Phase.{KeptRoom, Blank, Stops, ending, Leaves, LeavesOn}
use Rattle.build.specs.Built.{Builds}
use Rattle.job.specs.Rooms.{BuiltRoom}
use Rattle.serve_phase.specs.JobLaws.{job_ended, job_blank, job_unsealed, leaves_file}
use Rattle.files.specs.declared.Given.{Given}
use Rattle.reading.specs.ClearedLaws.{cleared_room}

-- ---- a file from its seal on

-- The job that its seal closed is the one that records gave.
record Closed (j : Job) (f : File) : Type 0 where
  good : Good f
  sealed : f.sealed ≡ true
  closed : f.closed ≡ j

closed_seal : (f : File) → Good f → refusal f Seal ≡ 0 → Closed (job_of f.draft) (apply f Seal)
unfolding apply act sealed_file
closed_seal f g h = record { good = good_apply f g Seal h; sealed = refl; closed = refl }

closed_act : (j : Job) (f : File) → Closed j f → (a : Action) → Passes f (facts a) → Good (act f a) → Closed j (act f a)
closed_act j f s =
    act-served f (λ (h : File). Good h → Closed j h) (λ g. s) (started_if f s.good s.sealed) s.sealed (λ k v gcds as' g. record { good = g; sealed = refl; closed = s.closed })

closed_apply : (j : Job) (f : File) → Closed j f → (r : Record) → refusal f r ≡ 0 → Closed j (apply f r)
unfolding apply
closed_apply j f s r h = closed_act j f s (action r) (taken f r h) (good_apply f s.good r h)

closed_from : (j : Job) (n o : ℕ) (bytes : List ℕ) (f : File) (rs : List Record) → Closed j f → Closed j (read_from n o bytes f rs).file
unfolding read_from
closed_from j zero o bytes f rs s = s
closed_from j (suc n) o [] f rs s = s
closed_from j (suc n) o (kind ∷ rest) f rs s =
    ⊎_elim
    (λ (e : refusal_at f kind rest ≡ 0).
    subst (λ (p : Outcome). Closed j p.file) (sym (read_on n o kind rest f rs e))
    (closed_from j n _ _ (apply f (record_at kind rest)) _ (closed_apply j f s (record_at kind rest) (refused_by_lem 0 (λ z. omega arith) (λ z. omega arith) f kind rest e))))
    (λ (e : refusal_at f kind rest ≡ 0 → ⊥). subst (λ (p : Outcome). Closed j p.file) (sym (read_stop n o kind rest f rs e)) s) (zero_or (refusal_at f kind rest))

-- HOW THE FILE ENDS, by where its job's records end: sealed if a seal came, with the job that they gave.
record Ends (input : List ℕ) : Type 0 where
  job : job_of (file_of input).file.draft ≡ job_of (job_part_of input).file.draft
  sealed : (file_of input).file.sealed ≡ (job_part_of input).sealing
  closed : (job_part_of input).sealing ≡ true → (file_of input).file.closed ≡ job_of (job_part_of input).file.draft

module _ (input : List ℕ) where
  abbrev part : JobPart
  part = job_part_of input

  file-closed : part.sealing ≡ true → Closed (job_of part.file.draft) (file_of input).file
  file-closed q =
      let e = job_ended input in
      let n = e.next q in
      let g = seal_goes input part.at part.file n.0 n.1 in
      let h : ended (file_of input) ≡ ended (read_at (length input) input (part.at + 1) (apply part.file Seal)) =
      ap ended (file_goes_on input) ∙ taken_any (length input) part.at (drop part.at input) part.file part.records [] ∙ sym g.1 in
      subst (λ (p : Outcome). Closed (job_of part.file.draft) p.file) (sym h)
      (closed_from (job_of part.file.draft) (length input) (part.at + 1) (drop (part.at + 1) input) (apply part.file Seal) [] (closed_seal part.file e.before.good g.0))

  ends_by : (b : Bool) → part.sealing ≡ b → Ends input
  ends_by true q =
      let c = file-closed q in
      record { job = sym (c.good.same c.sealed) ∙ c.closed; sealed = c.sealed ∙ sym q; closed = λ z. c.closed }
  ends_by false q =
      let e = file-ends input q in
      record {
        job = ap (λ (p : Outcome). job_of p.file.draft) e;
        sealed = ap (λ (p : Outcome). p.file.sealed) e ∙ job_unsealed input ∙ sym q;
        closed = λ z. absurd (both z q);
      }

  file-ends-so : Ends input
  file-ends-so = ends_by part.sealing refl

-- ---- lengths

pub raw_room : (w : Work) → Sized w → Room w.raw
raw_room w s = record { conditions = s 0; weights = s 1; thresholds = s 2; bounds = s 3 }

pub built_room : (w : Work) → Sized w → BuiltRoom w.built
built_room w s = record { conditions = s 4; weights = s 5; rows = s 6; bounds = s 7; guards = s 8; nodes = s 9; edges = s 10 }

pub links_room : (w : Work) → Sized w → max_links ≤ length w.built.links
links_room w s = s 11

pub kept_room : (w : Work) → Sized w → KeptRoom w.kept
kept_room w s = record {
  figures = s 12;
  cursors = s 13;
  sure = s 14;
  never = s 15;
  search = s 16;
  gcds = s 17;
  node_queue = s 18;
  row_queues = s 19;
  answers = s 20;
}

-- The test as the call makes it.
pub long : (input : List ℕ) (w : Work) (short : Bool) → short ≡ not (fits input w) → short ≡ false → fits input w ≡ true
long input w short e q = not-false (fits input w) (sym e ∙ q)

-- REFUSAL 10
pub whole-none : (input : List ℕ) (w : Work) (short : Bool) → short ≡ not (fits input w) → short ≡ true → out nothing w ≡ whole input w
unfolding whole
whole-none input w short e q =
    ap (λ (b : Bool). elim b [ true ↦ served (file_of input) w | false ↦ untouched w ]) (sym (not-true (fits input w) (sym e ∙ q)))

-- ---- after the first two phases
module _ (input : List ℕ) (w : Work) (yes-fits : fits input w ≡ true) (r : JobRead) (cs ws : List ℕ) (ts : List (List ℕ)) (bs : List ℤ)
    (h : HeldPart (job_part_of input) (clear_raw w.raw) r cs ws ts bs) where
  abbrev given : Job
  given = job_in r.standing cs ws ts bs

  abbrev file : File
  file = (job_part_of input).file

  module _ (b : Built) (n : ℕ) (u : Builds given r.sealing w.built b n) where
    stops : r.sealing ≡ true → Stops bs b file n
    stops q =
        let s = fits_sized input w yes-fits in
        record {
          good = (job_ended input).before.good;
          light = subst (Light raw_limit) h.held.job (gathered_light r.standing cs ws ts bs h.held.gathered);
          from = w.built;
          room = built_room w s;
          built = u.words ∙ ap (λ (t : Bool). cond t (built_of given (clear_built w.built)) (clear_built w.built)) q
              ∙ ap (λ (i : Job). built_of i (clear_built w.built)) h.held.job;
          raw = clear_raw w.raw;
          many = (cleared_room w.raw (raw_room w s)).bounds;
          bounds = ap (λ (v : Raw). v.bounds) h.held.words;
          counted = u.counted ∙ ap (λ (t : Bool). cond t (length (rows_of given)) 0) q ∙ ap (λ (i : Job). length (rows_of i)) h.held.job;
        }

    -- WHAT THE LAST PHASE ASKS
    pub serve_asks : KeptRoom w.kept × (length input ≤ longest_input)
        × (r.sealing ≡ true → ((f : File) × Stops bs b f n × Blank f × (r.standing ≡ standing f)) × (r.at < length input) × (next_at r.standing input r.at ≡ Taken Seal))
    serve_asks = (
      kept_room w (fits_sized input w yes-fits),
      fits_input input w yes-fits,
      λ q.
          let e = job_ended input in
          let z = e.next (sym h.sealing ∙ q) in (
            (file, stops q, job_blank input, h.held.stands),
            subst (λ (o : ℕ). o < length input) (sym h.at) z.0,
            ap (λ (k : Standing). next_at k input r.at) h.held.stands ∙ ap (next_at (standing file) input) h.at ∙ z.1,
          ),
    )

    -- AFTER THE LAST
    module _ (k : Kept) (e : Reached)
        (left : (f : File) → Blank f → r.standing ≡ standing f → (r.sealing ≡ true → Stops bs b f n) → LeavesOn w.kept k e (ending input f r)) where
      leaves : Leaves w.kept k e (file_of input)
      leaves = leaves_file input r h.refusal h.at h.sealing w.kept k e (left file (job_blank input) h.held.stands stops).leaves

      abbrev last : File
      last = (file_of input).file

      same : {X : Type 0} (P : Job → X) (d : X) (s t : Bool) (i j : Job) → s ≡ t → (s ≡ true → i ≡ j) → cond s (P i) d ≡ cond t (P j) d
      same P d true t i j q z = ap P (z refl) ∙ ap (λ (v : Bool). cond v (P j) d) q
      same P d false t i j q z = ap (λ (v : Bool). cond v (P j) d) q

      sealed-so : r.sealing ≡ last.sealed
      sealed-so = h.sealing ∙ sym (file-ends-so input).sealed

      closed-so : r.sealing ≡ true → given ≡ last.closed
      closed-so q = h.held.job ∙ sym ((file-ends-so input).closed (sym h.sealing ∙ q))

      built-so : b ≡ cond last.sealed (built_of last.closed (clear_built w.built)) (clear_built w.built)
      built-so = u.words ∙ same (λ (i : Job). built_of i (clear_built w.built)) (clear_built w.built) r.sealing last.sealed given last.closed sealed-so closed-so

      rows-so : n ≡ cond last.sealed (length (rows_of last.closed)) 0
      rows-so = u.counted ∙ same (λ (i : Job). length (rows_of i)) 0 r.sealing last.sealed given last.closed sealed-so closed-so

      raw-so : raw (raw_lists cs ws ts) bs ≡ raw_of (job_of last.draft) (clear_raw w.raw)
      raw-so = h.held.words ∙ ap (λ (i : Job). raw_of i (clear_raw w.raw)) (sym (file-ends-so input).job)

      work-so : work (raw (raw_lists cs ws ts) bs) b k ≡ laid last (cleared w)
      unfolding laid cleared
      work-so = λ i. work (raw-so i) (built-so i) (leaves.words i)

      abbrev all : Given
      all = record {
        refused = e.refused;
        at = e.at;
        sealed = e.standing.sealed;
        nodes = e.standing.nodes;
        rows = n;
        last = e.last;
        answered = e.standing.answers;
      }

      given_so : out all (work (raw (raw_lists cs ws ts) bs) b k) ≡ served (file_of input) w
      given_so = λ i. out (record {
        refused = leaves.refused i;
        at = leaves.at i;
        sealed = (leaves.standing i).sealed;
        nodes = (leaves.standing i).nodes;
        rows = rows-so i;
        last = leaves.last i;
        answered = (leaves.standing i).answers;
      }) (work-so i)

      -- THE WHOLE CALL
      pub whole_all : out all (work (raw (raw_lists cs ws ts) bs) b k) ≡ whole input w
      unfolding whole
      whole_all = given_so ∙ ap (λ (t : Bool). elim t [ true ↦ served (file_of input) w | false ↦ untouched w ]) (sym yes-fits)
