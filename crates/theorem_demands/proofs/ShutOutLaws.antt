-- CLAUSE C: the planners that are shut out. A sift's visits are those of its last search; files A and B do the rest.
use Prim.Native.Nat.{ℕ, zero, suc, ◌≤◌}
use Rattle.std.proofs.Common.{arith, sym, ◌∙◌, subst, ⊎_elim}
use Rattle.std.specs.Prelude.{◌≡◌, refl, Bool, true, false, ◌||◌, ◌≢◌, length, replicate, pos}
use Rattle.std.proofs.Math.Path.{ap}
use mathlib.Core.List.Memᴰ
use mathlib.Core.List.{List, [], ◌∷◌, ◌++◌, map, Memᴰ}
use Rattle.base.specs.All.{All}
use Rattle.state.specs.declared.Step.{Step}
use Rattle.state.specs.declared.Step.TheVariants.{Unchanged, Changed, Contradiction}
use Rattle.state.specs.Step.{joined, contradicts}
use Rattle.words.specs.Mask.{bit}
use Rattle.queues.specs.Queue.{is_empty}
use Rattle.searches.specs.declared.Search.{Search}
use Rattle.searches.specs.declared.Search.TheVariants.{Skipped, Fits, Nothing, Cut}
use Rattle.searches.specs.Search.{search_visits}
use Rattle.row_moves.specs.Between.{Index, Live, Did}
use Rattle.drain.specs.Drain.{index_of}
use Rattle.drain.specs.Drain as Drain
use Rattle.drain.specs.Sift.{Sifted, try_row, sift_from}
use Rattle.drain.specs.Sift as Sift
use Rattle.drain.specs.SiftLaws.{try_ends, tries, sift_tries, sift-none}
use Rattle.drain.specs.Steps.{try_search}
use Rattle.records.specs.declared.Record.{Record}
use Rattle.records.specs.declared.Record.TheVariants.{Header, Opens, Adds, Seal, Mark, Settle, Sift}
use Rattle.records.specs.Facts.{Action, decides, action}
use Rattle.files.specs.File.{File, Answer, settled, sifted, contradicted, begun, sifted_file, act, apply, after, planned}
use Rattle.memory.specs.Buffers.{Work, raw_lists, raw, held_rows, built, kept, work, enough, fits_by, fits}
use Rattle.files.specs.Contents.{Out, whole}
use Rattle.theorem_limits.specs.FilesLaws.{both}
use Rattle.theorem_demands.specs.Reading.{Marked, marks, or_before, tried_search, last_from, last_search}
use Rattle.theorem_demands.specs.RefusalLaws.{taken, files}
use Rattle.theorem_demands.specs.Cases.{Right, takes, forces, drains, two_wait, file_A, file_B, written_all, written, bytes}
use Rattle.theorem_demands.proofs.Cases.{shown_right}

-- ---- THE VISITS OF A SIFT are those of its last search

module _ (x : Index) where
  tried : (v : Live) (gcds : List ℕ) (b : Search) → (try_row x v gcds (search_visits 0 b)).visits ≡ search_visits 0 (tried_search x v gcds b)
  tried v gcds b =
      try_ends x v gcds (search_visits 0 b) (λ (t : Sifted). t.visits ≡ search_visits 0 (tried_search x v gcds b)) (λ e. found (try_search x v gcds) ∙ ap (λ (c : Bool). search_visits 0 (last c)) (sym e))
      (λ e. ap (λ (c : Bool). search_visits 0 (last c)) (sym e))
    where
      last : Bool → Search
      last c = elim c [ true ↦ or_before b (try_search x v gcds) | false ↦ b ]

      found : (k : Search) → search_visits (search_visits 0 b) k ≡ search_visits 0 (or_before b k)
      found Skipped = refl
      found (Fits n) = refl
      found (Nothing n) = refl
      found (Cut n) = refl

  sifting : (n : ℕ) (v : Live) (gcds : List ℕ) (k : Step) (b : Search) → (sift_from n x v gcds k (search_visits 0 b)).visits ≡ search_visits 0 (last_from n x v gcds b)
  unfolding last_from
  sifting zero v gcds k b = ap (λ (s : Sifted). s.visits) (sift-none x v gcds k (search_visits 0 b))
  sifting (suc n) v gcds k b =
      ap (λ (s : Sifted). s.visits) (sift_tries x n v gcds k (search_visits 0 b))
      ∙ by (λ u g i c. sifting n u g i c) (contradicts d.step) (is_empty d.live.residuals.queue) (contradicts t.step)
    where
      d : Did
      d = Drain.settle x v

      t : Sifted
      t = try_row x d.live gcds (search_visits 0 b)

      c : Search
      c = tried_search x d.live gcds b

      by : ((u : Live) (g : List ℕ) (i : Step) (e : Search) → (sift_from n x u g i (search_visits 0 e)).visits ≡ search_visits 0 (last_from n x u g e)) → (p q o : Bool)
          → (tries (sift_from n x) d t gcds (search_visits 0 b) k p q o).visits
          ≡ search_visits 0 (elim (p || q) [ true ↦ b | false ↦ elim o [ true ↦ c | false ↦ last_from n x t.live t.gcds c ] ])
      by ih true q o = refl
      by ih false true o = refl
      by ih false false true = tried d.live gcds b
      by ih false false false =
          ap (λ (m : ℕ). (sift_from n x t.live t.gcds (joined (joined k d.step) t.step) m).visits) (tried d.live gcds b) ∙ ih t.live t.gcds _ c

pub sift_visits : (input : List ℕ) (before later : List Record) → (planned input).records ≡ before ++ (Sift ∷ later)
    → let f = after begun before in (apply f Sift).answers ≡ f.answers ++ (sifted (apply f Sift).last (search_visits 0 (last_search f)) ∷ [])
unfolding apply act sifted_file
sift_visits input before later e =
    let f = after begun before in
    ap (λ (n : ℕ). f.answers ++ (sifted (Sift.sift (index_of f.closed) f.live f.gcds).step n ∷ []))
    (sifting (index_of f.closed) Drain.turns f.live f.gcds Unchanged Skipped)

-- ---- FILES A AND B

a_taken : Right (takes file_A (settled Changed ∷ []) false)
a_taken = shown_right (takes file_A (settled Changed ∷ []) false) (Memᴰ.head refl)

b_taken : Right (takes file_B (settled Unchanged ∷ sifted Contradiction 11 ∷ []) true)
b_taken = shown_right (takes file_B (settled Unchanged ∷ sifted Contradiction 11 ∷ []) true) (Memᴰ.tail (Memᴰ.head refl))

abbrev b_before : List Record
b_before =
    Header 6 ∷ Opens 4 (pos 6) ∷ Adds 0 5 ∷ Adds 1 5 ∷ Adds 2 4 ∷ Adds 3 4
    ∷ Opens 5 (pos 8) ∷ Adds 0 5 ∷ Adds 1 5 ∷ Adds 2 4 ∷ Adds 3 4 ∷ Seal ∷ Mark 4 1 ∷ Mark 5 0 ∷ Settle ∷ []

a_forces : Right (forces file_A 0)
a_forces = shown_right (forces file_A 0) (Memᴰ.tail (Memᴰ.tail (Memᴰ.head refl)))

-- The last search of file B has 11 visits.
pub cuts_each_search : ((input : List ℕ) (k : Step) (n : ℕ) → Memᴰ (sifted k n) (planned input).file.answers → n ≡ 0) → ⊥
cuts_each_search h =
    let e : ◌≡◌ {A = ℕ} 11 0 = h (written_all file_B) Contradiction 11
    (subst (λ (l : List Answer). Memᴰ (sifted Contradiction 11) l) (sym b_taken.2) (Memᴰ.tail (Memᴰ.head refl))) in
    omega arith

-- Its sift has the visits of its last search.
b_sifts : (planned (written_all file_B)).records ≡ b_before ++ (Sift ∷ [])
b_sifts = b_taken.1

pub invents_visits : ((input : List ℕ) (before later : List Record) (k : Step) (n : ℕ) → (planned input).records ≡ before ++ (Sift ∷ later)
    → let f = after begun before in (apply f Sift).answers ≡ f.answers ++ (sifted k n ∷ []) → n ≢ search_visits 0 (last_search f)) → ⊥
invents_visits h = h (written_all file_B) b_before [] _ _ b_sifts (sift_visits (written_all file_B) b_before [] b_sifts) refl

-- Where two nodes wait, a settle drains both.
pub drains_one_node : ((input : List ℕ) (before later : List Record) → (planned input).records ≡ before ++ (Settle ∷ later)
    → 2 ≤ (after begun before).live.marks.nodes.ring.count → is_empty (after begun (before ++ (Settle ∷ []))).live.marks.nodes ≡ false) → ⊥
drains_one_node h =
    let d = shown_right (drains two_wait 2) (Memᴰ.tail (Memᴰ.tail (Memᴰ.tail (Memᴰ.head refl)))) in
    both d.2 (h (written_all (two_wait ++ (Settle ∷ []))) two_wait [] d.0 (let n = d.1 in omega arith))

-- File A forces node 0, which it does not mark,
unmarked : (rs : List Record) → All (λ (r : Record). marks true (action r) 0 ≡ false) rs → Marked rs 0 true → ⊥
unmarked [] h m = Memᴰ.not-nil m
unmarked (r ∷ rs) h m =
    ⊎_elim (λ (e : decides 0 1 ≡ action r). absurd (both refl (ap (λ (a : Action). marks true a 0) e ∙ h.0)))
    (λ (i : Memᴰ (decides 0 1) (map action rs)). unmarked rs h.1 i) (Memᴰ.cases_cons m)

a_unmarked : Marked file_A 0 true → ⊥
a_unmarked m = unmarked file_A (refl, (refl, (refl, (refl, (refl, (refl, (refl, (refl, tt)))))))) m

pub leaves_all_undecided : ((input : List ℕ) (n : ℕ) → bit (planned input).file.live.marks.sure n ≡ true → Marked (planned input).records n true) → ⊥
leaves_all_undecided h = a_unmarked (subst (λ (rs : List Record). Marked rs 0 true) a_taken.1 (h (written_all file_A) 0 a_forces))

-- its settle does not contradict,
pub always_contradicts : ((input : List ℕ) (before later : List Record) → (planned input).records ≡ before ++ (Settle ∷ later)
    → contradicted (after begun (before ++ (Settle ∷ []))) ≡ true) → ⊥
always_contradicts h =
    let i = written_all file_A in
    let before : List Record = Header 5 ∷ Opens 4 (pos 6) ∷ Adds 0 4 ∷ Adds 1 3 ∷ Adds 2 2 ∷ Seal ∷ Mark 4 1 ∷ [] in
    let e : contradicted (after begun (planned i).records) ≡ true =
    ap (λ (rs : List Record). contradicted (after begun rs)) a_taken.1 ∙ h i before [] a_taken.1 in
    absurd (both refl (sym e ∙ ap (λ (f : File). contradicted f) (sym (taken i)) ∙ a_taken.3))

a_written : written_all file_A ≢ []
unfolding written_all written bytes
a_written e = let z : ◌≡◌ {A = ℕ} (length (written_all file_A)) 0 = ap length e in omega arith

-- Memory just long enough.
abbrev lent : Work
lent =
    work (raw (raw_lists (replicate 4096 0) (replicate 4096 0) (replicate 1024 [])) (replicate 1024 (pos 0)))
    (built (held_rows (replicate 4096 0) (replicate 4096 0) (replicate 1024 []) (replicate 1024 (pos 0)) (replicate 1024 0)) (replicate 4096 [])
    (replicate 4096 []) (replicate 2048 0))
    (kept (replicate 1024 []) (replicate 1024 []) (replicate 64 0) (replicate 64 0) (replicate 4096 0) (replicate 1025 0) (replicate 4096 0)
    (replicate 1024 []) (replicate 64 []))

lent_fits : fits (written_all file_A) lent ≡ true
unfolding fits_by enough written_all written bytes
lent_fits = refl

-- and it is accepted.
pub refuses_each_file : ((input : List ℕ) (w : Work) → input ≢ [] → (whole input w).given.refused ≢ 0) → ⊥
refuses_each_file h =
    h (written_all file_A) lent a_written (ap (λ (o : Out). o.given.refused) (files (written_all file_A) lent lent_fits) ∙ a_taken.0)
