-- THE WHOLE INVARIANT of draining, and what it comes to. Each function keeps it or contradicts; a contradiction means that every run
-- of the table from the start ends in a conflict; where nothing waits, every run ends in just the nodes and figures that are there.
use Rattle.std.specs.Prelude.{ℕ, ◌≡◌, refl, Bool, true, false, ◌||◌, ◌⊎◌, ◌≢◌, get_or, eqb}
use Rattle.std.proofs.Common.{sym, ap, ◌∙◌, subst, ⊎_elim}
use mathlib.Core.List.{List, Memᴰ}
use Rattle.numeric.specs.Threshold.{Threshold, Job}
use Rattle.state.specs.Step.{contradicts}
use Rattle.words.specs.Mask.{bit}
use Rattle.queues.specs.Queue.{is_empty}
use Rattle.queues.specs.Marks.{is_decided}
use Rattle.rows.specs.Rows.{Row, no_row, guard, row_number}
use Rattle.links.specs.Links as L
use Rattle.links.specs.Links.{Link, neighbours}
use Rattle.row_moves.specs.Between.{Index, Live, state_at, Did, run_row, threshold_guard, threshold_condition, threshold_prefixes}
use Rattle.theorem_table.specs.Table.{Table, IsRow, IsPrefix, Guards, known_of, possible_of, Conflict, ReachesConflict, AtRest, Ended}
use Rattle.theorem_table.proofs.TableLaws.{conflict_up, run_below, only_end, only_conflict}
use Rattle.theorem_follows.specs.DecideLaws.{Broken}
use Rattle.theorem_follows.specs.Ordered.{Ordered}
use Rattle.theorem_follows.specs.StandsLaws.{table_at, also, also_this, Stands, AllDrained, known_exact, possible_exact, restart}
use Rattle.theorem_follows.specs.MovesLaws.{Kept, run_stands, guard_stands, prefixes_stand}
use Rattle.theorem_follows.specs.DrainedLaws.{drained_all, condition_stands}
use Rattle.theorem_follows.specs.BuiltLaws.{Built, neighbours_apart, guard_threshold, guard_alone}
use Rattle.theorem_follows.specs.KeepsLaws.{run_keeps, guard_keeps, condition_keeps, prefixes_keeps}
use Rattle.theorem_follows.specs.RestLaws.{RowRests, row_rests, at_rest_lem}
use Rattle.theorem_follows.specs.DoneLaws.{Done, run_done, guard_done, condition_done, prefixes_done}
use Rattle.theorem_follows.specs.ToldLaws.{Told, Single, told_stays, told_none, guard_told_lem}
use Rattle.theorem_follows.specs.HandedLaws.{Handed, waiting, run_handed, guard_handed, condition_handed, prefixes_handed, all_handed}
use Rattle.theorem_follows.specs.WaitingLaws.{queued_decide, none_left}
use Rattle.queues.specs.Waiting.{Queued}

-- What was done so far: nodes drained into each row, guards told, nodes taken from the queue, rows run, rows that are just handing on.
pub record Ledger : Type 0 where
  pub drained : ℕ → ℕ → Bool
  pub told : ℕ → Bool
  pub taken : ℕ → Bool
  pub ran : ℕ → Bool
  pub handing : ℕ → Bool

pub record Sound (x : Index) (s : Table) (l : Ledger) (v : Live) : Type 0 where
  -- all that is there follows from the start, sums are those of the drained nodes
  pub stands : Stands x.rows s l.drained v
  -- rules 2 to 5, rule 1 and rule 6 are done, as far as the ledger says
  pub done : Done x.rows l.ran v
  pub told : Told x.rows l.told v
  pub handed : Handed x l.handing v
  -- decided nodes wait until they are taken
  pub queued : Queued l.taken v.marks

-- A function without a contradiction keeps the invariant under a new ledger; with one, a conflict follows from the start.
abbrev pub Leads : Index → Table → Ledger → Did → Type 0
Leads x s l d = (contradicts d.step ≡ false → Sound x s l d.live) × (contradicts d.step ≡ true → Broken x.rows s)

module _ (j : Job) (x : Index) (b : Built j x) (ordered : (r : ℕ) → IsRow x.rows r → Ordered (get_or x.rows r no_row)) (single : Single x.rows) (s : Table) (l : Ledger) (v : Live) (h : Sound x s l v) where
  again : Stands x.rows (table_at v) l.drained v
  again = restart x.rows s l.drained v h.stands

  -- A ROW RUN
  pub run_leads : (r : ℕ) → IsRow x.rows r
      → Leads x s (record { drained = l.drained; told = l.told; taken = l.taken; ran = also r l.ran; handing = l.handing }) (run_row x v r)
  run_leads r i = (
    λ c. record {
      stands = k.0;
      done = run_done x ordered l.ran v r i h.done c;
      told = told_stays x.rows l.told l.drained v _ (run_stands x l.drained (table_at v) v r i again).0 h.told;
      handed = run_handed x l.handing v r i h.handed;
      queued = run_keeps (Queued l.taken) (queued_decide l.taken) x ordered v r h.queued;
    },
    k.1,
  )
    where
      k : Kept x l.drained s (run_row x v r)
      k = run_stands x l.drained s v r i h.stands

  -- A DRAINED GUARD IS TOLD
  pub guard_leads : (t : Threshold) → Memᴰ t x.thresholds → is_decided v.marks t.node ≡ true
      → Leads x s (record { drained = l.drained; told = also t.node l.told; taken = l.taken; ran = l.ran; handing = l.handing }) (threshold_guard x v t)
  guard_leads t m d = (
    λ c. record {
      stands = k.0;
      done = guard_done x ordered l.ran v t i.0 h.done c;
      told = guard_told_lem x l.drained s v t i d h.stands l.told single h.told;
      handed = guard_handed x l.handing v t i.0 h.handed;
      queued = guard_keeps (Queued l.taken) (queued_decide l.taken) x ordered v t h.queued;
    },
    k.1,
  )
    where
      i : Guards x.rows (row_number x.rows t.terms) (guard t.bound t.node)
      i = b.guards t m

      k : Kept x l.drained s (threshold_guard x v t)
      k = guard_stands x l.drained s v t i d h.stands

  -- A node that is no threshold has nothing to tell
  pub plain-told : (n : ℕ) → is_decided v.marks n ≡ true → ((t : Threshold) → Memᴰ t x.thresholds → t.node ≢ n)
      → Sound x s (record { drained = l.drained; told = also n l.told; taken = l.taken; ran = l.ran; handing = l.handing }) v
  plain-told n d none = record {
    stands = h.stands;
    done = h.done;
    told = told_none x.rows l.told v n d (λ r g i e. let t = guard_threshold j x b r g i in none t.0 t.1 (sym t.2 ∙ e)) h.told;
    handed = h.handed;
    queued = h.queued;
  }

  -- A DRAINED CONDITION is drained into every row
  pub condition_leads : (n : ℕ) → is_decided v.marks n ≡ true → ((r : ℕ) → l.drained r n ≡ false)
      → Leads x s (record { drained = drained_all n l.drained; told = l.told; taken = l.taken; ran = l.ran; handing = l.handing }) (threshold_condition x v n)
  condition_leads n d fresh =
      let k = condition_stands x s l.drained n b.distinct v d fresh h.stands in
      let a = condition_stands x (table_at v) l.drained n b.distinct v d fresh again in (
        λ c. record {
          stands = k.everywhere c;
          done = condition_done x ordered l.ran v n h.done c;
          told = told_stays x.rows l.told a.stands.0 v _ a.stands.1 h.told;
          handed = condition_handed x l.handing v n h.handed;
          queued = condition_keeps (Queued l.taken) (queued_decide l.taken) x ordered v n h.queued;
        },
        k.broken,
      )

  -- A ROW HANDS ON ITS BOUNDS
  pub prefixes_leads : (row : ℕ) → l.handing ≡ (λ (r : ℕ). eqb r row)
      → Leads x s (record { drained = l.drained; told = l.told; taken = l.taken; ran = l.ran; handing = λ (r : ℕ). false }) (threshold_prefixes x v row)
  prefixes_leads row e = (
    λ c. record {
      stands = k.0;
      done = prefixes_done x ordered l.ran v row (λ r m. rows_of r (b.linked row r m)) h.done c;
      told = told_stays x.rows l.told l.drained v _ (prefixes_stand x l.drained (table_at v) v row (b.linked row) again).0 h.told;
      handed = prefixes_handed x l.drained s v row (λ r m. (apart r m, b.linked row r m)) h.stands (subst (λ (f : ℕ → Bool). Handed x f v) e h.handed) c;
      queued = prefixes_keeps (Queued l.taken) (queued_decide l.taken) x ordered v row h.queued;
    },
    k.1,
  )
    where
      k : Kept x l.drained s (threshold_prefixes x v row)
      k = prefixes_stand x l.drained s v row (b.linked row) h.stands

      rows_of : (r : ℕ) → IsPrefix x.rows row r ⊎ IsPrefix x.rows r row → IsRow x.rows r
      rows_of r i = ⊎_elim (λ (p : IsPrefix x.rows row r). p.1) (λ (p : IsPrefix x.rows r row). p.0) i

      apart : (r : ℕ) → Memᴰ r (neighbours row x.links) → r ≢ row
      apart r m = neighbours_apart x.rows row r (subst (λ (ls : List Link). Memᴰ r (neighbours row ls)) (links r (b.linked row r m)) m)
        where
          links : (r : ℕ) → IsPrefix x.rows row r ⊎ IsPrefix x.rows r row → x.links ≡ L.links x.rows
          links r i = ⊎_elim (λ (p : IsPrefix x.rows row r). b.links row p.0 p.2.2) (λ (p : IsPrefix x.rows r row). b.links row p.1 p.2.3) i

  -- NOTHING WAITS: every taken node is drained into every row and told, every row was run, none is handing on
  module _ (empty : is_empty v.marks.nodes ≡ true) (idle : (r : ℕ) → waiting v r ≡ false)
      (all-drained : (r n : ℕ) → l.taken n ≡ true → l.drained r n ≡ true) (all_told : (n : ℕ) → l.taken n ≡ true → l.told n ≡ true)
      (all-ran : (r : ℕ) → IsRow x.rows r → l.ran r ≡ true) (none : l.handing ≡ (λ (r : ℕ). false)) where
    taken : (n : ℕ) → is_decided v.marks n ≡ true → l.taken n ≡ true
    taken = none_left l.taken v.marks h.queued empty

    sure-told : (n : ℕ) → bit v.marks.sure n ≡ true → l.told n ≡ true
    sure-told n e = all_told n (taken n (ap (λ (c : Bool). c || bit v.marks.never n) e))

    never-told : (n : ℕ) → bit v.marks.never n ≡ true → l.told n ≡ true
    never-told n e = all_told n (taken n (by (bit v.marks.sure n)))
      where
        by : (c : Bool) → (c || bit v.marks.never n) ≡ true
        by true = refl
        by false = e

    -- THE LIVE STATE IS A REST OF THE TABLE
    pub rests : AtRest x.rows (table_at v)
    rests =
        at_rest_lem x.rows (table_at v) h.stands.apart
        (λ r i. row_rests x.rows s l.drained v h.stands r i (λ t m d. all-drained r t.condition (taken t.condition d)) (h.done.complete r i (all-ran r i)) h.done.met (h.done.free r i (all-ran r i)))
        (λ r g i. ((λ e. h.told.sure r g i (sure-told g.node e) e), λ e. h.told.never r g i (never-told g.node e) e))
        (λ r q i. all_handed x (b.links r i.0 i.2.2) v (subst (λ (f : ℕ → Bool). Handed x f v) none h.handed) idle r q i) (guard_alone j x b)

    -- EVERY RUN FROM THE START THAT WENT ON TO ITS END ENDED HERE, and the sums are those of the masks
    pub every_end : {u : Table} → Ended x.rows s u → u ≡ table_at v
    every_end e = only_end x.rows h.stands.follows h.stands.above rests e

    -- and none reached a conflict
    pub none-reached : ReachesConflict x.rows s → ⊥
    none-reached (u, r, c) = rests.0 (conflict_up x.rows u (table_at v) (run_below x.rows (table_at v) r h.stands.above rests) c)

    pub known_is : (r : ℕ) → IsRow x.rows r → (state_at v r).known ≡ known_of x.rows (table_at v) r
    known_is r i = known_exact x.rows s l.drained v h.stands r i (λ t m d. all-drained r t.condition (taken t.condition d))

    pub possible_is : (r : ℕ) → IsRow x.rows r → (state_at v r).possible ≡ possible_of x.rows (table_at v) r
    possible_is r i = possible_exact x.rows s l.drained v h.stands r i (λ t m d. all-drained r t.condition (taken t.condition d))

-- NO RULE IS LEFT UNDONE FOR A ROW that was run without a contradiction, all its decided terms drained
pub run_rests : (x : Index) → ((r : ℕ) → IsRow x.rows r → Ordered (get_or x.rows r no_row)) → (s : Table) (drained : ℕ → ℕ → Bool) (ran : ℕ → Bool) (v : Live) (r : ℕ) (i : IsRow x.rows r)
    → (h : Stands x.rows s drained v) → Done x.rows ran v → contradicts (run_row x v r).step ≡ false
    → AllDrained x.rows s drained (run_row x v r).live (run_stands x drained s v r i h).0 r → RowRests x.rows (table_at (run_row x v r).live) r
run_rests x ordered s drained ran v r i h d c all =
    let k = run_done x ordered ran v r i d c in
    row_rests x.rows s drained (run_row x v r).live (run_stands x drained s v r i h).0 r i all (k.complete r i (also_this r ran r refl)) k.met (k.free r i (also_this r ran r refl))

-- WHERE A CONFLICT FOLLOWS every run that went on to its end ended in one
pub every_conflict : (rows : List Row) (s : Table) → Broken rows s → {u : Table} → Ended rows s u → Conflict rows u
every_conflict rows s k e = only_conflict rows k.1 k.2 e
