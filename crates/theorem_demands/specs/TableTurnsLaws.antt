-- EACH TURN KEEPS THE INVARIANT OF DRAINING or contradicts, and so do a seal and a settling. Between turns every node that was
-- taken is drained into every row and told, every row was run, and none is handing on; so where nothing waits, the table rests.
use Rattle.std.specs.Prelude.{ℕ, ◌+◌, ◌<◌, ◌≡◌, refl, Bool, true, false, List, length, get_or, eqb}
use Rattle.std.proofs.Common.{arith, sym, ap, ◌∙◌, subst, ne_eqb}
use Rattle.std.proofs.Math.Decide.{ℕ_discrete}
use Rattle.state.specs.StepLaws.{joined_which, joined_right}
use Rattle.base.specs.TestLaws.{clash, and_left, and_right}
use Rattle.memory.specs.Limits.{max_thresholds}
use Rattle.numeric.specs.Threshold.{Job}
use Rattle.state.specs.declared.Step.{Step}
use Rattle.state.specs.Step.{contradicts}
use Rattle.queues.specs.Queue.{is_empty, oldest}
use Rattle.queues.specs.QueueLaws.{empty_none}
use Rattle.queues.specs.OnceLaws.{times_none}
use Rattle.queues.specs.Waiting.{times, Flags}
use Rattle.queues.specs.Marks.{is_decided}
use Rattle.rows.specs.Rows.{Row, no_row}
use Rattle.row_moves.specs.Between.{Index, Live, Did, did, state_at, run_row, threshold_guard, guard_of}
use Rattle.row_moves.specs.WalkLaws.{guard_of_ends}
use Rattle.drain.specs.Drain.{seal, take_node, take_row, turn, at_rest, settle}
use Rattle.drain.proofs.DrainLaws.{node_ends, row_ends_lem, turn-ends, seal_walks, settle_walks}
use Rattle.drain.specs.Steps.{begun, untaken, unrowed, node_told, node_drained}
use Rattle.theorem_table.specs.Table.{Table, IsRow, known_of, possible_of, AtRest}
use Rattle.theorem_follows.specs.DecideLaws.{Broken}
use Rattle.theorem_follows.specs.Ordered.{Ordered}
use Rattle.theorem_follows.specs.StandsLaws.{table_at, also, also_this, also_other, also_before}
use Rattle.theorem_follows.specs.DrainedLaws.{drained_all}
use Rattle.theorem_follows.specs.BuiltLaws.{Built}
use Rattle.theorem_follows.specs.ToldLaws.{Single}
use Rattle.theorem_follows.specs.HandedLaws.{waiting}
use Rattle.theorem_follows.specs.SettledLaws as Settled
use Rattle.theorem_follows.specs.SettledLaws.{Ledger, Sound, Leads, run_leads, guard_leads, plain-told, condition_leads, prefixes_leads}
use Rattle.theorem_follows.specs.StartLaws.{node_taken, taken_decided, taken_fresh, row_taken}

-- What the ledger says between turns.
pub record Even (rows : List Row) (l : Ledger) : Type 0 where
  pub drained : (r n : ℕ) → l.taken n ≡ true → l.drained r n ≡ true
  pub fresh : (r n : ℕ) → l.taken n ≡ false → l.drained r n ≡ false
  pub told : (n : ℕ) → l.taken n ≡ true → l.told n ≡ true
  pub ran : (r : ℕ) → IsRow rows r → l.ran r ≡ true
  pub none : l.handing ≡ (λ (r : ℕ). false)

abbrev pub Steady : Index → Table → Live → Type 0
Steady x s v = (l : Ledger) × Even x.rows l × Sound x s l v

-- Without a contradiction the invariant is kept; with one, a conflict follows from the start.
abbrev pub Goes : Index → Table → Did → Type 0
Goes x s d = (contradicts d.step ≡ false → Steady x s d.live) × (contradicts d.step ≡ true → Broken x.rows s)

-- One number more in both: where one has it, so has the other.
also_both : (n : ℕ) (f g : ℕ → Bool) (b : Bool) → ((k : ℕ) → f k ≡ b → g k ≡ b) → (k : ℕ) → also n f k ≡ b → also n g k ≡ b
also_both n f g b h k e = by (ℕ_discrete k n)
  where
    by : Dec (k ≡ n) → also n g k ≡ b
    by (yes q) = also_this n g k q ∙ sym (also_this n f k q) ∙ e
    by (no q) = also_other n g k q ∙ h k (sym (also_other n f k q) ∙ e)

-- The ledger with one node more taken, told, drained.
abbrev takes : ℕ → Ledger → Ledger
takes n l = record { drained = l.drained; told = l.told; taken = also n l.taken; ran = l.ran; handing = l.handing }

abbrev tells : ℕ → Ledger → Ledger
tells n l = record { drained = l.drained; told = also n l.told; taken = l.taken; ran = l.ran; handing = l.handing }

abbrev drains : ℕ → Ledger → Ledger
drains n l = record { drained = drained_all n l.drained; told = l.told; taken = l.taken; ran = l.ran; handing = l.handing }

-- Nothing but rows run.
abbrev seeded : (ℕ → Bool) → Ledger
seeded ran = record { drained = λ (r n : ℕ). false; told = λ (n : ℕ). false; taken = λ (n : ℕ). false; ran = ran; handing = λ (r : ℕ). false }

module _ (j : Job) (x : Index) (b : Built j x) (ordered : (r : ℕ) → IsRow x.rows r → Ordered (get_or x.rows r no_row)) (single : Single x.rows) (s : Table) where
  -- THE GUARD OF A NODE is told, or there is none
  guard-of : (l : Ledger) (v : Live) (n : ℕ) → Sound x s l v → is_decided v.marks n ≡ true → Leads x s (tells n l) (guard_of x v x.thresholds n)
  guard-of l v n h d =
      guard_of_ends x v n (Leads x s (tells n l)) x.thresholds
      (λ t m q. subst (λ (i : ℕ). Leads x s (tells i l) (threshold_guard x v t)) q (guard_leads j x b ordered single s l v h t m (subst (λ (i : ℕ). is_decided v.marks i ≡ true) (sym q) d)))
      (λ none. (λ c. plain-told j x b ordered single s l v h n d none, λ c. absurd (clash false c refl)))

  -- A NODE IS TAKEN
  node-goes : (v : Live) → Steady x s v → 0 < v.marks.nodes.ring.count → Goes x s (take_node x v)
  node-goes v (l, e, h) some =
      node_ends x v (Goes x s) (λ q. (λ o. absurd (clash (contradicts g.step) q o), told.1))
      (λ q. (λ o. (all, even, (drains_all q).0 (joined_right g.step c.step o)), λ o. (drains_all q).1 (joined_which g.step c.step q o)))
    where
      n : ℕ
      n = oldest v.marks.nodes

      g : Did
      g = node_told x v

      c : Did
      c = node_drained x v

      told : Leads x s (tells n (takes n l)) g
      told = guard-of (takes n l) (untaken v) n (node_taken x s l v h some) (taken_decided x s l v h some)

      all : Ledger
      all = drains n (tells n (takes n l))

      even : Even x.rows all
      even = record {
        drained = λ r k q. also_both n l.taken (l.drained r) true (λ i o. e.drained r i o) k q;
        fresh = λ r k q. also_both n l.taken (l.drained r) false (λ i o. e.fresh r i o) k q;
        told = λ k q. also_both n l.taken l.told true e.told k q;
        ran = e.ran;
        none = e.none;
      }

      drains_all : contradicts g.step ≡ false → Leads x s all c
      drains_all q =
          let k = told.0 q in
          condition_leads j x b ordered single s (tells n (takes n l)) g.live k n (k.told.decided n (also_this n l.told n refl)) (λ r. e.fresh r n (taken_fresh x s l v h some))

  -- A ROW IS TAKEN
  row_goes : (v : Live) → Steady x s v → Goes x s (take_row x v)
  row_goes v (l, e, h) =
      let r = oldest v.dirty.queue in
      let k : Ledger = record { drained = l.drained; told = l.told; taken = l.taken; ran = l.ran; handing = λ (q : ℕ). eqb q r } in
      let a = prefixes_leads j x b ordered single s k (unrowed v) (row_taken x s l v h e.none) r refl in
      row_ends_lem x v (Goes x s) (
        λ c. (
          record { drained = l.drained; told = l.told; taken = l.taken; ran = l.ran; handing = λ (q : ℕ). false },
          record { drained = e.drained; fresh = e.fresh; told = e.told; ran = e.ran; none = refl },
          a.0 c,
        ),
        a.1,
      )

  turn-goes : (v : Live) → at_rest v ≡ false → Steady x s v → Goes x s (turn x v)
  turn-goes v e h = turn-ends x v (Goes x s) e (node-goes v h) (λ some. row_goes v h)

  -- nothing is done any more, and nothing contradicted
  ended : (v : Live) (k : Step) → contradicts k ≡ false → Steady x s v → Goes x s (did v k)
  ended v k c h = (λ o. h, λ o. absurd (clash (contradicts k) o c))

  -- A SETTLING
  pub settle_goes : (v : Live) → Steady x s v → Goes x s (settle x v)
  settle_goes v h =
      settle_walks x (λ (_ : ℕ). Steady x s) (Goes x s) ended (λ n u k c p e. ended u k c p) (λ n u p e f. turn-goes u e p) (λ n u p e f. (turn-goes u e p).0 f) v h

  -- A SEAL: each row is run once

  -- the rows before one were run, and nothing else was done
  abbrev Ran : ℕ → Live → Type 0
  Ran r v = (ran : ℕ → Bool) × ((q : ℕ) → q < r → ran q ≡ true) × Sound x s (seeded ran) v

  ran-all : (v : Live) → Ran (length x.rows) v → Steady x s v
  ran-all v (ran, past, h) = (
    seeded ran,
    record { drained = λ q n f. absurd (clash false f refl); fresh = λ q n f. refl; told = λ n f. absurd (clash false f refl); ran = past; none = refl },
    h,
  )

  ran-next : (r : ℕ) (v : Live) → r < length x.rows → Ran r v → contradicts (run_row x v r).step ≡ false → Ran (r + 1) (run_row x v r).live
  ran-next r v l (ran, past, h) c = (also r ran, (λ q i. at q i (ℕ_discrete q r)), (run_leads j x b ordered single s (seeded ran) v h r l).0 c)
    where
      at : (q : ℕ) → q < r + 1 → Dec (q ≡ r) → also r ran q ≡ true
      at q i (yes o) = also_this r ran q o
      at q i (no o) = also_before r ran q (past q (omega arith))

  pub seals_go : (v : Live) → Sound x s (seeded (λ (r : ℕ). false)) (begun x v) → Goes x s (seal x v)
  seals_go v h =
      seal_walks x Ran (Goes x s) (λ u k c p. ended u k c (ran-all u p))
      (λ r u l p c. (λ o. absurd (clash (contradicts (run_row x u r).step) c o), λ o. (run_leads j x b ordered single s (seeded p.0) u p.2 r l).1 c)) ran-next
      v ((λ (r : ℕ). false), (λ q i. absurd (omega arith)), h)

  -- NOTHING WAITS: the nodes and figures are a rest of the table
  module _ (v : Live) (h : Steady x s v) (rest : at_rest v ≡ true) (flags : Flags v.dirty) where
    empty : is_empty v.marks.nodes ≡ true
    empty = and_left (is_empty v.marks.nodes) (is_empty v.dirty.queue) rest

    idle : (r : ℕ) → waiting v r ≡ false
    idle r =
        let q = and_right (is_empty v.marks.nodes) (is_empty v.dirty.queue) rest in
        let z = ap (times r) (empty_none max_thresholds v.dirty.queue flags.held q) ∙ times_none r in
        let f = flags.flag r in
        ne_eqb (get_or v.dirty.pending r 0) 1 (λ o. absurd (omega arith))

    pub rests : AtRest x.rows (table_at v)
    rests = Settled.rests j x b ordered single s h.0 v h.2 empty idle h.1.drained h.1.told h.1.ran h.1.none

    pub known_is : (r : ℕ) → IsRow x.rows r → (state_at v r).known ≡ known_of x.rows (table_at v) r
    known_is r i = Settled.known_is j x b ordered single s h.0 v h.2 empty idle h.1.drained h.1.told h.1.ran h.1.none r i

    pub possible_is : (r : ℕ) → IsRow x.rows r → (state_at v r).possible ≡ possible_of x.rows (table_at v) r
    possible_is r i = Settled.possible_is j x b ordered single s h.0 v h.2 empty idle h.1.drained h.1.told h.1.ran h.1.none r i
