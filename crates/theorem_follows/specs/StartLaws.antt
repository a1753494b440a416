-- WHERE THE INVARIANT BEGINS, and what else keeps it: the first states of all rows, a mark, a node or a row taken from its queue, and
-- the nodes decided so far as a new start.
use Rattle.std.specs.Prelude.{ℕ, ◌+◌, ◌≤◌, ◌<◌, ◌≡◌, refl, Bool, true, false, not, length, get_or, take, eqb, ℤ, pos, ◌≤ℤ◌, Option, None}
use Rattle.std.proofs.Math.Decide.{dec_lt}
use Rattle.std.proofs.Common.{arith, sym, ap, ◌∙◌, subst, ⊎_elim, drop_of_length-le}
use mathlib.Core.List.Memᴰ
use mathlib.Core.List.{List, [], ◌∷◌, Memᴰ}
use Rattle.std.specs.Int.Signed.{≤ℤ_refl}
use Rattle.base.specs.TestLaws.{true-false, clash}
use Rattle.memory.specs.Limits.{max_nodes}
use Rattle.numeric.specs.Threshold.{Term}
use Rattle.state.specs.declared.State.{State}
use Rattle.state.specs.Step.{contradicts}
use Rattle.state.specs.State.{no_state, first_state}
use Rattle.words.specs.Mask.{bit}
use Rattle.queues.specs.Queue.{Rows, oldest, popped, next_row}
use Rattle.queues.specs.Marks.{Marks, marks, is_decided, Decided, decide, mask}
use Rattle.queues.proofs.MarksLaws.{decide_has, decide_there, decide_new}
use Rattle.queues.specs.Waiting.{Waits, Queued}
use Rattle.row.specs.Terms.{total}
use Rattle.rows.specs.Rows.{Row, no_row, Guard, state_of_row}
use Rattle.row_moves.specs.Between.{Index, Live, state_at, did, with_dirty_rows, with_marks, with_residuals}
use Rattle.theorem_table.specs.Table.{Table, start, IsRow, terms_of, known, possible}
use Rattle.theorem_table.specs.OrderLaws.{UpLe, up_refl}
use Rattle.theorem_table.proofs.TableLaws.{Le, le_then, Follows, follows_more}
use Rattle.theorem_follows.specs.DecideLaws.{table_of, Broken, decide_as, decided-below, against}
use Rattle.theorem_follows.specs.RowLaws.{decide_grows}
use Rattle.theorem_follows.specs.CompleteLaws.{Wide, wide_decide}
use Rattle.theorem_follows.specs.RowCompleteLaws.{Passed}
use Rattle.theorem_follows.specs.StandsLaws.{table_at, among, also, also_this, also_before, also_which, Apart, Stands, known_same, possible_same, among_stay, stay_le, apart_decide}
use Rattle.queues.proofs.StayLaws.{Stay, stay_same, stay_decide, stay_decided}
use Rattle.theorem_follows.specs.DoneLaws.{Done, Grows, passed_up, complete_up}
use Rattle.theorem_follows.specs.ToldLaws.{Told}
use Rattle.theorem_follows.specs.HandedLaws.{Handed, taken_handed}
use Rattle.theorem_follows.specs.WaitingLaws.{queued_decide, first-decided, first-fresh, queued_taken}
use Rattle.theorem_follows.specs.SettledLaws.{Ledger, Sound, Leads}

-- MORE NODES DECIDED, all else as it was
module _ (x : Index) (v : Live) (m : Marks) (d q : Rows) (stay : Stay v.marks m) (wide : Wide m) where
  abbrev now : Live
  now = with_residuals (with_dirty_rows (with_marks v m) d) q

  grows : Grows v.marks m
  grows true n e = (stay_le v.marks m (λ r. pos 0) (λ r. None) stay).sure n e
  grows false n e = (stay_le v.marks m (λ r. pos 0) (λ r. None) stay).never n e

  pub marked_stands : (s s' : Table) (drained : ℕ → ℕ → Bool) → Apart m → Le s' (table_at now) → Follows x.rows s' (table_at now) → Stands x.rows s drained v → Stands x.rows s' drained now
  marked_stands s s' drained apart up f h = record {
    sized = h.sized;
    above = up;
    follows = f;
    apart = apart;
    decided = λ r n e. stay_decided v.marks m stay n (h.decided r n e);
    known = λ r i. h.known r i ∙ ap pos (known_same _ _ (terms_of x.rows r) (λ t k. same true r t.condition));
    possible = λ r i. h.possible r i ∙ ap pos (possible_same _ _ (terms_of x.rows r) (λ t k. same false r t.condition));
  }
    where
      same : (value : Bool) (r n : ℕ) → among (drained r) (mask value v.marks) n ≡ among (drained r) (mask value m) n
      same value r = among_stay v.marks m stay (drained r) (h.decided r) value

  marked-done : (ran : ℕ → Bool) → Done x.rows ran v → Done x.rows ran now
  marked-done ran h = record {
    sized = h.sized;
    passed = λ r i. passed_up (get_or x.rows r no_row) (state_at v r) v.marks m grows wide (h.passed r i);
    complete = λ r i e. complete_up (get_or x.rows r no_row) (state_at v r) v.marks m grows (h.complete r i e);
    free = h.free;
    met = λ r i g m' d. grows true g.node (h.met r i g m' d);
  }

  marked-told : (told : ℕ → Bool) → Told x.rows told v → Told x.rows told now
  marked-told told h = record {
    decided = λ n e. stay_decided v.marks m stay n (h.decided n e);
    sure = λ r g i e k. h.sure r g i e (sym (stay g.node (h.decided g.node e) true) ∙ k);
    never = λ r g i e k. h.never r g i e (sym (stay g.node (h.decided g.node e) false) ∙ k);
  }

  marked-handed : (but : ℕ → Bool) → Handed x but (with_residuals (with_dirty_rows v d) q) → Handed x but now
  marked-handed but h = record { sized = h.sized; flags = h.flags; handed = h.handed }

pub wide_of : (m : Marks) → Waits m → Wide m
wide_of m w = record { sure = let z = w.sures in omega arith; never = let z = w.nevers in omega arith }

module _ (x : Index) (s : Table) (l : Ledger) (v : Live) (h : Sound x s l v) where
  -- THE OLDEST NODE IS TAKEN
  pub node_taken : 0 < v.marks.nodes.ring.count
      → Sound x s (record { drained = l.drained; told = l.told; taken = also (oldest v.marks.nodes) l.taken; ran = l.ran; handing = l.handing })
      (with_marks v (marks v.marks.sure v.marks.never (popped max_nodes v.marks.nodes)))
  node_taken some = record {
    stands = marked_stands x v m v.dirty v.residuals same wide s s l.drained h.stands.apart
        (record { sure = h.stands.above.sure; never = h.stands.above.never; lower = h.stands.above.lower; upper = h.stands.above.upper })
        (λ u a rest. let f = h.stands.follows u a rest in record { sure = f.sure; never = f.never; lower = f.lower; upper = f.upper }) h.stands;
    done = marked-done x v m v.dirty v.residuals same wide l.ran h.done;
    told = marked-told x v m v.dirty v.residuals same wide l.told h.told;
    handed = marked-handed x v m v.dirty v.residuals same wide l.handing (record { sized = h.handed.sized; flags = h.handed.flags; handed = h.handed.handed });
    queued = queued_taken l.taken v.marks h.queued some;
  }
    where
      m : Marks
      m = marks v.marks.sure v.marks.never (popped max_nodes v.marks.nodes)

      same : Stay v.marks m
      same n d true = refl
      same n d false = refl

      wide : Wide m
      wide = wide_of m (queued_taken l.taken v.marks h.queued some).queue

  -- it is decided, and was not taken before
  pub taken_decided : 0 < v.marks.nodes.ring.count → is_decided v.marks (oldest v.marks.nodes) ≡ true
  taken_decided some = first-decided l.taken v.marks h.queued some

  pub taken_fresh : 0 < v.marks.nodes.ring.count → l.taken (oldest v.marks.nodes) ≡ false
  taken_fresh some = first-fresh l.taken v.marks h.queued some

  -- THE OLDEST ROW IS TAKEN, to hand on its bounds
  pub row_taken : l.handing ≡ (λ (r : ℕ). false)
      → Sound x s (record { drained = l.drained; told = l.told; taken = l.taken; ran = l.ran; handing = λ (r : ℕ). eqb r (oldest v.dirty.queue) })
      (with_dirty_rows v (next_row v.dirty))
  row_taken none = record {
    stands = marked_stands x v v.marks (next_row v.dirty) v.residuals (stay_same v.marks) wide s s l.drained h.stands.apart
        (record { sure = h.stands.above.sure; never = h.stands.above.never; lower = h.stands.above.lower; upper = h.stands.above.upper })
        (λ u a rest. let f = h.stands.follows u a rest in record { sure = f.sure; never = f.never; lower = f.lower; upper = f.upper }) h.stands;
    done = marked-done x v v.marks (next_row v.dirty) v.residuals (stay_same v.marks) wide l.ran h.done;
    told = marked-told x v v.marks (next_row v.dirty) v.residuals (stay_same v.marks) wide l.told h.told;
    handed = taken_handed x v (subst (λ (f : ℕ → Bool). Handed x f v) none h.handed);
    queued = h.queued;
  }
    where
      wide : Wide v.marks
      wide = wide_of v.marks h.queued.queue

  -- A MARK is one more node of the start
  module _ (value : Bool) (n : ℕ) (small : n < max_nodes) where
    above-start : (value : Bool) (t : Table) → Le t (decide_as value t n)
    above-start true t = record { sure = λ k e. also_before n t.sure k e; never = λ k e. e; lower = λ r. ≤ℤ_refl (t.lower r); upper = λ r. up_refl (t.upper r) }
    above-start false t = record { sure = λ k e. e; never = λ k e. also_before n t.never k e; lower = λ r. ≤ℤ_refl (t.lower r); upper = λ r. up_refl (t.upper r) }

    -- a rest above the start with the node has it
    mark-follows : Follows x.rows (decide_as value s n) (decide_as value (table_at v) n)
    mark-follows u a rest = by value a (h.stands.follows u (le_then s (decide_as value s n) u (above-start value s) a) rest)
      where
        by : (b : Bool) → Le (decide_as b s n) u → Le (table_at v) u → Le (decide_as b (table_at v) n) u
        by true k f = record {
          sure = λ i e. ⊎_elim (λ (q : i ≡ n). k.sure i (also_this n s.sure i q)) (λ q. f.sure i q) (also_which n (table_at v).sure i e);
          never = f.never;
          lower = f.lower;
          upper = f.upper;
        }
        by false k f = record {
          sure = f.sure;
          never = λ i e. ⊎_elim (λ (q : i ≡ n). k.never i (also_this n s.never i q)) (λ q. f.never i q) (also_which n (table_at v).never i e);
          lower = f.lower;
          upper = f.upper;
        }

    stays : Stay v.marks (decide value v.marks n).marks
    stays = stay_decide v.marks value v.marks n (stay_same v.marks)

    pub mark_leads : Leads x (decide_as value s n) l (did (with_marks v (decide value v.marks n).marks) (decide value v.marks n).step)
    mark_leads = (
      λ c. record {
        stands = marked_stands x v (decide value v.marks n).marks v.dirty v.residuals stays wide s (decide_as value s n) l.drained (apart_decide value v.marks n h.stands.apart)
            (up value c) (λ u a rest. le_then (table_of (decide value v.marks n).marks lo hi) (decide_as value (table_of v.marks lo hi) n) u (decided-below lo hi value v.marks n) (mark-follows u a rest)) h.stands;
        done = marked-done x v (decide value v.marks n).marks v.dirty v.residuals stays wide l.ran h.done;
        told = marked-told x v (decide value v.marks n).marks v.dirty v.residuals stays wide l.told h.told;
        handed = marked-handed x v (decide value v.marks n).marks v.dirty v.residuals stays wide l.handing (record { sized = h.handed.sized; flags = h.handed.flags; handed = h.handed.handed });
        queued = queued_decide l.taken value v.marks n small h.queued;
      },
      λ c. (decide_as value (table_at v) n, mark-follows, against lo hi x.rows value v.marks n (opposite c)),
    )
      where
        lo : ℕ → ℤ
        lo r = (state_at v r).lower

        hi : ℕ → Option ℤ
        hi r = (state_at v r).upper

        wide : Wide (decide value v.marks n).marks
        wide = wide_decide value v.marks n (wide_of v.marks h.queued.queue)

        has : (b : Bool) → contradicts (decide b v.marks n).step ≡ false → bit (mask b (decide b v.marks n).marks) n ≡ true
        has true c = decide_has true v.marks n (let w = h.queued.queue.sures in omega arith) (λ e. clash true refl (ap contradicts (sym e) ∙ c))
        has false c = decide_has false v.marks n (let w = h.queued.queue.nevers in omega arith) (λ e. clash true refl (ap contradicts (sym e) ∙ c))

        up : (b : Bool) → contradicts (decide b v.marks n).step ≡ false → Le (decide_as b s n) (table_of (decide b v.marks n).marks lo hi)
        up true c = let g = le_then s (table_at v) (table_of (decide true v.marks n).marks lo hi) h.stands.above (decide_grows true v.marks n lo hi) in record {
          sure = λ k e. ⊎_elim (λ (q : k ≡ n). subst (λ (i : ℕ). bit (decide true v.marks n).marks.sure i ≡ true) (sym q) (has true c)) (λ q. g.sure k q) (also_which n s.sure k e);
          never = g.never;
          lower = g.lower;
          upper = g.upper;
        }
        up false c = let g = le_then s (table_at v) (table_of (decide false v.marks n).marks lo hi) h.stands.above (decide_grows false v.marks n lo hi) in record {
          sure = g.sure;
          never = λ k e. ⊎_elim (λ (q : k ≡ n). subst (λ (i : ℕ). bit (decide false v.marks n).marks.never i ≡ true) (sym q) (has false c)) (λ q. g.never k q) (also_which n s.never k e);
          lower = g.lower;
          upper = g.upper;
        }

        opposite : contradicts (decide value v.marks n).step ≡ true → bit (mask (not value) v.marks) n ≡ true
        opposite c =
            ⊎_elim (λ (e : bit (mask (not value) v.marks) n ≡ true). e)
            (λ (e : bit (mask (not value) v.marks) n ≡ false).
            ⊎_elim (λ (f : bit (mask value v.marks) n ≡ true). absurd (clash false (ap (λ (y : Decided). contradicts y.step) (sym (decide_there value v.marks n f)) ∙ c) refl))
            (λ (f : bit (mask value v.marks) n ≡ false). absurd (clash false (ap (λ (y : Decided). contradicts y.step) (sym (decide_new value v.marks n f e)) ∙ c) refl)) (true-false (bit (mask value v.marks) n)))
            (true-false (bit (mask (not value) v.marks) n))

-- THE NODES DECIDED SO FAR AS A NEW START: what followed from fewer nodes follows from them
pub restarted : (x : Index) (sure never : ℕ → Bool) (l : Ledger) (v : Live) → Sound x (start sure never) l v → Sound x (start (bit v.marks.sure) (bit v.marks.never)) l v
restarted x sure never l v h = record {
  stands = record {
    sized = k.sized;
    above = record { sure = λ n e. e; never = λ n e. e; lower = k.above.lower; upper = λ r. tt };
    follows = follows_more x.rows (start sure never) (start (bit v.marks.sure) (bit v.marks.never)) (table_at v)
        (record { sure = k.above.sure; never = k.above.never; lower = λ r. ≤ℤ_refl (pos 0); upper = λ r. tt }) k.follows;
    apart = k.apart;
    decided = k.decided;
    known = k.known;
    possible = k.possible;
  };
  done = h.done;
  told = h.told;
  handed = h.handed;
  queued = h.queued;
}
  where
    k : Stands x.rows (start sure never) l.drained v
    k = h.stands

-- THE FIRST STATES: nothing is drained, told, taken or run
abbrev pub nothing : Ledger
nothing = record { drained = λ (r n : ℕ). false; told = λ (n : ℕ). false; taken = λ (n : ℕ). false; ran = λ (r : ℕ). false; handing = λ (r : ℕ). false }

known-none : (m : List ℕ) (ts : List Term) → known (among (λ (n : ℕ). false) m) ts ≡ 0
unfolding known
known-none m [] = refl
known-none m (t ∷ ts) = let h = known-none m ts in omega arith

possible_all : (m : List ℕ) (ts : List Term) → possible (among (λ (n : ℕ). false) m) ts ≡ total ts
unfolding possible total
possible_all m [] = refl
possible_all m (t ∷ ts) = ap (λ (n : ℕ). t.weight + n) (possible_all m ts)

first_passed : (row : Row) (n : ℕ) (m : Marks) → Wide m → Passed row (first_state n (length row.guards)) m
unfolding first_state
first_passed row n m w = record {
  wide = w;
  inside = omega arith;
  sure = λ g i. absurd (Memᴰ.not-nil i);
  never = λ g i. absurd (Memᴰ.not-nil (subst (λ (l : List Guard). Memᴰ g l) (drop_of_length-le row.guards {i = length row.guards} (omega arith)) i));
  true-terms = λ t i. absurd (Memᴰ.not-nil i);
  false-terms = λ t i. absurd (Memᴰ.not-nil i);
}

first-none : (n : ℕ) (gs : List Guard) (g : Guard) → Memᴰ g (take (first_state n (length gs)).sure_guard gs) → ⊥
unfolding first_state
first-none n gs g m = Memᴰ.not-nil m

first-figures : (n g : ℕ) → ((first_state n g).known ≡ pos 0) × ((first_state n g).possible ≡ pos n) × ((first_state n g).lower ≡ pos 0) × ((first_state n g).upper ≡ None)
unfolding first_state
first-figures n g = (refl, refl, refl, refl)

none-figures : (no_state.lower ≡ pos 0) × (no_state.upper ≡ None)
unfolding no_state
none-figures = (refl, refl)

module _ (x : Index) (v : Live) (sized : length x.rows ≤ length v.states) (flags : length x.rows ≤ length v.dirty.pending)
    (firsts : (r : ℕ) → IsRow x.rows r → state_at v r ≡ state_of_row (get_or x.rows r no_row)) (behind : (r : ℕ) → length x.rows ≤ r → state_at v r ≡ no_state)
    (waits : Queued (λ (n : ℕ). false) v.marks) (apart : Apart v.marks) where
  no-bounds : (r : ℕ) → ((state_at v r).lower ≡ pos 0) × ((state_at v r).upper ≡ None)
  no-bounds r = by (dec_lt r (length x.rows))
    where
      by : Dec (r < length x.rows) → ((state_at v r).lower ≡ pos 0) × ((state_at v r).upper ≡ None)
      by (yes i) =
          let f = first-figures (total (terms_of x.rows r)) (length (get_or x.rows r no_row).guards) in
          (ap (λ (t : State). t.lower) (firsts r i) ∙ f.2, ap (λ (t : State). t.upper) (firsts r i) ∙ f.3)
      by (no i) = let e = behind r (omega arith) in (ap (λ (t : State). t.lower) e ∙ none-figures.0, ap (λ (t : State). t.upper) e ∙ none-figures.1)

  -- the table has no bounds yet
  is-start : Le (start (bit v.marks.sure) (bit v.marks.never)) (table_at v)
  is-start = record {
    sure = λ n e. e;
    never = λ n e. e;
    lower = λ r. subst (λ (z : ℤ). pos 0 ≤ℤ z) (sym (no-bounds r).0) (≤ℤ_refl (pos 0));
    upper = λ r. tt;
  }

  was-start : Le (table_at v) (start (bit v.marks.sure) (bit v.marks.never))
  was-start = record {
    sure = λ n e. e;
    never = λ n e. e;
    lower = λ r. subst (λ (z : ℤ). z ≤ℤ pos 0) (sym (no-bounds r).0) (≤ℤ_refl (pos 0));
    upper = λ r. subst (λ (z : Option ℤ). UpLe None z) (sym (no-bounds r).1) tt;
  }

  pub first_sound : Sound x (start (bit v.marks.sure) (bit v.marks.never)) nothing v
  first_sound = record {
    stands = record {
      sized = sized;
      above = is-start;
      follows = λ u a rest. le_then (table_at v) (start (bit v.marks.sure) (bit v.marks.never)) u was-start a;
      apart = apart;
      decided = λ r n e. absurd (clash false e refl);
      known = λ r i. ap (λ (t : State). t.known) (firsts r i) ∙ (first-figures (total (terms_of x.rows r)) (length (get_or x.rows r no_row).guards)).0 ∙ ap pos (sym (known-none v.marks.sure (terms_of x.rows r)));
      possible = λ r i. ap (λ (t : State). t.possible) (firsts r i) ∙ (first-figures (total (terms_of x.rows r)) (length (get_or x.rows r no_row).guards)).1 ∙ ap pos (sym (possible_all v.marks.never (terms_of x.rows r)));
    };
    done = record {
      sized = sized;
      passed = λ r i. subst (λ (t : State). Passed (get_or x.rows r no_row) t v.marks) (sym (firsts r i)) (first_passed (get_or x.rows r no_row) (total (terms_of x.rows r)) v.marks (wide_of v.marks waits.queue));
      complete = λ r i e. absurd (clash false e refl);
      free = λ r i e. absurd (clash false e refl);
      met = λ r i g m. absurd (first-none (total (terms_of x.rows r)) (get_or x.rows r no_row).guards g (subst (λ (t : State). Memᴰ g (take t.sure_guard (get_or x.rows r no_row).guards)) (firsts r i) m));
    };
    told = record { decided = λ n e. absurd (clash false e refl); sure = λ r g i e k. absurd (clash false e refl); never = λ r g i e k. absurd (clash false e refl) };
    handed = record {
      sized = sized;
      flags = flags;
      handed = λ r q m e f. (
        λ k. subst (λ (z : ℤ). z ≤ℤ (state_at v q).lower) (sym (no-bounds r).0) (subst (λ (z : ℤ). pos 0 ≤ℤ z) (sym (no-bounds q).0) (≤ℤ_refl (pos 0))),
        λ k. subst (λ (z : Option ℤ). UpLe (state_at v q).upper z) (sym (no-bounds r).1) tt,
      );
    };
    queued = waits;
  }

-- AN EARLIER START that leads to another: what stands by the other stands by it, and what breaks by the other breaks by it
pub backed : (x : Index) (s o : Table) (l : Ledger) (v : Live) → Le s o → Follows x.rows s o → Sound x o l v → Sound x s l v
backed x s o l v up from h = record {
  stands = record {
    sized = k.sized;
    above = le_then s o (table_at v) up k.above;
    follows = λ u a rest. k.follows u (from u a rest) rest;
    apart = k.apart;
    decided = k.decided;
    known = k.known;
    possible = k.possible;
  };
  done = h.done;
  told = h.told;
  handed = h.handed;
  queued = h.queued;
}
  where
    k : Stands x.rows o l.drained v
    k = h.stands

pub broken_back : (rows : List Row) (s o : Table) → Follows rows s o → Broken rows o → Broken rows s
broken_back rows s o from (t, f, c) = (t, (λ u a rest. f u (from u a rest) rest), c)
