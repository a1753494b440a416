-- A decided node follows by the rules of the table where one of them gives it; a scan keeps that from place to place.
use Rattle.std.specs.Prelude.{ℕ, ◌+◌, ◌≡◌, refl, Bool, true, false, not, cond, eqb, ℤ, Option}
use Rattle.std.proofs.Math.Decide.{ℕ_discrete}
use Rattle.std.proofs.Common.{sym, ap, ◌∙◌, subst, ⊎_elim, eq-eqb}
use mathlib.Core.List.{List, [], ◌∷◌, Memᴰ}
use Rattle.std.specs.Int.Signed.{≤ℤ_refl}
use Rattle.base.specs.TestLaws.{true-false, unequal}
use Rattle.state.specs.StepLaws.{joined_fine}
use Rattle.state.specs.declared.Step.{Step}
use Rattle.state.specs.declared.Step.TheVariants.{Contradiction}
use Rattle.state.specs.Step.{joined, contradicts}
use Rattle.words.specs.Mask.{bit}
use Rattle.queues.specs.Marks.{Marks, Decided, decide, mask}
use Rattle.queues.proofs.MarksLaws.{decide_there, decide_new, decide_other, decide_opposite}
use Rattle.rows.specs.Rows.{Row}
use Rattle.row_runs.specs.Scan.{scan, Scanned}
use Rattle.theorem_table.specs.Table as T
use Rattle.theorem_table.specs.Table.{Table, decide_sure, decide_never, Conflict, both}
use Rattle.theorem_table.specs.OrderLaws.{up_refl}
use Rattle.theorem_table.proofs.TableLaws.{Le, le_then, Follows, follows_step}

-- The nodes of the masks, with lowers and uppers of rows, as a state of the table.
abbrev pub table_of : Marks → (ℕ → ℤ) → (ℕ → Option ℤ) → Table
table_of m l u = record { sure = bit m.sure; never = bit m.never; lower = l; upper = u }

-- A conflict follows from the start.
abbrev pub Broken : List Row → Table → Type 0
Broken rows s = (t : Table) × Follows rows s t × Conflict rows t

-- What lies below something that follows, follows.
pub follows_below : (rows : List Row) (s t u : Table) → Follows rows s u → Le t u → Follows rows s t
follows_below rows s t u f h w a rest = le_then t u w h (f w a rest)

-- The table with one more node of a value.
abbrev pub decide_as : Bool → Table → ℕ → Table
decide_as true t n = decide_sure t n
decide_as false t n = decide_never t n

at_same : (n k : ℕ) (f : ℕ → Bool) → k ≡ n → T.at n true f k ≡ true
at_same n k f e = ap (λ (b : Bool). cond b true (f k)) (eq-eqb k n e)

at-kept : (n k : ℕ) (f : ℕ → Bool) → f k ≡ true → T.at n true f k ≡ true
at-kept n k f h = by (eqb k n)
  where
    by : (b : Bool) → cond b true (f k) ≡ true
    by true = refl
    by false = h

module _ (l : ℕ → ℤ) (u : ℕ → Option ℤ) where
  -- a decision adds no more than its node
  adds-only : (value : Bool) (m : Marks) (n k : ℕ) → bit (mask value (decide value m n).marks) k ≡ true → T.at n true (bit (mask value m)) k ≡ true
  adds-only value m n k h = by (ℕ_discrete k n)
    where
      by : Dec (k ≡ n) → T.at n true (bit (mask value m)) k ≡ true
      by (yes e) = at_same n k (bit (mask value m)) e
      by (no d) = at-kept n k (bit (mask value m)) (sym (decide_other value m n value k d) ∙ h)

  pub decided-below : (value : Bool) (m : Marks) (n : ℕ) → Le (table_of (decide value m n).marks l u) (decide_as value (table_of m l u) n)
  decided-below true m n = record {
    sure = adds-only true m n;
    never = λ k h. ap (λ (x : List ℕ). bit x k) (sym (decide_opposite true m n)) ∙ h;
    lower = λ r. ≤ℤ_refl (l r);
    upper = λ r. up_refl (u r);
  }
  decided-below false m n = record {
    sure = λ k h. ap (λ (x : List ℕ). bit x k) (sym (decide_opposite false m n)) ∙ h;
    never = adds-only false m n;
    lower = λ r. ≤ℤ_refl (l r);
    upper = λ r. up_refl (u r);
  }

  -- a node decided against the other mask is in conflict
  pub against : (rows : List Row) (value : Bool) (m : Marks) (n : ℕ) → bit (mask (not value) m) n ≡ true → Conflict rows (decide_as value (table_of m l u) n)
  against rows true m n h = both n (at_same n n (bit m.sure) refl) h
  against rows false m n h = both n h (at_same n n (bit m.never) refl)

module _ (rows : List Row) (s : Table) (l : ℕ → ℤ) (u : ℕ → Option ℤ) where
  -- What is kept along a scan: the masks follow from the start.
  abbrev pub Kept : Marks → Type 0
  Kept m = Follows rows s (table_of m l u)

  -- DECIDING a node that some rule gives
  pub decide_follows : (value : Bool) (m : Marks) (n : ℕ) → Kept m
      → (bit (mask value m) n ≡ false → T.Step rows (table_of m l u) (decide_as value (table_of m l u) n))
      → Kept (decide value m n).marks × (contradicts (decide value m n).step ≡ true → Broken rows s)
  decide_follows value m n f gives = ⊎_elim there new (true-false (bit (mask value m) n))
    where
      there : bit (mask value m) n ≡ true → Kept (decide value m n).marks × (contradicts (decide value m n).step ≡ true → Broken rows s)
      there e =
          let q = decide_there value m n e in
          (subst (λ (d : Decided). Kept d.marks) (sym q) f, λ c. absurd (unequal (cc (q, c))))

      new : bit (mask value m) n ≡ false → Kept (decide value m n).marks × (contradicts (decide value m n).step ≡ true → Broken rows s)
      new e =
          let d = follows_step rows s (table_of m l u) (decide_as value (table_of m l u) n) f (gives e) in (
            follows_below rows s (table_of (decide value m n).marks l u) (decide_as value (table_of m l u) n) d (decided-below l u value m n),
            λ c. ⊎_elim (λ (o : bit (mask (not value) m) n ≡ true). (decide_as value (table_of m l u) n, d, against l u rows value m n o))
                (λ (o : bit (mask (not value) m) n ≡ false). absurd (let q = decide_new value m n e o in unequal (cc (q, c))))
                (true-false (bit (mask (not value) m) n)),
          )

-- A SCAN keeps what each of its places keeps; if it contradicts, a place did.
pub scan_keeps : {X : Type 0} (P : Marks → Type 0) (C : Type 0) (waits : X → Marks → Bool) (act : X → Marks → Decided) (xs : List X)
    → ((x : X) (m : Marks) → Memᴰ x xs → P m → waits x m ≡ false → P (act x m).marks × (contradicts (act x m).step ≡ true → C))
    → (n : ℕ) (m : Marks) (k : Step) → P m → contradicts k ≡ false
    → P (scan waits act xs n m k).marks × (contradicts (scan waits act xs n m k).step ≡ true → C)
unfolding scan
scan_keeps P C waits act [] h n m k p c = (p, λ d. absurd (unequal cc))
scan_keeps P C waits act (x ∷ xs) h n m k p c =
    waiting-or (λ n m k p c. scan_keeps P C waits act xs (λ y m i. h y m (Memᴰ.tail i)) n m k p c) (waits x m) refl
  where
    Goal : Scanned → Type 0
    Goal r = P r.marks × (contradicts r.step ≡ true → C)

    acted : ((n : ℕ) (m : Marks) (k : Step) → P m → contradicts k ≡ false → Goal (scan waits act xs n m k)) → waits x m ≡ false
        → (b : Bool) → contradicts (act x m).step ≡ b
        → Goal (elim b [ true ↦ record { passed = n + 1; marks = (act x m).marks; step = Contradiction } | false ↦ scan waits act xs (n + 1) (act x m).marks (joined k (act x m).step) ])
    acted ih w true e = let a = h x m (Memᴰ.head refl) p w in (a.0, λ d. a.1 e)
    acted ih w false e = ih (n + 1) (act x m).marks (joined k (act x m).step) (h x m (Memᴰ.head refl) p w).0 (joined_fine k (act x m).step c e)

    waiting-or : ((n : ℕ) (m : Marks) (k : Step) → P m → contradicts k ≡ false → Goal (scan waits act xs n m k)) → (b : Bool) → waits x m ≡ b
        → Goal (elim b [
          | true ↦ record { passed = n; marks = m; step = k }
          | false ↦
              elim (contradicts (act x m).step) [ true ↦ record { passed = n + 1; marks = (act x m).marks; step = Contradiction } | false ↦ scan waits act xs (n + 1) (act x m).marks (joined k (act x m).step) ]
        ])
    waiting-or ih true e = (p, λ d. absurd (unequal cc))
    waiting-or ih false e = acted ih e (contradicts (act x m).step) refl
