-- Laws of rows placed threshold by threshold.
use Rattle.std.specs.Prelude.{ℕ, zero, suc, ◌+◌, ◌-◌, ◌/◌, ◌%◌, ◌<◌, ◌≤◌, ◌≡◌, refl, Bool, true, false, List, [], ◌∷◌, ◌++◌, map, length, take, drop, get_or, set, replicate, ltb, Ok, Err}
use Rattle.std.proofs.Common.{add-one, arith, sym, ap₂, ◌∙◌, subst, append_assoc, append-nil, length-append, length-set, length-take-le, get_or-take, drop-cons, drop-drop, drop-set-lt, take-suc-set, ltb-true, ltb-false, lt-ltb, le-ltb}
use Rattle.std.proofs.Math.Path.{ap}
use Rattle.std.proofs.Math.Bool.{cond}
use Rattle.std.proofs.lemmas.List.{map-append, length-map, set_at}
use Rattle.memory.specs.Limits.{max_thresholds}
use Rattle.base.specs.Parts.{end_by, start_by}
use Rattle.base.specs.Laid.{over, join_all, ends}
use Rattle.numeric.specs.Threshold.{Term}
use Rattle.row.specs.Terms.{row_terms}
use Rattle.row.specs.Keys.{laid, conditions_of, weights_of}
use Rattle.memory.specs.Buffers.{RawLists}
use Rattle.thresholds.specs.Raw.{fingerprint}
use Rattle.job.specs.Shared.{number_in, raws_to, row_to, terms_to, row_entry, nodes_to}
use Rattle.rows.specs.Lists.{list_at, Lists}
use Rattle.job.specs.RowsLaws.{number_most}
use Rattle.thresholds.specs.Tree.{shorts, link_in, print_in, marked_list, class_of, Marked, Treed, Came, Finds, linked_marks, linked_heads, class_count}
use Rattle.thresholds.specs.TreeLaws.{marked_one, treed_one, treed_none, length_marked, length-marks, linked-take, linked-drop, linked_lists, link_there}
use Rattle.thresholds.specs.Placed.{spliced, Marks}
use Rattle.thresholds.specs.PlacedLaws.{laid-behind, drop-replicate}
use Rattle.placing.specs.declared.Extent.{Extent}
use Rattle.job.specs.RowsGivenLaidLaws.{length-ends}
use Rattle.job.specs.RowsGivenTermsLaws.{terms_room}
use Rattle.placing.specs.Place.{Placing, Ready, Blank, row_ends, rows_next, nodes_next}

-- ---- one list more

join_one : {X : Type 0} (ls : List (List X)) (l : List X) → join_all (ls ++ (l ∷ [])) ≡ join_all ls ++ l
unfolding join_all
join_one [] l = append-nil l
join_one {X} (x ∷ ls) l = ap (λ (t : List X). x ++ t) (join_one ls l) ∙ sym (append_assoc x (join_all ls) l)

ends-one : {X : Type 0} (n : ℕ) (ls : List (List X)) (l : List X) → ends n (ls ++ (l ∷ [])) ≡ ends n ls ++ ((n + length (join_all ls) + length l) ∷ [])
unfolding join_all ends
ends-one n [] l = ap (λ (k : ℕ). k ∷ []) (let e : n + length l ≡ n + 0 + length l = omega arith in e)
ends-one n (x ∷ ls) l =
    let q = length-append x (join_all ls) in
    ap (λ (t : List ℕ). (n + length x) ∷ t) (ends-one (n + length x) ls l ∙ ap (λ (k : ℕ). ends (n + length x) ls ++ (k ∷ []))
    (let e : n + length x + length (join_all ls) + length l ≡ n + length (x ++ join_all ls) + length l = omega arith in e))

over-one : {X : Type 0} (l b : List X) (n : ℕ) (x : X) → length l ≡ n → n < length b → set (over l b) n x ≡ over (l ++ (x ∷ [])) b
over-one {X} l b n x e h =
    ap (λ (t : List X). set (l ++ t) n x) (drop-cons b (length l) x (omega arith)) ∙ set_at l (get_or b (length l) x) (drop (suc (length l)) b) x n e
    ∙ ap (λ (k : ℕ). l ++ (x ∷ drop k b)) (let q : suc (length l) ≡ length (l ++ (x ∷ [])) = let q = length-append l (x ∷ []) in omega arith in q)
    ∙ sym (append_assoc l (x ∷ []) (drop (length (l ++ (x ∷ []))) b))

-- ---- the raw lists of the rows

module _ (r : RawLists) (t : ℕ) where
  raws-next : (b : Bool) → ltb (row_to r t) (length (raws_to r t)) ≡ b → raws_to r (t + 1) ≡ cond b (raws_to r t) (raws_to r t ++ (list_at r t ∷ []))
  unfolding raws_to
  raws-next b e = ap (raws_to r) (add-one t) ∙ ap (λ (b : Bool). cond b (raws_to r t) (raws_to r t ++ (list_at r t ∷ []))) e

  pub raws_old : row_to r t < length (raws_to r t) → raws_to r (t + 1) ≡ raws_to r t
  raws_old h = raws-next true (lt-ltb (row_to r t) (length (raws_to r t)) h)

  pub raws_new : row_to r t ≡ length (raws_to r t) → raws_to r (t + 1) ≡ raws_to r t ++ (list_at r t ∷ [])
  raws_new h = raws-next false (le-ltb (row_to r t) (length (raws_to r t)) (omega arith))

  terms-new : row_to r t ≡ length (raws_to r t) → terms_to r (t + 1) ≡ terms_to r t ++ (row_terms (list_at r t) ∷ [])
  terms-new h = ap (map (λ (l : List Term). row_terms l)) (raws_new h) ∙ map-append (λ (l : List Term). row_terms l) (raws_to r t) (list_at r t ∷ [])

  join-new : row_to r t ≡ length (raws_to r t) → join_all (terms_to r (t + 1)) ≡ join_all (terms_to r t) ++ row_terms (list_at r t)
  join-new h = ap join_all (terms-new h) ∙ join_one (terms_to r t) (row_terms (list_at r t))

  long-new : row_to r t ≡ length (raws_to r t) → length (join_all (terms_to r (t + 1))) ≡ length (join_all (terms_to r t)) + length (row_terms (list_at r t))
  long-new h = ap length (join-new h) ∙ length-append (join_all (terms_to r t)) (row_terms (list_at r t))

-- No more rows than thresholds.
pub raws_few : (r : RawLists) (t : ℕ) → length (raws_to r t) ≤ t
unfolding raws_to
raws_few r zero = omega arith
raws_few r (suc t) = by (raws_few r t) (ltb (row_to r t) (length (raws_to r t)))
  where
    by : length (raws_to r t) ≤ t → (b : Bool) → length (cond b (raws_to r t) (raws_to r t ++ (list_at r t ∷ []))) ≤ suc t
    by h true = omega arith
    by h false = let q = length-append (raws_to r t) (list_at r t ∷ []) in omega arith

-- ---- the row of a threshold, as it was found

module _ (r : RawLists) (t : ℕ) (ms : List ℕ) (e : map (marked_list r) ms ≡ raws_to r t) where
  long-marks : length ms ≡ length (raws_to r t)
  long-marks = sym (length_marked r ms) ∙ ap length e

  number_is : number_in (map (marked_list r) ms) (list_at r t) ≡ row_to r t
  number_is = ap (λ (ls : List (List Term)). number_in ls (list_at r t)) e

  pub found_old : (heads : List ℕ) (k : ℕ) → Finds r ms heads (list_at r t) (Ok k) → (k ≡ row_to r t) × (row_to r t < length (raws_to r t))
  found_old heads k q = let n = q.0 in let h = q.1 in let i = number_is in let l = long-marks in (n ∙ i, omega arith)

  pub found_new : (heads : List ℕ) (a : ℕ) → Finds r ms heads (list_at r t) (Err a) → row_to r t ≡ length (raws_to r t)
  found_new heads a q = sym number_is ∙ q.0 ∙ long-marks

-- ---- marks

module _ (r : RawLists) (t rows : ℕ) (scratch heads : List ℕ) (k : Marks r t rows scratch heads) where
  -- The rows are no more than the thresholds; behind 1,024 words nothing is marked.
  pub marks_few : rows ≤ t
  marks_few = let q = raws_few r t in let e = k.many in omega arith

  pub marks_tail : rows ≤ max_thresholds → drop max_thresholds scratch ≡ replicate (length scratch - max_thresholds) 0
  marks_tail h =
      let e : rows + (max_thresholds - rows) ≡ max_thresholds = omega arith in
      sym (drop-drop (max_thresholds - rows) rows scratch ∙ ap (λ (n : ℕ). drop n scratch) e) ∙ ap (drop (max_thresholds - rows)) k.clear ∙ drop-replicate (max_thresholds - rows) (length scratch - rows)
      ∙ ap (λ (n : ℕ). replicate n 0) (let q : length scratch - rows - (max_thresholds - rows) ≡ length scratch - max_thresholds = omega arith in q)

  -- Its mark m, and the link a at which it is found from now on.
  marks-new : (m a : ℕ) → rows < length scratch → rows < max_thresholds → m % max_thresholds ≡ t → print_in m ≡ fingerprint (list_at r t) % shorts → ((s : ℕ) → link_in s m ≡ 0)
      → Came r (take rows scratch) heads (list_at r t) a 0 → t < length r.thresholds → row_to r t ≡ rows
      → Marks r (t + 1) (rows + 1) (set (linked_marks a (rows + 1) scratch) rows m) (linked_heads a (class_of (fingerprint (list_at r t))) (rows + 1) heads)
  marks-new m a h u e p z c g n =
      let i = n ∙ k.many in
      let v = rows + 1 in
      let ms = take rows scratch in
      let x = list_at r t in
      let l : length ms ≡ rows = length-take-le rows scratch (omega arith) in
      let ev : v ≡ suc (length ms) = omega arith in
      let there : 0 < a → a / 3 - 1 < rows = λ o. subst (λ (n : ℕ). a / 3 - 1 < n) l (link_there r ms heads x a 0 c o) in
      let long = length-marks a v scratch in
      let f : take (rows + 1) (set (linked_marks a v scratch) rows m) ≡ linked_marks a v ms ++ (m ∷ []) =
      ap (λ (j : ℕ). take j (set (linked_marks a v scratch) rows m)) (add-one rows) ∙ take-suc-set (linked_marks a v scratch) rows m (omega arith)
      ∙ ap (λ (l : List ℕ). l ++ (m ∷ [])) (linked-take a v rows scratch there) in
      record {
        many = ap (λ (j : ℕ). j + 1) k.many ∙ sym (ap length (raws_new r t i) ∙ length-append (raws_to r t) (list_at r t ∷ []));
        marked = subst (λ (l : List ℕ). Marked r (length r.thresholds) l) (sym f)
            (marked_one r ms heads x a v m k.treed c ev (omega arith) (length r.thresholds) k.marked (omega arith) (p ∙ ap (λ (j : ℕ). fingerprint (list_at r j) % shorts) (sym e)));
        named = ap (map (marked_list r)) f ∙ map-append (marked_list r) (linked_marks a v ms) (m ∷ [])
            ∙ ap₂ (λ (ls : List (List Term)) (j : ℕ). ls ++ (list_at r j ∷ [])) (linked_lists r a v ms ∙ k.named) e ∙ sym (raws_new r t i);
        clear = drop-set-lt (rows + 1) (linked_marks a v scratch) rows m (omega arith) ∙ linked-drop a v (rows + 1) scratch (λ o. let q = there o in omega arith)
            ∙ sym (drop-drop 1 rows scratch) ∙ ap (drop 1) k.clear ∙ drop-replicate 1 (length scratch - rows)
            ∙ ap (λ (j : ℕ). replicate j 0) (let q = length-set (linked_marks a v scratch) rows m in let u : length scratch - rows - 1 ≡ length (set (linked_marks a v scratch) rows m) - (rows + 1) = omega arith in u);
        treed = subst (λ (l : List ℕ). Treed r l (linked_heads a (class_of (fingerprint x)) v heads)) (sym f)
            (treed_one r ms heads x a v m k.treed c ev (omega arith) (ap (list_at r) e) z);
      }

-- Nothing is at the link where a search ended.
pub link_free : (r : RawLists) (heads : List ℕ) (x : List Term) (a n : ℕ) (scratch scratch' : List ℕ) → Came r (take n scratch) heads x a 0 → n ≤ length scratch → scratch' ≡ scratch
    → 0 < a → (a / 3 - 1 < length scratch') × (0 < a / 3) × (link_in (a % 3) (get_or scratch' (a / 3 - 1) 0) ≡ 0)
link_free r heads x a n scratch scratch' c h e o =
    let l = length-take-le n scratch h in
    let u = link_there r (take n scratch) heads x a 0 c o in
    let f = ap length e in (
      omega arith,
      (c.under o).some,
      ap (λ (s : List ℕ). link_in (a % 3) (get_or s (a / 3 - 1) 0)) e ∙ ap (link_in (a % 3)) (sym (get_or-take n scratch (a / 3 - 1) 0 (omega arith))) ∙ (c.under o).link,
    )

-- ---- one threshold more

abbrev pub extent : ℕ → ℕ → Extent
extent n e = record { rows = n; end = e }

module _ (r : RawLists) (t : ℕ) (so : Extent) (cs ws scratch heads : List ℕ) (p : Placing r t so cs ws scratch heads) (l : Lists r (length r.thresholds)) (h : t < length r.thresholds) where
  pub placing_old : row_to r t < length (raws_to r t) → Placing r (t + 1) so cs ws scratch heads
  placing_old n =
      let e = sym (raws_old r t n) in
      record {
        end = p.end ∙ ap (λ (ls : List (List Term)). length (join_all (map (λ (l : List Term). row_terms l) ls))) e;
        terms = record {
          conditions = p.terms.conditions ∙ ap (λ (ls : List (List Term)). laid (length cs) (conditions_of (join_all (map (λ (l : List Term). row_terms l) ls)))) e;
          weights = p.terms.weights ∙ ap (λ (ls : List (List Term)). laid (length ws) (weights_of (join_all (map (λ (l : List Term). row_terms l) ls)))) e;
        };
        marks = record { many = p.marks.many ∙ ap length e; marked = p.marks.marked; named = p.marks.named ∙ e; clear = p.marks.clear; treed = p.marks.treed };
      }

  -- A new row: x is its raw list, laid from a to e.
  module _ (a e : ℕ) (x : List Term) (ea : a ≡ start_by 1 r.thresholds t) (ee : e ≡ end_by 1 r.thresholds t) (ex : x ≡ list_at r t)
      (short : length (row_terms x) ≤ e - a) (n : row_to r t ≡ so.rows) where
    new : row_to r t ≡ length (raws_to r t)
    new = n ∙ p.marks.many

    laid-new : (f : Term → ℕ) (b b' : List ℕ) → b ≡ laid (length b) (map f (join_all (terms_to r t))) → length r.raw-conditions ≤ length b → length b' ≡ length b
        → b' ≡ spliced so.end (e - a) b (laid (e - a) (map f (row_terms x))) → b' ≡ laid (length b') (map f (join_all (terms_to r (t + 1))))
    laid-new f b b' q long k s =
        let room = terms_room r (length r.thresholds) t l h in
        let end = p.end in
        let le = p.end ∙ sym (length-map (join_all (terms_to r t)) f) in
        let lx = length-map (row_terms x) f in
        s ∙ laid-behind b so.end (e - a) (map f (join_all (terms_to r t))) (map f (row_terms x)) q le (omega arith) (omega arith)
        ∙ ap₂ laid (sym k)
        (sym (map-append f (join_all (terms_to r t)) (row_terms x)) ∙ ap (map f) (ap (λ (y : List Term). join_all (terms_to r t) ++ row_terms y) ex ∙ sym (join-new r t new)))

    end-new : so.end + length (row_terms x) ≡ length (join_all (terms_to r (t + 1)))
    end-new = ap₂ ◌+◌ p.end (ap (λ (y : List Term). length (row_terms y)) ex) ∙ sym (long-new r t new)

    -- It is marked by m, and found at the link b from now on.
    pub placing_new : (end m b : ℕ) (cs' ws' scratch' heads' : List ℕ) → length r.raw-conditions ≤ length cs → length ws ≡ length cs → so.rows < length scratch → so.rows < max_thresholds
        → end ≡ so.end + length (row_terms x)
        → length cs' ≡ length cs → cs' ≡ spliced so.end (e - a) cs (laid (e - a) (conditions_of (row_terms x)))
        → length ws' ≡ length ws → ws' ≡ spliced so.end (e - a) ws (laid (e - a) (weights_of (row_terms x)))
        → m % max_thresholds ≡ t → print_in m ≡ fingerprint (list_at r t) % shorts → ((s : ℕ) → link_in s m ≡ 0) → Came r (take so.rows scratch) heads (list_at r t) b 0
        → scratch' ≡ linked_marks b (so.rows + 1) scratch → heads' ≡ linked_heads b (class_of (fingerprint (list_at r t))) (so.rows + 1) heads
        → Placing r (t + 1) (extent (so.rows + 1) end) cs' ws' (set scratch' so.rows m) heads'
    placing_new end m b cs' ws' scratch' heads' room even some few q kc ec kw ew mt mp mz mc es eh =
        record {
          end = q ∙ end-new;
          terms = record {
            conditions = laid-new (λ (t : Term). t.condition) cs cs' p.terms.conditions room kc ec;
            weights = laid-new (λ (t : Term). t.weight) ws ws' p.terms.weights (omega arith) kw ew;
          };
          marks = subst (λ (z : List ℕ). Marks r (t + 1) (so.rows + 1) (set z so.rows m) heads') (sym es)
              (subst (λ (z : List ℕ). Marks r (t + 1) (so.rows + 1) (set (linked_marks b (so.rows + 1) scratch) so.rows m) z) (sym eh)
              (marks-new r t so.rows scratch heads p.marks m b some few mt mp mz mc h n));
        }

-- Where a next row would go there is room, in the rows and among the marks.
pub record Within (r : RawLists) (t : ℕ) (so : Extent) (rows : List (List ℕ)) (scratch : List ℕ) : Type 0 where
  pub turn : t < max_thresholds
  pub few : so.rows ≤ t
  pub row : so.rows < length rows
  pub word : so.rows < length scratch

pub within : (r : RawLists) (t : ℕ) (so : Extent) (cs ws : List ℕ) (rows : List (List ℕ)) (scratch heads : List ℕ) → Ready r cs ws rows scratch → Placing r t so cs ws scratch heads
    → t < length r.thresholds → Within r t so rows scratch
within r t so cs ws rows scratch heads q p h =
    let few = marks_few r t so.rows scratch heads p.marks in
    let many = q.lists.many in
    let row = q.many in
    let word = q.words in
    record { turn = omega arith; few = few; row = omega arith; word = omega arith }

-- ---- rows and nodes

pub rows_old : (r : RawLists) (t : ℕ) (rows : List (List ℕ)) → row_to r t < length (raws_to r t) → rows ≡ rows_next r t rows
unfolding rows_next
rows_old r t rows h =
    sym (ap (λ (b : Bool). cond b rows (set rows (length (raws_to r t)) (row_entry (length (join_all (terms_to r (t + 1))))))) (lt-ltb (row_to r t) (length (raws_to r t)) h))

pub rows_new : (r : RawLists) (t : ℕ) (rows : List (List ℕ)) (n e : ℕ) → row_to r t ≡ length (raws_to r t) → n ≡ length (raws_to r t) → e ≡ length (join_all (terms_to r (t + 1)))
    → set rows n (row_entry e) ≡ rows_next r t rows
unfolding rows_next
rows_new r t rows n e h p q =
    ap₂ (λ (n e : ℕ). set rows n (row_entry e)) p q
    ∙ sym (ap (λ (b : Bool). cond b rows (set rows (length (raws_to r t)) (row_entry (length (join_all (terms_to r (t + 1))))))) (le-ltb (row_to r t) (length (raws_to r t)) (omega arith)))

ends_new : (r : RawLists) (t : ℕ) → row_to r t ≡ length (raws_to r t) → row_ends r (t + 1) ≡ row_ends r t ++ (row_entry (length (join_all (terms_to r (t + 1)))) ∷ [])
ends_new r t h =
    let e : 0 + length (join_all (terms_to r t)) + length (row_terms (list_at r t)) ≡ length (join_all (terms_to r (t + 1))) = let q = long-new r t h in omega arith in
    ap (λ (ls : List (List Term)). map row_entry (ends 0 ls)) (terms-new r t h) ∙ ap (map row_entry) (ends-one 0 (terms_to r t) (row_terms (list_at r t)))
    ∙ map-append row_entry (ends 0 (terms_to r t)) ((0 + length (join_all (terms_to r t)) + length (row_terms (list_at r t))) ∷ [])
    ∙ ap (λ (k : ℕ). row_ends r t ++ (row_entry k ∷ [])) e

pub row_ends_long : (r : RawLists) (t : ℕ) → length (row_ends r t) ≡ length (raws_to r t)
row_ends_long r t = length-map (ends 0 (terms_to r t)) row_entry ∙ length-ends 0 (terms_to r t) ∙ length-map (raws_to r t) (λ (l : List Term). row_terms l)

pub rows_next_lem : (r : RawLists) (t : ℕ) (rows₀ rows rows' : List (List ℕ)) → length (raws_to r t) < length rows₀ → rows ≡ over (row_ends r t) rows₀ → rows' ≡ rows_next r t rows
    → rows' ≡ over (row_ends r (t + 1)) rows₀
rows_next_lem r t rows₀ rows rows' h e s = by (ltb (row_to r t) (length (raws_to r t))) refl
  where
    by : (b : Bool) → ltb (row_to r t) (length (raws_to r t)) ≡ b → rows' ≡ over (row_ends r (t + 1)) rows₀
    by true q =
        let g = ltb-true (row_to r t) (length (raws_to r t)) q in
        s ∙ sym (rows_old r t rows g) ∙ e ∙ ap (λ (ls : List (List Term)). over (map row_entry (ends 0 (map (λ (l : List Term). row_terms l) ls))) rows₀) (sym (raws_old r t g))
    by false q =
        let g = ltb-false (row_to r t) (length (raws_to r t)) q in
        let m = number_most (raws_to r t) (list_at r t) in
        let i : row_to r t ≡ length (raws_to r t) = omega arith in
        let v = row_entry (length (join_all (terms_to r (t + 1)))) in
        s ∙ sym (rows_new r t rows (length (raws_to r t)) (length (join_all (terms_to r (t + 1)))) i refl refl)
        ∙ ap (λ (l : List (List ℕ)). set l (length (raws_to r t)) v) e
        ∙ over-one (row_ends r t) rows₀ (length (raws_to r t)) v (row_ends_long r t) h
        ∙ ap (λ (l : List (List ℕ)). over l rows₀) (sym (ends_new r t i))

pub nodes_next_lem : (r : RawLists) (t : ℕ) (nodes₀ nodes nodes' : List (List ℕ)) → nodes ≡ nodes_to r nodes₀ t → nodes' ≡ nodes_next r t nodes → nodes' ≡ nodes_to r nodes₀ (t + 1)
unfolding nodes_to
nodes_next_lem r t nodes₀ nodes nodes' e s = s ∙ ap (λ (l : List (List ℕ)). nodes_next r t l) e ∙ sym (ap (nodes_to r nodes₀) (add-one t))

-- ---- before the first

pub placing_start : (r : RawLists) (cs ws scratch heads : List ℕ) → Blank cs → Blank ws → Blank scratch → Blank heads → class_count ≤ length heads
    → Placing r 0 (extent 0 0) cs ws scratch heads
unfolding raws_to join_all
placing_start r cs ws scratch heads a b c d l = record {
  end = refl;
  terms = record { conditions = blank cs a; weights = blank ws b };
  marks = record {
    many = refl;
    marked = record { first = λ k h. absurd (omega arith); print = λ k h. absurd (omega arith) };
    named = refl;
    clear = blank scratch c;
    treed = treed_none r (take 0 scratch) heads refl l d;
  };
}
  where
    blank : (l : List ℕ) → Blank l → l ≡ replicate (length l - 0) 0
    blank l e = e ∙ ap (λ (n : ℕ). replicate n 0) (let u : length l ≡ length l - 0 = omega arith in u)

pub rows_start : (r : RawLists) (rows : List (List ℕ)) → rows ≡ over (row_ends r 0) rows
unfolding raws_to ends
rows_start r rows = refl

pub nodes_start : (r : RawLists) (nodes : List (List ℕ)) → nodes ≡ nodes_to r nodes 0
unfolding nodes_to
nodes_start r nodes = refl

-- ---- lengths of the buffers in the loop

pub record Same (cs ws : List ℕ) (rs ns : List (List ℕ)) (sc hs cs' ws' : List ℕ) (rs' ns' : List (List ℕ)) (sc' hs' : List ℕ) : Type 0 where
  pub row-conditions : length cs' ≡ length cs
  pub row-weights : length ws' ≡ length ws
  pub rows : length rs' ≡ length rs
  pub nodes : length ns' ≡ length ns
  pub scratch : length sc' ≡ length sc
  pub heads : length hs' ≡ length hs

pub ready_by : (r : RawLists) (cs ws : List ℕ) (rows : List (List ℕ)) (scratch cs' ws' : List ℕ) (rows' : List (List ℕ)) (scratch' : List ℕ)
    → length cs' ≡ length cs → length ws' ≡ length ws → length rows' ≡ length rows → length scratch' ≡ length scratch → Ready r cs ws rows scratch → Ready r cs' ws' rows' scratch'
ready_by r cs ws rows scratch cs' ws' rows' scratch' a b c d q =
    let q1 = q.room in
    let q2 = q.even in
    let q3 = q.many in
    let q4 = q.words in
    record { lists = q.lists; below = q.below; few = q.few; room = omega arith; even = omega arith; many = omega arith; words = omega arith }

-- ---- after the last

pub placed_end : (r : RawLists) (t n : ℕ) (so : Extent) (cs ws scratch heads : List ℕ) (rows₀ rows nodes₀ nodes : List (List ℕ)) → t ≡ n
    → Placing r t so cs ws scratch heads → rows ≡ over (row_ends r t) rows₀ → nodes ≡ nodes_to r nodes₀ t
    → Placing r n so cs ws scratch heads × (rows ≡ over (row_ends r n) rows₀) × (nodes ≡ nodes_to r nodes₀ n)
placed_end r t n so cs ws scratch heads rows₀ rows nodes₀ nodes e p q s =
    (subst (λ (n : ℕ). Placing r n so cs ws scratch heads) e p, q ∙ ap (λ (n : ℕ). over (row_ends r n) rows₀) e, s ∙ ap (nodes_to r nodes₀) e)
