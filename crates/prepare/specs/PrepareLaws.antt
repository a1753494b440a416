-- The steps of `prepare` joined: what each asks follows from what the ones before it left, and at the end stand the rows of the job.
use Rattle.std.specs.Prelude.{ℕ, ◌-◌, ◌%◌, ◌<◌, ◌≤◌, ◌≡◌, refl, List, [], ◌∷◌, ◌++◌, map, length, get_or, take, drop, replicate, ℤ}
use Rattle.std.proofs.Common.{arith, sym, ap, ap₂, ◌∙◌, subst, length-take-le, take_at, drop_at}
use Rattle.std.proofs.Math.Decide.{dec_lt}
use Rattle.std.proofs.lemmas.List.{length-map, length-replicate}
use Rattle.std.proofs.Math.ListN.{get_or-eq_default}
use Rattle.thresholds.specs.Tree.{class_count}
use Rattle.memory.specs.Limits.{max_thresholds}
use Rattle.base.specs.Laid.{over, join_all, ends, triples, numbers}
use Rattle.base.specs.Deal.{Keyed, grouped}
use Rattle.base.specs.Columns.{column, with_column, Wide}
use Rattle.base.specs.ColumnsLaws.{length_with, column_beside, with_middle, with_last}
use Rattle.numeric.specs.Threshold.{Term, Job}
use Rattle.row.specs.Keys.{conditions_of, weights_of}
use Rattle.sort.specs.Sorted.{sorted}
use Rattle.sort.specs.Runs.{cleared}
use Rattle.memory.specs.Buffers.{RawLists, Built, held_rows, built}
use Rattle.rows.specs.Lists.{list_at}
use Rattle.base.specs.Parts.{stretch}
use Rattle.rows.specs.Rows.{Row, row_number}
use Rattle.rows.specs.Laid.{conditions, weights, term_lists, guard_lists, guard_bounds_of, guard_nodes_of, threshold_of, row_of_node, edge_lists, edge_row}
use Rattle.rows.specs.Guards.{row_at, NodesIn, guard_keys, bound_items, node_items}
use Rattle.job.specs.Incidents.{held_items}
use Rattle.thresholds.specs.Placed.{Marks}
use Rattle.job.specs.Shared.{terms_to, row_entry}
use Rattle.base.specs.LaidLaws.{length-numbers}
use Rattle.placing.specs.declared.Extent.{Extent}
use Rattle.job.specs.Given.{given, given_rows, given_job}
use Rattle.job.specs.JobBuffers.{node_entries, built_with}
use Rattle.job.specs.JobBuffersLaws.{nodes_long}
use Rattle.placing.specs.Place.{Ready, Blank, row_ends}
use Rattle.placing.specs.PlaceLaws.{row_ends_long, raws_few}
use Rattle.prepare.specs.Prepare.{Sound, Ample, Prepared, Placeable, Rowed, Dealable, Guarded, Indexable, Edged}
use Rattle.prepare.specs.PreparePartsLaws.{blank-take, blank-drop, cleared_back, over_long, over_all, tail_long, tail_blank, keys_front, keys_behind}
use Rattle.job.specs.RowsGivenLaws.{terms-given, rows-given}
use Rattle.job.specs.RowsGivenLaidLaws.{length-ends, entries-ends, entries_clear, entries_wide}
use Rattle.job.specs.RowsGivenHeldLaws.{held_ends, held_even, held_keys}
use Rattle.job.specs.RowsGivenTermsLaws.{conditions-given, terms-most}
use Rattle.prepare.specs.EdgesGivenLaws.{edges_joined, edges_ends}
use Rattle.job.specs.NodesGivenLaws.{length_nodes, nodes_given, nodes_clear, nodes_wide, nodes_row-at}
use Rattle.prepare.specs.GuardOrderLaws.{order_length, order_names, order_rows, guard-ends, joined_bounds, joined_nodes}

-- ---- placing, in parts of the buffers

pub open_ready : (r : RawLists) (cs ws : List ℕ) (rows nodes : List (List ℕ)) (scratch heads : List ℕ) → Placeable r cs ws rows nodes scratch heads
    → Ready r (take (length r.raw-conditions) cs) (take (length r.raw-conditions) ws) rows (stretch max_thresholds (length scratch) scratch)
    × NodesIn r.thresholds nodes × Blank (take (length r.raw-conditions) cs) × Blank (take (length r.raw-conditions) ws) × Blank (stretch max_thresholds (length scratch) scratch)
    × Blank heads × (class_count ≤ length heads)
open_ready r cs ws rows nodes scratch heads o =
    let lc = length-take-le (length r.raw-conditions) cs o.conditions in
    let lw = length-take-le (length r.raw-conditions) ws o.weights in
    let ls = tail_long scratch max_thresholds in
    let w = o.words in (
      record { lists = o.lists; below = o.below; few = o.few; room = omega arith; even = omega arith; many = o.many; words = omega arith },
      o.inside,
      blank-take (length r.raw-conditions) cs o.conditions_clear o.conditions,
      blank-take (length r.raw-conditions) ws o.weights_clear o.weights,
      tail_blank scratch max_thresholds o.words_clear,
      o.classes_clear,
      o.classes,
    )

-- Marks are zero again once their words are.
pub marks-cleared : (r : RawLists) (t rows : ℕ) (scratch scratch' heads : List ℕ) → Blank scratch → length scratch' ≡ length scratch → rows ≤ length scratch → Marks r t rows scratch' heads
    → cleared rows scratch' ≡ scratch
marks-cleared r t rows scratch scratch' heads b e h k =
    cleared_back rows scratch' scratch b h (k.clear ∙ ap (λ (n : ℕ). replicate (n - rows) 0) e ∙ sym (blank-drop rows scratch b))

-- ---- columns

entry-triples : (es : List ℕ) → map row_entry es ≡ triples es (replicate (length es) 0) (replicate (length es) 0)
unfolding triples
entry-triples [] = refl
entry-triples (e ∷ es) = ap (λ (t : List (List ℕ)). (e ∷ 0 ∷ 0 ∷ []) ∷ t) (entry-triples es)

-- ---- the job

module _ (r : RawLists) (bounds : List ℤ) (b : Built) (sc : List ℕ) (s : Sound r bounds (length b.nodes))
    (m : Ample (length r.raw-conditions) (length r.thresholds) b sc) where
  abbrev n : ℕ
  n = length r.thresholds

  abbrev rs : List Row
  rs = given_rows r bounds

  abbrev keys : List ℕ
  keys = sorted (guard_keys 0 bounds)

  few-bounds : length bounds ≤ max_thresholds
  few-bounds = let e = s.even in let h = s.lists.many in omega arith

  length_keys : length keys ≡ length bounds
  length_keys = order_length r bounds s.even few-bounds ∙ sym s.even

  below : (i : ℕ) → get_or r.raw-conditions i 0 < 4096
  below i = by (dec_lt i (length r.raw-conditions))
    where
      by : Dec (i < length r.raw-conditions) → get_or r.raw-conditions i 0 < 4096
      by (yes h) = let p = s.below i h in let q = s.few in omega arith
      by (no h) = let e = get_or-eq_default r.raw-conditions 0 {n = i} (omega arith) in omega arith

  -- The keys are sorted.
  module _ (ws₁ sc₁ : List ℕ) (ew : ws₁ ≡ b.held.row-weights) (es : sc₁ ≡ over keys sc) where
    long-words : length sc₁ ≡ length sc
    long-words = ap length es ∙ over_long keys sc (let k = length_keys in let h = few-bounds in let w = m.words in omega arith)

    pub opened : Placeable r b.held.row-conditions ws₁ b.held.rows b.nodes sc₁ b.held.guard_nodes
    opened = record {
      lists = s.lists;
      below = below;
      few = s.short;
      inside = s.inside;
      conditions = m.conditions;
      conditions_clear = m.conditions_clear;
      weights = subst (λ (l : List ℕ). length r.raw-conditions ≤ length l) (sym ew) m.weights;
      weights_clear = subst (λ (l : List ℕ). Blank l) (sym ew) m.weights_clear;
      many = m.rows;
      words = let e = long-words in let w = m.words in omega arith;
      words_clear = ap (drop max_thresholds) es ∙ keys_behind keys sc max_thresholds (let k = length_keys in let h = few-bounds in omega arith)
          ∙ blank-drop max_thresholds sc m.words_clear ∙ ap (λ (k : ℕ). replicate (k - max_thresholds) 0) (sym long-words);
      classes = m.guards;
      classes_clear = m.guards_clear;
    }

    -- The rows are placed.
    module _ (so : Extent) (cs₁ ws₂ : List ℕ) (rows₁ nodes₁ : List (List ℕ)) (sc₂ gn₁ : List ℕ)
        (q : Rowed r so b.held.row-conditions ws₁ b.held.rows b.nodes cs₁ ws₂ rows₁ nodes₁) (et : sc₂ ≡ sc₁) (eg : gn₁ ≡ b.held.guard_nodes) where
      abbrev k : ℕ
      k = so.rows

      abbrev E : List (List ℕ)
      E = row_ends r n

      many : k ≡ length rs
      many = q.many ∙ rows-given r bounds

      few_rows : k ≤ n
      few_rows = let u = raws_few r n in let e = q.many in omega arith

      long-E : length E ≡ k
      long-E = row_ends_long r n ∙ sym q.many

      keys-there : take (length bounds) sc₂ ≡ keys
      keys-there = ap (take (length bounds)) (et ∙ es) ∙ keys_front keys sc (length bounds) length_keys

      front : take k rows₁ ≡ E
      front = ap (take k) q.entries ∙ take_at E (drop (length E) b.held.rows) k long-E

      long-rows : length rows₁ ≡ length b.held.rows
      long-rows = ap length q.entries ∙ over_long E b.held.rows (let a = long-E in let c = few_rows in let d = m.rows in omega arith)

      long-nodes : length nodes₁ ≡ length b.nodes
      long-nodes = ap length q.named ∙ length_nodes r b.nodes n

      row-at : (t : ℕ) → t < n → row_at r.thresholds nodes₁ t ≡ row_number rs (list_at r t)
      row-at t h =
          ap (λ (l : List (List ℕ)). row_at r.thresholds l t) q.named ∙ nodes_row-at r bounds b.nodes (length b.nodes) m.nodes_clear s.inside s.rising t h

      wide-E : Wide 1 E
      wide-E i h = let q = entries_wide (ends 0 (terms_to r n)) i h in omega arith

      clear-E : column 1 E ≡ replicate (length E) 0
      clear-E = (entries_clear (ends 0 (terms_to r n))).0 ∙ ap (λ (k : ℕ). replicate k 0) (sym (length-map (ends 0 (terms_to r n)) row_entry))

      long-front : length rs ≡ length (take k rows₁)
      long-front = sym (ap length front ∙ long-E ∙ many)

      dealt : Dealable r.thresholds bounds nodes₁ (take (length bounds) sc₂) (take k rows₁)
      dealt = record {
        even = s.even;
        inside = λ t h. let p = s.inside t h in let q = long-nodes in omega arith;
        wide = subst (λ (l : List (List ℕ)). Wide 1 l) (sym front) wide-E;
        names = subst (λ (l : List ℕ). (i : ℕ) → i < length l → get_or l i 0 % max_thresholds < length r.thresholds) (sym keys-there) (order_names r bounds s.even few-bounds);
        placed = subst (λ (l : List ℕ). (i : ℕ) → i < length l → row_at r.thresholds nodes₁ (get_or l i 0 % max_thresholds) < length (take k rows₁)) (sym keys-there)
            (subst (λ (j : ℕ). (i : ℕ) → i < length keys → row_at r.thresholds nodes₁ (get_or keys i 0 % max_thresholds) < j) long-front (order_rows r bounds s.even few-bounds nodes₁ row-at));
        clear = subst (λ (l : List (List ℕ)). column 1 l ≡ replicate (length l) 0) (sym front) clear-E;
        few = few-bounds;
      }

      pub guards_ready : (so.rows ≤ length rows₁) × (length bounds ≤ length b.held.guard_bounds) × (length bounds ≤ length gn₁) × (length bounds ≤ length sc₂)
          × Dealable r.thresholds bounds nodes₁ (take (length bounds) sc₂) (take so.rows rows₁)
      guards_ready =
          let a = few_rows in
          let c = m.rows in
          let d = long-rows in
          let e = s.even in
          let f = m.bounds in
          let g = m.guards in
          let h = few-bounds in
          let i = m.words in
          let j = ap length et in
          let k = ap length eg in
          let l = long-words in
          (omega arith, omega arith, omega arith, omega arith, dealt)

      -- The guards are dealt.
      module _ (rows₂ : List (List ℕ)) (gb : List ℤ) (gn sc₃ : List ℕ)
          (f : Guarded r.thresholds bounds nodes₁ (take (length bounds) sc₂) so.rows rows₁ b.held.guard_bounds gn₁ rows₂ gb gn)
          (fs : sc₃ ≡ cleared (length bounds) sc₂) where
        abbrev guard_ends : List ℕ
        guard_ends = ends 0 (grouped 0 k (bound_items r.thresholds nodes₁ bounds (take (length bounds) sc₂)))

        front₂ : take k rows₂ ≡ with_column 1 (take k rows₁) guard_ends
        front₂ = ap (take k) f.entries ∙ take_at (with_column 1 (take k rows₁) guard_ends) (drop k rows₁) k (length_with 1 (take k rows₁) guard_ends ∙ ap length front ∙ long-E)

        cs-held : take so.end cs₁ ≡ conditions (join_all (term_lists rs))
        cs-held =
            ap (take so.end) q.conditions
            ∙ take_at (conditions_of (join_all (terms_to r n))) (drop (length (conditions_of (join_all (terms_to r n)))) b.held.row-conditions) so.end
            (length-map (join_all (terms_to r n)) (λ (t : Term). t.condition) ∙ sym q.end)
            ∙ ap (λ (ls : List (List Term)). conditions (join_all ls)) (terms-given r bounds)

        ws-held : take so.end ws₂ ≡ weights (join_all (term_lists rs))
        ws-held =
            ap (take so.end) q.weights
            ∙ take_at (weights_of (join_all (terms_to r n))) (drop (length (weights_of (join_all (terms_to r n)))) ws₁) so.end
            (length-map (join_all (terms_to r n)) (λ (t : Term). t.weight) ∙ sym q.end)
            ∙ ap (λ (ls : List (List Term)). weights (join_all ls)) (terms-given r bounds)

        rows-held : column 0 (take k rows₂) ≡ ends 0 (term_lists rs)
        rows-held =
            ap (column 0) front₂ ∙ column_beside 1 0 (take k rows₁) guard_ends (λ e. omega arith) ∙ ap (column 0) front
            ∙ entries-ends (ends 0 (terms_to r n)) ∙ ap (ends 0) (terms-given r bounds)

        end_is : so.end ≡ length (join_all (term_lists rs))
        end_is = q.end ∙ ap (λ (ls : List (List Term)). length (join_all ls)) (terms-given r bounds)

        end-few : so.end ≤ length r.raw-conditions
        end-few = let p = end_is in let q = terms-most r bounds s.lists in omega arith

        long-cs : length (take so.end cs₁) ≡ so.end
        long-cs = ap length cs-held ∙ length-map (join_all (term_lists rs)) (λ (t : Term). t.condition) ∙ sym end_is

        indexed : Indexable (take so.end cs₁) (take so.end ws₂) (take k rows₂) nodes₁ b.edges
        indexed = record {
          inside = held_ends (take so.end cs₁) (take so.end ws₂) (take k rows₂) (term_lists rs) cs-held ws-held rows-held;
          even = held_even (take so.end cs₁) (take so.end ws₂) (take k rows₂) (term_lists rs) cs-held ws-held rows-held;
          keys = held_keys (take so.end cs₁) (take so.end ws₂) (take k rows₂) (term_lists rs) cs-held ws-held rows-held;
          short = let p = long-cs in let q = end-few in let h = s.short in omega arith;
          room = let p = long-cs in let q = end-few in let h = m.edges in omega arith;
          below = λ i h. let p = conditions-given r bounds (length b.nodes) (take so.end cs₁) cs-held s.below i h in let q = long-nodes in omega arith;
          wide = subst (λ (l : List (List ℕ)). Wide 2 l) (sym q.named) (nodes_wide r bounds b.nodes (length b.nodes) m.nodes_clear s.inside s.rising);
          clear = ap (column 2) q.named ∙ nodes_clear r bounds b.nodes (length b.nodes) m.nodes_clear s.inside s.rising ∙ ap (λ (k : ℕ). replicate k 0) (sym long-nodes);
        }

        long-conditions : length cs₁ ≡ length b.held.row-conditions
        long-conditions =
            ap length q.conditions ∙ over_long (conditions_of (join_all (terms_to r n))) b.held.row-conditions
            (let p = length-map (join_all (terms_to r n)) (λ (t : Term). t.condition) in let u = end-few in let e = q.end in let h = m.conditions in omega arith)

        long-weights : length ws₂ ≡ length b.held.row-weights
        long-weights =
            ap length (q.weights ∙ ap (over (weights_of (join_all (terms_to r n)))) ew) ∙ over_long (weights_of (join_all (terms_to r n))) b.held.row-weights
            (let p = length-map (join_all (terms_to r n)) (λ (t : Term). t.weight) in let u = end-few in let e = q.end in let h = m.weights in omega arith)

        rows_fit : (rows : List (List ℕ)) → length rows ≡ length rows₁ → so.rows ≤ length rows
        rows_fit rows e = let a = few_rows in let c = m.rows in let d = long-rows in omega arith

        pub edges_ready : length rows₂ ≡ length rows₁ → (so.end ≤ length cs₁) × (so.end ≤ length ws₂) × (so.rows ≤ length rows₂)
            × Indexable (take so.end cs₁) (take so.end ws₂) (take so.rows rows₂) nodes₁ b.edges
        edges_ready e =
            let a = long-conditions in
            let c = long-weights in
            let d = end-few in
            let f = m.conditions in
            let g = m.weights in
            (omega arith, omega arith, rows_fit rows₂ e, indexed)

        ends-given : guard_ends ≡ ends 0 (guard_lists rs)
        ends-given =
            ap₂ (λ (k : ℕ) (ks : List ℕ). ends 0 (grouped 0 k (bound_items r.thresholds nodes₁ bounds ks))) many keys-there
            ∙ guard-ends r bounds s.even few-bounds nodes₁ row-at s.bounded s.rising

        bounds-given : join_all (grouped 0 k (bound_items r.thresholds nodes₁ bounds (take (length bounds) sc₂))) ≡ guard_bounds_of rs
        bounds-given =
            ap₂ (λ (k : ℕ) (ks : List ℕ). join_all (grouped 0 k (bound_items r.thresholds nodes₁ bounds ks))) many keys-there
            ∙ joined_bounds r bounds s.even few-bounds nodes₁ row-at s.bounded s.rising

        guards-given : join_all (grouped 0 k (node_items r.thresholds nodes₁ (take (length bounds) sc₂))) ≡ guard_nodes_of rs
        guards-given =
            ap₂ (λ (k : ℕ) (ks : List ℕ). join_all (grouped 0 k (node_items r.thresholds nodes₁ ks))) many keys-there
            ∙ joined_nodes r bounds s.even few-bounds nodes₁ row-at s.bounded s.rising

        long-termEnds : length (ends 0 (term_lists rs)) ≡ length rs
        long-termEnds = length-ends 0 (term_lists rs) ∙ length-map rs (λ (w : Row). w.terms)

        long-guardEnds : length (ends 0 (guard_lists rs)) ≡ length rs
        long-guardEnds = length-ends 0 (guard_lists rs) ∙ length-map rs (λ (w : Row). w.guards)

        abbrev row_words : List (List ℕ)
        row_words = triples (ends 0 (term_lists rs)) (ends 0 (guard_lists rs)) (replicate (length rs) 0)

        rows-front : with_column 1 (take k rows₁) guard_ends ≡ row_words
        rows-front =
            ap₂ (with_column 1) (front ∙ ap (λ (ls : List (List Term)). map row_entry (ends 0 ls)) (terms-given r bounds)) ends-given
            ∙ ap (λ (l : List (List ℕ)). with_column 1 l (ends 0 (guard_lists rs))) (entry-triples (ends 0 (term_lists rs)))
            ∙ with_middle (ends 0 (term_lists rs)) (replicate (length (ends 0 (term_lists rs))) 0) (replicate (length (ends 0 (term_lists rs))) 0) (ends 0 (guard_lists rs))
            (length-replicate (length (ends 0 (term_lists rs))) 0) (length-replicate (length (ends 0 (term_lists rs))) 0) (long-guardEnds ∙ sym long-termEnds)
            ∙ ap (λ (k : ℕ). triples (ends 0 (term_lists rs)) (ends 0 (guard_lists rs)) (replicate k 0)) long-termEnds

        long-rowWords : length row_words ≡ length rs
        long-rowWords = ap length (sym rows-front) ∙ length_with 1 (take k rows₁) guard_ends ∙ sym long-front

        rows_behind : drop k rows₁ ≡ drop (length row_words) b.held.rows
        rows_behind =
            ap (drop k) q.entries ∙ drop_at E (drop (length E) b.held.rows) k long-E ∙ ap (λ (k : ℕ). drop k b.held.rows) (long-E ∙ many ∙ sym long-rowWords)

        words_back : sc₃ ≡ sc
        words_back =
            fs ∙ cleared_back (length bounds) sc₂ sc m.words_clear (let h = few-bounds in let w = m.words in omega arith)
            (ap (drop (length bounds)) (et ∙ es) ∙ keys_behind keys sc (length bounds) (let l = length_keys in omega arith))

        -- The edges are listed: THE WHOLE.
        module _ (nodes₂ edges₁ : List (List ℕ))
            (g : Edged (held_items (take so.end cs₁) (take so.end ws₂) (take so.rows rows₂)) nodes₁ b.edges nodes₂ edges₁) where
          abbrev j : ℕ
          j = length b.nodes

          abbrev held : List (Keyed (List ℕ))
          held = held_items (take so.end cs₁) (take so.end ws₂) (take k rows₂)

          edge-ends : ends 0 (grouped 0 (length nodes₁) held) ≡ ends 0 (edge_lists j rs)
          edge-ends =
              ap (λ (k : ℕ). ends 0 (grouped 0 k held)) long-nodes ∙ edges_ends j (take so.end cs₁) (take so.end ws₂) (take k rows₂) rs cs-held ws-held rows-held

          edge-words : join_all (grouped 0 (length nodes₁) held) ≡ map edge_row (join_all (edge_lists j rs))
          edge-words =
              ap (λ (k : ℕ). join_all (grouped 0 k held)) long-nodes ∙ edges_joined j (take so.end cs₁) (take so.end ws₂) (take k rows₂) rs cs-held ws-held rows-held

          long-mapped : (f : ℕ → ℕ) → length (map f (numbers 0 j)) ≡ j
          long-mapped f = length-map (numbers 0 j) f ∙ length-numbers 0 j

          long-edgeEnds : length (ends 0 (edge_lists j rs)) ≡ j
          long-edgeEnds = length-ends 0 (edge_lists j rs) ∙ length-map (numbers 0 j) _ ∙ length-numbers 0 j

          abbrev job : Job
          job = given_job r bounds j

          conditions-is : cs₁ ≡ over (conditions (join_all (term_lists rs))) b.held.row-conditions
          conditions-is = q.conditions ∙ ap (λ (ls : List (List Term)). over (conditions (join_all ls)) b.held.row-conditions) (terms-given r bounds)

          weights-is : ws₂ ≡ over (weights (join_all (term_lists rs))) b.held.row-weights
          weights-is = q.weights ∙ ap₂ (λ (ls : List (List Term)) (l : List ℕ). over (weights (join_all ls)) l) (terms-given r bounds) ew

          rows_is : rows₂ ≡ over row_words b.held.rows
          rows_is = f.entries ∙ ap₂ (λ (x y : List (List ℕ)). x ++ y) rows-front rows_behind

          bounds-is : gb ≡ over (guard_bounds_of rs) b.held.guard_bounds
          bounds-is = f.limits ∙ ap (λ (l : List ℤ). over l b.held.guard_bounds) bounds-given

          guards-is : gn ≡ over (guard_nodes_of rs) b.held.guard_nodes
          guards-is = f.names ∙ ap₂ (λ (l v : List ℕ). over l v) guards-given eg

          long-seconds : length (map (row_of_node rs (given r bounds)) (numbers 0 j)) ≡ length (map (threshold_of 0 (given r bounds)) (numbers 0 j))
          long-seconds = long-mapped (row_of_node rs (given r bounds)) ∙ sym (long-mapped (threshold_of 0 (given r bounds)))

          long-thirds : length (ends 0 (edge_lists j rs)) ≡ length (map (threshold_of 0 (given r bounds)) (numbers 0 j))
          long-thirds = long-edgeEnds ∙ sym (long-mapped (threshold_of 0 (given r bounds)))

          nodes-are : nodes₂ ≡ node_entries job
          nodes-are =
              g.entries ∙ ap₂ (with_column 2) (q.named ∙ nodes_given r bounds b.nodes j m.nodes_clear s.inside s.rising) edge-ends
              ∙ with_last (map (threshold_of 0 (given r bounds)) (numbers 0 j)) (map (row_of_node rs (given r bounds)) (numbers 0 j)) (replicate j 0) (ends 0 (edge_lists j rs))
              long-seconds (length-replicate j 0 ∙ sym (long-mapped (threshold_of 0 (given r bounds)))) long-thirds

          nodes-is : nodes₂ ≡ over (node_entries job) b.nodes
          nodes-is = nodes-are ∙ sym (over_all (node_entries job) b.nodes (nodes_long job))

          edges-is : edges₁ ≡ over (map edge_row (join_all (edge_lists j rs))) b.edges
          edges-is = g.listed ∙ ap (λ (l : List (List ℕ)). over l b.edges) edge-words

          pub prepared : Prepared r bounds so b (built (held_rows cs₁ ws₂ rows₂ gb gn) nodes₂ edges₁ b.links) × (sc₃ ≡ sc)
          unfolding built_with
          prepared = (
            record {
              many = many;
              end = end_is;
              left = λ i. built (held_rows (conditions-is i) (weights-is i) (rows_is i) (bounds-is i) (guards-is i)) (nodes-is i) (edges-is i) b.links;
            },
            words_back,
          )
