-- What `prepare` leaves of a gathered job, then the links: every word as its definition gives it.
use Rattle.std.specs.Prelude.{ℕ, zero, suc, ◌≤◌, ◌≡◌, List, [], ◌∷◌, ◌++◌, length, take, replicate, ℤ}
use Rattle.std.proofs.Common.{not-suc-le-zero, arith, sym, ap₂, ◌∙◌, subst, append-nil, length-take-le, take_at, drop_at}
use Rattle.std.proofs.Math.Path.{ap}
use Rattle.std.proofs.Math.ListN.{drop}
use Rattle.std.proofs.lemmas.List.{length-map, length-replicate}
use Rattle.memory.specs.Limits.{max_thresholds, max_links}
use Rattle.memory.specs.Buffers.{Built, held_rows, built}
use Rattle.base.specs.Laid.{over, join_all, ends, triples}
use Rattle.base.specs.Columns.{column, with_column, Wide}
use Rattle.base.specs.ColumnsLaws.{with_last}
use Rattle.numeric.specs.Threshold.{Job}
use Rattle.rows.specs.Rows.{Row, rows_of}
use Rattle.rows.specs.Laid.{conditions, weights, term_lists, guard_lists}
use Rattle.row_order.specs.Held.{Held, rows_held, Linkable}
use Rattle.links.specs.Links.{neighbour_lists}
use Rattle.links.specs.Neighbours as Neighbours
use Rattle.prepare.specs.PreparePartsLaws.{over_long, over_part}
use Rattle.placing.specs.PlaceLaws.{raws_few}
use Rattle.job.specs.Given.{given_job}
use Rattle.job.specs.RowsGivenLaws.{rows-given}
use Rattle.prepare.specs.RowsGivenLinksLaws.{held_given, neighbours-given}
use Rattle.job.specs.JobBuffers.{row_entries, node_entries, built_with, built_of}
use Rattle.job.specs.NodesGivenLaws.{triples_columns}
use Rattle.job.specs.JobBuffersLaws.{guards_even, rows_even, entries_long, nodes_long, neighbours_long}
use Rattle.prepare.specs.Prepare.{Prepared, unlinked_of}
use Rattle.placing.specs.declared.Extent.{Extent}
use Rattle.records.specs.declared.Standing.{Standing}
use Rattle.job.specs.Gathered.{cut, job_in}
use Rattle.build.specs.Built.{Roomy, Spare}

triples_wide : (xs ys zs : List ℕ) → Wide 2 (triples xs ys zs)
unfolding triples
triples_wide [] ys zs i h = absurd (not-suc-le-zero h)
triples_wide (x ∷ xs) [] zs i h = absurd (not-suc-le-zero h)
triples_wide (x ∷ xs) (y ∷ ys) [] i h = absurd (not-suc-le-zero h)
triples_wide (x ∷ xs) (y ∷ ys) (z ∷ zs) zero h = omega arith
triples_wide (x ∷ xs) (y ∷ ys) (z ∷ zs) (suc i) h = triples_wide xs ys zs i (omega arith)

-- ---- what `prepare` leaves, the nodes put back behind those of the job

module _ (k : Standing) (cs ws : List ℕ) (ts : List (List ℕ)) (bs : List ℤ) (b : Built) (inside : k.nodes ≤ length b.nodes) (so : Extent) (a : Built)
    (p : Prepared (cut k cs ws ts) (take k.thresholds bs) so (built b.held (take k.nodes b.nodes) b.edges b.links) a) where
  abbrev all : Job
  all = job_in k cs ws ts bs

  abbrev part : Built
  part = built b.held (take k.nodes b.nodes) b.edges b.links

  left : a ≡ unlinked_of all part
  left =
      p.left
      ∙ ap (λ (n : ℕ). unlinked_of (given_job (cut k cs ws ts) (take k.thresholds bs) n) part) (length-take-le k.nodes b.nodes inside)

  nodes-left : a.nodes ++ drop k.nodes b.nodes ≡ over (node_entries all) b.nodes
  unfolding built_with
  nodes-left =
      ap (λ (x : Built). x.nodes ++ drop k.nodes b.nodes) left
      ∙ over_part (node_entries all) b.nodes k.nodes (let e = nodes_long all in omega (arith, e)) inside

  pub unlinked : built a.held (a.nodes ++ drop k.nodes b.nodes) a.edges a.links ≡ unlinked_of all b
  unfolding built_with
  unlinked = λ i. built (left i).held (nodes-left i) (left i).edges (left i).links

  -- There are no more rows than thresholds.
  pub rows_few : length (rows_of all) ≤ length (take k.thresholds ts)
  rows_few = let e = rows-given (cut k cs ws ts) (take k.thresholds bs) in let r = raws_few (cut k cs ws ts) (length (take k.thresholds ts)) in omega (arith, e, r)

-- ---- the links

module _ (j : Job) (count : ℕ) (b a : Built) (h : Roomy b) (many : count ≡ length (rows_of j)) (few : count ≤ max_thresholds)
    (u : a ≡ unlinked_of j (built b.held b.nodes b.edges [])) where
  abbrev rs : List Row
  rs = rows_of j

  abbrev zeros : List ℕ
  zeros = replicate (length rs) 0

  abbrev plain : List (List ℕ)
  plain = row_entries j zeros

  abbrev linked : List (List ℕ)
  linked = row_entries j (ends 0 (neighbour_lists rs))

  rows_left : a.held.rows ≡ over plain b.held.rows
  unfolding built_with
  rows_left = ap (λ (x : Built). x.held.rows) u

  conditions-left : a.held.row-conditions ≡ over (conditions (join_all (term_lists rs))) b.held.row-conditions
  unfolding built_with
  conditions-left = ap (λ (x : Built). x.held.row-conditions) u

  weights-left : a.held.row-weights ≡ over (weights (join_all (term_lists rs))) b.held.row-weights
  unfolding built_with
  weights-left = ap (λ (x : Built). x.held.row-weights) u

  plain-long : length plain ≡ count
  plain-long = entries_long j zeros (length-replicate (length rs) 0) ∙ sym many

  linked_long : length linked ≡ count
  linked_long = entries_long j (ends 0 (neighbour_lists rs)) (neighbours_long rs) ∙ sym many

  -- the rows alone
  pub rows_cut : take count a.held.rows ≡ plain
  rows_cut = ap (take count) rows_left ∙ take_at plain (drop (length plain) b.held.rows) count plain-long

  rows_behind : drop count a.held.rows ≡ drop count b.held.rows
  rows_behind =
      ap (drop count) rows_left ∙ drop_at plain (drop (length plain) b.held.rows) count plain-long
      ∙ ap (λ (n : ℕ). drop n b.held.rows) plain-long

  columns : (column 0 plain ≡ ends 0 (term_lists rs)) × (column 1 plain ≡ ends 0 (guard_lists rs)) × (column 2 plain ≡ zeros)
  columns = triples_columns (ends 0 (term_lists rs)) (ends 0 (guard_lists rs)) zeros (guards_even j) (length-replicate (length rs) 0 ∙ sym (rows_even j))

  ends_there : column 0 plain ≡ ends 0 (term_lists rs) ++ []
  ends_there = columns.0 ∙ sym (append-nil (ends 0 (term_lists rs)))

  pub rows_inside : count ≤ length a.held.rows
  rows_inside =
      let p = plain-long in
      let l = h.rows in
      omega (arith, ap length rows_left ∙ over_long plain b.held.rows (omega (arith, p, l, few)), l, few)

  -- WHAT THE SEARCH FOR LINKS ASKS
  pub linkable : max_links ≤ length b.links → Linkable (take count a.held.rows) a.held.row-conditions a.held.row-weights b.links
  linkable room =
      subst (λ (l : List (List ℕ)). Linkable l a.held.row-conditions a.held.row-weights b.links) (sym rows_cut)
      (record {
        held =
            subst (Held plain a.held.row-conditions a.held.row-weights) (length-map rs (λ (r : Row). r.terms) ∙ sym many ∙ sym plain-long)
            (held_given a.held.row-conditions a.held.row-weights plain (term_lists rs) _ _ _ conditions-left weights-left ends_there);
        few = let p = plain-long in omega (arith, p, few);
        wide = triples_wide (ends 0 (term_lists rs)) (ends 0 (guard_lists rs)) zeros;
        clear = columns.2 ∙ ap (λ (n : ℕ). replicate n 0) (sym many ∙ sym plain-long);
        room = room;
      })

  module _ (rows : List (List ℕ)) (links₁ : List ℕ)
      (p : Neighbours.Prepared (rows_held (take count a.held.rows) a.held.row-conditions a.held.row-weights (length (take count a.held.rows))) (take count a.held.rows) b.links rows links₁) where
    same-links : neighbour_lists (rows_held (take count a.held.rows) a.held.row-conditions a.held.row-weights (length (take count a.held.rows))) ≡ neighbour_lists rs
    same-links =
        ap (λ (l : List (List ℕ)). neighbour_lists (rows_held l a.held.row-conditions a.held.row-weights (length l))) rows_cut
        ∙ ap (λ (n : ℕ). neighbour_lists (rows_held plain a.held.row-conditions a.held.row-weights n)) (plain-long ∙ many)
        ∙ neighbours-given a.held.row-conditions a.held.row-weights plain rs _ _ _ conditions-left weights-left ends_there

    rows-linked : rows ++ drop count a.held.rows ≡ over linked b.held.rows
    rows-linked =
        let even = rows_even j in
        ap₂ ◌++◌
        (p.ends ∙ ap₂ (λ (l ns : List (List ℕ)). with_column 2 l (ends 0 ns)) rows_cut same-links
        ∙ with_last (ends 0 (term_lists rs)) (ends 0 (guard_lists rs)) zeros (ends 0 (neighbour_lists rs)) (guards_even j) (length-replicate (length rs) 0 ∙ sym even) (neighbours_long rs ∙ sym even))
        (rows_behind ∙ ap (λ (n : ℕ). drop n b.held.rows) (sym linked_long))

    links-found : links₁ ≡ over (join_all (neighbour_lists rs)) b.links
    links-found = p.neighbours ∙ ap (λ (ns : List (List ℕ)). over (join_all ns) b.links) same-links

    -- EVERY WORD, THE LINKS TOO
    pub all_built : built (held_rows a.held.row-conditions a.held.row-weights (rows ++ drop count a.held.rows) a.held.guard_bounds a.held.guard_nodes) a.nodes a.edges links₁ ≡ built_of j b
    unfolding built_with
    all_built = λ i. built
        (held_rows (u i).held.row-conditions (u i).held.row-weights (rows-linked i) (u i).held.guard_bounds (u i).held.guard_nodes)
        (u i).nodes (u i).edges (links-found i)

-- ---- words of zeros

pub zeros_spare : Spare (replicate 3072 0)
zeros_spare =
    let l = length-replicate {A = ℕ} 3072 0 in
    record { words = omega (arith, l); words_clear = ap (λ (n : ℕ). replicate n 0) (sym l) }
