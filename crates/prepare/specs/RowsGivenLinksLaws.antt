-- The rows that the buffers hold are linked as the job's rows are: links look at terms only. In whole buffers, whatever stands behind.
use Rattle.std.specs.Prelude.{ℕ, ◌<◌, ◌≤◌, ◌≡◌, refl, List, ◌++◌, length}
use Rattle.std.proofs.Math.Decide.{dec_lt}
use Rattle.std.proofs.Common.{arith, sym, ap, ◌∙◌, subst, length-append}
use Rattle.std.proofs.lemmas.List.{length-map}
use Rattle.std.proofs.Math.ListN.{get_or-map, get_or-eq_default}
use Rattle.base.specs.Laid.{join_all, ends}
use Rattle.base.specs.Columns.{column}
use Rattle.base.specs.ColumnsLaws.{length-column}
use Rattle.numeric.specs.Threshold.{Term}
use Rattle.rows.specs.Rows.{Row, no_row}
use Rattle.rows.specs.Laid.{conditions, weights, term_lists}
use Rattle.job.specs.Incidents.{held_terms as rowTermsHeld}
use Rattle.links.specs.Links.{terms_at, neighbour_lists}
use Rattle.links.proofs.LinksLaws.{neighbour_lists_same}
use Rattle.row_order.specs.Held.{terms_in, held_terms, rows_held, Held}
use Rattle.row_order.specs.HeldLaws.{held_terms_lem, held_length}
use Rattle.job.specs.RowsGivenLaidLaws.{length-ends, over_rising, over_inside}
use Rattle.job.specs.RowsGivenHeldLaws.{held_over}

same_terms_lem : (rows : List (List ℕ)) (cs ws : List ℕ) (k : ℕ) → held_terms rows cs ws k ≡ rowTermsHeld cs ws rows k
unfolding terms_in
same_terms_lem rows cs ws k = refl

module _ (cs ws : List ℕ) (rows : List (List ℕ)) (ls : List (List Term)) (cmore wmore more : List ℕ)
    (c : cs ≡ conditions (join_all ls) ++ cmore) (w : ws ≡ weights (join_all ls) ++ wmore) (e : column 0 rows ≡ ends 0 ls ++ more) where
  -- Every row lies inside the buffers.
  pub held_given : Held rows cs ws (length ls)
  held_given k h = record {
    listed = let p = ap length e ∙ length-append (ends 0 ls) more in let q = length-column 0 rows in let u = length-ends 0 ls in omega arith;
    rising = over_rising 0 rows ls more e k h;
    conditions =
        let p = ap length c ∙ length-append (conditions (join_all ls)) cmore in
        let q = length-map (join_all ls) (λ (t : Term). t.condition) in
        let u = over_inside 0 rows ls more e k h in
        omega arith;
    weights =
        let p = ap length w ∙ length-append (weights (join_all ls)) wmore in
        let q = length-map (join_all ls) (λ (t : Term). t.weight) in
        let u = over_inside 0 rows ls more e k h in
        omega arith;
  }

module _ (cs ws : List ℕ) (rows : List (List ℕ)) (rs : List Row) (cmore wmore more : List ℕ)
    (c : cs ≡ conditions (join_all (term_lists rs)) ++ cmore) (w : ws ≡ weights (join_all (term_lists rs)) ++ wmore)
    (e : column 0 rows ≡ ends 0 (term_lists rs) ++ more) where
  same : (k : ℕ) → terms_at (rows_held rows cs ws (length rs)) k ≡ terms_at rs k
  same k = by (dec_lt k (length rs))
    where
      by : Dec (k < length rs) → terms_at (rows_held rows cs ws (length rs)) k ≡ terms_at rs k
      by (yes h) =
          held_terms_lem rows cs ws (length rs) k h ∙ same_terms_lem rows cs ws k
          ∙ held_over cs ws rows (term_lists rs) cmore wmore more c w e k (subst (λ (n : ℕ). k < n) (sym (length-map rs (λ (r : Row). r.terms))) h)
          ∙ get_or-map (λ (r : Row). r.terms) rs k no_row
      by (no h) =
          let p : length (rows_held rows cs ws (length rs)) ≤ k = let q = held_length rows cs ws (length rs) in omega arith in
          let q : length rs ≤ k = omega arith in
          ap (λ (r : Row). r.terms) (get_or-eq_default (rows_held rows cs ws (length rs)) no_row p ∙ sym (get_or-eq_default rs no_row q))

  -- THE NEIGHBOURS OF THE ROWS THAT THE BUFFERS HOLD ARE THOSE OF THE ROWS.
  pub neighbours-given : neighbour_lists (rows_held rows cs ws (length rs)) ≡ neighbour_lists rs
  neighbours-given = neighbour_lists_same (rows_held rows cs ws (length rs)) rs same (held_length rows cs ws (length rs))
