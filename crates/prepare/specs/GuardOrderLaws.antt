-- The guards of each row, as they are dealt in the order of all keys, are the row's guards by definition.
use Rattle.std.specs.Prelude.{ℕ, zero, suc, ◌+◌, ◌%◌, ◌≤◌, ◌<◌, ◌≡◌, refl, List, [], ◌∷◌, ◌++◌, map, length, get_or, ℤ, pos}
use Rattle.std.proofs.Common.{not-suc-le-zero, zero-add, arith, sym, ap, ap₂, ◌∙◌, subst}
use Rattle.std.proofs.lemmas.Simd.{map-map}
use Rattle.std.proofs.lemmas.List.{map-append, length-map}
use Rattle.base.specs.All.{All}
use Rattle.memory.specs.Limits.{max_thresholds}
use Rattle.base.specs.Laid.{join_all, ends, numbers}
use Rattle.base.specs.Deal.{Keyed, keyed, those, grouped}
use Rattle.sort.specs.Sorted.{sorted}
use Rattle.sort.specs.SortedLaws.{all_sorted, length-sorted}
use Rattle.memory.specs.Buffers.{RawLists}
use Rattle.rows.specs.Lists.{list_at}
use Rattle.rows.specs.Rows.{Row, Guard, row_number, no_row}
use Rattle.rows.specs.Laid.{guard_lists, guard_bounds_of, guard_nodes_of}
use Rattle.rows.specs.Guards.{Bounds, raised, guard_keys, node_at, row_at, key_row, bound_items, node_items}
use Rattle.rows.specs.GuardsLaws.{length_keys}
use Rattle.job.specs.Given.{given_rows}
use Rattle.prepare.specs.GuardOrderPickedLaws.{those_picked}
use Rattle.prepare.specs.GuardOrderKeysLaws.{key_at, key_guard, key_number, keys_are}
use Rattle.prepare.specs.GuardOrderRowsLaws.{guards_at, row_there, row-guards}

-- ---- lists of lists

-- A list made place by place of another.
by_place : {X Y : Type 0} (f : ℕ → Y) (g : X → Y) (d : X) (xs : List X) (a : ℕ) → ((i : ℕ) → i < length xs → f (a + i) ≡ g (get_or xs i d))
    → map f (numbers a (length xs)) ≡ map g xs
unfolding numbers
by_place f g d [] a h = refl
by_place {X} {Y} f g d (x ∷ xs) a h =
    ap₂ (λ (y : Y) (l : List Y). y ∷ l) (ap f (omega arith) ∙ h 0 (omega arith))
    (by_place f g d xs (a + 1) (λ i q. ap f (omega arith) ∙ h (suc i) (omega arith)))

join_map : {X Y : Type 0} (f : X → Y) (ls : List (List X)) → join_all (map (map f) ls) ≡ map f (join_all ls)
unfolding join_all
join_map f [] = refl
join_map {X} {Y} f (l ∷ ls) = ap (λ (t : List Y). map f l ++ t) (join_map f ls) ∙ sym (map-append f l (join_all ls))

ends-map : {X Y : Type 0} (f : X → Y) (s : ℕ) (ls : List (List X)) → ends s (map (map f) ls) ≡ ends s ls
unfolding ends
ends-map f s [] = refl
ends-map f s (l ∷ ls) =
    ap (λ (k : ℕ). (s + k) ∷ ends (s + k) (map (map f) ls)) (length-map l f) ∙ ap (λ (t : List ℕ). (s + length l) ∷ t) (ends-map f (s + length l) ls)

-- ---- what holds of each number of a list

all_at : (P : ℕ → Type 0) (l : List ℕ) → All P l → (i : ℕ) → i < length l → P (get_or l i 0)
all_at P [] a i h = absurd (not-suc-le-zero h)
all_at P (x ∷ l) a zero h = a.0
all_at P (x ∷ l) a (suc i) h = all_at P l a.1 i (omega arith)

all_numbers : (P : ℕ → Type 0) (f : ℕ → ℕ) (m a : ℕ) → ((t : ℕ) → t < a + m → P (f t)) → All P (map f (numbers a m))
unfolding numbers
all_numbers P f zero a h = tt
all_numbers P f (suc m) a h = (h a (omega arith), all_numbers P f m (a + 1) (λ t q. h t (omega arith)))

module _ (r : RawLists) (bounds : List ℤ) (same : length bounds ≡ length r.thresholds) (many : length bounds ≤ max_thresholds) where
  abbrev keys : List ℕ
  keys = sorted (guard_keys 0 bounds)

  abbrev ths : List (List ℕ)
  ths = r.thresholds

  abbrev rs : List Row
  rs = given_rows r bounds

  -- ---- the keys

  pub order_length : length keys ≡ length ths
  order_length = length-sorted (guard_keys 0 bounds) ∙ length_keys 0 bounds ∙ same

  -- What holds of every threshold holds of those that the keys name.
  by_key : (P : ℕ → Type 0) → ((t : ℕ) → t < length ths → P t) → (i : ℕ) → i < length keys → P (get_or keys i 0 % max_thresholds)
  by_key P h = all_at Q keys (all_sorted Q (guard_keys 0 bounds) (subst (All Q) (sym (keys_are bounds)) (all_numbers Q (key_at bounds) (length bounds) 0 each)))
    where
      Q : ℕ → Type 0
      Q x = P (x % max_thresholds)

      each : (t : ℕ) → t < 0 + length bounds → P (key_at bounds t % max_thresholds)
      each t k = subst P (sym (key_number (raised (get_or bounds t (pos 0))) t (omega arith))) (h t (omega arith))

  -- EVERY KEY NAMES A THRESHOLD
  pub order_names : (i : ℕ) → i < length keys → get_or keys i 0 % max_thresholds < length ths
  order_names = by_key (λ (t : ℕ). t < length ths) (λ t h. h)

  module _ (nodes : List (List ℕ)) (rows : (t : ℕ) → t < length ths → row_at ths nodes t ≡ row_number rs (list_at r t)) where
    -- WHOSE ROW IS THERE.
    pub order_rows : (i : ℕ) → i < length keys → row_at ths nodes (get_or keys i 0 % max_thresholds) < length rs
    order_rows = by_key (λ (t : ℕ). row_at ths nodes t < length rs) (λ t h. subst (λ (n : ℕ). n < length rs) (sym (rows t h)) (row_there r bounds t h))

    -- ---- the guards

    module _ (good : Bounds bounds) (up : (t : ℕ) → t + 1 < length ths → node_at ths t < node_at ths (t + 1)) where
      -- Anything of the guards that the keys name, by row.
      abbrev items : {Y : Type 0} → (Guard → Y) → List (Keyed Y)
      items h = map (λ (x : ℕ). keyed (key_row ths nodes x) (h (key_guard ths bounds x))) keys

      dealt-row : {Y : Type 0} (h : Guard → Y) (k : ℕ) → those k (items h) ≡ map h (guards_at rs k)
      dealt-row h k =
          those_picked (key_row ths nodes) k (key_guard ths bounds) h keys
          ∙ sym (ap (map h) (row-guards r bounds same many good (λ t q. up t (omega arith)) (row_at ths nodes) k rows))

      dealt : {Y : Type 0} (h : Guard → Y) → grouped 0 (length rs) (items h) ≡ map (map h) (guard_lists rs)
      dealt h =
          by_place (λ (k : ℕ). those k (items h)) (λ (w : Row). map h w.guards) no_row rs 0
          (λ i q. dealt-row h (0 + i) ∙ ap (λ (k : ℕ). map h (guards_at rs k)) (zero-add i))
          ∙ sym (map-map (map h) (λ (w : Row). w.guards) rs)

      -- THE BOUNDS DEALT TO EACH ROW ARE THOSE OF ITS GUARDS
      pub grouped_bounds : grouped 0 (length rs) (bound_items ths nodes bounds keys) ≡ map (λ (gs : List Guard). map (λ (g : Guard). g.bound) gs) (guard_lists rs)
      grouped_bounds = dealt (λ (g : Guard). g.bound)

      -- AND SO ARE THE NODES.
      pub grouped_nodes : grouped 0 (length rs) (node_items ths nodes keys) ≡ map (λ (gs : List Guard). map (λ (g : Guard). g.node) gs) (guard_lists rs)
      grouped_nodes = dealt (λ (g : Guard). g.node)

      -- Where each row's end, and those of all rows one behind the other.
      pub guard-ends : ends 0 (grouped 0 (length rs) (bound_items ths nodes bounds keys)) ≡ ends 0 (guard_lists rs)
      guard-ends = ap (ends 0) grouped_bounds ∙ ends-map (λ (g : Guard). g.bound) 0 (guard_lists rs)

      pub joined_bounds : join_all (grouped 0 (length rs) (bound_items ths nodes bounds keys)) ≡ guard_bounds_of rs
      joined_bounds = ap join_all grouped_bounds ∙ join_map (λ (g : Guard). g.bound) (guard_lists rs)

      pub joined_nodes : join_all (grouped 0 (length rs) (node_items ths nodes keys)) ≡ guard_nodes_of rs
      joined_nodes = ap join_all grouped_nodes ∙ join_map (λ (g : Guard). g.node) (guard_lists rs)
