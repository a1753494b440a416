-- Guards in two parallel slices, of bounds and of nodes: how a loop over their places, up or down, goes along the list.
use Rattle.std.specs.Prelude.{ℕ, zero, suc, ◌+◌, ◌<◌, min, ◌≡◌, refl, length, get_or, take, drop, ℤ, pos}
use Rattle.std.proofs.Common.{not-suc-le-zero, le_of_suc-le-suc, add-one, arith, sym, ap, ◌∙◌, take-suc, drop-cons}
use mathlib.Core.List.{List, [], ◌∷◌, ◌++◌, reverse, reverse_aux}
use Rattle.base.specs.All.{All}
use Rattle.rows.specs.Rows.{Guard, guard}
use Rattle.numeric.specs.Slices.{Below, terms}
use Rattle.row_runs.specs.Guards.{guards, no_guard, Node, Condition}

pub length-guards : (bs : List ℤ) (ns : List ℕ) → length (guards bs ns) ≡ min (length bs) (length ns)
unfolding guards
length-guards [] ns = omega arith
length-guards (b ∷ bs) [] = omega arith
length-guards (b ∷ bs) (n ∷ ns) = omega (arith, length-guards bs ns)

-- the guard at a place
pub get_d_guards : (bs : List ℤ) (ns : List ℕ) (i : ℕ) → i < length bs → i < length ns → get_or (guards bs ns) i no_guard ≡ guard (get_or bs i (pos 0)) (get_or ns i 0)
unfolding guards
get_d_guards [] ns i h k = absurd (not-suc-le-zero h)
get_d_guards (b ∷ bs) [] i h k = absurd (not-suc-le-zero k)
get_d_guards (b ∷ bs) (n ∷ ns) zero h k = refl
get_d_guards (b ∷ bs) (n ∷ ns) (suc i) h k = get_d_guards bs ns i (le_of_suc-le-suc h) (le_of_suc-le-suc k)

module _ (bs : List ℤ) (ns : List ℕ) (i : ℕ) (h : i < length bs) (k : i < length ns) where
  -- going up: what is left begins with the guard at the place
  pub up_guards : drop i (guards bs ns) ≡ guard (get_or bs i (pos 0)) (get_or ns i 0) ∷ drop (i + 1) (guards bs ns)
  up_guards =
      drop-cons (guards bs ns) i no_guard (omega (arith, length-guards bs ns))
      ∙ ap (λ (g : Guard). g ∷ drop (suc i) (guards bs ns)) (get_d_guards bs ns i h k)
      ∙ ap (λ (j : ℕ). guard (get_or bs i (pos 0)) (get_or ns i 0) ∷ drop j (guards bs ns)) (sym (add-one i))

  -- going down: the first i + 1 guards, reversed, begin with the guard at place i
  pub down_guards : reverse (take (i + 1) (guards bs ns)) ≡ guard (get_or bs i (pos 0)) (get_or ns i 0) ∷ reverse (take i (guards bs ns))
  down_guards =
      ap (λ (j : ℕ). reverse (take j (guards bs ns))) (add-one i)
      ∙ ap reverse (take-suc (guards bs ns) i no_guard (omega (arith, length-guards bs ns)))
      ∙ snoc (take i (guards bs ns)) (get_or (guards bs ns) i no_guard) []
      ∙ ap (λ (g : Guard). g ∷ reverse (take i (guards bs ns))) (get_d_guards bs ns i h k)
    where
      snoc : (xs : List Guard) (x : Guard) (acc : List Guard) → reverse_aux (xs ++ (x ∷ [])) acc ≡ x ∷ reverse_aux xs acc
      snoc [] x acc = refl
      snoc (y ∷ ys) x acc = snoc ys x (y ∷ acc)

pub all_guards : (bs : List ℤ) (ns : List ℕ) → Below 4096 ns → All Node (guards bs ns)
unfolding guards
all_guards [] ns h = Prim.tt
all_guards (b ∷ bs) [] h = Prim.tt
all_guards (b ∷ bs) (n ∷ ns) h = (h 0 (omega arith), all_guards bs ns (λ i k. h (suc i) (omega arith)))

pub all_terms_lem : (cs ws : List ℕ) → Below 4096 cs → All Condition (terms cs ws)
unfolding terms
all_terms_lem [] ws h = Prim.tt
all_terms_lem (c ∷ cs) [] h = Prim.tt
all_terms_lem (c ∷ cs) (w ∷ ws) h = (h 0 (omega arith), all_terms_lem cs ws (λ i k. h (suc i) (omega arith)))
