-- Where lists that lie one behind the other begin. Assumes nothing.
use Rattle.std.specs.Prelude.{ℕ, zero, suc, ◌+◌, ◌-◌, ◌<◌, ◌≡◌, List}
use Rattle.std.proofs.Common.{not-suc-le-zero, add-one, arith, ap}
use Rattle.base.specs.Parts.{end_by, start_by}

pub start-zero : (j : ℕ) (table : List (List ℕ)) (n : ℕ) → n ≡ 0 → 0 ≡ start_by j table n
unfolding start_by
start-zero j table n e = rw (e, start_by)

pub start-before : (j : ℕ) (table : List (List ℕ)) (n : ℕ) → 0 < n → end_by j table (n - 1) ≡ start_by j table n
unfolding start_by
start-before j table zero h = absurd (not-suc-le-zero h)
start-before j table (suc n) h = let e : suc n - 1 ≡ n = omega arith in ap (end_by j table) e

pub start-after : (j : ℕ) (table : List (List ℕ)) (n : ℕ) → start_by j table (n + 1) ≡ end_by j table n
unfolding start_by
start-after j table n = rw (add-one, start_by)
