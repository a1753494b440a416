-- What gcd is: it divides both numbers, and what divides both divides it; 0 stands for no number at all.
-- Every sum of a choice of weights is a multiple of the gcd of the weights.
use Rattle.std.specs.Prelude.{ℕ, zero, suc, ◌+◌, ◌%◌, ◌<◌, ◌≤◌, ◌≡◌, refl, List, [], ◌∷◌, Bool, true, false}
use Rattle.std.specs.Int.{◌∣◌}
use Rattle.std.proofs.Common.{mod-lt, zero-lt-suc, not-suc-le-zero, le_refl, arith}
use Rattle.std.proofs.Math.Nat.{dvd_refl, dvd-zero, dvd-mod_iff, dvd_of_mod-eq-zero, dvd_trans, dvd_antisymm, dvd-add}
use Rattle.divisors.specs.Gcd.{gcd_in, gcd}

-- Enough steps are enough.
enough : (n m a b : ℕ) → b ≤ n → b ≤ m → gcd_in n a b ≡ gcd_in m a b
unfolding gcd_in
enough zero zero a b h k = refl
enough zero (suc m) a zero h k = refl
enough zero (suc m) a (suc b) h k = absurd (not-suc-le-zero h)
enough (suc n) zero a zero h k = refl
enough (suc n) zero a (suc b) h k = absurd (not-suc-le-zero k)
enough (suc n) (suc m) a zero h k = refl
enough (suc n) (suc m) a (suc b) h k =
    let x = mod-lt a (zero-lt-suc b) in
    enough n m (suc b) (a % suc b) (omega arith) (omega arith)

pub gcd-zero : (a : ℕ) → gcd a 0 ≡ a
unfolding gcd gcd_in
gcd-zero a = refl

pub gcd_step : (a b : ℕ) → 0 < b → gcd a b ≡ gcd b (a % b)
unfolding gcd gcd_in
gcd_step a zero h = absurd (not-suc-le-zero h)
gcd_step a (suc b) h = let x = mod-lt a (zero-lt-suc b) in enough b (a % suc b) (suc b) (a % suc b) (omega arith) (le_refl (a % suc b))

-- It divides both.
divides : (n a b : ℕ) → b ≤ n → (gcd_in n a b ∣ a) × (gcd_in n a b ∣ b)
unfolding gcd_in
divides zero a zero h = (dvd_refl a, dvd-zero a)
divides zero a (suc b) h = absurd (not-suc-le-zero h)
divides (suc n) a zero h = (dvd_refl a, dvd-zero a)
divides (suc n) a (suc b) h =
    let x = mod-lt a (zero-lt-suc b) in
    let d = divides n (suc b) (a % suc b) (omega arith) in
    ((dvd-mod_iff (gcd_in n (suc b) (a % suc b)) d.0).0 d.1, d.0)

pub gcd-left : (a b : ℕ) → gcd a b ∣ a
unfolding gcd
gcd-left a b = (divides b a b (le_refl b)).0

pub gcd_right : (a b : ℕ) → gcd a b ∣ b
unfolding gcd
gcd_right a b = (divides b a b (le_refl b)).1

-- What divides both divides it.
greatest : (n a b d : ℕ) → d ∣ a → d ∣ b → d ∣ gcd_in n a b
unfolding gcd_in
greatest zero a b d p q = p
greatest (suc n) a zero d p q = p
greatest (suc n) a (suc b) d p q = greatest n (suc b) (a % suc b) d q ((dvd-mod_iff d q).1 p)

pub gcd_greatest : (a b d : ℕ) → d ∣ a → d ∣ b → d ∣ gcd a b
unfolding gcd
gcd_greatest a b d p q = greatest b a b d p q

-- No other number does both.
pub gcd_only : (a b g : ℕ) → g ∣ a → g ∣ b → ((d : ℕ) → d ∣ a → d ∣ b → d ∣ g) → gcd a b ≡ g
gcd_only a b g p q r = dvd_antisymm (r (gcd a b) (gcd-left a b) (gcd_right a b)) (gcd_greatest a b g p q)

pub gcd-none : (b : ℕ) → gcd 0 b ≡ b
gcd-none b = gcd_only 0 b b (dvd-zero b) (dvd_refl b) (λ d p q. q)

pub gcd_multiple : (a b : ℕ) → b % a ≡ 0 → gcd a b ≡ a
gcd_multiple a b h = gcd_only a b a (dvd_refl a) (dvd_of_mod-eq-zero a h) (λ d p q. p)

pub gcd_comm : (a b : ℕ) → gcd a b ≡ gcd b a
gcd_comm a b = gcd_only a b (gcd b a) (gcd_right b a) (gcd-left b a) (λ d p q. gcd_greatest b a d q p)

pub gcd_assoc : (a b c : ℕ) → gcd (gcd a b) c ≡ gcd a (gcd b c)
gcd_assoc a b c =
    let g = gcd a (gcd b c) in
    gcd_only (gcd a b) c g
    (gcd_greatest a b g (gcd-left a (gcd b c)) (dvd_trans g (gcd_right a (gcd b c)) (gcd-left b c)))
    (dvd_trans g (gcd_right a (gcd b c)) (gcd_right b c))
    (λ d p q. gcd_greatest a (gcd b c) d (dvd_trans d p (gcd-left a b)) (gcd_greatest b c d (dvd_trans d p (gcd_right a b)) q))

-- The gcd of a list of weights, 0 where there is none.
unfoldable pub gcd_all : List ℕ → ℕ
gcd_all [] = 0
gcd_all (w ∷ ws) = gcd w (gcd_all ws)

-- The sum of the weights that a choice takes.
unfoldable pub chosen : List Bool → List ℕ → ℕ
chosen [] ws = 0
chosen (c ∷ cs) [] = 0
chosen (true ∷ cs) (w ∷ ws) = w + chosen cs ws
chosen (false ∷ cs) (w ∷ ws) = chosen cs ws

-- A choice is a multiple of each number that divides all weights.
pub chosen-under : (d : ℕ) (cs : List Bool) (ws : List ℕ) → d ∣ gcd_all ws → d ∣ chosen cs ws
unfolding gcd_all chosen
chosen-under d [] ws h = dvd-zero d
chosen-under d (c ∷ cs) [] h = dvd-zero d
chosen-under d (true ∷ cs) (w ∷ ws) h =
    dvd-add d (dvd_trans d h (gcd-left w (gcd_all ws))) (chosen-under d cs ws (dvd_trans d h (gcd_right w (gcd_all ws))))
chosen-under d (false ∷ cs) (w ∷ ws) h = chosen-under d cs ws (dvd_trans d h (gcd_right w (gcd_all ws)))

-- Every sum of a choice is a multiple of the gcd.
pub chosen_multiple : (cs : List Bool) (ws : List ℕ) → gcd_all ws ∣ chosen cs ws
chosen_multiple cs ws = chosen-under (gcd_all ws) cs ws (dvd_refl (gcd_all ws))
