-- Laws of columns.
use Rattle.std.specs.Prelude.{ℕ, zero, suc, ◌<◌, ◌≤◌, ◌≡◌, refl, ◌≢◌, List, [], ◌∷◌, map, length, get_or, set}
use Rattle.std.proofs.Common.{not-suc-le-zero, arith, sym, ap, ap₂, ◌∙◌, subst, length-set, set-set, get_or-set_same, get_or-set_other}
use Rattle.std.proofs.Math.Decide.{dec_lt}
use Rattle.std.proofs.Math.ListN.{get_or-map}
use Rattle.std.proofs.lemmas.List.{set-get_or}
use Rattle.base.specs.Laid.{triples}
use Rattle.base.specs.Columns.{column, with_column, stored, Wide, Beside}

pub length-column : (j : ℕ) (rows : List (List ℕ)) → length (column j rows) ≡ length rows
length-column j [] = refl
length-column j (v ∷ rows) = ap suc (length-column j rows)

pub column-at : (j : ℕ) (rows : List (List ℕ)) (i : ℕ) → get_or (column j rows) i 0 ≡ get_or (get_or rows i []) j 0
column-at j rows i = get_or-map (λ (v : List ℕ). get_or v j 0) rows i []

pub column-stored : (j : ℕ) (rows : List (List ℕ)) (i x : ℕ) → i < length rows → j < length (get_or rows i []) → column j (stored j rows i x) ≡ set (column j rows) i x
column-stored j [] i x h w = absurd (not-suc-le-zero h)
column-stored j (v ∷ rows) zero x h w = ap (λ (c : ℕ). c ∷ column j rows) (get_or-set_same v j x 0 w)
column-stored j (v ∷ rows) (suc i) x h w = ap (λ (t : List ℕ). get_or v j 0 ∷ t) (column-stored j rows i x (omega arith) w)

with_stored : (j : ℕ) (rows : List (List ℕ)) (i x : ℕ) (cs : List ℕ) → i < length cs → with_column j (stored j rows i x) cs ≡ with_column j rows cs
unfolding with_column
with_stored j [] i x cs h = refl
with_stored j (v ∷ rows) i x [] h = absurd (not-suc-le-zero h)
with_stored j (v ∷ rows) zero x (c ∷ cs) h = ap (λ (l : List ℕ). l ∷ with_column j rows cs) (set-set v j x c)
with_stored j (v ∷ rows) (suc i) x (c ∷ cs) h = ap (λ (t : List (List ℕ)). set v j c ∷ t) (with_stored j rows i x cs (omega arith))

-- A column put back where it came from changes nothing.
pub with_self : (j : ℕ) (rows : List (List ℕ)) → with_column j rows (column j rows) ≡ rows
unfolding with_column
with_self j [] = refl
with_self j (v ∷ rows) = ap₂ (λ (a : List ℕ) (t : List (List ℕ)). a ∷ t) (set-get_or v j 0) (with_self j rows)

pub length_with : (j : ℕ) (rows : List (List ℕ)) (cs : List ℕ) → length (with_column j rows cs) ≡ length rows
unfolding with_column
length_with j [] cs = refl
length_with j (v ∷ rows) [] = refl
length_with j (v ∷ rows) (c ∷ cs) = ap suc (length_with j rows cs)

pub with_with : (j : ℕ) (rows : List (List ℕ)) (cs ds : List ℕ) → length cs ≡ length ds → with_column j (with_column j rows cs) ds ≡ with_column j rows ds
unfolding with_column
with_with j [] cs ds h = refl
with_with j (v ∷ rows) [] ds h = refl
with_with j (v ∷ rows) (c ∷ cs) [] h = absurd (omega arith)
with_with j (v ∷ rows) (c ∷ cs) (d ∷ ds) h = ap₂ (λ (a : List ℕ) (t : List (List ℕ)). a ∷ t) (set-set v j c d) (with_with j rows cs ds (omega arith))

pub column_with : (j : ℕ) (rows : List (List ℕ)) (cs : List ℕ) → Wide j rows → length cs ≡ length rows → column j (with_column j rows cs) ≡ cs
unfolding with_column
column_with j [] [] w h = refl
column_with j [] (c ∷ cs) w h = absurd (omega arith)
column_with j (v ∷ rows) [] w h = absurd (omega arith)
column_with j (v ∷ rows) (c ∷ cs) w h =
    ap₂ (λ (a : ℕ) (t : List ℕ). a ∷ t) (get_or-set_same v j c 0 (w 0 (omega arith))) (column_with j rows cs (λ i k. w (suc i) (omega arith)) (omega arith))

pub column_beside : (j k : ℕ) (rows : List (List ℕ)) (cs : List ℕ) → k ≢ j → column k (with_column j rows cs) ≡ column k rows
unfolding with_column
column_beside j k [] cs n = refl
column_beside j k (v ∷ rows) [] n = refl
column_beside j k (v ∷ rows) (c ∷ cs) n = ap₂ (λ (a : ℕ) (t : List ℕ). a ∷ t) (get_or-set_other v j k c 0 n) (column_beside j k rows cs n)

-- Rows stay as wide as they were.
wide_stored-at : (j k : ℕ) (rows : List (List ℕ)) (i x m : ℕ) → k < length (get_or rows m []) → k < length (get_or (stored j rows i x) m [])
wide_stored-at j k [] i x m h = h
wide_stored-at j k (v ∷ rows) zero x zero h = rw (length-set v j x) h
wide_stored-at j k (v ∷ rows) zero x (suc m) h = h
wide_stored-at j k (v ∷ rows) (suc i) x zero h = h
wide_stored-at j k (v ∷ rows) (suc i) x (suc m) h = wide_stored-at j k rows i x m h

pub wide_stored : (j k : ℕ) (rows : List (List ℕ)) (i x : ℕ) → Wide k rows → Wide k (stored j rows i x)
wide_stored j k rows i x w m h = wide_stored-at j k rows i x m (w m (subst (λ (n : ℕ). m < n) (length-set rows i (set (get_or rows i []) j x)) h))

wide_with_at : (j k : ℕ) (rows : List (List ℕ)) (cs : List ℕ) (m : ℕ) → k < length (get_or rows m []) → k < length (get_or (with_column j rows cs) m [])
unfolding with_column
wide_with_at j k [] cs m h = h
wide_with_at j k (v ∷ rows) [] m h = h
wide_with_at j k (v ∷ rows) (c ∷ cs) zero h = rw (length-set v j c) h
wide_with_at j k (v ∷ rows) (c ∷ cs) (suc m) h = wide_with_at j k rows cs m h

pub wide_with : (j k : ℕ) (rows : List (List ℕ)) (cs : List ℕ) → Wide k rows → Wide k (with_column j rows cs)
wide_with j k rows cs w m h = wide_with_at j k rows cs m (w m (subst (λ (n : ℕ). m < n) (length_with j rows cs) h))

-- ---- rows that differ in one column

pub beside_self : (j : ℕ) (rows : List (List ℕ)) → Beside j rows rows
beside_self j rows = record { long = refl; apart = λ cs h. refl }

pub beside_stored : (j : ℕ) (rows others : List (List ℕ)) (i x : ℕ) → i < length rows → Beside j rows others → Beside j (stored j rows i x) others
beside_stored j rows others i x h b = record {
  long = length-set rows i (set (get_or rows i []) j x) ∙ b.long;
  apart = λ cs e. with_stored j rows i x cs (let q = b.long in omega arith) ∙ b.apart cs e;
}

pub beside_with : (j : ℕ) (rows others rows' : List (List ℕ)) (ds : List ℕ) → length ds ≡ length rows → rows' ≡ with_column j rows ds → Beside j rows others → Beside j rows' others
beside_with j rows others rows' ds h e b = record {
  long = ap length e ∙ length_with j rows ds ∙ b.long;
  apart = λ cs q. ap (λ (r : List (List ℕ)). with_column j r cs) e ∙ with_with j rows ds cs (h ∙ b.long ∙ sym q) ∙ b.apart cs q;
}

-- Rows beside others are those with the column that they have.
pub beside_is : (j : ℕ) (rows others : List (List ℕ)) → Beside j rows others → rows ≡ with_column j others (column j rows)
beside_is j rows others b = sym (with_self j rows) ∙ b.apart (column j rows) (length-column j rows ∙ b.long)

-- ---- triples are three columns

pub with_last : (xs ys zs ws : List ℕ) → length ys ≡ length xs → length zs ≡ length xs → length ws ≡ length xs → with_column 2 (triples xs ys zs) ws ≡ triples xs ys ws
unfolding with_column triples
with_last [] ys zs ws a b c = refl
with_last (x ∷ xs) [] zs ws a b c = absurd (omega arith)
with_last (x ∷ xs) (y ∷ ys) [] ws a b c = absurd (omega arith)
with_last (x ∷ xs) (y ∷ ys) (z ∷ zs) [] a b c = absurd (omega arith)
with_last (x ∷ xs) (y ∷ ys) (z ∷ zs) (w ∷ ws) a b c =
    ap (λ (t : List (List ℕ)). (x ∷ y ∷ w ∷ []) ∷ t) (with_last xs ys zs ws (omega arith) (omega arith) (omega arith))

pub with_middle : (xs ys zs ws : List ℕ) → length ys ≡ length xs → length zs ≡ length xs → length ws ≡ length xs → with_column 1 (triples xs ys zs) ws ≡ triples xs ws zs
unfolding with_column triples
with_middle [] ys zs [] a b c = refl
with_middle [] ys zs (w ∷ ws) a b c = refl
with_middle (x ∷ xs) [] zs ws a b c = absurd (omega arith)
with_middle (x ∷ xs) (y ∷ ys) [] ws a b c = absurd (omega arith)
with_middle (x ∷ xs) (y ∷ ys) (z ∷ zs) [] a b c = absurd (omega arith)
with_middle (x ∷ xs) (y ∷ ys) (z ∷ zs) (w ∷ ws) a b c =
    ap (λ (t : List (List ℕ)). (x ∷ w ∷ z ∷ []) ∷ t) (with_middle xs ys zs ws (omega arith) (omega arith) (omega arith))
