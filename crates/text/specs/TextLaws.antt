-- Texts written one behind the other are their join, written at once. Assumes nothing.
use Rattle.std.specs.Prelude.{ℕ, suc, ◌+◌, ◌*◌, ◌<◌, ◌≤◌, ◌≡◌, refl, List, [], ◌∷◌, ◌++◌, length, get_or, set, take, drop}
use Rattle.std.proofs.Common.{mul-suc, mul-le-mul_left, add-one, arith, sym, ap, subst, ◌∙◌, append_assoc, length-append, length-take-le, length-drop, take_at, drop-drop}
use Rattle.std.proofs.Math.Seq.{drop-append_seam, drop-append-add, take-length, paste, paste-zero, paste-suc}
use Rattle.text.specs.Text.{placed, Wrote, joined, Joins}

-- ---- nothing, and one text behind another

pub wrote_none : (d : List ℕ) (at : ℕ) → Wrote 0 d d at at []
wrote_none d at = record { ended = omega arith; bytes = paste-zero d at []; within = omega arith }

length_front : (d : List ℕ) (at : ℕ) (s : List ℕ) → at ≤ length d → length (take at d ++ s) ≡ at + length s
length_front d at s h = omega (arith, length-append (take at d) s, length-take-le at d h)

placed_then : (d : List ℕ) (at : ℕ) (s t : List ℕ) → at ≤ length d → placed (placed d at s) (at + length s) t ≡ placed d at (s ++ t)
placed_then d at s t h =
    let p = take at d ++ s in
    let q = drop (at + length s) d in
    let e = length_front d at s h in
    let f : take (at + length s) (p ++ q) ≡ p = take_at p q (at + length s) e in
    let g : drop (at + length s + length t) (p ++ q) ≡ drop (at + length (s ++ t)) d =
    ap (λ (n : ℕ). drop (n + length t) (p ++ q)) (sym e) ∙ drop-append-add p q (length t) ∙ drop-drop (length t) (at + length s) d
    ∙ ap (λ (n : ℕ). drop n d) {x = at + length s + length t} {y = at + length (s ++ t)} (omega (arith, length-append s t)) in
    ap (λ (l : List ℕ). l ++ t ++ drop (at + length s + length t) (p ++ q)) f ∙ ap (λ (l : List ℕ). p ++ t ++ l) g
    ∙ ap (λ (l : List ℕ). l ++ drop (at + length (s ++ t)) d) (append_assoc (take at d) s t)

-- ONE TEXT BEHIND ANOTHER
pub wrote_then : {a b : ℕ} {d e f : List ℕ} {at m r : ℕ} {s t : List ℕ} → at ≤ length d → Wrote a d e at m s → Wrote b e f m r t → Wrote (a + b) d f at r (s ++ t)
wrote_then {a} {b} {d} {e} {f} {at} {m} {r} {s} {t} h x y = record {
  ended = omega (arith, x.ended, y.ended, length-append s t);
  bytes =
      y.bytes ∙ ap (λ (n : ℕ). placed e n t) x.ended ∙ ap (λ (l : List ℕ). placed l (at + length s) t) x.bytes ∙ placed_then d at s t h;
  within = omega (arith, x.within, y.within);
}

-- The same text under another name, and of no more bytes.
pub wrote_as : {a b : ℕ} {d e : List ℕ} {at r : ℕ} {s t : List ℕ} → a ≤ b → s ≡ t → Wrote a d e at r s → Wrote b d e at r t
wrote_as {a} {b} {d} {e} {at} {r} {s} {t} h q x = record {
  ended = x.ended ∙ ap (λ (l : List ℕ). at + length l) q;
  bytes = x.bytes ∙ ap (placed d at) q;
  within = omega (arith, x.within);
}

pub wrote_same : {a : ℕ} {d e : List ℕ} {at r : ℕ} {s t : List ℕ} → s ≡ t → Wrote a d e at r s → Wrote a d e at r t
wrote_same q x = wrote_as (omega arith) q x

-- Two texts behind another, written at once.
pub wrote_both : {a b : ℕ} {d e f : List ℕ} {at m r : ℕ} {s : List ℕ} (t u : List ℕ) → at ≤ length d → Wrote a d e at m s → Wrote b e f m r (t ++ u) → Wrote (a + b) d f at r (s ++ t ++ u)
wrote_both {s} t u h x y = wrote_same (sym (append_assoc s t u)) (wrote_then h x y)

-- The buffer keeps its length.
pub wrote_long : {k : ℕ} {d e : List ℕ} {at r : ℕ} {s : List ℕ} → at + k ≤ length d → Wrote k d e at r s → length e ≡ length d
wrote_long {k} {d} {e} {at} {r} {s} h x =
    let behind = drop (at + length s) d in
    let i : at + length s ≤ length d = omega (arith, x.ended, x.within) in
    let b : length e ≡ length (take at d ++ s ++ behind) = ap (λ (l : List ℕ). length l) x.bytes in
    omega (arith, length-append (take at d ++ s) behind, length-append (take at d) s, length-take-le at d (omega arith), length-drop (at + length s) d)

-- ---- byte by byte

pub put_next : (d e : List ℕ) (at : ℕ) (s : List ℕ) (i : ℕ) → at + length s ≤ length d → i < length s → e ≡ paste d at s i
    → set e (at + i) (get_or s i 0) ≡ paste d at s (i + 1)
put_next d e at s i h k q =
    ap (λ (l : List ℕ). set l (at + i) (get_or s i 0)) q ∙ paste-suc d at s i 0 (omega arith) k ∙ ap (paste d at s) (sym (add-one i))

pub put_done : (d e : List ℕ) (at : ℕ) (s : List ℕ) (i : ℕ) → i ≡ length s → e ≡ paste d at s i → Wrote (length s) d e at (at + i) s
put_done d e at s i h q = record {
  ended = omega arith;
  bytes = q ∙ ap (paste d at s) h ∙ ap (λ (l : List ℕ). take at d ++ l ++ drop (at + length s) d) (take-length s);
  within = omega arith;
}

-- One byte.
pub wrote_one : (d e : List ℕ) (at x r : ℕ) → at < length d → e ≡ set d at x → r ≡ at + 1 → Wrote 1 d e at r (x ∷ [])
wrote_one d e at x r h q k =
    let s = x ∷ [] in
    let z : at ≡ at + 0 = omega arith in
    let p : e ≡ paste d at s 1 = q ∙ ap (λ (i : ℕ). set d i x) z ∙ put_next d d at s 0 (omega arith) (omega arith) (paste-zero d at s) in
    subst (λ (i : ℕ). Wrote 1 d e at i s) (sym k) (put_done d e at s 1 refl p)

-- ---- texts by number

pub joins_none : (size : ℕ) (d : List ℕ) (at : ℕ) (f : ℕ → List ℕ) (n : ℕ) → Joins size d d at at f n 0
unfolding joined
joins_none size d at f n = record { passed = omega arith; long = refl; wrote = wrote_as (omega arith) refl (wrote_none d at) }

-- There is room for one more.
pub joins_room : {k : ℕ} {d e : List ℕ} {at r : ℕ} {f : ℕ → List ℕ} {n i : ℕ} → at + k * n ≤ length d → i < n → Joins k d e at r f n i → r + k ≤ length e
joins_room {k} {d} {e} {at} {r} {f} {n} {i} room more j = omega (arith, j.wrote.within, j.long, mul-suc k i, mul-le-mul_left k more)

pub joins_next : {k : ℕ} {d e g : List ℕ} {at m r : ℕ} {f : ℕ → List ℕ} {n i : ℕ} → at ≤ length d → i < n → Joins k d e at m f n i → length g ≡ length e → Wrote k e g m r (f i)
    → Joins k d g at r f n (i + 1)
unfolding joined
joins_next {k} {d} {e} {g} {at} {m} {r} {f} {n} {i} h more j l w =
    let q : suc i ≡ i + 1 = sym (add-one i) in
    record { passed = omega arith; long = l ∙ j.long; wrote = wrote_as (omega (arith, mul-suc k i, ap (λ (x : ℕ). k * x) q)) (ap (joined f) q) (wrote_then h j.wrote w) }

pub joins_done : {k : ℕ} {d e : List ℕ} {at r : ℕ} {f : ℕ → List ℕ} {n i : ℕ} → n ≤ i → Joins k d e at r f n i → Wrote (k * n) d e at r (joined f n)
joins_done {k} {d} {e} {at} {r} {f} {n} {i} h j =
    let p = j.passed in
    let q : i ≡ n = omega arith in
    wrote_as (omega (arith, ap (λ (x : ℕ). k * x) q)) (ap (joined f) q) j.wrote

-- ---- what was written

pub wrote_whole : {k : ℕ} {d e : List ℕ} {r : ℕ} {s : List ℕ} → Wrote k d e 0 r s → (take r e ≡ s) × (drop r e ≡ drop r d)
wrote_whole {k} {d} {e} {r} {s} x =
    let n : r ≡ length s = omega (arith, x.ended) in
    let z : 0 + length s ≡ length s = omega arith in
    let b : e ≡ s ++ drop (length s) d = x.bytes ∙ ap (λ (i : ℕ). s ++ drop i d) z in (
      ap (λ (i : ℕ). take i e) n ∙ ap (take (length s)) b ∙ take_at s (drop (length s) d) (length s) refl,
      ap (λ (i : ℕ). drop i e) n ∙ ap (drop (length s)) b ∙ drop-append_seam s (drop (length s) d) ∙ ap (λ (i : ℕ). drop i d) (sym n),
    )
