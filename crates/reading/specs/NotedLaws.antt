-- What is noted of areas stays true of the open threshold's list, whatever record is taken.
use Rattle.std.specs.Prelude.{ℕ, zero, suc, ◌+◌, ◌-◌, ◌<◌, ◌≤◌, ◌≡◌, refl, List, [], ◌∷◌, ◌++◌, map, ◌⊎◌, length, set, replicate}
use native.Nat.{ℕᴺ_discrete as dec_eq}
use Rattle.std.proofs.Common.{arith, sym, ◌∙◌, inl, inr, ⊎_elim, length-append, eq-eqb, ne_eqb}
use Rattle.std.proofs.Math.Path.{ap, ap₂, subst}
use Rattle.std.proofs.Math.ListN.{get_or, length-set}
use Rattle.std.proofs.lemmas.List.{length-replicate}
use Rattle.std.proofs.Math.Seq.{get_or-set_same, get_or-set_other}
use Rattle.base.specs.TestLaws.{unequal}
use Rattle.numeric.specs.Threshold.{Term, term}
use Rattle.numeric.specs.Area.{Entry, plain, area, condition_of, weight_of_area, rounded}
use Rattle.numeric.proofs.AreaLaws.{add_area, add_hit, add_miss}
use Rattle.memory.specs.Limits.{max_nodes, list_terms}
use Rattle.records.specs.declared.Standing.{Standing}
use Rattle.job.specs.Taken.{weighing}
use Rattle.job.specs.Gathered.{open_start, Joinable, FirstArea, MoreArea}
use Rattle.reading.specs.Held.{no_entry, Noted, Unnoted}

-- ---- entries told apart

sort : Entry → ℕ
sort (plain c w) = 0
sort (area c h) = 1

figure : Entry → ℕ
figure (plain c w) = w
figure (area c h) = h

no_area : (c h d w : ℕ) → plain d w ≡ area c h → ⊥
unfolding sort
no_area c h d w e = unequal (ap sort e)

same_condition : (c h d g : ℕ) → area c h ≡ area d g → c ≡ d
same_condition c h d g e = ap (λ (x : Entry). condition_of x) e

same_figure : (c h d g : ℕ) → area c h ≡ area d g → h ≡ g
unfolding figure
same_figure c h d g e = ap figure e

-- An area stands inside its list.
area_inside : (es : List Entry) (i c h : ℕ) → get_or es i no_entry ≡ area c h → i < length es
area_inside [] i c h e = absurd (no_area c h 0 0 e)
area_inside (x ∷ es) zero c h e = omega arith
area_inside (x ∷ es) (suc i) c h e = let q = area_inside es i c h e in omega (arith, q)

-- ---- one entry more

behind_old : (es : List Entry) (x : Entry) (i c h : ℕ) → get_or es i no_entry ≡ area c h → get_or (es ++ (x ∷ [])) i no_entry ≡ area c h
behind_old [] x i c h e = absurd (no_area c h 0 0 e)
behind_old (y ∷ es) x zero c h e = e
behind_old (y ∷ es) x (suc i) c h e = behind_old es x i c h e

behind_new : (es : List Entry) (x : Entry) → get_or (es ++ (x ∷ [])) (length es) no_entry ≡ x
behind_new [] x = refl
behind_new (y ∷ es) x = behind_new es x

behind_which : (es : List Entry) (x : Entry) (i c h : ℕ) → get_or (es ++ (x ∷ [])) i no_entry ≡ area c h → (get_or es i no_entry ≡ area c h) ⊎ ((i ≡ length es) × (x ≡ area c h))
behind_which [] x zero c h e = inr (refl, e)
behind_which [] x (suc i) c h e = absurd (no_area c h 0 0 e)
behind_which (y ∷ es) x zero c h e = inl e
behind_which (y ∷ es) x (suc i) c h e =
    ⊎_elim (λ (q : get_or es i no_entry ≡ area c h). inl q) (λ (q : (i ≡ length es) × (x ≡ area c h)). inr (ap suc q.0, q.1)) (behind_which es x i c h e)

-- ---- an area is added: to the end if there is none of its condition, else to the one that there is

pub add_new : (c h : ℕ) (es : List Entry) → ((i g : ℕ) → get_or es i no_entry ≡ area c g → ⊥) → add_area c h es ≡ es ++ (area c h ∷ [])
unfolding add_area
add_new c h [] f = refl
add_new c h (plain d w ∷ es) f = ap (λ (l : List Entry). plain d w ∷ l) (add_new c h es (λ i g e. f (suc i) g e))
add_new c h (area d g ∷ es) f =
    add_miss c h d g es (ne_eqb d c (λ q. f 0 g (ap (λ (x : ℕ). area x g) q))) ∙ ap (λ (l : List Entry). area d g ∷ l) (add_new c h es (λ i g e. f (suc i) g e))

pub add_old : (c h : ℕ) (es : List Entry) (i g : ℕ) → get_or es i no_entry ≡ area c g → ((k x : ℕ) → get_or es k no_entry ≡ area c x → k ≡ i) → add_area c h es ≡ set es i (area c (g + h))
unfolding add_area
add_old c h [] i g e f = absurd (no_area c g 0 0 e)
add_old c h (plain d w ∷ es) zero g e f = absurd (no_area c g d w e)
add_old c h (plain d w ∷ es) (suc i) g e f = ap (λ (l : List Entry). plain d w ∷ l) (add_old c h es i g e (λ k x q. let z : suc k ≡ suc i = f (suc k) x q in omega arith))
add_old c h (area d y ∷ es) zero g e f =
    add_hit c h d y es (eq-eqb d c (same_condition d y c g e))
    ∙ ap₂ (λ (x z : ℕ). area x (z + h) ∷ es) (same_condition d y c g e) (same_figure d y c g e)
add_old c h (area d y ∷ es) (suc i) g e f =
    add_miss c h d y es (ne_eqb d c (λ q. let z : 0 ≡ suc i = f 0 y (ap (λ (x : ℕ). area x y) q) in omega arith))
    ∙ ap (λ (l : List Entry). area d y ∷ l) (add_old c h es i g e (λ k x q. let z : suc k ≡ suc i = f (suc k) x q in omega arith))

-- An area with other hundredths is a term with another weight.
pub rounded-set : (es : List Entry) (i c g h : ℕ) → get_or es i no_entry ≡ area c g → map rounded (set es i (area c h)) ≡ weighing i (weight_of_area h) (map rounded es)
rounded-set [] i c g h e = absurd (no_area c g 0 0 e)
rounded-set (plain d w ∷ es) zero c g h e = absurd (no_area c g d w e)
rounded-set (area d y ∷ es) zero c g h e = ap (λ (x : ℕ). term x (weight_of_area h) ∷ map rounded es) (sym (same_condition d y c g e))
rounded-set (x ∷ es) (suc i) c g h e = ap (λ (l : List Term). rounded x ∷ l) (rounded-set es i c g h e)

-- ---- NOTHING LISTED: a new file, a header, a threshold that opens

pub noted_none : (s : Standing) (ts : List (List ℕ)) (ps ss : List ℕ) → Joinable s ts ps ss → open_start s ts ≡ s.raw_terms → Noted [] s ts ps ss
noted_none s ts ps ss j e = record {
  joinable = j;
  long = omega (arith, e);
  found = λ c q. absurd (let l = j.behind c in omega (arith, e, q, l));
  only = λ i c h q. absurd (no_area c h 0 0 q);
}

pub unnoted_joinable : (s : Standing) (ts : List (List ℕ)) (ps ss : List ℕ) → Unnoted ps ss → Joinable s ts ps ss
unnoted_joinable s ts ps ss u = record {
  places = u.places;
  sums = u.sums;
  behind = λ c. omega (arith, u.blank c);
  small = λ c q. absurd (let z = u.blank c in omega (arith, z, q));
}

pub zeros_unnoted : Unnoted (replicate max_nodes 0) (replicate list_terms 0)
zeros_unnoted = record {
  places = let l = length-replicate {A = ℕ} max_nodes 0 in omega (arith, l);
  sums = let l = length-replicate {A = ℕ} list_terms 0 in omega (arith, l);
  blank = λ c. zero-at max_nodes c;
}
  where
    zero-at : (n c : ℕ) → get_or {A = ℕ} (replicate n 0) c 0 ≡ 0
    zero-at zero c = refl
    zero-at (suc n) zero = refl
    zero-at (suc n) (suc c) = zero-at n c

-- ---- A TERM MORE
pub noted_plain : (es : List Entry) (s : Standing) (ts : List (List ℕ)) (ps ss : List ℕ) → Noted es s ts ps ss → (r : Standing) (ts' : List (List ℕ)) → Joinable r ts' ps ss
    → open_start r ts' ≡ open_start s ts → r.raw_terms ≡ s.raw_terms + 1 → (c w : ℕ) → Noted (es ++ (plain c w ∷ [])) r ts' ps ss
noted_plain es s ts ps ss n r ts' j e q c w = record {
  joinable = j;
  long = let l = length-append es (plain c w ∷ []) in omega (arith, l, e, q, n.long);
  found = λ d h.
      subst (λ (a : ℕ). get_or (es ++ (plain c w ∷ [])) (get_or ps d 0 - 1 - a) no_entry ≡ area d (get_or ss (get_or ps d 0 - 1 - a) 0)) (sym e)
      (behind_old es (plain c w) (get_or ps d 0 - 1 - open_start s ts) d (get_or ss (get_or ps d 0 - 1 - open_start s ts) 0) (n.found d (omega (arith, e, h))));
  only = λ i d h k.
      ⊎_elim (λ (z : get_or es i no_entry ≡ area d h). let m = n.only i d h z in omega (arith, m, e))
      (λ (z : (i ≡ length es) × (plain c w ≡ area d h)). absurd (no_area d h c w z.1)) (behind_which es (plain c w) i d h k);
}

-- ---- THE FIRST AREA OF ITS CONDITION
module _ (es : List Entry) (s : Standing) (c a : ℕ) (cs ws : List ℕ) (ts : List (List ℕ)) (ps ss : List ℕ) (n : Noted es s ts ps ss)
    (r : Standing) (cs' ws' : List ℕ) (ts' : List (List ℕ)) (ps' ss' : List ℕ) (o : FirstArea s c a cs ws ts ps ss r cs' ws' ts' ps' ss') (inside : c < length ps) (room : length es < length ss)
    (e : open_start r ts' ≡ open_start s ts) where
  pub no_first : (i g : ℕ) → get_or es i no_entry ≡ area c g → ⊥
  no_first i g q = let m = n.only i c g q in let k = o.new in omega (arith, m, k)

  at-end : s.raw_terms - open_start s ts ≡ length es
  at-end = omega (arith, n.long)

  place_here : get_or ps' c 0 ≡ s.raw_terms + 1
  place_here = ap (λ (l : List ℕ). get_or l c 0) o.places ∙ get_or-set_same ps c (s.raw_terms + 1) 0 inside

  place_other : (d : ℕ) → (d ≡ c → ⊥) → get_or ps' d 0 ≡ get_or ps d 0
  place_other d f = ap (λ (l : List ℕ). get_or l d 0) o.places ∙ get_or-set_other ps c d (s.raw_terms + 1) 0 f

  sums-here : get_or ss' (length es) 0 ≡ a
  sums-here =
      ap (λ (l : List ℕ). get_or l (length es) 0) o.sums ∙ ap (λ (i : ℕ). get_or (set ss i a) (length es) 0) at-end ∙ get_or-set_same ss (length es) a 0 room

  sums-other : (i : ℕ) → i < length es → get_or ss' i 0 ≡ get_or ss i 0
  sums-other i l =
      ap (λ (x : List ℕ). get_or x i 0) o.sums ∙ get_or-set_other ss (s.raw_terms - open_start s ts) i a 0 (λ q. let z = at-end in omega (arith, l, z, q))

  pub noted_first : Noted (es ++ (area c a ∷ [])) r ts' ps' ss'
  noted_first = record {
    joinable = o.joinable;
    long = let l = length-append es (area c a ∷ []) in let q = ap (λ (x : Standing). x.raw_terms) o.added.standing in omega (arith, l, e, q, n.long);
    found = λ d h. by d (dec_eq d c) h;
    only = λ i d h k.
        ⊎_elim
        (λ (z : get_or es i no_entry ≡ area d h). let m = n.only i d h z in
        let p = place_other d (λ (q : d ≡ c). no_first i h (z ∙ ap (λ (x : ℕ). area x h) q)) in omega (arith, m, e, p))
        (λ (z : (i ≡ length es) × (area c a ≡ area d h)).
        let q = ap (λ (x : ℕ). get_or ps' x 0) (sym (same_condition c a d h z.1)) ∙ place_here in omega (arith, q, z.0, e, n.long)) (behind_which es (area c a) i d h k);
  }
    where
      by : (d : ℕ) → Dec (d ≡ c) → open_start r ts' < get_or ps' d 0
          → get_or (es ++ (area c a ∷ [])) (get_or ps' d 0 - 1 - open_start r ts') no_entry ≡ area d (get_or ss' (get_or ps' d 0 - 1 - open_start r ts') 0)
      by d (yes q) h =
          let p = ap (λ (x : ℕ). get_or ps' x 0) q ∙ place_here in
          let i : get_or ps' d 0 - 1 - open_start r ts' ≡ length es = omega (arith, p, e, n.long) in
          ap (λ (x : ℕ). get_or (es ++ (area c a ∷ [])) x no_entry) i ∙ behind_new es (area c a)
          ∙ ap₂ (λ (x y : ℕ). area x y) (sym q) (sym (ap (λ (x : ℕ). get_or ss' x 0) i ∙ sums-here))
      by d (no q) h =
          let p = place_other d q in
          let i : get_or ps' d 0 - 1 - open_start r ts' ≡ get_or ps d 0 - 1 - open_start s ts = omega (arith, p, e) in
          let f = n.found d (omega (arith, h, p, e)) in
          let l = area_inside es (get_or ps d 0 - 1 - open_start s ts) d (get_or ss (get_or ps d 0 - 1 - open_start s ts) 0) f in
          ap (λ (x : ℕ). get_or (es ++ (area c a ∷ [])) x no_entry) i
          ∙ behind_old es (area c a) (get_or ps d 0 - 1 - open_start s ts) d (get_or ss (get_or ps d 0 - 1 - open_start s ts) 0) f
          ∙ ap (area d) (sym (ap (λ (x : ℕ). get_or ss' x 0) i ∙ sums-other (get_or ps d 0 - 1 - open_start s ts) l))

-- ---- ANY OTHER
module _ (es : List Entry) (s : Standing) (c a : ℕ) (cs ws : List ℕ) (ts : List (List ℕ)) (ps ss : List ℕ) (n : Noted es s ts ps ss)
    (r : Standing) (ws' ss' : List ℕ) (o : MoreArea s c a cs ws ts ps ss r ws' ss') (room : length es ≤ length ss) where
  abbrev spot : ℕ
  spot = get_or ps c 0 - 1 - open_start s ts

  abbrev so_far : ℕ
  so_far = get_or ss spot 0

  pub stands_there : get_or es spot no_entry ≡ area c so_far
  stands_there = n.found c o.there

  pub spot_inside : spot < length es
  spot_inside = area_inside es spot c so_far stands_there

  pub only_one : (k x : ℕ) → get_or es k no_entry ≡ area c x → k ≡ spot
  only_one k x q = let m = n.only k c x q in omega (arith, m)

  changed : List Entry
  changed = set es spot (area c (so_far + a))

  at-spot : get_or changed spot no_entry ≡ area c (so_far + a)
  unfolding changed
  at-spot = get_or-set_same es spot (area c (so_far + a)) no_entry spot_inside

  elsewhere : (i : ℕ) → (i ≡ spot → ⊥) → get_or changed i no_entry ≡ get_or es i no_entry
  unfolding changed
  elsewhere i f = get_or-set_other es spot i (area c (so_far + a)) no_entry f

  sum-here : get_or ss' spot 0 ≡ so_far + a
  sum-here = ap (λ (l : List ℕ). get_or l spot 0) o.sums ∙ get_or-set_same ss spot (so_far + a) 0 (let l = spot_inside in omega (arith, l, room))

  sum-elsewhere : (i : ℕ) → (i ≡ spot → ⊥) → get_or ss' i 0 ≡ get_or ss i 0
  sum-elsewhere i f = ap (λ (l : List ℕ). get_or l i 0) o.sums ∙ get_or-set_other ss spot i (so_far + a) 0 f

  start_same : open_start r ts ≡ open_start s ts
  start_same = ap (λ (x : Standing). open_start x ts) o.reweighed.standing

  pub noted_more : Noted (set es spot (area c (so_far + a))) r ts ps ss'
  unfolding changed
  noted_more = record {
    joinable = o.joinable;
    long = let l = length-set es spot (area c (so_far + a)) in let q = ap (λ (x : Standing). x.raw_terms) o.reweighed.standing in let e = start_same in omega (arith, l, q, e, n.long);
    found = λ d h.
        subst (λ (x : ℕ). get_or (set es spot (area c (so_far + a))) (get_or ps d 0 - 1 - x) no_entry ≡ area d (get_or ss' (get_or ps d 0 - 1 - x) 0)) (sym start_same)
        (by d (n.found d (let e = start_same in omega (arith, e, h))) (dec_eq (get_or ps d 0 - 1 - open_start s ts) spot));
    only = λ i d h k. which i d h k (dec_eq i spot);
  }
    where
      by : (d : ℕ) → get_or es (get_or ps d 0 - 1 - open_start s ts) no_entry ≡ area d (get_or ss (get_or ps d 0 - 1 - open_start s ts) 0) → Dec (get_or ps d 0 - 1 - open_start s ts ≡ spot)
          → get_or (set es spot (area c (so_far + a))) (get_or ps d 0 - 1 - open_start s ts) no_entry ≡ area d (get_or ss' (get_or ps d 0 - 1 - open_start s ts) 0)
      by d f (yes q) =
          let same : c ≡ d = same_condition c so_far d (get_or ss (get_or ps d 0 - 1 - open_start s ts) 0) (sym stands_there ∙ ap (λ (x : ℕ). get_or es x no_entry) (sym q) ∙ f) in
          ap (λ (x : ℕ). get_or changed x no_entry) q ∙ at-spot ∙ ap₂ (λ (x y : ℕ). area x y) same (sym (ap (λ (x : ℕ). get_or ss' x 0) q ∙ sum-here))
      by d f (no q) = elsewhere (get_or ps d 0 - 1 - open_start s ts) q ∙ f ∙ ap (area d) (sym (sum-elsewhere (get_or ps d 0 - 1 - open_start s ts) q))

      which : (i d h : ℕ) → get_or (set es spot (area c (so_far + a))) i no_entry ≡ area d h → Dec (i ≡ spot) → get_or ps d 0 ≡ open_start r ts + i + 1
      which i d h k (yes q) =
          let same : c ≡ d = same_condition c (so_far + a) d h (sym at-spot ∙ ap (λ (x : ℕ). get_or changed x no_entry) (sym q) ∙ k) in
          let p = ap (λ (x : ℕ). get_or ps x 0) same in let e = start_same in let t = o.there in omega (arith, p, q, e, t)
      which i d h k (no q) = let m = n.only i d h (sym (elsewhere i q) ∙ k) in let e = start_same in omega (arith, m, e)
