-- Equal rows form one chain: a row is the extension of one link at most (`links-once`), and the prefix of one link at most to a row
-- with as many terms. Assumes nothing.
use Prim.Native.Nat.{ℕ}
use Rattle.std.specs.Prelude.{◌≡◌, ◌⊎◌, Bool, length}
use Rattle.std.proofs.Math.Path.{refl}
use Rattle.std.proofs.Common.{sym, ap, ◌∙◌, subst, inl, inr, eq-eqb}
use Rattle.std.proofs.Math.Bool.{true, false}
use mathlib.Core.List.Memᴰ
use mathlib.Core.List.{List, [], ◌∷◌, Memᴰ}
use Rattle.std.proofs.Math.Dec.{eqb, ltb}
use Rattle.numeric.specs.Threshold.{Term}
use Rattle.rows.specs.Rows.{Row}
use Rattle.links.specs.Links.{Link, terms_at, common, order_from, ancestors, stacked, linked, links_from, links}
use Rattle.links.proofs.OrderLaws.{Distinct, order_distinct}
use Rattle.links.proofs.LinksLaws.{link, pop, keep, replaced, topped, kept_from, stacked_from, from_range}

module _ (rs : List Row) where
  kept-distinct : (c : ℕ) (st : List ℕ) → Distinct st → Distinct (ancestors rs c st)
  unfolding ancestors
  kept-distinct c [] d = tt
  kept-distinct c (a ∷ more) d = by (kept-distinct c more d.1) (ltb c (length (terms_at rs a))) refl
    where
      by : Distinct (ancestors rs c more) → (b : Bool) → ltb c (length (terms_at rs a)) ≡ b → Distinct (ancestors rs c (a ∷ more))
      by ih true e = rw (pop rs [] c a more e) ih
      by ih false e = rw (keep rs [] c a more e) d

  stacked-distinct : (r : ℕ) (kept : List ℕ) → Distinct kept → (Memᴰ r kept → ⊥) → Distinct (stacked rs r kept)
  unfolding stacked
  stacked-distinct r [] d n = ((λ i. Memᴰ.not-nil i), tt)
  stacked-distinct r (a ∷ more) d n = by (eqb (length (terms_at rs a)) (length (terms_at rs r))) refl
    where
      by : (b : Bool) → eqb (length (terms_at rs a)) (length (terms_at rs r)) ≡ b → Distinct (stacked rs r (a ∷ more))
      by true e = rw (replaced rs [] r a more e) ((λ i. n (Memᴰ.tail i)), d.1)
      by false e = rw (topped rs [] r a more e) (n, d)

  -- whose place was taken stands on the stack no more
  gone : (r p : ℕ) (kept : List ℕ) → Distinct kept → (Memᴰ r kept → ⊥) → (e : ℕ) → Memᴰ (link p e) (linked r kept) → length (terms_at rs e) ≡ length (terms_at rs p)
      → (e ≡ r) × (Memᴰ p kept) × (Memᴰ p (stacked rs r kept) → ⊥)
  unfolding linked
  gone r p [] d n e i l = absurd (Memᴰ.not-nil i)
  gone r p (a ∷ more) d n e i l = (er, Memᴰ.head pa, away)
    where
      q : link p e ≡ link a r
      q = Memᴰ.eq_of_singleton i

      pa : p ≡ a
      pa = ap (λ (x : Link). x.prefix) q

      er : e ≡ r
      er = ap (λ (x : Link). x.extension) q

      same : length (terms_at rs a) ≡ length (terms_at rs r)
      same = ap (λ (x : ℕ). length (terms_at rs x)) (sym pa) ∙ sym l ∙ ap (λ (x : ℕ). length (terms_at rs x)) er

      split : (p ≡ r) ⊎ Memᴰ p more → ⊥
      split (inl z) = n (Memᴰ.head (sym z ∙ pa))
      split (inr j) = d.0 (subst (λ (x : ℕ). Memᴰ x more) pa j)

      away : Memᴰ p (stacked rs r (a ∷ more)) → ⊥
      away j = split (Memᴰ.cases_cons (rw (replaced rs [] r a more (eq-eqb (length (terms_at rs a)) (length (terms_at rs r)) same)) at j))

  from-chain : (order : List ℕ) (t : List Term) (st : List ℕ) → Distinct order → Distinct st → ((a : ℕ) → Memᴰ a st → Memᴰ a order → ⊥)
      → (p e f : ℕ) → Memᴰ (link p e) (links_from rs order t st) → Memᴰ (link p f) (links_from rs order t st)
      → length (terms_at rs e) ≡ length (terms_at rs p) → length (terms_at rs f) ≡ length (terms_at rs p) → e ≡ f
  unfolding links_from
  from-chain [] t st d s n p e f i j k l = absurd (Memᴰ.not-nil i)
  from-chain (r ∷ more) t st d s n p e f i j k l =
      by (Memᴰ.append_cases (linked r kept) i) (Memᴰ.append_cases (linked r kept) j)
      (λ a b. from-chain more (terms_at rs r) (stacked rs r kept) d.1 (stacked-distinct r kept (kept-distinct (common t (terms_at rs r)) st s) new) (λ x u v. apart x v (stacked_from rs r x kept u)) p e f a b k l)
    where
      kept : List ℕ
      kept = ancestors rs (common t (terms_at rs r)) st

      rest : List Link
      rest = links_from rs more (terms_at rs r) (stacked rs r kept)

      old : (x : ℕ) → Memᴰ x kept → Memᴰ x st
      old x u = kept_from rs [] (common t (terms_at rs r)) x st u

      new : Memᴰ r kept → ⊥
      new u = n r (old r u) (Memᴰ.head refl)

      apart : (x : ℕ) → Memᴰ x more → (x ≡ r) ⊎ Memᴰ x kept → ⊥
      apart x v (inl z) = d.0 (subst (λ (y : ℕ). Memᴰ y more) z v)
      apart x v (inr u) = n x (old x u) (Memᴰ.tail v)

      later : (g : ℕ) → Memᴰ (link p g) rest → Memᴰ p more ⊎ Memᴰ p (stacked rs r kept)
      later g a = (from_range rs (λ x. Memᴰ x more ⊎ Memᴰ x (stacked rs r kept)) more (terms_at rs r) (stacked rs r kept) (λ x u. inl u) (λ x u. inr u) p g a).0

      none : (g h : ℕ) → Memᴰ (link p g) (linked r kept) → length (terms_at rs g) ≡ length (terms_at rs p) → Memᴰ (link p h) rest → ⊥
      none g h a m b = go (gone r p kept (kept-distinct (common t (terms_at rs r)) st s) new g a m) (later h b)
        where
          go : (g ≡ r) × (Memᴰ p kept) × (Memᴰ p (stacked rs r kept) → ⊥) → Memᴰ p more ⊎ Memᴰ p (stacked rs r kept) → ⊥
          go w (inl u) = apart p u (inr w.1)
          go w (inr u) = w.2 u

      by : Memᴰ (link p e) (linked r kept) ⊎ Memᴰ (link p e) rest → Memᴰ (link p f) (linked r kept) ⊎ Memᴰ (link p f) rest
          → (Memᴰ (link p e) rest → Memᴰ (link p f) rest → e ≡ f) → e ≡ f
      by (inl a) (inl b) ih =
          (gone r p kept (kept-distinct (common t (terms_at rs r)) st s) new e a k).0 ∙ sym (gone r p kept (kept-distinct (common t (terms_at rs r)) st s) new f b l).0
      by (inl a) (inr b) ih = absurd (none e f a k b)
      by (inr a) (inl b) ih = absurd (none f e b l a)
      by (inr a) (inr b) ih = ih a b

  -- OF THE LINKS FROM A ROW ONE AT MOST LEADS TO A ROW OF EQUAL LENGTH
  pub equal_chain : (p e f : ℕ) → Memᴰ (link p e) (links rs) → Memᴰ (link p f) (links rs)
      → length (terms_at rs e) ≡ length (terms_at rs p) → length (terms_at rs f) ≡ length (terms_at rs p) → e ≡ f
  unfolding links
  equal_chain = from-chain (order_from rs 0 rs) [] [] (order_distinct rs 0 rs) tt (λ a u v. Memᴰ.not-nil u)
