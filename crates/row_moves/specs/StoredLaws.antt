-- Words put anew in one row: the state that they make, and that tidy ones stay tidy. Assumes nothing.
use Rattle.std.specs.Prelude.{ℕ, zero, suc, ◌<◌, ◌≡◌, refl, Bool, true, false, length, set, pos}
use Rattle.std.proofs.Common.{not-suc-le-zero, le_of_suc-le-suc, sym, ap, ◌∙◌}
use Rattle.std.proofs.Math.Path.{subst}
use mathlib.Core.List.{List, [], ◌∷◌, map}
use Rattle.std.proofs.Math.ListN.{get_or}
use Rattle.std.proofs.lemmas.List.{set-get_or}
use Rattle.std.proofs.Math.IntN.{ℤ}
use Rattle.state.specs.declared.State.{State}
use Rattle.state.specs.State.{state_of, no_state, with_known, with_possible, with_guards, with_terms, drained, figures_of, cursors_of}
use Rattle.queues.specs.SlotLaws.{map-set}
use Rattle.row_runs.proofs.RowLaws.{Moved}
use Rattle.row_moves.specs.Numbers.{row_state, states_of, Tidy}
use Rattle.row_moves.specs.NumbersLaws.{states_at}
use Rattle.row_moves.specs.Stored.{Stored, with_sums, with_cursors, sum_words, cursor_words}

states_put : (fs : List (List ℤ)) (cs : List (List ℕ)) (r : ℕ) (f : List ℤ) (c : List ℕ) → states_of (set fs r f) (set cs r c) ≡ set (states_of fs cs) r (row_state f c)
unfolding states_of
states_put [] cs r f c = refl
states_put (g ∷ gs) [] zero f c = refl
states_put (g ∷ gs) [] (suc r) f c = refl
states_put (g ∷ gs) (d ∷ ds) zero f c = refl
states_put (g ∷ gs) (d ∷ ds) (suc r) f c = ap (λ (y : List State). row_state g d ∷ y) (states_put gs ds r f c)

-- The words of one row are those of its state.
record Neat (f : List ℤ) (c : List ℕ) : Type 0 where
  figures : f ≡ figures_of (row_state f c)
  cursors : c ≡ cursors_of (row_state f c)

at_map : {A B : Type 0} (f : A → B) (l : List A) (i : ℕ) (a : A) (b : B) → i < length l → get_or (map f l) i b ≡ f (get_or l i a)
at_map f [] i a b h = absurd (not-suc-le-zero h)
at_map f (x ∷ xs) zero a b h = refl
at_map f (x ∷ xs) (suc i) a b h = at_map f xs i a b (le_of_suc-le-suc h)

module _ (fs : List (List ℤ)) (cs : List (List ℕ)) (r : ℕ) (h : r < length (states_of fs cs)) where
  neat-at : Tidy fs cs → Neat (get_or fs r []) (get_or cs r [])
  neat-at t =
      let ss = states_of fs cs in
      let e = states_at fs cs r h in
      record {
        figures = ap (λ (l : List (List ℤ)). get_or l r []) t.figures ∙ at_map figures_of ss r no_state [] h ∙ ap figures_of e;
        cursors = ap (λ (l : List (List ℕ)). get_or l r []) t.cursors ∙ at_map cursors_of ss r no_state [] h ∙ ap cursors_of e;
      }

  tidy-put : (f : List ℤ) (c : List ℕ) → (Neat (get_or fs r []) (get_or cs r []) → Neat f c) → Tidy fs cs → Tidy (set fs r f) (set cs r c)
  tidy-put f c keeps t =
      let ss = states_of fs cs in
      let n = keeps (neat-at t) in
      let e = sym (states_put fs cs r f c) in
      record {
        figures =
            ap (λ (l : List (List ℤ)). set l r f) t.figures ∙ ap (set (map figures_of ss) r) n.figures
            ∙ sym (map-set figures_of ss r (row_state f c)) ∙ ap (λ (l : List State). map figures_of l) e;
        cursors =
            ap (λ (l : List (List ℕ)). set l r c) t.cursors ∙ ap (set (map cursors_of ss) r) n.cursors
            ∙ sym (map-set cursors_of ss r (row_state f c)) ∙ ap (λ (l : List State). map cursors_of l) e;
      }

  -- A row with the sums of a drained term.
  pub stored_sums : (fs' : List (List ℤ)) (k p : ℤ) → fs' ≡ set fs r (sum_words (get_or fs r []) k p) → Stored fs cs fs' cs r (with_sums (get_or (states_of fs cs) r no_state) k p)
  unfolding row_state with_known with_possible
  stored_sums fs' k p e = subst (λ (l : List (List ℤ)). Stored fs cs l cs r (with_sums (get_or (states_of fs cs) r no_state) k p)) (sym e) made
    where
      f : List ℤ
      f = get_or fs r []

      c : List ℕ
      c = get_or cs r []

      word : row_state (sum_words f k p) c ≡ with_sums (row_state f c) k p
      word = refl

      neat : Neat f c → Neat (sum_words f k p) c
      neat n = record {
        figures = ap (λ (l : List ℤ). k ∷ p ∷ get_or f 2 (pos 0) ∷ get_or l 3 (pos 0) ∷ []) n.figures;
        cursors = n.cursors;
      }

      same : set cs r c ≡ cs
      same = set-get_or cs r []

      made : Stored fs cs (set fs r (sum_words f k p)) cs r (with_sums (get_or (states_of fs cs) r no_state) k p)
      made = record {
        states =
            ap (states_of (set fs r (sum_words f k p))) (sym same) ∙ states_put fs cs r (sum_words f k p) c ∙ ap (set (states_of fs cs) r) word
            ∙ ap (λ (s : State). set (states_of fs cs) r (with_sums s k p)) (sym (states_at fs cs r h));
        tidy = λ t. subst (λ (l : List (List ℕ)). Tidy (set fs r (sum_words f k p)) l) same (tidy-put (sum_words f k p) c neat t);
      }

  -- A row with the cursors of a state that a run moved.
  pub stored_cursors : (cs' : List (List ℕ)) (u : State) → cs' ≡ set cs r (cursor_words (get_or cs r []) u) → Stored fs cs fs cs' r (with_cursors (get_or (states_of fs cs) r no_state) u)
  unfolding row_state with_guards with_terms
  stored_cursors cs' u e = subst (λ (l : List (List ℕ)). Stored fs cs fs l r (with_cursors (get_or (states_of fs cs) r no_state) u)) (sym e) made
    where
      f : List ℤ
      f = get_or fs r []

      c : List ℕ
      c = get_or cs r []

      word : row_state f (cursor_words c u) ≡ with_cursors (row_state f c) u
      word = refl

      neat : Neat f c → Neat f (cursor_words c u)
      neat n = record {
        figures = n.figures;
        cursors = ap (λ (l : List ℕ). u.sure_guard ∷ u.never_guard ∷ u.true_term ∷ u.false_term ∷ get_or l 4 0 ∷ []) n.cursors;
      }

      same : set fs r f ≡ fs
      same = set-get_or fs r []

      made : Stored fs cs fs (set cs r (cursor_words c u)) r (with_cursors (get_or (states_of fs cs) r no_state) u)
      made = record {
        states =
            ap (λ (l : List (List ℤ)). states_of l (set cs r (cursor_words c u))) (sym same) ∙ states_put fs cs r f (cursor_words c u) ∙ ap (set (states_of fs cs) r) word
            ∙ ap (λ (s : State). set (states_of fs cs) r (with_cursors s u)) (sym (states_at fs cs r h));
        tidy = λ t. subst (λ (l : List (List ℤ)). Tidy l (set cs r (cursor_words c u))) same (tidy-put f (cursor_words c u) neat t);
      }

-- What a drained term leaves is its sums, and what a run leaves its cursors.
pub sums_drained : (value : Bool) (w : ℕ) (s t : State) → t ≡ drained value w s → with_sums s t.known t.possible ≡ drained value w s
unfolding drained with_known with_possible
sums_drained value w s t e = ap (λ (y : State). with_sums s y.known y.possible) e ∙ by value
  where
    by : (v : Bool) → with_sums s (drained v w s).known (drained v w s).possible ≡ drained v w s
    by true = refl
    by false = refl

pub cursors_moved : (s t : State) → Moved s t → with_cursors s t ≡ t
unfolding with_guards with_terms
cursors_moved s t m =
    sym (λ i. state_of (m.known i) (m.possible i) (m.lower i) (m.upper i) t.sure_guard t.never_guard t.true_term t.false_term)
