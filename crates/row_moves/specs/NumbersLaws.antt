-- Laws of row states as the buffers hold them: what is stored is read again, and tidy words stay tidy.
use Rattle.std.specs.Prelude.{ℕ, zero, suc, ◌≤◌, ◌<◌, ◌≡◌, refl, cond, List, [], ◌∷◌, map, length, get_or, set, ℤ, Option, None, Some}
use Rattle.std.proofs.Common.{not-suc-le-zero, le_of_suc-le-suc, arith, sym, ap, ◌∙◌}
use Rattle.state.specs.declared.State.{State}
use Rattle.state.specs.State.{state_of, no_state, limit, limited, figures_of, cursors_of}
use Rattle.queues.specs.SlotLaws.{map-set}
use Rattle.row_moves.specs.Numbers.{row_state, Runs, states_of, Tidy, Same}

-- What is stored is what is read again.
pub stored_read : (s : State) → row_state (figures_of s) (cursors_of s) ≡ s
unfolding row_state
stored_read s = by s.upper
  where
    by : (u : Option ℤ) → row_state (s.known ∷ s.possible ∷ s.lower ∷ limit u ∷ []) (s.sure_guard ∷ s.never_guard ∷ s.true_term ∷ s.false_term ∷ cond (limited u) 1 0 ∷ [])
        ≡ state_of s.known s.possible s.lower u s.sure_guard s.never_guard s.true_term s.false_term
    by None = refl
    by (Some b) = refl

pub runs_by : (s t : State) (bounds : List ℤ) → s ≡ t → Runs t bounds → Runs s bounds
runs_by s t bounds e r = rw e r

pub states_at : (fs : List (List ℤ)) (cs : List (List ℕ)) (r : ℕ) → r < length (states_of fs cs) → get_or (states_of fs cs) r no_state ≡ row_state (get_or fs r []) (get_or cs r [])
unfolding states_of
states_at [] cs r h = absurd (not-suc-le-zero h)
states_at (f ∷ fs) [] r h = absurd (not-suc-le-zero h)
states_at (f ∷ fs) (c ∷ cs) zero h = refl
states_at (f ∷ fs) (c ∷ cs) (suc r) h = states_at fs cs r (le_of_suc-le-suc h)

-- As many states as both have rows.
pub states_figures : (fs : List (List ℤ)) (cs : List (List ℕ)) → length (states_of fs cs) ≤ length fs
unfolding states_of
states_figures [] cs = omega arith
states_figures (f ∷ fs) [] = omega arith
states_figures (f ∷ fs) (c ∷ cs) = omega (arith, states_figures fs cs)

pub states_cursors : (fs : List (List ℤ)) (cs : List (List ℕ)) → length (states_of fs cs) ≤ length cs
unfolding states_of
states_cursors [] cs = omega arith
states_cursors (f ∷ fs) [] = omega arith
states_cursors (f ∷ fs) (c ∷ cs) = omega (arith, states_cursors fs cs)

-- A state that is stored in both is stored among them.
pub states_set : (fs fs' : List (List ℤ)) (cs cs' : List (List ℕ)) (r : ℕ) (s : State) → r < length (states_of fs cs)
    → fs' ≡ set fs r (figures_of s) → cs' ≡ set cs r (cursors_of s) → states_of fs' cs' ≡ set (states_of fs cs) r s
unfolding states_of
states_set fs fs' cs cs' r s h e f = ap (λ (y : List (List ℤ)). states_of y cs') e ∙ ap (states_of (set fs r (figures_of s))) f ∙ go fs cs r (omega (arith, states_figures fs cs)) (omega (arith, states_cursors fs cs))
  where
    go : (gs : List (List ℤ)) (ds : List (List ℕ)) (i : ℕ) → i < length gs → i < length ds → states_of (set gs i (figures_of s)) (set ds i (cursors_of s)) ≡ set (states_of gs ds) i s
    go [] ds i a b = absurd (not-suc-le-zero a)
    go (g ∷ gs) [] i a b = absurd (not-suc-le-zero b)
    go (g ∷ gs) (d ∷ ds) zero a b = ap (λ (y : State). y ∷ states_of gs ds) (stored_read s)
    go (g ∷ gs) (d ∷ ds) (suc i) a b = ap (λ (y : List State). row_state g d ∷ y) (go gs ds i (le_of_suc-le-suc a) (le_of_suc-le-suc b))

pub tidy_store : (fs fs' : List (List ℤ)) (cs cs' : List (List ℕ)) (r : ℕ) (s : State) → r < length (states_of fs cs)
    → fs' ≡ set fs r (figures_of s) → cs' ≡ set cs r (cursors_of s) → Tidy fs cs → Tidy fs' cs'
tidy_store fs fs' cs cs' r s h e f t =
    let g = sym (states_set fs fs' cs cs' r s h e f) in record {
      figures =
          e ∙ ap (λ (l : List (List ℤ)). set l r (figures_of s)) t.figures
          ∙ sym (map-set figures_of (states_of fs cs) r s) ∙ ap (λ (l : List State). map figures_of l) g;
      cursors =
          f ∙ ap (λ (l : List (List ℕ)). set l r (cursors_of s)) t.cursors
          ∙ sym (map-set cursors_of (states_of fs cs) r s) ∙ ap (λ (l : List State). map cursors_of l) g;
    }

-- ---- all that draining changes

pub same_self : (fs : List (List ℤ)) (cs : List (List ℕ)) (s n l : List ℕ) (q : List (List ℕ)) → Same fs cs s n l q fs cs s n l q
same_self fs cs s n l q = record { figures = refl; cursors = refl; sure = refl; never = refl; node_queue = refl; row_queues = refl }
