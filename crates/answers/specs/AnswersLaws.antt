-- An answer put after those that are there: the buffer then holds one more.
use Rattle.std.specs.Prelude.{ℕ, ◌+◌, ◌<◌, suc, ◌≡◌, refl, List, [], ◌∷◌, ◌++◌, length, set}
use Rattle.std.proofs.Common.{arith, sym, ap, ap₂, ◌∙◌, append-nil, length-append, not-suc-le-zero, le_of_suc-le-suc}
use Rattle.base.specs.Laid.{over, pairs}
use Rattle.files.specs.File.{Answer}
use Rattle.files.specs.Contents.{answer_number, answer_visits}
use Rattle.answers.specs.Answers.{answers_of}

over-put : {X : Type 0} (l base : List X) (x : X) → length l < length base → set (over l base) (length l) x ≡ over (l ++ (x ∷ [])) base
over-put [] [] x h = absurd (not-suc-le-zero h)
over-put [] (y ∷ base) x h = refl
over-put (z ∷ l) [] x h = absurd (not-suc-le-zero h)
over-put (z ∷ l) (y ∷ base) x h = ap (λ (t : List _). z ∷ t) (over-put l base x (le_of_suc-le-suc h))

pairs_more : (as' : List Answer) (a : Answer) → answers_of (as' ++ (a ∷ [])) ≡ answers_of as' ++ ((answer_number a ∷ answer_visits a ∷ []) ∷ [])
unfolding pairs
pairs_more [] a = refl
pairs_more (x ∷ as') a = ap (λ (t : List (List ℕ)). (answer_number x ∷ answer_visits x ∷ []) ∷ t) (pairs_more as' a)

pairs_long : (as' : List Answer) → length (answers_of as') ≡ length as'
unfolding pairs
pairs_long [] = refl
pairs_long (x ∷ as') = ap suc (pairs_long as')

-- An answer is put behind those that are there.
module _ (as' : List Answer) (base l : List (List ℕ)) (e : l ≡ over (answers_of as') base) (n : ℕ) (long : n ≡ length as') (room : n < length base) where
  pub answer_put : (a : Answer) (i j : ℕ) → i ≡ answer_number a → j ≡ answer_visits a → (m : List (List ℕ)) → m ≡ set l n (i ∷ j ∷ []) → m ≡ over (answers_of (as' ++ (a ∷ []))) base
  answer_put a i j p q m made =
      let x : List ℕ = answer_number a ∷ answer_visits a ∷ [] in
      made ∙ ap₂ (λ (y z : ℕ). set l n (y ∷ z ∷ [])) p q ∙ ap₂ (λ (y : List (List ℕ)) (i : ℕ). set y i x) e (long ∙ sym (pairs_long as'))
      ∙ over-put (answers_of as') base x (omega (arith, pairs_long as')) ∙ ap (λ (t : List (List ℕ)). over t base) (sym (pairs_more as' a))

pub answer_more : (as' : List Answer) (a : Answer) (n m : ℕ) → n ≡ length as' → m ≡ n + 1 → m ≡ length (as' ++ (a ∷ []))
answer_more as' a n m e f = omega (arith, length-append as' (a ∷ []))

-- None is put.
pub answer_none : (as' : List Answer) (base l : List (List ℕ)) → l ≡ over (answers_of as') base → l ≡ over (answers_of (as' ++ [])) base
answer_none as' base l e = e ∙ ap (λ (t : List Answer). over (answers_of t) base) (sym (append-nil as'))

pub answer_same : (as' : List Answer) (n : ℕ) → n ≡ length as' → n ≡ length (as' ++ [])
answer_same as' n e = e ∙ ap (λ (t : List Answer). length t) (sym (append-nil as'))
