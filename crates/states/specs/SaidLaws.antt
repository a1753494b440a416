-- At exit of a walk, of every parameter just what the contract says of its last value. Assumes `Logic`.

-- What is here:
--     said_slot        a `Stay`: what is had at exit is what the contract says (`left`). A callee's `lasts` is that, so a parameter that was passed on is had with no step
--     saids, goes_saids    the same for each of a list of slots, and its law
--     gives_up         a `&mut [T]` that is still owned, given up: its last list is the one that it holds
--     gives-up-at      the same where the length is n by an equation
--     two_go           for both parts of what is owned
use Rattle.std.specs.Prelude.{◌≡◌, ℕ, List, [], ◌∷◌, length}
use seplogic.Ra.Ura.{Ura}
use mir.Syntax.{Lifetime}
use mir.Val.{Val}
use base.Logic.{SProp, ent, sep, via, mono_l, mono_r}
use base.Fml.{Lft, GName, Fml, ftrue, fsep, fobs, fres, feq}
use types.Logic.{Logic, sem}
use types.Kit.{‵, ◌$◌, ◌∵◌, !, qed, by, move, keep, drop, use1, fsplit, fjoin, feq_i, done}
use Rattle.std.specs.Borrow.{RattleType, MutBor}
use denote.Slice.{MutSlice, finally, res-finally, coded_holeys, heres}
use denote.Signature.{Slot}
use denote.Steps.{nothing}
use denote.Exit.{Kept, left}
use denote.Triple.End.{Kepts}
use denote.Triple.Walked.{Stay, Stays, AllGo}

abbrev pub said_slot : {n : ℕ} (s : Slot n) (k : Kept) → Stay s k
said_slot s k = record { fit = λ κs x f. Unit {0}; has = λ κs x f vs. left ((s.row κs).exit k) x f }

abbrev pub saids : {n : ℕ} (ss : List (Slot n)) (ks : Kepts ss) → Stays ss ks
saids [] ks = tt
saids (s ∷ ss) ks = (said_slot s ks.0, saids ss ks.1)

module _ {M : Type 1} {𝓤 : Ura M} (𝓛 : Logic 𝓤) where
  pub goes_saids : (n : ℕ) (ss : List (Slot n)) (ks : Kepts ss) → AllGo 𝓛 n ss ks (saids ss ks)
  goes_saids n [] ks = tt
  goes_saids n (s ∷ ss) ks = (λ κs x f vs ok. 𝓛.laws.⇛_intro _, goes_saids n ss ks.1)

  -- what a `&mut [T]` observes is its last list
  pub last_list_lem : (ℓ : Lifetime) (κ : Lft) (R : RattleType) (γ : GName) (zs : List R.Denot) (n : ℕ) → length zs ≡ n
      → ent 𝓤 (sem 𝓛 (fobs γ ((coded_holeys R).code (heres R zs)))) (sem 𝓛 (fsep (finally R γ zs) (feq ℕ (length zs) n)))
  last_list_lem ℓ κ R γ zs n e =
      qed 𝓛 (‵ (fobs γ ((coded_holeys R).code (heres R zs))) ∷ []) ∵
      use1 𝓛 (‵ (fres γ ((coded_holeys R).code (heres R zs)))) (𝓛.names.obs-res γ ((coded_holeys R).code (heres R zs))) $
      use1 𝓛 (‵ (finally R γ zs)) (res-finally 𝓛 ℓ κ R γ zs) $ feq_i ! ℕ (length zs) n e $ move ! (1 ∷ 0 ∷ []) $ fjoin ! $ done !

  pub gives_up : (ℓ : Lifetime) (κ : Lft) (R : RattleType) (x : MutBor (List R.Denot)) (vs : List Val) (n : ℕ) → length x.now ≡ n
      → ent 𝓤 (sem 𝓛 ((MutSlice ℓ κ R).own_val x vs)) (sem 𝓛 (fsep (finally R x.ghost_name x.now) (feq ℕ (length x.now) n)))
  gives_up ℓ κ R x vs n e =
      qed 𝓛 (‵ ((MutSlice ℓ κ R).own_val x vs) ∷ []) ∵ fsplit ! $ move ! (1 ∷ []) $ fsplit ! $ keep ! (0 ∷ []) $ by ! (last_list_lem ℓ κ R x.ghost_name x.now n e)

  pub lets_go : (F : Fml) → ent 𝓤 (sem 𝓛 F) (sem 𝓛 ftrue)
  lets_go F = qed 𝓛 (‵ F ∷ []) ∵ drop ! $ nothing ! $ done !

  pub two_go : {P Q P' Q' : SProp 𝓤} → ent 𝓤 P P' → ent 𝓤 Q Q' → ent 𝓤 (sep 𝓤 P Q) (sep 𝓤 P' Q')
  two_go {P} {Q} {P'} {Q'} h g = via 𝓤 (sep 𝓤 P' Q) (mono_l 𝓤 Q h) (mono_r 𝓤 P' g)
