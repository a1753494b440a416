-- A function that is lent one row state and a bound and stores one field of the state, as `raise_lower` and `lower_upper` do: its contract, and a walk of its MIR, by hand.
-- Two such functions differ in the field and in what is stored there; that the value so made is the state that the contract names is the fact that each shows (`stored`). Assumes nothing.
use mathlib.Core.Path.{◌≡◌, refl}
use Prim.Native.Nat.{ℕ, ◌<◌, ◌^◌}
use mathlib.Core.Option.{some}
use mathlib.Core.List.{[], ◌∷◌, List}
use seplogic.Ra.Ura.{Ura}
use base.Fraction.{full_share}
use lib.Dec.{T as Holds}
use lib.IntN.{ℤ}
use lib.Signed.{mag}
use mir.Syntax.{Ty, Fn, Rv as RValue, named, w64, ty_unit, ty_int, ty_ref, mut, local, value_local, seq, assign, place, deref, field, rv_opd, opd_unit, return}
use mir.Val.{Val, Vals, WT, has_ty, vunit, vint, vptr, vstruct, of_z}
use mir.Fields.{set_v}
use mir.Facts.{Fits-of_z}
use base.Logic.{SProp, ent, sep, emp, via, fst∗}
use base.Fml.{GName, Lft, Share, ftrue, fat, flft, fobs, fbor}
use prog.Memory.{field_of}
use prog.Wp.{Env, Calls, Loops, WpFn, Tables}
use types.Logic.{Logic}
use contract.Monad.{fact}
use types.Kit.{Item, Go, rewrite, ‵, ◌⊛◌, ◌$◌, ◌∵◌, !, qed, by, move, keep, drop, use1, split, join, fsplit, fsplit3, fjoin, fjoin3, feq_i, suffices, frame, done}
use types.Run.{Rv, look, init, forget, stop, hop, fld, from, unit_lit, of_opd, assigns, returns, enter, alloc1, alloc0, params1, pass1, pass0, free1, free0}
use types.Part.{whole, sub, store_in}
use types.SemTy.{Body}
use sound.WpLaws.{WpFn-mono}
use denote.RattleType.{owns}
use denote.Laws.{Is, shows}
use denote.Memory.{cell_at, mem, pointee}
use denote.Signed.{sint_vals, sint_Tells, sint_Makes}
use denote.Builtin.{i64}
use denote.Ref.{MutBor, MutRef, mut_vals, mut_Tells}
use denote.Signature.{plain}
use denote.Steps.{opens, closes, owned, peeks, nothing}
use denote.Struct.Steps.{spelt}
use denote.Struct.Laws as LL
use denote.Triple.Clauses.{Clauses, Ended, closing}
use denote.Triple.Entry.{on_entry}
use denote.Triple.Spec.{Meets}
use denote.Triple.Walked.{says, Stays, stay_ref, stay_none, walk_of, AllGo, Goes-none, Goes-ref, Walks, ends_at, walked, walk_Meets}
use denote.Exit.{yes}
use Rattle.state.specs.State.{with_upper}
use Rattle.state.specs.declared.State.{State}
use Rattle.std.specs.Prelude.{Some}
use Rattle.state.specs.contracts.State as T
use Rattle.state.proofs.State.TheLaws as T'
use Rattle.state.specs.contracts.raise_lower as f

abbrev pub val : State → Val
val = LL.val T.the_type T'.the_laws

abbrev pub vals : State → List Val
vals = LL.vals T.the_type T'.the_laws

abbrev pub num : ℤ → Val
num z = vint w64 (of_z w64 z)

-- The parameters are a `&mut State` and an `i64`.
abbrev pub ended : Ended
ended = f.ended

-- The contract: a state that was lent as h is `to h z` at exit.
abbrev pub Alters : {M : Type 1} (𝓤 : Ura M) → (State → ℤ → State) → Clauses 𝓤 ended
Alters 𝓤 to κs a = record { ghost = Unit {0}; requires = λ _. emp 𝓤; ensures = λ _ _ e. fact 𝓤 (e.0.now ≡ to a.0.now a.1.0) }

-- What `lower_upper` makes of a state; `raise_lower` makes `with_lower`.
abbrev pub with_limit : State → ℤ → State
with_limit h z = with_upper h (Some z)

abbrev reference : Ty
reference = ty_ref (named 0) mut (pointee (T.the_row).written)

-- The MIR: field k of what the reference leads to becomes r.
abbrev pub altering : ℕ → RValue → Fn
altering k r = record {
  lifetimes = 1;
  outlives = [];
  ty_params = [];
  givens = 0;
  params = 2;
  locals = local ty_unit value_local ∷ local reference value_local ∷ local (ty_int w64) value_local ∷ [];
  body = seq (assign (place 1 (deref T'.mir ∷ field k ∷ [])) r) (seq (assign (place 0 []) (rv_opd opd_unit)) return);
}

abbrev fields : (h : State) → (vs : Vals) × (val h ≡ vstruct vs)
fields h = (_, refl)

-- A state's value with v as field k.
abbrev pub put : State → ℕ → Val → Val
put h k v = vstruct (set_v (fields h).0 k v)

abbrev stayed : Stays ended.signature.params ended.kept
stayed = (stay_ref (0 ∷ []) tt (plain (λ _. T.the_row)), (stay_none (λ _. i64) yes, tt))

module _ {M : Type 1} {𝓤 : Ura M} (𝓛 : Logic 𝓤) where
  -- What the store reads: the state's cell, the bound and the reference.
  open 𝓛 use {H, A}

  abbrev held : ℕ → ℕ → ℕ → ℕ → State → ℤ → List (Item 𝓤) → List (Item 𝓤)
  held l₁ l₂ b o h z Γ = ‵ (fat full_share T'.mir b o (val h)) ∷ ‵ (fat full_share (ty_int w64) l₂ 0 (num z)) ∷ ‵ (fat full_share reference l₁ 0 (vptr b o)) ∷ Γ

  abbrev env : ℕ → ℕ → ℕ → Env 𝓤 H
  env l₀ l₁ l₂ = (ty_unit, l₀) ∷ (reference, l₁) ∷ (ty_int w64, l₂) ∷ []

  -- r is `new z` there.
  abbrev pub Gives : RValue → (ℤ → Val) → Type 2
  Gives r new = (Γ : List (Item 𝓤)) (l₀ l₁ l₂ b o : ℕ) (h : State) (z : ℤ) → Rv (Go {0}) 𝓛 (held l₁ l₂ b o h z Γ) (env l₀ l₁ l₂) r (new z)

  -- k is a field of type τ, r gives a value of that type, the state's value with it is that of `to h z`, and this fits in memory where h did.
  module _
      (to : State → ℤ → State)
      (k : ℕ)
      (r : RValue)
      (new : ℤ → Val)
      {τ : Ty}
      {d : ℕ}
      (field_is : field_of T'.mir k ≡ some (τ, d))
      (gives : Gives r new)
      (typed : (z : ℤ) → mag z < 2 ^ 63 → Holds (has_ty τ (new z)) × WT (new z))
      (stored : (h : State) (z : ℤ) → put h k (new z) ≡ val (to h z))
      (makes : (h : State) (z : ℤ) → mag z < 2 ^ 63 → Is T.the_row h (vals h) → Is T.the_row (to h z) (vals (to h z))) where
    module _ (κ : Lft) (q : Share) (b o : ℕ) (γ : GName) (h : State) (z : ℤ) (fits : mag z < 2 ^ 63) (C : Calls 𝓤 H) (Λ : Loops 𝓤 H) where
      abbrev x : MutBor State × (ℤ × Unit {0})
      x = (record { ref_ptr = (b, o); ghost_name = γ; now = h }, (z, tt))

      abbrev at : List Val × (List Val × Unit {0})
      at = (vptr b o ∷ [], (num z ∷ [], tt))

      abbrev Ends : Val → SProp 𝓤
      Ends = (walk_of 𝓛 ended stayed (Alters 𝓤 to)).post (((κ, tt), (q, tt), tt, x, at), tt)

      exits : ent 𝓤 (sep 𝓤 (A.obs γ ((T.the_row).coded.code (to h z))) (sep 𝓤 (A.bor κ (Body (mem T.the_row) b o γ)) (A.lft κ q))) (Ends vunit)
      exits =
          qed 𝓛 (‵ (fobs γ ((T.the_row).coded.code (to h z))) ∷ ‵ (fbor κ (Body (mem T.the_row) b o γ)) ∷ ‵ (flft κ q) ∷ []) ∵
          suffices ! _ (ends_at 𝓛 ended stayed (Alters 𝓤 to) (((κ, tt), (q, tt), tt, x, at), tt) vunit tt (to h z, (tt, tt)) (tt, (tt, tt))) $ says ! refl $ nothing ! $ move ! (3 ∷ 0 ∷ []) $ join ! $ frame ! $
          feq_i ! (List Val) (vptr b o ∷ []) (vptr b o ∷ []) refl $ fjoin3 ! $ nothing ! $ owned ! i64 (Is i64) (sint_Makes 𝓛 w64) z _ (refl, fits) $ fjoin ! $ move ! (1 ∷ 0 ∷ []) $ fjoin ! $
          feq_i ! (List Val) (vunit ∷ []) (vunit ∷ []) refl $ move ! (1 ∷ 0 ∷ []) $ done !

      walk : ent 𝓤 (on_entry 𝓛 ended.signature (κ, tt) (q, tt) x at) (WpFn 𝓤 H C Λ (altering k r) (vptr b o ∷ num z ∷ []) Ends)
      walk =
          qed 𝓛 ((‵ (flft κ q) ⊛ ‵ ftrue) ∷ ‵ (owns (MutRef (named 0) κ T.the_row ∷ i64 ∷ []) x at) ∷ []) ∵ split ! $ move ! (2 ∷ []) $ fsplit ! $ fsplit3 ! $ drop ! $ move ! (0 ∷ 1 ∷ 3 ∷ []) $
          -- [obs; the borrow; the token; what the bound owns; true]
          enter ! C Λ (altering k r) (vptr b o ∷ num z ∷ []) _ $ alloc1 ! (λ l₀. alloc1 ! (λ l₁. alloc1 ! (λ l₂. alloc0 ! $ params1 ! $
          pass1 ! (init ! 2 refl (tt, tt)) $ pass1 ! (init ! 0 refl (tt, Fits-of_z {z = z} (record { sfits = fits }))) $ pass0 ! $ move ! (6 ∷ 7 ∷ 8 ∷ []) $
          opens ! tt T.the_row {h = h} b o (λ vs. spelt ! T.the_row (Is T.the_row) (shows 𝓛 T.the_row) vals (LL.tells T.the_type T'.the_laws) full_share h vs b o $
          move ! (1 ∷ []) $ peeks ! T.the_row (Is T.the_row) (shows 𝓛 T.the_row) h (vals h) (λ was. drop ! $
          -- [the state's cell; the open borrow; obs; auth; _2; …; _1; …; room for _0; …]
          use1 𝓛 (‵ (fat full_share T'.mir b o (val h))) (𝓛.laws.raw_at full_share T'.mir b o (val h)) $ move ! (0 ∷ 4 ∷ 6 ∷ []) $
          assigns ! (gives _ l₀ l₁ l₂ b o h z) (from ! (hop ! (look ! 2 refl) (fld ! field_is (stop !)))) (store_in ! 0 (sub ! k field_is (whole !)) (typed z fits)) $
          rewrite ! 0 (λ (u : Val). ‵ (fat full_share T'.mir b o u)) (stored h z) refl $ assigns ! (of_opd ! (unit_lit !)) (from ! (stop !)) (init ! 8 refl (tt, tt)) $
          use1 𝓛 (‵ (cell_at full_share (T.the_row).mir (vals (to h z)) b o)) (𝓛.laws.at_raw full_share T'.mir b o (val (to h z))) $
          owned ! T.the_row (Is T.the_row) (LL.makes T.the_type T'.the_plain 𝓛) (to h z) (vals (to h z)) (makes h z fits was) $ move ! (1 ∷ 0 ∷ 4 ∷ 5 ∷ 6 ∷ []) $ closes ! tt T.the_row (to h z) (vals (to h z)) b o $
          -- [obs; the borrow; the token; _2; _1; …; …; _0; …]
          returns ! (look ! 7 refl) $ forget ! 3 refl $ forget ! 4 refl $ forget ! 7 refl $ move ! (7 ∷ 8 ∷ []) $ free1 ! $ move ! (4 ∷ 6 ∷ []) $ free1 ! $ move ! (3 ∷ 4 ∷ []) $ free1 ! $ free0 ! $
          keep ! (0 ∷ 1 ∷ 2 ∷ []) $ by ! exits)))))

    walks : (C : Calls 𝓤 H) (Λ : Loops 𝓤 H) → Walks 𝓛 ended stayed (WpFn 𝓤 H C Λ (altering k r)) (Alters 𝓤 to)
    walks C Λ =
        walked 𝓛 ended stayed (Alters 𝓤 to) (WpFn 𝓤 H C Λ (altering k r)) (λ κs. (mut_vals, (sint_vals w64, tt))) (λ κs. (mut_Tells (named 0) κs.0 T.the_row, (sint_Tells w64, tt)))
        (λ κs qs bounds a _ are. via 𝓤 _ (fst∗ 𝓤 _ (emp 𝓤)) (walk κs.0 qs.0 a.0.ref_ptr.0 a.0.ref_ptr.1 a.0.ghost_name a.0.now a.1.0 are.1.0.1 C Λ))

    goes : AllGo 𝓛 1 ended.signature.params ended.kept stayed
    goes = (Goes-ref 𝓛 1 0 tt (plain (λ _. T.the_row)), (Goes-none 𝓛 1 (λ _. i64) yes (λ κs x f. refl), tt))

    pub alters : (𝓣 : Tables 𝓤 H) → Meets 𝓛 ended.signature (WpFn 𝓤 H 𝓣.C 𝓣.Λ (altering k r)) (closing 𝓛 ended (Alters 𝓤 to))
    alters 𝓣 =
        walk_Meets 𝓛 ended stayed goes (Alters 𝓤 to) (WpFn 𝓤 H 𝓣.C 𝓣.Λ (altering k r)) (WpFn-mono 𝓤 H 𝓛.laws 𝓣 (altering k r)) (walks 𝓣.C 𝓣.Λ)
