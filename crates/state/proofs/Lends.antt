-- A state in a local is lent to a function that alters it (`Alters`) and taken back: one step of a walk, by hand. The local is a memory slot, which is lent for a lifetime made for the call;
-- it comes back at the last value that the callee's contract names. Assumes nothing.
use mathlib.Core.Path.{◌≡◌, refl, ap}
use Prim.Native.Nat.{ℕ, ◌<◌, ◌^◌}
use mathlib.Core.List.{[], ◌∷◌, List}
use seplogic.Ra.Ura.{Ura}
use base.Fraction.{full_share}
use lib.IntN.{ℤ}
use lib.Signed.{mag}
use mir.Syntax.{Callee, Place, Opd as Operand, named, w64, call}
use mir.Val.{Val, vunit, vptr}
use base.Logic.{ent, sep, guard, id⊢}
use base.Fml.{GName, Fml, ftrue, fsep, fat, flft, flent, fres}
use prog.Wp.{Env, Calls, Loops}
use types.Logic.{Logic, sem}
use contract.Monad.{fact}
use types.Kit.{Item, Post, Seq, runs, settles, ‵, raw, ◌⊛◌, some, later, given, ◌$◌, ◌∵◌, !, qed, by, move, keep, drop, use1, use2, use3, split, join, pick, rewrite, regoal, fjoin, fsplit, fpick, fpack, feq_l, check, learn, frame, await, updating, now as at_once, done}
use types.Run.{Opds}
use types.Tokens.{lft_new, lft_end}
use types.SemTy.{Body}
use sound.WpLaws.{FmC}
use denote.Laws.{Is, shows}
use denote.Plain.{Nothing}
use denote.Signed.{sint_Makes}
use denote.Builtin.{i64}
use denote.Memory.{cell_at, part_of, mem}
use denote.Ref.{MutBor, MutRef}
use denote.Lend.{lends_ref, ref_back}
use denote.Steps.{only, owned, peeks, heard, nothing}
use denote.Struct.Steps.{spelt}
use denote.Struct.Laws as LL
use denote.Triple.Call.{calls_at_last}
use denote.Triple.Clauses.{closing, ensured, lasts}
use denote.Triple.Spec.{triple_of}
use denote.Triple.Statement.{Contract, Triple}
use Rattle.state.specs.declared.State.{State}
use Rattle.state.specs.contracts.State as T
use Rattle.state.proofs.State.TheLaws as T'
use Rattle.state.proofs.Alters.{val, vals, num, ended, Alters}

-- The callee's contract, as its callers have it.
abbrev pub Altering : {M : Type 1} {𝓤 : Ura M} (𝓛 : Logic 𝓤) → (State → ℤ → State) → Contract 𝓤
Altering {𝓤 = 𝓤} 𝓛 to = triple_of 𝓛 ended.signature (closing 𝓛 ended (Alters 𝓤 to))

module _ {M : Type 1} {𝓤 : Ura M} (𝓛 : Logic 𝓤) where
  -- a state's cell is what lies in memory, and back
  open 𝓛 use {H, A}

  into-mem : (h : State) → Is T.the_row h (vals h) → (l : ℕ) → ent 𝓤 (sem 𝓛 (fat full_share T'.mir l 0 (val h))) (sem 𝓛 ((mem T.the_row).own_at h l 0))
  unfolding part_of
  into-mem h is l =
      qed 𝓛 (‵ (fat full_share T'.mir l 0 (val h)) ∷ []) ∵ use1 𝓛 (‵ (cell_at full_share (T.the_row).mir (vals h) l 0)) (𝓛.laws.at_raw full_share T'.mir l 0 (val h)) $
      owned ! T.the_row (Is T.the_row) (LL.makes T.the_type T'.the_plain 𝓛) h (vals h) is $ move ! (1 ∷ 0 ∷ []) $ fjoin ! $
      fpack ! (List Val) (λ vs. fsep (cell_at full_share (T.the_row).mir vs l 0) ((T.the_row).own_val h vs)) (vals h) $ done !

  out-of-mem : (h : State) (l : ℕ) → ent 𝓤 (sem 𝓛 ((mem T.the_row).own_at h l 0)) (guard 𝓤 (Is T.the_row h (vals h)) (sem 𝓛 (fat full_share T'.mir l 0 (val h))))
  unfolding part_of
  out-of-mem h l =
      qed 𝓛 (‵ ((mem T.the_row).own_at h l 0) ∷ []) ∵ fpick ! (λ vs. fsplit ! $
      spelt ! T.the_row (Is T.the_row) (shows 𝓛 T.the_row) vals (LL.tells T.the_type T'.the_laws) full_share h vs l 0 $ move ! (1 ∷ []) $
      peeks ! T.the_row (Is T.the_row) (shows 𝓛 T.the_row) h (vals h) (λ is. drop ! $ check ! is $ by ! (𝓛.laws.raw_at full_share T'.mir l 0 (val h))))

  module _ (to : State → ℤ → State) (l : ℕ) (h : State) (z : ℤ) (α : ℕ) (γ : GName) where
    -- the arguments: the reference to the slot, lent for α under γ, and the bound
    abbrev args : MutBor State × (ℤ × Unit {0})
    args = (record { ref_ptr = (l, 0); ghost_name = γ; now = h }, (z, tt))

    abbrev lent : Fml
    lent = (MutRef (named 0) (α ∷ []) T.the_row).own_val args.0 (vptr l 0 ∷ [])

    abbrev to_callee : (Altering 𝓛 to).Ghost
    to_callee = (((α ∷ [], tt), (full_share, tt), tt, args, (vptr l 0 ∷ [], (num z ∷ [], tt))), tt)

    goes : mag z < 2 ^ 63 → ent 𝓤 (sep 𝓤 (A.lft (α ∷ []) full_share) (sem 𝓛 lent)) ((Altering 𝓛 to).pre to_callee)
    goes fits =
        qed 𝓛 (‵ (flft (α ∷ []) full_share) ∷ ‵ lent ∷ []) ∵ nothing ! $ owned ! i64 (Is i64) (sint_Makes 𝓛 w64) z (num z ∷ []) (refl, fits) $ fjoin ! $ move ! (2 ∷ 0 ∷ []) $ fjoin ! $
        nothing ! $ move ! (2 ∷ 0 ∷ []) $ join ! $ move ! (1 ∷ 0 ∷ []) $ nothing ! $ move ! (2 ∷ 1 ∷ []) $ join ! $ move ! (0 ∷ 1 ∷ []) $ frame ! $ done !

    gives : (v : Val) → ent 𝓤 ((Altering 𝓛 to).post to_callee v) (H.⇛ (guard 𝓤 (v ≡ vunit) (sep 𝓤 (A.lft (α ∷ []) full_share) (A.res γ ((T.the_row).coded.code (to h z))))))
    gives v =
        qed 𝓛 (raw ((Altering 𝓛 to).post to_callee v) ∷ []) ∵ updating ! $
        use1 𝓛 (later (some (λ (r : Unit {0}). ((‵ (flft (α ∷ []) full_share) ⊛ ‵ ftrue) ⊛ ‵ (Nothing.own_val r (v ∷ []))) ⊛ raw (ensured 𝓛 ended (Alters 𝓤 to) (α ∷ [], tt) args tt r)))) (id⊢ 𝓤 _) $ await ! tt $ pick ! (λ r.
        split ! $ move ! (1 ∷ []) $ use1 𝓛 (some (λ (zs : State × (Unit {0} × Unit {0})). ‵ (lasts ended (α ∷ [], tt) args zs) ⊛ raw (fact 𝓤 (zs.0 ≡ to h z)))) (id⊢ 𝓤 _) $ pick ! (λ zs.
        split ! $ move ! (1 ∷ []) $ heard ! (zs.0 ≡ to h z) (λ e. fsplit ! $ fsplit ! $ rewrite ! 0 (λ (w : State). ‵ (fres γ ((T.the_row).coded.code w))) e refl $
        move ! (3 ∷ []) $ split ! $ move ! (1 ∷ []) $ feq_l ! (λ u. at_once ! $ check ! (ap only u) $ split ! $ keep ! (0 ∷ 2 ∷ []) $ done !))))

module _ {M : Type 1} {𝓤 : Ura M} {𝓛 : Logic 𝓤} {K : Type 0} {Γ : List (Item 𝓤)} {C : Calls 𝓤 𝓛.H} {Λ : Loops 𝓤 𝓛.H} {E : Env 𝓤 𝓛.H} {q : Post 𝓤 𝓛.H} {f : Callee} {xs : List Operand} {d : Place} where
  -- The call is the last statement of its part, as of an arm of a branch.
  open 𝓛 use {H}

  pub lends : K → FmC 𝓤 H 𝓛.laws C → (to : State → ℤ → State) → Triple 𝓤 (C f) (Altering 𝓛 to) → (l : ℕ) (h : State) (z : ℤ) → Is T.the_row h (vals h) → mag z < 2 ^ 63
      → ((i j : Item 𝓤) → Opds K 𝓛 (i ∷ j ∷ Γ) E xs (vptr l 0 ∷ num z ∷ []))
      → (Is T.the_row (to h z) (vals (to h z)) → Seq K 𝓛 (‵ (fat full_share T'.mir l 0 (val (to h z))) ∷ Γ) (settles E d vunit q))
      → Seq K 𝓛 (‵ (fat full_share T'.mir l 0 (val h)) ∷ Γ) (runs C Λ E (call f xs d) q)
  lends t fm to met l h z is fits os k =
      use1 𝓛 (‵ ((mem T.the_row).own_at h l 0)) (into-mem 𝓛 h is l) $ lft_new t tt (λ α. move t (1 ∷ []) $
      use1 𝓛 (later (some (λ (γ : GName). ‵ (lent 𝓛 to l h z α γ) ⊛ ‵ (flent (α ∷ []) (Body (mem T.the_row) l 0 γ))))) (lends_ref 𝓛 T.the_row (named 0) (α ∷ []) h l 0) $ await t tt $ pick t (λ γ. split t $
      -- [the token; the reference; the lender's part; …]
      move t (2 ∷ 0 ∷ []) $ use2 𝓛 (raw ((Altering 𝓛 to).pre (to_callee 𝓛 to l h z α γ))) (goes 𝓛 to l h z α γ fits) $
      calls_at_last t fm (Altering 𝓛 to) met (to_callee 𝓛 to l h z α γ) (os _ _) (λ v.
      use1 𝓛 (later (given (v ≡ vunit) (‵ (flft (α ∷ []) full_share) ⊛ ‵ (fres γ ((T.the_row).coded.code (to h z)))))) (gives 𝓛 to l h z α γ v) $ await t tt $ learn t (λ e. split t $
      lft_end t tt $ move t (0 ∷ 2 ∷ 1 ∷ []) $ use3 𝓛 (later (‵ ((mem T.the_row).own_at (to h z) l 0))) (ref_back 𝓛 T.the_row (α ∷ []) γ (to h z) l 0) $ await t tt $
      use1 𝓛 (given (Is T.the_row (to h z) (vals (to h z))) (‵ (fat full_share T'.mir l 0 (val (to h z))))) (out-of-mem 𝓛 (to h z) l) $ learn t (λ made.
      regoal t (λ (u : Val). settles E d u q) e refl $ k made)))))
