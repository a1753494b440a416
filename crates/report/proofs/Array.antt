-- An array in a local, lent for a lifetime as a slice of its elements, and back. Assumes `Logic`.
use mathlib.Core.Path.{◌≡◌, subst}
use Prim.Native.Nat.{ℕ}
use mathlib.Core.List.{List, [], ◌∷◌}
use lib.ListN.{length}
use seplogic.Ra.Ura.{Ura}
use base.Fraction.{full_share}
use mir.Syntax.{Ty, Lifetime, ty_array}
use mir.Val.{Val}
use mir.Raw.{raw as raw_ty}
use base.Logic.{SProp, ent, sep, ex}
use base.Fml.{Lft, GName, Fml, fsep, fat, fdead, flent}
use sound.Laws.{never∗}
use types.Logic.{Logic, sem}
use types.Kit.{‵, ◌⊛◌, later, ◌$◌, ◌∵◌, !, qed, by, move, drop, use1, use3, fpick, fpack, fsplit, fjoin, await, updating, now as at_once, show, done}
use types.SemTy.{cells, Arr}
use types.Share.{arr_parts}
use denote.RattleType.{RattleType}
use denote.Memory.{lone, cell_raw, part_at, part_of, mem, shares}
use denote.Array.{Array}
use denote.ArrayMemory.{Single, Array-apart, Array-whole}
use denote.Slice.{slice_val, MutSlice, Room, finally}
use denote.Lend.{Held, lends_slice, slice_back}
use denote.Index.{row, whole_out, whole_in}

module _ {M : Type 1} {𝓤 : Ura M} (𝓛 : Logic 𝓤) (R : RattleType) (b : ℕ) where
  open 𝓛 use {H, A}

  abbrev pub array_ty : ℕ → Ty
  array_ty n = ty_array (lone R.mir) n

  -- the array's cell at some machine value, and what the array owns
  abbrev pub Here : ℕ → List R.Denot → Val → SProp 𝓤
  Here n xs v = sep 𝓤 (H.at full_share (array_ty n) b 0 v) (sem 𝓛 ((Array R n).own_val xs (v ∷ [])))

  -- the slice that is lent for κ under γ, and what the lender keeps
  abbrev pub Lent : ℕ → Lifetime → Lft → List R.Denot → GName → SProp 𝓤
  Lent n ℓ κ xs γ = sep 𝓤 (sem 𝓛 ((MutSlice ℓ κ R).own_val (record { ref_ptr = (b, 0); ghost_name = γ; now = xs }) (slice_val (b, 0) n ∷ []))) (A.lent κ (Held R n b 0 γ))

  abbrev cell_of : ℕ → List R.Denot → List Val → Fml
  cell_of n xs vs = fsep (cell_raw full_share (raw_ty (array_ty n) ∷ []) vs b 0) ((Array R n).own_val xs vs)

  part_in : (n : ℕ) (xs : List R.Denot) (v : Val) → ent 𝓤 (Here n xs v) (sem 𝓛 (part_at (Array R n) full_share xs b 0))
  unfolding part_of
  part_in n xs v =
      qed 𝓛 (‵ (fat full_share (array_ty n) b 0 v) ∷ ‵ ((Array R n).own_val xs (v ∷ [])) ∷ []) ∵
      use1 𝓛 (‵ (fat full_share (raw_ty (array_ty n)) b 0 v)) (𝓛.laws.at_raw full_share (array_ty n) b 0 v) $ fjoin ! $ fpack ! (List Val) (cell_of n xs) (v ∷ []) $ done !

  cell_out : (n : ℕ) (xs : List R.Denot) (vs : List Val) → ent 𝓤 (sem 𝓛 (cell_of n xs vs)) (ex 𝓤 (Here n xs))
  cell_out n xs [] = never∗ 𝓤 (sem 𝓛 ((Array R n).own_val xs [])) (ex 𝓤 (Here n xs))
  cell_out n xs (v ∷ []) =
      qed 𝓛 (‵ (fat full_share (raw_ty (array_ty n)) b 0 v) ∷ ‵ ((Array R n).own_val xs (v ∷ [])) ∷ []) ∵
      use1 𝓛 (‵ (fat full_share (array_ty n) b 0 v)) (𝓛.laws.raw_at full_share (array_ty n) b 0 v) $ show ! (Here n xs) v $ done !
  cell_out n xs (v ∷ u ∷ vs) = never∗ 𝓤 (sem 𝓛 ((Array R n).own_val xs (v ∷ u ∷ vs))) (ex 𝓤 (Here n xs))

  part_out : (n : ℕ) (xs : List R.Denot) → ent 𝓤 (sem 𝓛 (part_at (Array R n) full_share xs b 0)) (ex 𝓤 (Here n xs))
  unfolding part_of
  part_out n xs = qed 𝓛 (‵ (part_at (Array R n) full_share xs b 0) ∷ []) ∵ fpick ! (λ vs. by ! (cell_out n xs vs))

  lends : Single R.mir → (ℓ : Lifetime) (κ : Lft) (xs : List R.Denot) (v : Val) → Room R (length xs) → ent 𝓤 (Here (length xs) xs v) (H.⇛ (ex 𝓤 (Lent (length xs) ℓ κ xs)))
  lends one ℓ κ xs v room =
      qed 𝓛 ((‵ (fat full_share (array_ty (length xs)) b 0 v) ⊛ ‵ ((Array R (length xs)).own_val xs (v ∷ []))) ∷ []) ∵
      use1 𝓛 (‵ (part_at (Array R (length xs)) full_share xs b 0)) (part_in (length xs) xs v) $
      use1 𝓛 (‵ ((arr_parts (shares R) (length xs)).part full_share xs b 0)) (Array-apart 𝓛 R full_share one (length xs) xs b 0) $ fsplit ! $ drop ! $
      use1 𝓛 (‵ (cells (mem R) xs b 0)) (whole_in 𝓛 R xs b 0) $ by ! (lends_slice 𝓛 R ℓ κ xs b 0 room)

  pub lends_array : Single R.mir → (ℓ : Lifetime) (κ : Lft) (xs : List R.Denot) (v : Val) (n : ℕ) → length xs ≡ n → Room R n → ent 𝓤 (Here n xs v) (H.⇛ (ex 𝓤 (Lent n ℓ κ xs)))
  lends_array one ℓ κ xs v n e =
      subst (λ (m : ℕ). Room R m → ent 𝓤 (Here m xs v) (H.⇛ (ex 𝓤 (Lent m ℓ κ xs)))) e (lends one ℓ κ xs v)

  pub array_back : (κ : Lft) (γ : GName) (zs : List R.Denot) (n : ℕ)
      → ent 𝓤 (sep 𝓤 (A.dead κ) (sep 𝓤 (A.lent κ (Held R n b 0 γ)) (sem 𝓛 (finally R γ zs)))) (H.⇛ (ex 𝓤 (Here n zs)))
  array_back κ γ zs n =
      qed 𝓛 (‵ (fdead κ) ∷ ‵ (flent κ (Held R n b 0 γ)) ∷ ‵ (finally R γ zs) ∷ []) ∵ updating ! $
      use3 𝓛 (later (‵ ((Arr (mem R) n).own_at zs b 0))) (slice_back 𝓛 R κ γ zs n b 0) $ await ! tt $ at_once ! $ fsplit ! $ move ! (1 ∷ []) $
      use1 𝓛 (‵ (row R full_share zs b 0)) (whole_out 𝓛 R zs b 0) $ move ! (1 ∷ 0 ∷ []) $ fjoin ! $
      use1 𝓛 (‵ (part_at (Array R n) full_share zs b 0)) (Array-whole 𝓛 R full_share n zs b 0) $ by ! (part_out n zs)
