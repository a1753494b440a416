-- Many propositions in front of another, nested to the right as tokens and what parameters own are: taken off as one, and put in front again.
use Rattle.std.specs.Prelude.{List, [], ◌∷◌}
use seplogic.Ra.Ura.{Ura}
use base.Logic.{SProp, ent, sep, emp}
use types.Logic.{Logic}
use types.Kit.{raw, ◌⊛◌, ◌$◌, ◌∵◌, !, qed, move, use1, use2, split, join, drop, done}
use denote.Steps.{nothing}

module _ {M : Type 1} (𝓤 : Ura M) where
  abbrev pub chain : List (SProp 𝓤) → SProp 𝓤 → SProp 𝓤
  chain [] X = X
  chain (P ∷ Ps) X = sep 𝓤 P (chain Ps X)

module _ {M : Type 1} {𝓤 : Ura M} (𝓛 : Logic 𝓤) where
  pub chain-out : (Ps : List (SProp 𝓤)) (X : SProp 𝓤) → ent 𝓤 (chain 𝓤 Ps X) (sep 𝓤 (chain 𝓤 Ps (emp 𝓤)) X)
  chain-out [] X = qed 𝓛 (raw X ∷ []) ∵ nothing ! $ done !
  chain-out (P ∷ Ps) X =
      qed 𝓛 ((raw P ⊛ raw (chain 𝓤 Ps X)) ∷ []) ∵ split ! $ move ! (1 ∷ []) $
      use1 𝓛 (raw (chain 𝓤 Ps (emp 𝓤)) ⊛ raw X) (chain-out Ps X) $ split ! $ move ! (2 ∷ 0 ∷ []) $ join ! $ done !

  pub chain_in : (Ps : List (SProp 𝓤)) (X : SProp 𝓤) → ent 𝓤 (sep 𝓤 (chain 𝓤 Ps (emp 𝓤)) X) (chain 𝓤 Ps X)
  chain_in [] X = qed 𝓛 (raw (emp 𝓤) ∷ raw X ∷ []) ∵ drop ! $ done !
  chain_in (P ∷ Ps) X =
      qed 𝓛 ((raw P ⊛ raw (chain 𝓤 Ps (emp 𝓤))) ∷ raw X ∷ []) ∵ split ! $ move ! (1 ∷ 2 ∷ []) $
      use2 𝓛 (raw (chain 𝓤 Ps X)) (chain_in Ps X) $ move ! (1 ∷ 0 ∷ []) $ done !
