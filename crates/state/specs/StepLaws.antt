-- Laws of answers: what two joined ones say of their parts.
use Rattle.std.specs.Prelude.{◌≡◌, refl, true, false}
use Rattle.base.specs.TestLaws.{clash}
use Rattle.state.specs.declared.Step.{Step}
use Rattle.state.specs.declared.Step.TheVariants.{Unchanged, Changed, Contradiction}
use Rattle.state.specs.Step.{joined, contradicts}

pub contradiction_is : (k : Step) → contradicts k ≡ true → k ≡ Contradiction
contradiction_is Unchanged e = absurd (clash false e refl)
contradiction_is Changed e = absurd (clash false e refl)
contradiction_is Contradiction e = refl

-- Two answers joined contradict if one of them does.
pub joined_fine : (a b : Step) → contradicts a ≡ false → contradicts b ≡ false → contradicts (joined a b) ≡ false
joined_fine Unchanged b e f = f
joined_fine Changed Unchanged e f = refl
joined_fine Changed Changed e f = refl
joined_fine Changed Contradiction e f = f
joined_fine Contradiction b e f = e

pub joined_which : (a b : Step) → contradicts a ≡ false → contradicts (joined a b) ≡ true → contradicts b ≡ true
joined_which Unchanged b e h = h
joined_which Changed Unchanged e h = h
joined_which Changed Changed e h = h
joined_which Changed Contradiction e h = refl
joined_which Contradiction b e h = absurd (clash true refl e)

pub joined_right : (a b : Step) → contradicts (joined a b) ≡ false → contradicts b ≡ false
joined_right Unchanged b h = h
joined_right Changed Unchanged h = refl
joined_right Changed Changed h = refl
joined_right Changed Contradiction h = h
joined_right Contradiction b h = absurd (clash true refl h)
