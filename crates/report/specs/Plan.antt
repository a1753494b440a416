-- What the plan of an input is: what the call gives back, and every byte of the listing's buffer.
use Rattle.std.specs.Prelude.{ℕ, ◌≡◌, true, false, List, length, leb}
use Rattle.base.specs.Laid.{over}
use Rattle.files.specs.declared.Given.{Given}
use Rattle.files.specs.File.{planned}
use Rattle.files.specs.Listing.{max_listing, listing}
use Rattle.files.specs.Contents.{given_of, nothing}
use Rattle.report.specs.declared.Planned.{Planned}

abbrev pub plan_of : Given → ℕ → Planned
plan_of given length = record { given = given; length = length }

-- What is given back, with the listing's buffer.
pub record Report : Type 0 where
  pub planned : Planned
  pub out : List ℕ

abbrev pub report : Planned → List ℕ → Report
report planned out = record { planned = planned; out = out }

-- THE PLAN: the listing of the input's file is laid over the buffer, the bytes after it are as they were. A buffer that is too short is
-- answered like every other: refusal 10, which touches nothing.
unfoldable pub reported : List ℕ → List ℕ → Report
reported input out =
    let o = planned input in
    elim (leb max_listing (length out))
    [ true ↦ report (plan_of (given_of o) (length (listing o))) (over (listing o) out) | false ↦ report (plan_of nothing 0) out ]

abbrev pub Plans : (input before after : List ℕ) → Planned → Type 0
Plans input before after r = report r after ≡ reported input before
