-- `listing::list` meets its contract: the three parts find room one behind the other and are the listing.
use Rattle.std.proofs.Common.{◌≡◌, ◌≤◌, ◌*◌, ℕ, List, length, take, arith, rules, sym, subst, ap, ◌∙◌, length-take}
use Rattle.state.specs.declared.State.{State}
use Rattle.files.specs.declared.Given.{Given}
use Rattle.text.specs.Text.{Wrote, joined}
use Rattle.text.specs.TextLaws.{wrote_as}
use Rattle.listing.specs.Lines.{max_row_line, row_at}
use Rattle.listing.specs.Shows.{Listed}
use Rattle.listing.specs.ShowsLaws.{rows_taken}
use Rattle.listing.specs.ListLaws.{rows-most, list_all}
use Rattle.listing.proofs.list.Goals as goal

-- The rows that are listed, out of all.
rows_of : {d e : List ℕ} {at r : ℕ} (states : List State) (n : ℕ) → n ≤ length states
    → Wrote (max_row_line * length (take n states)) d e at r (joined (row_at (take n states)) (length (take n states))) → Wrote (max_row_line * n) d e at r (joined (row_at states) n)
rows_of states n h w =
    let long : length (take n states) ≡ n = omega (arith, length-take n states) in
    wrote_as (omega arith) (ap (joined (row_at (take n states))) long ∙ sym (rows_taken states n)) w

-- What the writer holds is what its buffer ends as.
lent : {g : Given} {answers : List (List ℕ)} {states : List State} {sure never d e f : List ℕ} {r : ℕ} → Listed g answers states sure never d e r → f ≡ e
    → Listed g answers states sure never d f r
lent {g} {answers} {states} {sure} {never} {d} {e} {f} {r} l q = subst (λ (x : List ℕ). Listed g answers states sure never d x r) (sym q) l

pub returns : goal.returns
returns c =
    let l = c.requires.0 in
    let count = c.row_count-count in
    let inside = (rows-most l).1 in
    let rows = rows_of c.args.states.now count.result (omega (arith, count.ensures, inside)) c.row_lines.ensures.wrote in
    lent (list_all l count.result c.front_lines.ensures.wrote count.ensures rows c.last_line.ensures.wrote) (search rules)
