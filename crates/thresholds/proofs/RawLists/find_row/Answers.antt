-- `thresholds::RawLists::find_row` meets its contract. Assumes nothing.
use Rattle.thresholds.specs.TreeLaws.{print_small, word_next, search-start, search_on, search_less, search_found, search-none}
use Rattle.thresholds.specs.Tree.{class_of, link_in, marked_list, word_at, meets, side_at}
use Rattle.memory.specs.Buffers.{RawLists}
use Rattle.thresholds.specs.Lent.{lists_of}
use Rattle.numeric.specs.Threshold.{Term}
use Rattle.rows.specs.Lists.{list_at}
use mathlib.Core.Path.{◌≡◌, sym, ap, ◌∙◌}
use mathlib.Core.Bool.{Bool, cond}
use mathlib.Core.List.{List}
use Prim.Native.Nat.{ℕ, ◌+◌, ◌*◌, ◌-◌, ◌/◌, ◌%◌}
use native.Mathlib.Omega.{arith}
use lib.ListN.{get_or}
use lib.Dec.{eqb}
use Rattle.thresholds.proofs.RawLists.find_row.Goals as goal
use Rattle.thresholds.proofs.RawLists.find_row.Goals.{After-link_of-k}

pub class_of-class-requires : goal.class_of-class-requires
class_of-class-requires c = let g = c.args in
    let p = c.requires in
    let e = p.6 in
    let h = print_small (lists_of g.self) g.t p.0 p.1 in
    omega arith

pub loop-k-init : goal.loop-k-init
loop-k-init c = let g = c.args in
    let p = c.requires in
    let r = lists_of g.self in (
      search-start r g.marks.now g.heads.now (list_at r g.t) p.3 _ _
          (c.from-k.ensures ∙ ap (λ (h : ℕ). get_or g.heads.now h 0) (c.class_of-class.ensures.0 ∙ ap class_of p.6)) c.word_at-word.ensures,
      c.word_at-word.ensures,
    )

pub returns-then-is_same : goal.returns-then-is_same
returns-then-is_same c = let g = c.args in
    let p = c.requires in
    let r = lists_of g.self in
    let w = c.loop-k in
    let t = c.loop-k-test.true in
    let f = w.invariant.0.few in
    search_found r g.marks.now g.heads.now (list_at r g.t) p.3 p.5 (w.k - 1) (omega arith) (sym c.is_same.ensures ∙ c.if-is_same.true)

-- The row's list is another, and has the search's term or not.
module _ (c : After-link_of-k) where
  abbrev r : RawLists
  r = lists_of c.args.self

  abbrev x : List Term
  x = list_at r c.args.t

  abbrev v : List Term
  v = marked_list r (get_or c.args.marks.now (c.loop-k.k - 1) 0)

  met : c.has_word-same.result ≡ meets v x c.loop-k.p
  met = c.has_word-same.ensures ∙ ap (eqb (word_at v c.loop-k.p)) c.loop-k.invariant.1

  side : c.turn-on.result.side ≡ side_at v x c.loop-k.p c.loop-k.rest
  side = c.turn-on.ensures.0 ∙ ap (λ (b : Bool). cond b 2 (c.loop-k.rest % 2)) met

pub loop-k-smaller : goal.loop-k-smaller
loop-k-smaller c =
    let g = c.args in
    let w = c.loop-k in
    search_less (r c) g.marks.now g.heads.now (x c) c.requires.3 w.k w.p w.rest w.link w.invariant.0 c.loop-k-test.true
    (sym c.is_same.ensures ∙ c.if-is_same.false) _ (c.link_of-k.ensures ∙ ap (λ (s : ℕ). link_in s (get_or g.marks.now (w.k - 1) 0)) (side c))

pub loop-k-preserved : goal.loop-k-preserved
loop-k-preserved c =
    let g = c.args in
    let w = c.loop-k in
    let e = c.turn-on.ensures in
    let place = e.1 ∙ ap (λ (b : Bool). cond b (w.p + 1) w.p) (met c) in (
      search_on (r c) g.marks.now g.heads.now (x c) c.requires.3 w.k w.p w.rest w.link w.invariant.0 c.loop-k-test.true
          (sym c.is_same.ensures ∙ c.if-is_same.false) _ _ _ _ (c.link_of-k.ensures ∙ ap (λ (s : ℕ). link_in s (get_or g.marks.now (w.k - 1) 0)) (side c))
          place (e.3 ∙ ap (λ (b : Bool). cond b (word_at (x c) (w.p + 1)) (w.rest / 2)) (met c)) (ap (λ (s : ℕ). 3 * w.k + s) (side c)),
      e.2 ∙ ap (λ (b : Bool). cond b (word_at (x c) (w.p + 1)) w.word) (met c) ∙ word_next (v c) (x c) w.p w.word w.invariant.1 ∙ ap (word_at (x c)) (sym place),
    )

pub returns : goal.returns
returns c = let g = c.args in
    let p = c.requires in
    let r = lists_of g.self in
    let w = c.loop-k in
    let h = c.loop-k-test.false in
    search-none r g.marks.now g.heads.now (list_at r g.t) p.3 w.k w.p w.rest w.link (omega arith) w.invariant.0
