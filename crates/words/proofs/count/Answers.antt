-- `words::count` meets its contract. The loop's invariant: the sum is the count of the nodes of the words passed.
use mathlib.Core.Path.{sym, ap, ◌∙◌}
use Prim.Native.Nat.{ℕ, ◌+◌, ◌*◌, ◌^◌, ◌<◌}
use native.Mathlib.Omega.{arith}
use lib.Count.{ones, ones-le}
use lib.ListN.{get_or}
use Rattle.words.proofs.CountLaws.{count_none, count-le, count_ones}
use Rattle.words.proofs.count.Goals as goal

pub loop-word-init : goal.loop-word-init
loop-word-init c = sym (count_none c.args.mask.now)

pub overflow_add-sum : goal.overflow_add-sum
overflow_add-sum c =
    let m = c.args.mask.now in
    let i = c.loop-word.word-index in
    let h : get_or m i 0 < 2 ^ 64 = omega (arith, c.type_inv.mask i) in
    omega (arith, ones-le 64 (get_or m i 0) h, count-le m (64 * i))

pub loop-word-preserved : goal.loop-word-preserved
loop-word-preserved c =
    let m = c.args.mask.now in
    let w = c.loop-word in
    let h : get_or m w.word-index 0 < 2 ^ 64 = omega (arith, c.type_inv.mask w.word-index) in
    ap (λ (x : ℕ). x + ones (get_or m w.word-index 0)) w.invariant ∙ sym (count_ones m w.word-index h)
