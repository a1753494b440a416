-- `checks::first_check` meets its contract: each return is the first check that applies.
use Rattle.checks.specs.CheckLaws.{first_here, first_next_lem, first-none}
use Rattle.checks.proofs.first_check.Goals as goal

pub returns-then-turn : goal.returns-then-turn
returns-then-turn c = first_here _ 3 _ c.if-turn.true

pub returns-then-stops : goal.returns-then-stops
returns-then-stops c = first_next_lem _ 3 _ _ c.if-turn.false (first_here _ 9 _ c.if-stops.true)

pub returns-then-known : goal.returns-then-known
returns-then-known c = first_next_lem _ 3 _ _ c.if-turn.false (first_next_lem _ 9 _ _ c.if-stops.false (first_here _ 5 _ c.if-known.true))

pub returns-then-rising : goal.returns-then-rising
returns-then-rising c =
    first_next_lem _ 3 _ _ c.if-turn.false
    (first_next_lem _ 9 _ _ c.if-stops.false
    (first_next_lem _ 5 _ _ c.if-known.false
    (first_here _ 6 _ c.if-rising.true)))

pub returns-then-bound : goal.returns-then-bound
returns-then-bound c =
    first_next_lem _ 3 _ _ c.if-turn.false
    (first_next_lem _ 9 _ _ c.if-stops.false
    (first_next_lem _ 5 _ _ c.if-known.false
    (first_next_lem _ 6 _ _ c.if-rising.false
    (first_here _ 7 _ c.if-bound.true))))

pub returns-then-value : goal.returns-then-value
returns-then-value c =
    first_next_lem _ 3 _ _ c.if-turn.false
    (first_next_lem _ 9 _ _ c.if-stops.false
    (first_next_lem _ 5 _ _ c.if-known.false
    (first_next_lem _ 6 _ _ c.if-rising.false
    (first_next_lem _ 7 _ _ c.if-bound.false
    (first_here _ 8 _ c.if-value.true)))))

pub returns-then-count : goal.returns-then-count
returns-then-count c =
    first_next_lem _ 3 _ _ c.if-turn.false
    (first_next_lem _ 9 _ _ c.if-stops.false
    (first_next_lem _ 5 _ _ c.if-known.false
    (first_next_lem _ 6 _ _ c.if-rising.false
    (first_next_lem _ 7 _ _ c.if-bound.false
    (first_next_lem _ 8 _ _ c.if-value.false
    (first_here _ 4 _ c.if-count.true))))))

pub returns : goal.returns
returns c =
    first_next_lem _ 3 _ _ c.if-turn.false
    (first_next_lem _ 9 _ _ c.if-stops.false
    (first_next_lem _ 5 _ _ c.if-known.false
    (first_next_lem _ 6 _ _ c.if-rising.false
    (first_next_lem _ 7 _ _ c.if-bound.false
    (first_next_lem _ 8 _ _ c.if-value.false
    (first_next_lem _ 4 _ _ c.if-count.false first-none))))))
