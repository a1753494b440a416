-- `serve::seal_and_serve` meets its contract: what the seal leaves is what the records behind it begin with.
use mathlib.Core.Path.{◌≡◌, refl, sym, subst}
use mathlib.Core.List.{List, []}
use Prim.Native.Nat.{ℕ, ◌+◌}
use lib.ListN.{length}
use Rattle.memory.specs.Buffers.{Kept, kept}
use Rattle.records.specs.declared.Record.TheVariants.{Seal}
use Rattle.files.specs.File.{File, standing, apply, outcome}
use Rattle.row_moves.specs.Lent.{built_of}
use Rattle.serve.specs.declared.Reached.{Reached}
use Rattle.serve.specs.KeptLent.{kept_in}
use Rattle.serve.specs.KeptLentLaws.{lent_back}
use Rattle.serve.specs.Serve.{Lies, Seals, Reaches, read_at}
use Rattle.serve.specs.SealLaws.{seals_holds, seals_shaped, seals_totals, seals_room, seals_waits, seals_flags, seals_reaches, seals_passed, seals_whole}
use borrow.Author.Rules.{rules}
use Rattle.serve.proofs.seal_and_serve.Goals as goal
use Rattle.serve.proofs.seal_and_serve.Goals.{After-stood-next}

-- How far the seal was taken, and the buffers that it leaves.
abbrev sealed : After-stood-next → Reached
sealed c = record { at = c.args.at + 1; refused = 0; standing = c.stood-next.result; last = c.seal-step.result; rings = c.seal-step.new.live.rings }

abbrev left : After-stood-next → Kept
left c =
    let k = kept_in c.args.kept.now in
    let l = c.seal-step.new.live in
    kept l.figures.now l.cursors.now l.sure.now l.never.now k.search k.gcds l.node_queue.now l.row_queues.now k.answers

-- With the seal the records behind it have a beginning.
reaches : (c : After-stood-next) (f : File) (base : List (List ℕ)) → Seals c.args.built.bounds.now (built_of c.args.built) f → Lies base f (kept_in c.args.kept.now) c.args.rings
    → c.args.standing ≡ standing f → Reaches c.args.built.bounds.now (built_of c.args.built) base (left c) (sealed c) (outcome (apply f Seal) [] 0 (sealed c).at)
reaches c f base z l e =
    let a = c.args in
    let b = a.built in
    let t = c.seal-step in
    let passed = seals_passed f a.input.now a.at c.requires.1 a.standing e c.requires.2 in
    seals_reaches b.bounds.now (built_of b) base f (kept_in a.kept.now) a.rings z l (left c) t.new.live.rings t.result t.ensures.sealed.0 passed
    (t.ensures.sealed.1 l.tidy) refl refl refl (sealed c) refl refl refl a.standing e c.stood-next.ensures

pub seal-step-requires : goal.seal-step-requires
seal-step-requires c =
    let a = c.args in
    let b = a.built in
    let k = kept_in a.kept.now in
    let p = c.requires.0 in record {
      shaped = (
        seals_holds b.bounds.now (built_of b) p.1 p.0 k a.rings p.2 p.3,
        seals_shaped b.bounds.now (built_of b) p.1 p.0 k a.rings p.2 p.3,
        seals_totals b.bounds.now (built_of b) p.1 p.0 k a.rings p.2 p.3,
        seals_room b.bounds.now (built_of b) p.1 p.0 k a.rings p.2 p.3,
      );
      waits = (
        seals_waits b.bounds.now (built_of b) p.1 p.0 k a.rings p.2 p.3,
        seals_flags b.bounds.now (built_of b) p.1 p.0 k a.rings p.2 p.3,
      );
    }

pub serve_records-reached-requires : goal.serve_records-reached-requires
serve_records-reached-requires c =
    let a = c.args in
    let b = a.built in
    let w = c.requires in
    let p = w.0 in
    let s = (goal.at.serve_records-reached-requires c).After-stood-next in (
      (
        apply p.0 Seal,
        p.1,
        lent_back (λ (n : Kept). Reaches b.bounds.now (built_of b) p.1 n (sealed s) (outcome (apply p.0 Seal) [] 0 (a.at + 1))) c.seal-step.new.live
            (search rules) (search rules) (search rules) (search rules) (search rules) (search rules) (reaches s p.0 p.1 p.2 p.3 p.4),
      ),
      w.3,
    )

pub returns-clause-reaches : goal.returns-clause-reaches
returns-clause-reaches c =
    let a = c.args in
    let b = a.built in
    let w = c.requires in
    let t = c.serve_records-reached in
    let s = (goal.at.returns-clause-reaches c).After-stood-next in
    λ f base z l e.
    let first = lent_back (λ (n : Kept). Reaches b.bounds.now (built_of b) base n (sealed s) (outcome (apply f Seal) [] 0 (a.at + 1))) c.seal-step.new.live
    (search rules) (search rules) (search rules) (search rules) (search rules) (search rules) (reaches s f base z l e) in
    let whole = seals_whole b.bounds.now (built_of b) base f (kept_in t.new.kept) t.result a.input.now a.at w.1 a.standing e w.2 (t.ensures.reaches (apply f Seal) base first) in
    let k = kept_in t.new.kept in
    subst (λ (q : List (List ℕ)). Reaches b.bounds.now (built_of b) base (kept k.figures k.cursors k.sure k.never k.search k.gcds k.node_queue q k.answers) t.result (read_at (length a.input.now) a.input.now a.at f)) (sym c.fours.ensures.0) whole
