-- Cleared buffers are what building asks, and what is built into them is what the call asks.
use Rattle.std.specs.Prelude.{ℕ, ◌≤◌, ◌≡◌, refl, Bool, true, false, length, replicate}
use Rattle.std.proofs.Common.{sym, ap, subst, ◌∙◌}
use Rattle.memory.specs.Limits.{max_links}
use Rattle.memory.specs.Buffers.{Built, clear_built}
use Rattle.numeric.specs.Threshold.{Job}
use Rattle.rows.specs.Rows.{rows_of}
use Rattle.job.specs.JobBuffers.{built_of}
use Rattle.build.specs.Built.{Roomy, Builds}
use Rattle.job.specs.Rooms.{BuiltRoom}
use Rattle.memory.specs.ZerosLaws.{zeros_are, zeros_room}

cleared_roomy : (w : Built) → BuiltRoom w → Roomy (clear_built w)
unfolding clear_built
cleared_roomy w r = record {
  conditions = zeros_room _ w.held.row-conditions r.conditions;
  weights = zeros_room _ w.held.row-weights r.weights;
  rows = zeros_room _ w.held.rows r.rows;
  bounds = zeros_room _ w.held.guard_bounds r.bounds;
  guards = zeros_room _ w.held.guard_nodes r.guards;
  nodes = zeros_room _ w.nodes r.nodes;
  edges = zeros_room _ w.edges r.edges;
  conditions_clear = zeros_are 0 w.held.row-conditions;
  weights_clear = zeros_are 0 w.held.row-weights;
  guards_clear = zeros_are 0 w.held.guard_nodes;
  nodes_clear = zeros_are (replicate 3 0) w.nodes;
}

cleared-links : (w : Built) → max_links ≤ length w.links → max_links ≤ length (clear_built w).links
unfolding clear_built
cleared-links w h = zeros_room 0 w.links h

pub build_room : (w v : Built) → BuiltRoom w → max_links ≤ length w.links → v ≡ clear_built w → Roomy v × (max_links ≤ length v.links)
build_room w v r h e = subst (λ (y : Built). Roomy y × (max_links ≤ length y.links)) (sym e) (cleared_roomy w r, cleared-links w h)

pub builds_rows : (j : Job) (s : Bool) (w v b : Built) (n : ℕ) → s ≡ true → v ≡ clear_built w → n ≡ length (rows_of j) → b ≡ built_of j v → Builds j s w b n
builds_rows j s w v b n q e c k =
    subst (λ (t : Bool). Builds j t w b n) (sym q) (record { words = k ∙ ap (built_of j) e; counted = c })

pub builds_none : (j : Job) (s : Bool) (w b : Built) → s ≡ false → b ≡ clear_built w → Builds j s w b 0
builds_none j s w b q e = subst (λ (t : Bool). Builds j t w b 0) (sym q) (record { words = e; counted = refl })
