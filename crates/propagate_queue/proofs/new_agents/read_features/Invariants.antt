use Rattle.std.proofs.Common.{◌≡◌, ℕ, map, take}
use Rattle.fd_language.specs.declared.range_node.Feature.{Feature}
use Rattle.range_code.specs.Frames.{slot_variable}
use Rattle.propagate_queue.proofs.new_agents.read_features.Given as goal

abbrev pub invariant-loop-read : goal.invariant-loop-read
invariant-loop-read l = l.into.items ≡ map (λ (d : ℕ × Feature). (slot_variable l.args d.0, d.1)) (take l.read-index l.features)
