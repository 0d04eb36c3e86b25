use Rattle.std.proofs.Common.{◌==◌, refl, eq-eqb, false}
use Rattle.std.proofs.lemmas.Bool.{or_left}
use Rattle.branch_state.proofs.ConstraintSteps.{linked_own, seen_linked}
use Rattle.branch_state.proofs.posting_lists.variable_of.Goals as goal

pub deref-requires : goal.deref-requires
deref-requires c = let l = c.requires c.args.x (or_left (c.args.x == c.args.x) false (eq-eqb c.args.x c.args.x refl)) in linked_own c.args.heap.now.now c.args.x l.0 l.1

pub returns-in-Constrained : goal.returns-in-Constrained
returns-in-Constrained c = seen_linked c.args.heap.now.now c.args.x c.requires c.in-Constrained.field-0 c.in-Constrained.k c.in-Constrained.ensures.seen.1 c.in-Constrained.ensures.at_root
