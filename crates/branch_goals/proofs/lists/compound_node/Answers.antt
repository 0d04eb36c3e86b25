use Rattle.std.proofs.Common.{◌≡◌, length, rules}
use Rattle.term_pool.specs.declared.TheConstants.{CONS}
use Rattle.branch_goals.proofs.ListNodes.{other_count, other_name}
use Rattle.branch_goals.proofs.lists.compound_node.Goals as goal
use Rattle.branch_goals.proofs.lists.compound_node.Goals.{else-eq-via-then-eq+else-args-eq2, else-eq-via-else-eq}

pub returns-else-eq : goal.returns-else-eq
returns-else-eq c = elim c.else-eq.branch [
  | else-eq-via-then-eq+else-args-eq2 w ↦
      let apart : length c.args.args.now ≡ 2 → ⊥ = search rules in
      λ name n by. other_count c.args.f c.args.args.now apart name n by
  | else-eq-via-else-eq w ↦
      let apart : c.args.f ≡ CONS → ⊥ = search rules in
      λ name n by. other_name c.args.f c.args.args.now apart name n by
]
