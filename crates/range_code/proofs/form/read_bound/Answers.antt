use Rattle.std.proofs.Common.{◌-◌, pos, subst, refl, take, drop, length}
use Rattle.fd_language.specs.declared.range_node.RangeNode.TheVariants as node
use Rattle.range_code.specs.Forms.{IsBound}
use Rattle.range_code.proofs.Forms.{front_two, bound_divided}
use Rattle.range_code.proofs.form.read_bound.Goals as goal

pub returns-in-Some-division_of-clause-bound : goal.returns-in-Some-division_of-clause-bound
returns-in-Some-division_of-clause-bound c =
    let b = rw (c.in-Some.is) at c.in_ok-bound.ensures.bound in
    let w = rw (c.in-Some.is) at c.in_ok-bound.ensures.whole in
    bound_divided c.args.nodes.now (take (length c.in-Some.rest.now - 2) (drop 2 c.in-Some.rest.now)) c.in-Some.bound _ _ _ c.in-Some-division_of.division
    (subst (IsBound c.args.nodes.now c.in-Some.bound) (front_two c.in-Some.rest.now (node.Int (pos 0)) c.in-len2-up.len_at_least) b) w c.in-Some-division_of.ensures refl refl refl
