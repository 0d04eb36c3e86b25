use Rattle.std.proofs.Common.{◌∙◌, ◌-◌, subst, sym, take, drop, length}
use Rattle.range_code.specs.Forms.{IsBound}
use Rattle.range_code.proofs.Forms.{front_one, bound_first, bound_more}
use Rattle.range_code.proofs.form.read_sum.Goals as goal

pub parts-init : goal.parts-init
parts-init c =
    let a = c.in_ok-add.ensures c.if-not-branch.false in
    record {
      bound = subst (λ l. IsBound l c.add.new.self (take (length c.args.nodes.now - 1) (drop 1 c.args.nodes.now)))
          (sym (front_one c.args.nodes.now _ c.in-len1-up.len_at_least))
          (bound_first _ (take (length c.args.nodes.now - 1) (drop 1 c.args.nodes.now)) c.in-Some.leaf c.new-bound.result c.add.new.self c.in-Some.ensures
          c.new-bound.ensures.value c.new-bound.ensures.products c.new-bound.ensures.division a);
      whole = a.division ∙ c.new-bound.ensures.division;
    }

pub parts-preserved : goal.parts-preserved
parts-preserved c =
    let a = c.in_ok-add-2.ensures c.if-not-branch-2.false in
    record {
      bound = bound_more c.args.nodes.now c.parts.rest.now c.in-Some-next_part.behind.now c.parts.bound c.add-in-Some-next_part.new.self
          c.in-Some-next_part.addend c.parts.invariant.bound c.parts.invariant.whole c.in-Some-next_part.ensures.part a;
      whole = a.division ∙ c.parts.invariant.whole;
    }
