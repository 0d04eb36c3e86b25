use Rattle.std.proofs.Common.{◌≡◌, ◌-◌, suc, length, subst, sym, arith}
use Rattle.std.proofs.lemmas.Result.{on_ok_weaker}
use Rattle.code_safety.specs.Safety.{IsSafe}
use Rattle.term_instructions.specs.WriteMode.{IsGatheredTo}
use Rattle.term_instructions.proofs.BuildSteps.{gather_void}
use Rattle.term_instructions.proofs.UnifyInstructions.{place_within, unify_there, void_needs, one_unless}
use Rattle.term_instructions.proofs.write_mode.push_argument.Goals as goal

pub argument_at-requires-clause-there : goal.argument_at-requires-clause-there
argument_at-requires-clause-there g c = place_within c.args.code.now c.args.branch.now c.args.at _ c.args.areas.now c.requires.safe

pub argument_at-requires-clause-unify : goal.argument_at-requires-clause-unify
argument_at-requires-clause-unify g c = unify_there c.args.code.now c.args.branch.now c.args.at _ c.args.areas.now c.requires.safe (let more = c.requires.more in omega (arith, more))

pub one_cell-requires : goal.one_cell-requires
one_cell-requires g c = record {
  safe = subst (λ k. IsSafe c.args.code.now c.args.branch.now c.args.at (c.args.n - k) c.args.areas.now) (let e : length c.args.cells.now.items ≡ c.len.result = omega arith in e) c.requires.safe;
  some = omega arith;
  holds = c.argument_at.ensures;
  one = one_unless c.argument_at.result c.in_default.not-Void;
}

pub returns-in_ok-push-in_default : goal.returns-in_ok-push-in_default
returns-in_ok-push-in_default g c =
    subst (λ l. IsGatheredTo c.args.code.now c.args.n c.args.branch.now c.args.at c.args.areas.now c.args.cells.now.items c.one_cell.new.branch (suc c.args.at)
    c.one_cell.new.areas l) (sym c.in_ok-push-in_default.ensures.items)
    (c.in_ok-cell-in_default.ensures c.args.n c.args.cells.now.items (let e : c.args.n - length c.args.cells.now.items ≡ c.args.n - c.len.result = omega arith in e) c.requires.own)

pub returns-in-Void : goal.returns-in-Void
returns-in-Void g c =
    let low = void_needs c.args.code.now c.args.branch.now c.args.at _ c.args.areas.now c.requires.safe (let more = c.requires.more in omega (arith, more)) c.in-Void.count c.in-Void.ensures in
    on_ok_weaker c.push_variables.result (gather_void c.args.code.now c.args.n c.args.branch.now c.args.at c.args.areas.now c.args.cells.now.items
    c.requires.safe c.requires.more c.requires.own c.in-Void.count c.in-Void.ensures low c.push_variables.new.branch c.push_variables.new.cells.items)
    c.push_variables.ensures
