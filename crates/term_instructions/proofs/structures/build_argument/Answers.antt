use Rattle.std.proofs.Common.{◌≡◌, ◌-◌, ◌≤◌, [], length, All, sym, ap, subst, arith}
use Rattle.std.proofs.lemmas.List.Elements.{All-nil}
use Rattle.branch_state.specs.States.{IsCell}
use Rattle.code_safety.specs.Safety.{IsSafe}
use Rattle.term_instructions.specs.WriteMode.{IsGatheredTo}
use Rattle.term_instructions.proofs.BoundStructures.{built_from}
use Rattle.term_instructions.proofs.BuildSteps.{gathered_start}
use Rattle.term_instructions.proofs.structures.build_argument.Goals as goal

pub build_rest-requires-clause-safe : goal.build_rest-requires-clause-safe
build_rest-requires-clause-safe g c =
    let none = ap length c.requires.empty in
    subst (λ k. IsSafe c.args.code.now c.args.branch.now c.args.from k c.args.areas.now)
    (let e : c.args.functor.1 ≡ c.args.functor.1 - length c.args.scratch.now.cells.items = omega (arith, none) in e) c.requires.safe

pub build_rest-requires-clause-within : goal.build_rest-requires-clause-within
build_rest-requires-clause-within g c = let none = ap length c.requires.empty in omega (arith, none)

pub build_rest-requires-clause-own : goal.build_rest-requires-clause-own
build_rest-requires-clause-own g c = subst (All (IsCell c.args.branch.now)) (sym c.requires.empty) (All-nil (IsCell c.args.branch.now))

pub returns-else-functor-eq2 : goal.returns-else-functor-eq2
returns-else-functor-eq2 g c =
    let none = ap length c.requires.empty in
    let safe : IsSafe c.args.code.now c.args.branch.now c.args.from (c.args.functor.1 - 0) c.args.areas.now = subst
    (λ k. IsSafe c.args.code.now c.args.branch.now c.args.from k c.args.areas.now) (let e : c.args.functor.1 ≡ c.args.functor.1 - 0 = omega arith in
    e) c.requires.safe in
    let start = gathered_start c.args.code.now c.args.functor.1 c.args.branch.now c.args.from c.args.areas.now [] safe
    (let e : 0 ≤ c.args.functor.1 = omega arith in e) (All-nil (IsCell c.args.branch.now)) in
    built_from c.args.code.now c.args.functor.0 c.args.functor.1 c.args.var c.args.branch.now c.args.from c.args.areas.now c.requires.there
    c.args.branch.now c.args.from c.args.areas.now c.args.scratch.now.cells.items
    (subst (λ l. IsGatheredTo c.args.code.now c.args.functor.1 c.args.branch.now c.args.from c.args.areas.now [] c.args.branch.now c.args.from c.args.areas.now l) (sym c.requires.empty) start)
    c.build_rest.new.branch c.build_rest.new.areas c.build_rest.result c.build_rest.ensures
