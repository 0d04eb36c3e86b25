use Rattle.std.proofs.Common.{◌≡◌, ◌-◌, length, All, sym, ap, subst, arith}
use Rattle.std.proofs.lemmas.List.Elements.{All-nil}
use Rattle.std.specs.Prelude.{IfOk}
use Rattle.branch_state.specs.States.{IsCell}
use Rattle.code_safety.specs.Safety.{IsSafe}
use Rattle.term_instructions.specs.WriteMode.{PutsOn}
use Rattle.term_instructions.proofs.structures.put_arguments.Goals as goal

pub put_rest-requires-clause-safe : goal.put_rest-requires-clause-safe
put_rest-requires-clause-safe g c =
    let none = ap length c.requires.empty in
    subst (λ k. IsSafe c.args.code.now c.args.branch.now c.args.from k c.args.areas.now)
    (let e : c.args.functor.1 ≡ c.args.functor.1 - length c.args.cells.now.items = omega (arith, none) in e) c.requires.safe

pub put_rest-requires-clause-within : goal.put_rest-requires-clause-within
put_rest-requires-clause-within g c = let none = ap length c.requires.empty in omega (arith, none)

pub put_rest-requires-clause-own : goal.put_rest-requires-clause-own
put_rest-requires-clause-own g c = subst (All (IsCell c.args.branch.now)) (sym c.requires.empty) (All-nil (IsCell c.args.branch.now))

pub returns-else-functor-eq2 : goal.returns-else-functor-eq2
returns-else-functor-eq2 g c = subst (λ l. IfOk c.put_rest.result
    (PutsOn c.args.code.now c.args.functor.0 c.args.functor.1 c.args.a c.args.branch.now c.args.from c.args.areas.now l c.put_rest.new.branch
    c.put_rest.new.areas)) c.requires.empty c.put_rest.ensures
