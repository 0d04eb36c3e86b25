use Rattle.std.proofs.Common.{[], ◌∷◌, ◌++◌, suc, subst, sym, ap, arith, ◌∙◌}
use Rattle.std.proofs.lemmas.List.Elements.{All-nil}
use Rattle.branch_state.specs.States.{IsCell}
use Rattle.code_safety.specs.Safety.{IsSafe}
use Rattle.term_instructions.specs.WriteMode.{IsGatheredTo, GivesOne}
use Rattle.term_instructions.proofs.BuildSteps.{gathered_start, one_given, two_given}
use Rattle.term_instructions.proofs.UnifyInstructions.{place_within, unify_there}
use Rattle.term_instructions.proofs.write_mode.gather_two.Goals as goal

pub argument_at-first-requires-clause-there : goal.argument_at-first-requires-clause-there
argument_at-first-requires-clause-there g c = place_within c.args.code.now c.args.branch.now c.args.from _ c.args.areas.now c.requires.safe

pub argument_at-first-requires-clause-unify : goal.argument_at-first-requires-clause-unify
argument_at-first-requires-clause-unify g c = unify_there c.args.code.now c.args.branch.now c.args.from 2 c.args.areas.now c.requires.safe (omega arith)

pub returns-then-not-is_one : goal.returns-then-not-is_one
returns-then-not-is_one g c =
    subst (λ l. IsGatheredTo c.args.code.now 2 c.args.branch.now c.args.from c.args.areas.now [] c.args.branch.now c.args.from c.args.areas.now l) (sym c.requires.empty)
    (gathered_start c.args.code.now 2 c.args.branch.now c.args.from c.args.areas.now [] c.requires.safe (omega arith) (All-nil (IsCell c.args.branch.now)))

pub behind-at-requires : goal.behind-at-requires
behind-at-requires g c = place_within c.args.code.now c.args.branch.now c.args.from _ c.args.areas.now c.requires.safe

pub argument_at-second-requires-clause-there : goal.argument_at-second-requires-clause-there
argument_at-second-requires-clause-there g c =
    place_within c.args.code.now c.one_cell.new.branch c.behind-at.result 1 c.one_cell.new.areas
    (subst (λ k. IsSafe c.args.code.now c.one_cell.new.branch k 1 c.one_cell.new.areas) (sym c.behind-at.ensures)
    (one_given c.args.code.now c.args.branch.now c.args.from c.args.areas.now c.one_cell.new.branch c.one_cell.new.areas c.in_ok-a.a c.in_ok-a.ensures).safe)

pub argument_at-second-requires-clause-unify : goal.argument_at-second-requires-clause-unify
argument_at-second-requires-clause-unify g c =
    unify_there c.args.code.now c.one_cell.new.branch c.behind-at.result 1 c.one_cell.new.areas
    (subst (λ k. IsSafe c.args.code.now c.one_cell.new.branch k 1 c.one_cell.new.areas) (sym c.behind-at.ensures)
    (one_given c.args.code.now c.args.branch.now c.args.from c.args.areas.now c.one_cell.new.branch c.one_cell.new.areas c.in_ok-a.a c.in_ok-a.ensures).safe) (omega arith)

pub returns-then-not-is_one-2 : goal.returns-then-not-is_one-2
returns-then-not-is_one-2 g c =
    let one = one_given c.args.code.now c.args.branch.now c.args.from c.args.areas.now c.one_cell.new.branch c.one_cell.new.areas c.in_ok-a.a c.in_ok-a.ensures in
    subst (λ at. IsGatheredTo c.args.code.now 2 c.args.branch.now c.args.from c.args.areas.now [] c.one_cell.new.branch at c.one_cell.new.areas c.push.new.self.items) (sym c.behind-at.ensures)
    (subst (λ l. IsGatheredTo c.args.code.now 2 c.args.branch.now c.args.from c.args.areas.now [] c.one_cell.new.branch (suc c.args.from) c.one_cell.new.areas
    l) (sym (c.in_ok-push.ensures.items ∙ ap (λ l. l ++ c.in_ok-a.a ∷ []) c.requires.empty)) one)

pub one_cell-requires-2-clause-safe : goal.one_cell-requires-2-clause-safe
one_cell-requires-2-clause-safe g c =
    subst (λ k. IsSafe c.args.code.now c.one_cell.new.branch k 1 c.one_cell.new.areas) (sym c.behind-at.ensures)
    (one_given c.args.code.now c.args.branch.now c.args.from c.args.areas.now c.one_cell.new.branch c.one_cell.new.areas c.in_ok-a.a c.in_ok-a.ensures).safe

pub behind-requires : goal.behind-requires
behind-requires g c =
    place_within c.args.code.now c.one_cell.new.branch c.behind-at.result 1 c.one_cell.new.areas
    (subst (λ k. IsSafe c.args.code.now c.one_cell.new.branch k 1 c.one_cell.new.areas) (sym c.behind-at.ensures)
    (one_given c.args.code.now c.args.branch.now c.args.from c.args.areas.now c.one_cell.new.branch c.one_cell.new.areas c.in_ok-a.a c.in_ok-a.ensures).safe)

pub returns : goal.returns
returns g c =
    let second = subst (λ k. GivesOne c.args.code.now 1 c.one_cell.new.branch k c.one_cell.new.areas c.one_cell-2.new.branch c.one_cell-2.new.areas c.in_ok-b.b)
    c.behind-at.ensures c.in_ok-b.ensures in
    subst (λ at. IsGatheredTo c.args.code.now 2 c.args.branch.now c.args.from c.args.areas.now [] c.one_cell-2.new.branch at c.one_cell-2.new.areas
    (c.in_ok-a.a ∷ c.in_ok-b.b ∷ [])) (sym (c.behind.ensures ∙ ap suc c.behind-at.ensures))
    (two_given c.args.code.now c.args.branch.now c.args.from c.args.areas.now c.one_cell.new.branch c.one_cell.new.areas c.in_ok-a.a c.in_ok-a.ensures
    c.one_cell-2.new.branch c.one_cell-2.new.areas c.in_ok-b.b second)
