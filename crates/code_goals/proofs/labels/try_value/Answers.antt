use Rattle.std.proofs.Common.{◌≡◌, pos, subst, arith, rules, w64, to_z, of_z}
use Rattle.fd_language.specs.declared.TheConstants.{INFINITY}
use Rattle.fd_language.proofs.Lemmas.{has_high}
use Rattle.heap_cells.specs.declared.Cell.TheVariants as cell
use Rattle.code_safety.specs.CellEquations.{Equates}
use Rattle.code_goals.proofs.Labelling.{later, tried_none, value_tried, open_kept}
use Rattle.domain_ranges.proofs.Lemmas.{values_step}
use Rattle.code_goals.proofs.labels.try_value.Goals as goal

pub overflow_add-others : goal.overflow_add-others
overflow_add-others g c =
    let h = has_high 0 INFINITY c.args.left.values c.in-Some.value c.in-Some.ensures.rising c.in-Some.ensures.member in
    omega (arith, h)

pub keep_values-requires : goal.keep_values-requires
keep_values-requires g c = c.requires.safe.sound

pub equate-requires-clause-sound : goal.equate-requires-clause-sound
equate-requires-clause-sound g c = c.in_ok-kept.ensures.sound

pub equate-requires-clause-own_a : goal.equate-requires-clause-own_a
equate-requires-clause-own_a g c = (
  open_kept c.args.code.now c.args.branch.now c.args.at c.args.areas.now c.args.left (later c.args.left c.in-Some.value) c.in_ok-kept.kept
      c.keep_values.new.branch c.keep_values.new.areas c.in_ok-kept.ensures c.requires.opened,
  tt,
)

pub equate-requires-clause-own_b : goal.equate-requires-clause-own_b
equate-requires-clause-own_b g c = (tt, tt)

pub returns-in_default : goal.returns-in_default
returns-in_default g c =
    tried_none c.args.code.now c.pool_of.ensures.valid c.args.branch.now c.args.at c.args.areas.now c.requires.safe c.args.left c.requires.opened (rw c.in_default.is at c.next_from.ensures.least)

pub returns : goal.returns
returns g c =
    let v = c.args.left in
    let value = c.in-Some.value in
    let step = values_step 0 INFINITY v.from value v.values c.in-Some.ensures.rising c.in-Some.ensures.member c.in-Some.ensures.from c.in-Some.ensures.least in
    let fits : to_z w64 (of_z w64 c.from.result) ≡ pos value = search rules in
    let equates = subst (λ z. Equates c.keep_values.new.branch (cell.Ref v.variable) (cell.Int z) c.equate.new.branch c.in_ok-equal.equal) fits c.in_ok-equal.ensures.equates in
    value_tried c.args.code.now c.pool_of.ensures.valid c.args.branch.now c.args.at c.args.areas.now c.requires.safe v c.requires.opened value step
    c.in_ok-kept.kept c.keep_values.new.branch c.keep_values.new.areas c.in_ok-kept.ensures c.equate.new.branch c.in_ok-equal.ensures.same
    c.in_ok-equal.equal equates
    c.on_if.result c.on_if.ensures
