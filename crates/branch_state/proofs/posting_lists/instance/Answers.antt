use Rattle.std.proofs.Common.{◌≡◌, ℕ, List, ◌∙◌, map, ap, sym, subst}
use Rattle.fd_language.specs.Range.{Indexical}
use Rattle.range_code.specs.Slots.{slots_of}
use Rattle.range_code.specs.declared.frame.Arg.TheVariants as arg
use Rattle.branch_state.specs.Constraints.{AreLinked, store_variable}
use Rattle.branch_state.proofs.ConstraintSteps.{target_linked, slots_linked}
use Rattle.branch_state.proofs.posting_lists.instance.Goals as goal

pub arguments-requires : goal.arguments-requires
arguments-requires c =
    let p : Indexical = record { target = c.args.target; range = c.args.range.now } in
    let slots : c.slots.result.now ≡ slots_of p.range = c.slots.ensures c.args.range.now c.requires.shape in
    subst (AreLinked c.args.heap.now.now) (sym slots) (slots_linked c.args.heap.now.now p c.requires.linked)

pub variable_of-target-requires : goal.variable_of-target-requires
variable_of-target-requires c =
    let p : Indexical = record { target = c.args.target; range = c.args.range.now } in
    target_linked c.args.heap.now.now p c.requires.linked

pub returns : goal.returns
returns c = record {
  target = c.variable_of-target.ensures;
  args = c.in_ok-args.ensures ∙ ap (λ (xs : List ℕ). map (λ y. arg.Var (store_variable c.args.heap.now.now y)) xs) (c.slots.ensures c.args.range.now c.requires.shape);
  alike = c.in_ok-share.ensures;
}
