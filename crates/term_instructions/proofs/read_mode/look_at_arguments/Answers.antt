use Rattle.std.proofs.Common.{[], subst, arith}
use Rattle.std.proofs.lemmas.List.Elements.{All-nil}
use Rattle.branch_state.specs.Steps.{IsTouchBelow}
use Rattle.term_instructions.specs.ReadMode.{LooksOn}
use Rattle.term_instructions.proofs.ReadSteps.{read_start, read_both, read_refused}
use Rattle.term_instructions.proofs.read_mode.look_at_arguments.Goals as goal

pub arguments-init : goal.arguments-init
arguments-init g c = read_start c.args.code.now c.args.cells.now c.args.branch.now [] c.args.from c.args.areas.now c.requires.safe c.requires.within c.requires.own (All-nil (IsTouchBelow _))

pub look_at_argument-requires : goal.look_at_argument-requires
look_at_argument-requires g c = record { safe = c.arguments.invariant.safe; more = omega arith; own = c.requires.own }

pub arguments-preserved : goal.arguments-preserved
arguments-preserved g c =
    read_both c.args.code.now c.args.cells.now c.args.branch.now [] c.args.from c.args.areas.now c.args.branch.now [] c.arguments.now c.arguments.areas c.arguments.invariant
    c.args.branch.now [] c.in-Read.to c.look_at_argument.new.areas
    (subst (LooksOn c.args.code.now c.args.cells.now c.args.branch.now c.arguments.now c.arguments.areas c.look_at_argument.new.areas) c.in-Read.is c.in_ok-to.ensures.looks)

pub returns-in-Refused : goal.returns-in-Refused
returns-in-Refused g c =
    read_refused c.args.code.now c.args.cells.now c.args.branch.now [] c.args.from c.args.areas.now c.args.branch.now [] c.arguments.now c.arguments.areas c.arguments.invariant
    c.args.branch.now c.look_at_argument.new.areas
    (subst (LooksOn c.args.code.now c.args.cells.now c.args.branch.now c.arguments.now c.arguments.areas c.look_at_argument.new.areas) c.in-Refused.is c.in_ok-to.ensures.looks)
