use Rattle.std.proofs.Common.{Some, subst, arith}
use Rattle.term_instructions.specs.ReadMode.{IsNextPlace, ReadsOn}
use Rattle.term_instructions.proofs.ReadSteps.{read_start, read_both, read_refused, read_all}
use Rattle.term_instructions.proofs.UnifyInstructions.{place_within}
use Rattle.term_instructions.proofs.read_mode.read_arguments.Goals as goal

pub arguments-init : goal.arguments-init
arguments-init g c = read_start c.args.code.now c.args.cells.now c.args.branch.now c.args.touches.now.items c.args.from c.args.areas.now c.requires.safe
    c.requires.within c.requires.own c.requires.told

pub read_argument-requires : goal.read_argument-requires
read_argument-requires g c = record { safe = c.arguments.invariant.safe; more = omega arith; own = c.arguments.invariant.own; told = c.arguments.invariant.are_told }

pub arguments-preserved : goal.arguments-preserved
arguments-preserved g c =
    read_both c.args.code.now c.args.cells.now c.args.branch.now c.args.touches.now.items c.args.from c.args.areas.now c.arguments.branch
    c.arguments.touches.items c.arguments.now c.arguments.areas c.arguments.invariant
    c.read_argument.new.branch c.read_argument.new.touches.items c.in-Some.to c.read_argument.new.areas
    (subst (ReadsOn c.args.code.now c.args.cells.now c.arguments.branch c.arguments.touches.items c.arguments.now c.arguments.areas c.read_argument.new.branch
    c.read_argument.new.touches.items c.read_argument.new.areas) c.in-Some.is c.in_ok-to.ensures.reads)

pub returns-in_default : goal.returns-in_default
returns-in_default g c =
    read_refused c.args.code.now c.args.cells.now c.args.branch.now c.args.touches.now.items c.args.from c.args.areas.now c.arguments.branch
    c.arguments.touches.items c.arguments.now c.arguments.areas c.arguments.invariant
    c.read_argument.new.branch c.read_argument.new.areas
    (subst (ReadsOn c.args.code.now c.args.cells.now c.arguments.branch c.arguments.touches.items c.arguments.now c.arguments.areas c.read_argument.new.branch
    c.read_argument.new.touches.items c.read_argument.new.areas) c.in_default.is c.in_ok-to.ensures.reads)

pub returns : goal.returns
returns g c =
    read_all c.args.code.now c.args.cells.now c.args.branch.now c.args.touches.now.items c.args.from c.args.areas.now c.arguments.branch
    c.arguments.touches.items c.arguments.now c.arguments.areas c.arguments.invariant c.arguments-test.false

pub arguments-smaller : goal.arguments-smaller
arguments-smaller g c =
    let low = place_within c.args.code.now c.arguments.branch c.arguments.now.at _ c.arguments.areas c.arguments.invariant.safe in
    let next : IsNextPlace c.arguments.now.at (Some c.in-Some.to) = subst (IsNextPlace c.arguments.now.at) c.in-Some.is c.in_ok-to.ensures.place in
    omega (arith, low, next)
