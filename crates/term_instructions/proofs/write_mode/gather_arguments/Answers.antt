use Rattle.std.proofs.Common.{subst, sym, suc, arith}
use Rattle.term_instructions.specs.WriteMode.{IsGatheredTo}
use Rattle.term_instructions.proofs.BuildSteps.{gathered_start, gathered_both}
use Rattle.term_instructions.proofs.UnifyInstructions.{place_within}
use Rattle.term_instructions.proofs.write_mode.gather_arguments.Goals as goal

pub arguments-init : goal.arguments-init
arguments-init g c = gathered_start c.args.code.now c.args.n c.args.branch.now c.args.from c.args.areas.now c.args.cells.now.items c.requires.safe c.requires.within c.requires.own

pub push_argument-requires : goal.push_argument-requires
push_argument-requires g c = record { safe = c.arguments.invariant.safe; more = omega arith; own = c.arguments.invariant.own }

pub behind-at-requires : goal.behind-at-requires
behind-at-requires g c = place_within c.args.code.now c.arguments.branch c.arguments.at _ c.arguments.areas c.arguments.invariant.safe

pub arguments-preserved : goal.arguments-preserved
arguments-preserved g c =
    let i = c.arguments.invariant in
    subst (λ at. IsGatheredTo c.args.code.now c.args.n c.args.branch.now c.args.from c.args.areas.now c.args.cells.now.items c.push_argument.new.branch at
    c.push_argument.new.areas c.push_argument.new.cells.items) (sym c.behind-at.ensures)
    (gathered_both c.args.code.now c.args.n c.args.branch.now c.args.from c.args.areas.now c.args.cells.now.items c.arguments.branch c.arguments.at
    c.arguments.areas c.arguments.cells.items c.push_argument.new.branch (suc c.arguments.at) c.push_argument.new.areas c.push_argument.new.cells.items i
    c.in_ok-push_argument.ensures)

pub arguments-smaller : goal.arguments-smaller
arguments-smaller g c =
    let low = place_within c.args.code.now c.arguments.branch c.arguments.at _ c.arguments.areas c.arguments.invariant.safe in
    let next = c.behind-at.ensures in
    omega (arith, low, next)
