use Rattle.std.proofs.Common.{drop, subst, sym}
use Rattle.fd_language.specs.declared.NoMemory.{NoMemory}
use Rattle.code_safety.specs.declared.instruction_outcomes.Went.{Went}
use Rattle.branch_state.specs.Steps.{AreTouchesOf}
use Rattle.term_instructions.specs.ReadMode.{IsReadTo, ReadsAll, ReadsThen}
use Rattle.term_instructions.proofs.Head.{read_then, refused_then}
use Rattle.term_instructions.proofs.structures.match_arguments.Goals as goal

pub post_touches-requires-clause-sound : goal.post_touches-requires-clause-sound
post_touches-requires-clause-sound g c =
    let r : IsReadTo c.args.code.now c.args.cells.now c.args.branch.now c.args.touches.now.items c.args.from c.args.areas.now c.read_arguments.new.branch
    c.read_arguments.new.touches.items _ c.read_arguments.new.areas =
    subst (ReadsAll c.args.code.now c.args.cells.now c.args.branch.now c.args.touches.now.items c.args.from c.args.areas.now c.read_arguments.new.branch
    c.read_arguments.new.touches.items c.read_arguments.new.areas) c.in-Some.is c.in_ok-at.ensures in
    r.safe.sound

pub post_touches-requires-clause-touches : goal.post_touches-requires-clause-touches
post_touches-requires-clause-touches g c =
    let r : IsReadTo c.args.code.now c.args.cells.now c.args.branch.now c.args.touches.now.items c.args.from c.args.areas.now c.read_arguments.new.branch
    c.read_arguments.new.touches.items _ c.read_arguments.new.areas =
    subst (ReadsAll c.args.code.now c.args.cells.now c.args.branch.now c.args.touches.now.items c.args.from c.args.areas.now c.read_arguments.new.branch
    c.read_arguments.new.touches.items c.read_arguments.new.areas) c.in-Some.is c.in_ok-at.ensures in
    subst (AreTouchesOf c.read_arguments.new.branch) (sym c.deref.ensures.value) r.are_told

pub returns-in_default : goal.returns-in_default
returns-in_default g c =
    refused_then c.args.code.now c.args.cells.now c.args.branch.now c.args.touches.now.items c.args.from c.args.areas.now c.read_arguments.new.branch c.read_arguments.new.areas
    (subst (ReadsAll c.args.code.now c.args.cells.now c.args.branch.now c.args.touches.now.items c.args.from c.args.areas.now c.read_arguments.new.branch
    c.read_arguments.new.touches.items c.read_arguments.new.areas) c.in_default.is c.in_ok-at.ensures)

pub returns : goal.returns
returns g c =
    let p = c.in_ok-posted in
    subst (λ (w : Went). ReadsThen c.args.code.now (drop c.args.from.next c.args.cells.now) c.args.branch.now c.args.touches.now.items c.args.from.at
    c.args.areas.now c.post_touches.new.self c.read_arguments.new.areas w) (sym c.on_if.ensures)
    (read_then c.args.code.now c.args.cells.now c.args.branch.now c.args.touches.now.items c.args.from c.args.areas.now c.read_arguments.new.branch
    c.read_arguments.new.touches.items c.in-Some.at c.read_arguments.new.areas
    (subst (ReadsAll c.args.code.now c.args.cells.now c.args.branch.now c.args.touches.now.items c.args.from c.args.areas.now c.read_arguments.new.branch
    c.read_arguments.new.touches.items c.read_arguments.new.areas) c.in-Some.is c.in_ok-at.ensures)
    c.post_touches.new.self c.deref.result.now c.deref.ensures.value p.posted NoMemory p.ensures.heap p.ensures.same p.ensures.posted p.ensures.none p.ensures.sound p.ensures.below)
