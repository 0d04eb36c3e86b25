use Rattle.std.proofs.Common.{rules, SFits, to_z-of_z, subst, length}
use mir.Syntax.{w128}
use Rattle.std.proofs.lemmas.Result.{on_ok_weaker}
use Rattle.fd_language.specs.declared.TheConstants.{INFINITY}
use Rattle.fd_language.specs.Family.{IsRising}
use Rattle.range_code.specs.Frames.{slot_set, slot_integer}
use Rattle.range_code.specs.Instructions.{node_of}
use Rattle.range_code.specs.Nodes.{IsReadable}
use Rattle.range_code.specs.Steps.{PushesValue, PushesSet}
use Rattle.range_code.proofs.TakenNodes.{push_counted, terms_counted, move_counted, terms_there, moves_there, push_taken, operator_taken, span_taken, one_taken}
use Rattle.range_code.proofs.TakenNodes.{dom_taken, union_taken, inter_taken, outside_taken, moved_taken}
use Rattle.range_code.proofs.evaluate.take.Goals as goal

pub take_terms-requires : goal.take_terms-requires
take_terms-requires g c = terms_there c.args.steps.now.constants.items c.args.work.now c.args.work.now c.args.instr c.in-Add.is c.requires.fits

pub take_range-requires : goal.take_range-requires
take_range-requires g c = moves_there c.args.steps.now.constants.items c.args.work.now c.args.work.now c.args.instr c.in-Plus.is c.requires.fits

pub slot_domain-requires : goal.slot_domain-requires
slot_domain-requires g c = subst (λ i. IsReadable (length (g.V.View.sets c.args.view.now)) c.args.args.now (node_of c.args.steps.now.constants.items i)) c.in-PushDom.is c.requires.readable

pub returns-in-PushConst-clause-counted : goal.returns-in-PushConst-clause-counted
returns-in-PushConst-clause-counted g c = push_counted c.args.steps.now.constants.items c.args.work.now c.push_value.new.self c.args.instr c.in-PushConst.is c.push_value.ensures.counted

pub returns-in-Add-clause-counted : goal.returns-in-Add-clause-counted
returns-in-Add-clause-counted g c = terms_counted c.args.steps.now.constants.items c.args.work.now c.take_terms.new.self c.args.instr c.in-Add.is c.take_terms.ensures.counted

pub returns-in-Plus-clause-counted : goal.returns-in-Plus-clause-counted
returns-in-Plus-clause-counted g c = on_ok_weaker c.take_range.result
    (move_counted c.args.steps.now.constants.items c.args.work.now c.take_range.new.self c.args.instr c.in-Plus.is) c.take_range.ensures.counted

pub returns-in-PushConst-clause-taken : goal.returns-in-PushConst-clause-taken
returns-in-PushConst-clause-taken g c =
    let f : SFits w128 c.pushed.result = search rules in
    push_taken (slot_set (g.V.View.sets c.args.view.now) c.args.args.now) (slot_integer c.args.args.now) c.args.steps.now.constants.items c.args.work.now
    c.push_value.new.self c.args.instr c.in-PushConst.is
    (subst (λ z. PushesValue z c.args.work.now c.push_value.new.self) c.pushed.ensures (simp to_z-of_z at c.push_value.ensures.pushed))

pub returns-in-Add-clause-taken : goal.returns-in-Add-clause-taken
returns-in-Add-clause-taken g c = operator_taken (slot_set (g.V.View.sets c.args.view.now) c.args.args.now) (slot_integer c.args.args.now)
    c.args.steps.now.constants.items c.args.work.now c.take_terms.new.self c.args.instr c.in-Add.is c.take_terms.ensures.taken

pub returns-in-Span-clause-taken : goal.returns-in-Span-clause-taken
returns-in-Span-clause-taken g c = on_ok_weaker c.take_span.result
    (span_taken (slot_set (g.V.View.sets c.args.view.now) c.args.args.now) (slot_integer c.args.args.now) c.args.steps.now.constants.items c.args.work.now
    c.take_span.new.self c.args.instr c.in-Span.is) c.take_span.ensures.taken

pub returns-in-One-clause-taken : goal.returns-in-One-clause-taken
returns-in-One-clause-taken g c = on_ok_weaker c.take_single.result
    (one_taken (slot_set (g.V.View.sets c.args.view.now) c.args.args.now) (slot_integer c.args.args.now) c.args.steps.now.constants.items c.args.work.now
    c.take_single.new.self c.args.instr c.in-One.is) c.take_single.ensures.taken

pub returns-in-PushDom-clause-taken : goal.returns-in-PushDom-clause-taken
returns-in-PushDom-clause-taken g c = on_ok_weaker c.push_domain.result
    (λ f. dom_taken (slot_set (g.V.View.sets c.args.view.now) c.args.args.now) (slot_integer c.args.args.now) c.args.steps.now.constants.items c.args.work.now
    c.push_domain.new.self c.args.instr c.in-PushDom.slot c.in-PushDom.is
    (subst (IsRising 0 INFINITY) c.slot_domain.ensures c.push_domain.ensures.rising)
    (subst (λ s. PushesSet s c.args.work.now c.push_domain.new.self) c.slot_domain.ensures f)) c.push_domain.ensures.pushed

pub returns-in-Inter-clause-taken : goal.returns-in-Inter-clause-taken
returns-in-Inter-clause-taken g c = on_ok_weaker c.take_both.result
    (inter_taken (slot_set (g.V.View.sets c.args.view.now) c.args.args.now) (slot_integer c.args.args.now) c.args.steps.now.constants.items c.args.work.now
    c.take_both.new.self c.args.instr c.in-Inter.is) c.take_both.ensures.taken

pub returns-in-Outside-clause-taken : goal.returns-in-Outside-clause-taken
returns-in-Outside-clause-taken g c = on_ok_weaker c.take_outside.result
    (outside_taken (slot_set (g.V.View.sets c.args.view.now) c.args.args.now) (slot_integer c.args.args.now) c.args.steps.now.constants.items c.args.work.now
    c.take_outside.new.self c.args.instr c.in-Outside.is) c.take_outside.ensures.taken

pub returns-in-Plus-clause-taken : goal.returns-in-Plus-clause-taken
returns-in-Plus-clause-taken g c = on_ok_weaker c.take_range.result
    (moved_taken (slot_set (g.V.View.sets c.args.view.now) c.args.args.now) (slot_integer c.args.args.now) c.args.steps.now.constants.items c.args.work.now
    c.take_range.new.self c.args.instr c.in-Plus.is) c.take_range.ensures.taken

pub returns-in-Union-clause-taken : goal.returns-in-Union-clause-taken
returns-in-Union-clause-taken g c = union_taken (slot_set (g.V.View.sets c.args.view.now) c.args.args.now) (slot_integer c.args.args.now)
    c.args.steps.now.constants.items c.args.work.now c.take_union.new.self c.args.instr c.in-Union.is c.take_union.ensures.taken
