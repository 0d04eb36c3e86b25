use Rattle.std.proofs.Common.{◌∙◌, ℕ, map, get_or, refl, ap, arith}
use Rattle.std.proofs.lemmas.List.{take_all}
use Rattle.fd_language.specs.declared.range_node.Feature.{Feature}
use Rattle.fd_language.specs.declared.range_node.Feature.TheVariants as feature
use Rattle.range_code.specs.Frames.{slot_variable}
use Rattle.propagate_queue.proofs.Features.{slot_read, one_more_read, all_read, read_same, monotone}
use Rattle.propagate_queue.proofs.new_agents.read_features.Goals as goal

pub variable_in-requires : goal.variable_in-requires
variable_in-requires c =
    let s = slot_read c.args.vars c.args.code.now.value c.deref.result.now c.args.args.now c.features-features.result.now c.loop-read.read-index (
      0,
      feature.Min,
    ) c.deref.ensures c.features-features.ensures.accepted c.features-features.ensures.features c.requires c.loop-read-test.true in
    omega (arith, s.0)

pub loop-read-preserved : goal.loop-read-preserved
loop-read-preserved c =
    let fs = c.features-features.result.now in
    let d : ℕ × Feature = get_or fs c.loop-read.read-index (0, feature.Min) in
    one_more_read c.args.args.now fs c.loop-read.read-index c.variable_in.result c.loop-read.into.items c.push.new.self.items d c.loop-read-test.true refl
    c.variable_in.ensures c.loop-read.invariant c.in_ok-push.ensures.items

pub returns-clause-same : goal.returns-clause-same
returns-clause-same c =
    let all = c.loop-read.invariant ∙ ap (map (λ (d : ℕ × Feature). (slot_variable c.args.args.now d.0, d.1))) (take_all c.loop-read.read-index c.features-features.result.now (omega arith)) in
    read_same c.args.code.now.value c.deref.result.now c.args.args.now c.features-features.result.now c.loop-read.into.items c.deref.ensures c.features-features.ensures.features all

pub returns-clause-vars : goal.returns-clause-vars
returns-clause-vars c =
    let all = c.loop-read.invariant ∙ ap (map (λ (d : ℕ × Feature). (slot_variable c.args.args.now d.0, d.1))) (take_all c.loop-read.read-index c.features-features.result.now (omega arith)) in
    all_read c.args.vars c.args.code.now.value c.deref.result.now c.args.args.now c.features-features.result.now c.loop-read.into.items c.deref.ensures
    c.features-features.ensures.accepted c.features-features.ensures.features c.requires all

pub returns-clause-monotone : goal.returns-clause-monotone
returns-clause-monotone c = monotone c.args.vars c.args.code.now.value c.deref.result.now c.args.args.now c.deref.ensures c.features-features.ensures.accepted c.requires
