use Rattle.monotone_check.specs.Steps.{PushesLeaf, PushesOperated, PushesSpan, PushesSingle, PushesCombined, PushesComplement, PushesPointwise}
use Rattle.monotone_check.proofs.NodeChecks.{ok_taken, leaf_taken, operator_taken, span_taken, one_taken, combined_taken, outside_taken, pointwise_taken}
use Rattle.monotone_check.proofs.pending_checks.Pending.take.Goals as goal

pub returns-in-Int : goal.returns-in-Int
returns-in-Int c = ok_taken c.take_leaf.result c.args.node c.args.place c.args.self.now c.take_leaf.new.self
    (PushesLeaf c.args.node c.args.place c.args.self.now c.take_leaf.new.self)
    (λ f. leaf_taken c.args.node c.args.place c.args.self.now c.take_leaf.new.self c.in-Int.is f) c.take_leaf.ensures

pub returns-in-Add : goal.returns-in-Add
returns-in-Add c = ok_taken c.take_operator.result c.args.node c.args.place c.args.self.now c.take_operator.new.self
    (PushesOperated c.args.node c.args.place c.args.self.now c.take_operator.new.self)
    (λ f. operator_taken c.args.node c.args.place c.args.self.now c.take_operator.new.self c.in-Add.is f) c.take_operator.ensures

pub returns-in-Span : goal.returns-in-Span
returns-in-Span c = ok_taken c.take_span.result c.args.node c.args.place c.args.self.now c.take_span.new.self (PushesSpan c.args.self.now c.take_span.new.self)
    (λ f. span_taken c.args.node c.args.place c.args.self.now c.take_span.new.self c.in-Span.is f) c.take_span.ensures

pub returns-in-One : goal.returns-in-One
returns-in-One c = ok_taken c.take_single.result c.args.node c.args.place c.args.self.now c.take_single.new.self
    (PushesSingle c.args.self.now c.take_single.new.self) (λ f. one_taken c.args.node c.args.place c.args.self.now c.take_single.new.self c.in-One.is f)
    c.take_single.ensures

pub returns-in-Union : goal.returns-in-Union
returns-in-Union c = ok_taken c.take_combined.result c.args.node c.args.place c.args.self.now c.take_combined.new.self
    (PushesCombined c.args.self.now c.take_combined.new.self)
    (λ f. combined_taken c.args.node c.args.place c.args.self.now c.take_combined.new.self c.in-Union.is f) c.take_combined.ensures

pub returns-in-Outside : goal.returns-in-Outside
returns-in-Outside c = ok_taken c.take_complement.result c.args.node c.args.place c.args.self.now c.take_complement.new.self
    (PushesComplement c.args.self.now c.take_complement.new.self)
    (λ f. outside_taken c.args.node c.args.place c.args.self.now c.take_complement.new.self c.in-Outside.is f) c.take_complement.ensures

pub returns-in-Plus : goal.returns-in-Plus
returns-in-Plus c = ok_taken c.take_pointwise.result c.args.node c.args.place c.args.self.now c.take_pointwise.new.self
    (PushesPointwise c.args.node c.args.place c.args.self.now c.take_pointwise.new.self)
    (λ f. pointwise_taken c.args.node c.args.place c.args.self.now c.take_pointwise.new.self c.in-Plus.is f) c.take_pointwise.ensures
