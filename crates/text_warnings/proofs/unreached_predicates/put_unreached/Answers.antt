use Rattle.std.proofs.Common.{◌∙◌, true, false, None, ap, sym, append-nil}
use Rattle.text_warnings.specs.declared.clauses.Clause.{Clause}
use Rattle.text_warnings.proofs.ClausePredicates.{unreached_more}
use Rattle.text_warnings.proofs.unreached_predicates.put_unreached.Goals as goal
use Rattle.text_warnings.proofs.unreached_predicates.put_unreached.Goals.{then-is_missed+in_ok-push, else-is_missed}

pub loop-clause-preserved : goal.loop-clause-preserved
loop-clause-preserved c =
    let keys = c.args.functors.now.keys in
    let ns = c.args.reached.now.keys in
    let ks = c.args.first.now in
    let i = c.loop-clause.clause-index in
    let d : Clause = record { functor = record { name = record { number = 0 }; arity = 0 }; place = 0; body = None } in
    let old = c.args.warnings.now.items in
    let mid = c.loop-clause.warnings.items in
    let new = c.if-is_missed.warnings.items in
    elim c.if-is_missed.branch [
      | then-is_missed+in_ok-push w ↦
          unreached_more c.args.starts.now keys ns ks i d true old mid new c.loop-clause-test.true c.loop-clause.invariant (sym c.is_missed.ensures ∙ w.if-is_missed.true)
          (ap (λ v. v.items) w.warnings-is ∙ w.in_ok-push.ensures.items)
      | else-is_missed w ↦
          unreached_more c.args.starts.now keys ns ks i d false old mid new c.loop-clause-test.true c.loop-clause.invariant (sym c.is_missed.ensures ∙ w.if-is_missed.false)
          (ap (λ v. v.items) w.warnings-is ∙ sym (append-nil mid))
    ]
