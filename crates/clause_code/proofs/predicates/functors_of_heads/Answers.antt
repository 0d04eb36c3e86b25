use Rattle.std.proofs.Common.{◌<◌, sym, subst, IfSome}
use Rattle.term_pool.specs.declared.TermId.{TermId}
use Rattle.term_pool.specs.Contents.{Contents}
use Rattle.term_pool.specs.Terms.{term_of}
use Rattle.clause_check.specs.Programs.{clause_at}
use Rattle.clause_code.specs.Predicates.{HasFunctor}
use Rattle.clause_code.proofs.ProgramFunctors.{gathers, head_functor, one_head, some_functor}
use Rattle.clause_code.proofs.predicates.functors_of_heads.Goals as goal

pub unwrap-functor-requires : goal.unwrap-functor-requires
unwrap-functor-requires c =
    let p = c.args.program.now in
    let i = c.loop-clause.clause in
    let w = head_functor p c.known.ensures i (subst (λ n. i < n) c.clauses-clause-end.ensures c.loop-clause-test.true) in
    let own = subst (λ (t : TermId). HasFunctor p.pool (term_of p.pool t) w.0) (sym c.head.ensures.head) w.1 in
    let here = subst (λ (q : Contents). HasFunctor q (term_of q c.head.result) w.0) (sym c.pool.ensures) own in
    some_functor c.pool.result.now (term_of c.pool.result.now c.head.result) c.functor_of.result (w.0, here) c.functor_of.ensures.none

pub loop-clause-preserved : goal.loop-clause-preserved
loop-clause-preserved c =
    let p = c.args.program.now in
    let i = c.loop-clause.clause in
    let f = c.unwrap-functor.result in
    let old = c.loop-clause.functors.keys in
    let new = c.insert_full.new.self.keys in
    let there = subst (λ r. IfSome r (HasFunctor c.pool.result.now (term_of c.pool.result.now c.head.result))) c.unwrap-functor.ensures c.functor_of.ensures.found in
    let own = subst (λ (q : Contents). HasFunctor q (term_of q c.head.result) f) c.pool.ensures there in
    let has = subst (λ (t : TermId). HasFunctor p.pool (term_of p.pool t) f) c.head.ensures.head own in
    one_head p i old new (gathers p.pool (term_of p.pool (clause_at p i).head) f old new has c.in_ok-insert_full.ensures.keys) c.loop-clause.invariant
