use Rattle.std.proofs.Common.{sym, subst, IfSome}
use Rattle.term_pool.specs.Contents.{Contents}
use Rattle.term_pool.specs.Terms.{term_of}
use Rattle.clause_code.specs.Predicates.{HasFunctor}
use Rattle.clause_code.proofs.ProgramFunctors.{gathers, one_call}
use Rattle.clause_code.proofs.predicates.add_call.Goals as goal

pub returns-in_ok-insert_full : goal.returns-in_ok-insert_full
returns-in_ok-insert_full c =
    let p = c.args.program.now in
    let t = c.in-Call.t in
    let f = c.in_ok-functor.functor in
    let old = c.args.functors.now.keys in
    let new = c.insert_full.new.self.keys in
    let has = subst (λ (q : Contents). HasFunctor q (term_of q t) f) c.pool.ensures
    (subst (λ r. IfSome r (HasFunctor c.pool.result.now (term_of c.pool.result.now t))) c.in_ok-functor.ensures.ok_part c.functor_of.ensures.found) in
    λ heads w. one_call p heads c.args.i t old new (sym c.in-Call.ensures.goal) (gathers p.pool (term_of p.pool t) f old new has c.in_ok-insert_full.ensures.keys) w
