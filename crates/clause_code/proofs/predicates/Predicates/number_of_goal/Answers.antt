use Rattle.std.proofs.Common.{◌≡◌, ℕ, Some, IfSome, slice_get, subst}
use Rattle.term_pool.specs.Terms.{term_of}
use Rattle.clause_code.specs.Predicates.{HasFunctor, predicate_in}
use Rattle.clause_code.proofs.ProgramFunctors.{call_functor, some_functor, some_number}
use Rattle.clause_code.proofs.predicates.Predicates.number_of_goal.Goals as goal

pub unwrap-functor-requires : goal.unwrap-functor-requires
unwrap-functor-requires c =
    let pool = c.args.pool.now in
    let t = term_of pool c.args.t in
    let w = call_functor pool c.args.self.now t c.requires.one in
    some_functor pool t c.functor_of.result (w.0, w.1) c.functor_of.ensures.none

pub unwrap-requires : goal.unwrap-requires
unwrap-requires c =
    let pool = c.args.pool.now in
    let t = term_of pool c.args.t in
    let has = subst (λ r. IfSome r (HasFunctor pool t)) c.unwrap-functor.ensures c.functor_of.ensures.found in
    some_number pool c.args.self.now t c.unwrap-functor.result c.number_of.result c.functor_of.ensures.valid c.requires.one has c.number_of.ensures.none

pub returns : goal.returns
returns c =
    let pool = c.args.pool.now in
    let ps = c.args.self.now in
    let functor = c.unwrap-functor.result in
    let has = subst (λ r. IfSome r (HasFunctor pool (term_of pool c.args.t))) c.unwrap-functor.ensures c.functor_of.ensures.found in
    let found = subst (λ r. IfSome r (λ (n : ℕ). slice_get ps n ≡ Some (predicate_in functor))) c.unwrap.ensures c.number_of.ensures.found in
    (predicate_in functor, found, has.of)
