use Rattle.std.proofs.Common.{length, refl, arith}
use Rattle.term_pool.specs.Terms.{term_of}
use Rattle.clause_code.proofs.ProgramFunctors.{compound_functor, compound_without}
use Rattle.clause_code.proofs.predicates.functor_of.Goals as goal

pub returns-in-Comp-clause-found : goal.returns-in-Comp-clause-found
returns-in-Comp-clause-found c = compound_functor c.args.pool.now (term_of c.args.pool.now c.args.t) c.in-Comp.name c.in-Comp.parts.now (length c.in-Comp.parts.now)
    c.in-Comp.ensures.term c.in-Comp.ensures.within.0 refl c.if-parts-ge1.true c.if-parts-le255.true

pub returns-in_default-clause-none : goal.returns-in_default-clause-none
returns-in_default-clause-none c =
    compound_without c.args.pool.now (term_of c.args.pool.now c.args.t) c.in-Comp.name c.in-Comp.parts.now c.in-Comp.ensures.term
    (λ within. let few = within.1 in let many = c.if-parts-le255.false in omega (arith, few, many))
