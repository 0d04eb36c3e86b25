use Rattle.term_pool.specs.Contents as pool
use Rattle.range_terms.proofs.Steps.{a_variable, no_variable}
use Rattle.range_terms.proofs.forms.variable_of.Goals as goal

pub returns-in-Var : goal.returns-in-Var
returns-in-Var c = a_variable c.args.pool.now c.in-Var.ensures.valid c.args.t c.in-Var.variable c.requires c.in-Var.ensures.shape

pub returns-in-Int : goal.returns-in-Int
returns-in-Int c = no_variable c.args.pool.now c.in-Int.ensures.valid c.args.t (pool.int c.in-Int.field-0) c.requires c.in-Int.ensures.shape (λ q. tt)

pub returns-in-Atom : goal.returns-in-Atom
returns-in-Atom c = no_variable c.args.pool.now c.in-Atom.ensures.valid c.args.t (pool.atom c.in-Atom.field-0) c.requires c.in-Atom.ensures.shape (λ q. tt)

pub returns-in-Comp : goal.returns-in-Comp
returns-in-Comp c = no_variable c.args.pool.now c.in-Comp.ensures.valid c.args.t (pool.comp c.in-Comp.field-0 c.in-Comp.field-1.now) c.requires c.in-Comp.ensures.shape (λ q. tt)
