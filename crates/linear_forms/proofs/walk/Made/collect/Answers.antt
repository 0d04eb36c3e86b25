use Rattle.std.proofs.Common.{ℤ, sym, subst, FitsSigned}
use Rattle.std.specs.Int.{w64}
use Rattle.std.proofs.lemmas.Int.{to_z-of_z}
use Rattle.fd_language.specs.Term.{Name, Term, Int}
use Rattle.fd_model.specs.Linear.{collect_term}
use Rattle.term_pool.specs.PoolInvariant.{IsStorable}
use Rattle.term_pool.proofs.Lemmas.{term_is_storable}
use Rattle.linear_forms.specs.declared.walk.Task.TheVariants as task
use Rattle.linear_forms.specs.Sums.{signed}
use Rattle.linear_forms.specs.Tasks.{Applies, Opens, before, compound_tasks}
use Rattle.linear_forms.proofs.Steps.{at_once, opens}
use Rattle.linear_forms.proofs.walk.Made.collect.Goals as goal

pub returns-in-Var : goal.returns-in-Var
returns-in-Var c =
    at_once c.args.pool.now (task.Collect c.args.term c.args.negated) c.args.self.now c.push_variable.new.self c.args.ahead.now.items c.push_variable.result
    (subst (λ (t : Term). Applies (λ ss. before ss (signed c.args.negated (collect_term t))) c.args.self.now c.push_variable.new.self c.push_variable.result)
    (sym c.in-Var.ensures.term) c.push_variable.ensures)

pub returns-in-Int : goal.returns-in-Int
returns-in-Int c =
    let fits : FitsSigned w64 c.in-Int.integer = subst IsStorable c.in-Int.ensures.term (term_is_storable c.args.pool.now c.in-Int.ensures.valid c.args.term c.requires) in
    at_once c.args.pool.now (task.Collect c.args.term c.args.negated) c.args.self.now c.push_constant.new.self c.args.ahead.now.items c.push_constant.result
    (subst (λ (t : Term). Applies (λ ss. before ss (signed c.args.negated (collect_term t))) c.args.self.now c.push_constant.new.self c.push_constant.result) (sym c.in-Int.ensures.term)
    (subst (λ (z : ℤ). Applies (λ ss. before ss (signed c.args.negated (collect_term (Int z)))) c.args.self.now c.push_constant.new.self c.push_constant.result)
    (to_z-of_z w64 c.in-Int.integer fits) c.push_constant.ensures))

pub returns-in-Comp : goal.returns-in-Comp
returns-in-Comp c =
    opens c.args.pool.now c.in-Comp.ensures.valid c.args.term c.in-Comp.name c.in-Comp.parts.now c.args.negated c.requires c.in-Comp.ensures.shape
    c.args.self.now c.args.ahead.now.items c.open_compound.new.ahead.items c.open_compound.result
    (subst (λ (f : Name). Opens (compound_tasks f c.in-Comp.parts.now c.args.negated) c.args.ahead.now.items c.open_compound.new.ahead.items
    c.open_compound.result) c.name_of.ensures.name c.open_compound.ensures)
