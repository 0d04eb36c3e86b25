use Rattle.std.proofs.Common.{◌≡◌, Some, None, sym, ap, ◌∙◌, subst}
use Rattle.fd_language.specs.Term.{Name}
use Rattle.fd_model.specs.Forms.{form_named}
use Rattle.term_pool.specs.PlacedTerms.{placed_of}
use Rattle.term_reader.proofs.Lemmas.{plain_placed}
use Rattle.clause_check.specs.Forms.{form_seen, HasFormArity}
use Rattle.clause_check.specs.Terms.{functor_in}
use Rattle.clause_check.proofs.FormNames.{form_arguments}
use Rattle.clause_check.proofs.KeptGoals.{keeps_call}
use Rattle.clause_check.proofs.goals.read_goal.Goals as goal

pub formed_goal-requires-clause-arity : goal.formed_goal-requires-clause-arity
formed_goal-requires-clause-arity c =
    let pool = c.args.sentences.now.pool in
    let f = functor_in pool c.in-Some.functor in
    let named : form_named f.name f.arity ≡ Some (form_seen c.in-Some-form_named.form) = ap (λ (a : Name). form_named a f.arity) (sym c.name_of-text.ensures.name) ∙ sym c.in-Some-form_named.ensures in
    subst (HasFormArity c.in-Some-form_named.form) (plain_placed pool c.args.t) (form_arguments (placed_of pool c.args.t) f c.in-Some-form_named.form c.in-Some.ensures.functor.1 named)

pub returns-then-contains-clause-kept : goal.returns-then-contains-clause-kept
returns-then-contains-clause-kept c =
    let pool = c.args.sentences.now.pool in
    let f = functor_in pool c.in-Some.functor in
    let named : form_named f.name f.arity ≡ None = ap (λ (a : Name). form_named a f.arity) (sym c.name_of-text.ensures.name) ∙ sym c.in_default-form_named.ensures in
    keeps_call c.args.infinity pool c.args.ranges.now.items c.args.t f c.requires.term c.in-Some.ensures.functor.1 named
