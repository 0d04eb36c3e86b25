use Rattle.std.proofs.Common.{refl, ◌∙◌}
use Rattle.term_pool.specs.PlacedTerms.{placed_of}
use Rattle.text_warnings.proofs.OpenGoals.{tied_passed}
use Rattle.text_warnings.proofs.open_variables.tie.Goals as goal

pub returns : goal.returns
returns c = λ s h.
    tied_passed s c.args.passed.now (record { tied = c.put_variables.new.into; given = c.args.passed.now.given; mixed = c.in_ok-passed.field-0 }) c.deref.result.now (placed_of c.args.pool.now c.args.t)
    (c.deref.ensures.value ∙ c.in_ok-find_variables.ensures) c.in_ok-passed.ensures.members refl c.in_ok-passed.ensures.mixed h
