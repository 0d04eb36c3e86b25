use Rattle.std.proofs.Common.{ℕ, ap, ◌∙◌, Some}
use Rattle.fd_model.specs.Refusals as model
use Rattle.term_pool.specs.Contents.{atom_name}
use Rattle.term_pool.specs.PlacedTerms.{placed_of}
use Rattle.text_warnings.proofs.TermShapes.{count_parts}
use Rattle.text_warnings.proofs.terms.functor_of.Goals as goal

pub returns-in-Comp-clause-functor : goal.returns-in-Comp-clause-functor
returns-in-Comp-clause-functor c =
    let pool = c.args.pool.now in (
      c.in-Comp.ensures.within.0,
      ap model.functor_of c.in-Comp.ensures.placed
          ∙ ap (λ (n : ℕ). Some (model.functor (atom_name pool c.in-Comp.name) n)) (count_parts (placed_of pool) c.in-Comp.parts.now),
    )
