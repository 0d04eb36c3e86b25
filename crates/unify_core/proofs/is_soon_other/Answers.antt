use Rattle.std.proofs.Common.{sym, subst}
use Rattle.unify_core.specs.OccursCheck.{IsOther}
use Rattle.unify_core.proofs.is_soon_other.Goals as goal

pub returns-in-Some-clause-shows : goal.returns-in-Some-clause-shows
returns-in-Some-clause-shows c = (
  λ t. (λ b. let e = c.in-Some.ensures.none.1 b in absurd (let f : ⊥ = cc in f), subst (IsOther c.args.var) c.in-Some.ensures.near (c.is_other.ensures.0 t)),
  λ s. c.is_other.ensures.1 (subst (IsOther c.args.var) (sym c.in-Some.ensures.near) s.1),
)

pub returns-in-Some-clause-other : goal.returns-in-Some-clause-other
returns-in-Some-clause-other c = λ t. (c.in-Some.root, c.in-Some.ensures.root, c.in-Some.ensures.same, c.is_other.ensures.0 t)
