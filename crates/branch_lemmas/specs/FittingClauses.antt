-- Clauses whose heads fit a goal.
use Rattle.std.specs.Prelude.{◌≡◌, true, List, [], ◌∷◌}
use Rattle.fd_language.specs.Term.{Term}
use Rattle.fd_model.specs.Goal.{Clause}
use Rattle.fd_model.specs.Children.{fits_head}

-- the heads have the goal's name and arity
abbrev pub AllFit : Term → List Clause → Type 0
AllFit t [] = Unit {0}
AllFit t (c ∷ cs) = (fits_head t c.head ≡ true) × AllFit t cs
