-- What bodies lose, by their goals.
use Rattle.std.proofs.Common.{◌≡◌, List, [], ◌∷◌, ◌++◌, ap, ◌∙◌, append-nil}
use Rattle.std.specs.List.{flat_map}
use Rattle.std.proofs.lemmas.List.Concat.{flat_map-append}
use Rattle.fd_language.specs.PlacedTerm.{PlacedTerm}
use Rattle.term_pool.specs.declared.TermId.{TermId}
use Rattle.term_pool.specs.Contents.{Contents}
use Rattle.term_pool.specs.PlacedTerms.{placed_of}
use Rattle.text_warnings.specs.Clauses.{goals_in}
use Rattle.text_warnings.specs.Warnings.{Warning}
use Rattle.text_warnings.specs.TermParts.{parts_of}
use Rattle.text_warnings.specs.SilentLosses.{goal_losses, body_losses}

abbrev of_goals : List PlacedTerm → List Warning
of_goals gs = flat_map (λ g. goal_losses (parts_of g)) gs

-- of two bodies
pub body_split : (c : Contents) (t a b : TermId) → goals_in (placed_of c t) ≡ goals_in (placed_of c a) ++ goals_in (placed_of c b)
    → body_losses (placed_of c t) ≡ body_losses (placed_of c a) ++ body_losses (placed_of c b)
body_split c t a b e = ap of_goals e ∙ flat_map-append (λ g. goal_losses (parts_of g)) (goals_in (placed_of c a)) (goals_in (placed_of c b))

-- of a body in another form
pub body_same : (c : Contents) (t a : TermId) → goals_in (placed_of c t) ≡ goals_in (placed_of c a) → body_losses (placed_of c t) ≡ body_losses (placed_of c a)
body_same c t a e = ap of_goals e

-- of one goal
pub body_goal : (c : Contents) (t : TermId) → goals_in (placed_of c t) ≡ placed_of c t ∷ [] → body_losses (placed_of c t) ≡ goal_losses (parts_of (placed_of c t))
body_goal c t e = ap of_goals e ∙ append-nil (goal_losses (parts_of (placed_of c t)))
