-- The goals of a body as they stand in the text.
use Rattle.std.proofs.Common.{◌≡◌, ℕ, Bool, true, false, cond, List, [], ◌∷◌, ◌++◌, map, refl, sym, ap, ◌∙◌}
use Rattle.std.specs.Prelude.{codes}
use Rattle.std.specs.Str.{bytes_eq}
use Rattle.std.proofs.lemmas.List.{map-append}
use Rattle.fd_language.proofs.Lemmas.{two}
use Rattle.fd_language.specs.PlacedTerm.{PlacedTerm, var, int, atom, comp, part, no_parts}
use Rattle.fd_model.specs.Goal.{Goal, Goals, no_goals, goal, listed, If, Not}
use Rattle.fd_model.specs.Queries.{followed, either_way, goal_of, body_goals, body_of}
use Rattle.reason_meaning.specs.TextQueries.{parts_of}
use Rattle.reason_meaning.specs.ToldLaws.{OneGoalEach}

abbrev alone : Goal → List Goal
alone g = g ∷ []

listed_followed : (gs hs : Goals) → listed (followed gs hs) ≡ listed gs ++ listed hs
listed_followed no_goals hs = refl
listed_followed (goal g gs) hs = ap (λ (xs : List Goal). g ∷ xs) (listed_followed gs hs)

-- of one goal
one : (g : Goal) → listed (goal g no_goals) ∷ [] ≡ map alone (listed (goal g no_goals))
one g = refl

module _ (N : ℕ) where
  -- by the name of a term with two parts; t is the whole term
  by_names : (comma semicolon arrow : Bool) (t : PlacedTerm) (gs hs : Goals) (ps rs : List PlacedTerm)
      → body_goals N t ≡ cond comma (followed gs hs) (cond semicolon (goal (either_way gs hs) no_goals) (cond arrow (goal (If gs hs) no_goals) (goal (goal_of N t) no_goals)))
      → map (body_of N) ps ≡ map alone (listed gs) → map (body_of N) rs ≡ map alone (listed hs)
      → map (body_of N) (cond comma (ps ++ rs) (t ∷ [])) ≡ map alone (body_of N t)
  by_names true b c t gs hs ps rs e left right =
      map-append (body_of N) ps rs ∙ two (λ (xs ys : List (List Goal)). xs ++ ys) left right ∙ sym (map-append alone (listed gs) (listed hs))
      ∙ ap (map alone) (sym (listed_followed gs hs)) ∙ ap (λ (xs : Goals). map alone (listed xs)) (sym e)
  by_names false true c t gs hs ps rs e left right = ap (λ (xs : Goals). listed xs ∷ []) e ∙ ap (λ (xs : Goals). map alone (listed xs)) (sym e)
  by_names false false true t gs hs ps rs e left right = ap (λ (xs : Goals). listed xs ∷ []) e ∙ ap (λ (xs : Goals). map alone (listed xs)) (sym e)
  by_names false false false t gs hs ps rs e left right = ap (λ (xs : Goals). listed xs ∷ []) e ∙ ap (λ (xs : Goals). map alone (listed xs)) (sym e)

  -- and of one with one part
  by_name : (negation : Bool) (t : PlacedTerm) (gs : Goals) → body_goals N t ≡ cond negation (goal (Not gs) no_goals) (goal (goal_of N t) no_goals)
      → body_of N t ∷ [] ≡ map alone (body_of N t)
  by_name true t gs e = ap (λ (xs : Goals). listed xs ∷ []) e ∙ ap (λ (xs : Goals). map alone (listed xs)) (sym e)
  by_name false t gs e = ap (λ (xs : Goals). listed xs ∷ []) e ∙ ap (λ (xs : Goals). map alone (listed xs)) (sym e)

  each : (t : PlacedTerm) → map (body_of N) (parts_of t) ≡ map alone (body_of N t)
  each (comp f p (part a (part b no_parts))) =
      by_names (bytes_eq f (codes ",")) (bytes_eq f (codes ";")) (bytes_eq f (codes "->")) (comp f p (part a (part b no_parts))) (body_goals N a) (body_goals N b) (parts_of a) (parts_of b) refl (each a) (each b)
  each (comp f p (part a (part b (part c ts)))) = refl
  each (comp f p (part a no_parts)) = by_name (bytes_eq f (codes "\\+")) (comp f p (part a no_parts)) (body_goals N a) refl
  each (comp f p no_parts) = refl
  each (var x p) = refl
  each (int z p) = refl
  each (atom a p) = refl

pub one_goal_each : OneGoalEach
one_goal_each N body = each N body
