-- More variables of the store.
use Rattle.std.proofs.Common.{◌≡◌, ℕ, zero, suc, ◌+◌, ◌-◌, List, [], ◌∷◌, ◌++◌, length, append-nil, ap, ◌∙◌, arith}
use Rattle.std.proofs.lemmas.List.{length-append}
use Rattle.fd_language.specs.declared.TheConstants.{INFINITY}
use Rattle.fd_language.specs.Family.{universe}
use Rattle.fd_language.specs.Range.{Indexical}
use Rattle.fd_model.specs.Levels.{Levels}
use Rattle.branch_state.specs.VariableBounds.{new_bounds}
use Rattle.branch_state.specs.StoreVariables.{with_level_sets}
use Rattle.branch_state.specs.OpenSets.{with_open_sets}
use Rattle.branch_state.specs.States.{State, HasNoModel, IsSound}
use Rattle.branch_state.proofs.VariableBounds.{none_before}

-- how many there are
pub length-open : (n : ℕ) (sets : List (List ℕ)) → length (with_open_sets n sets) ≡ length sets + n
length-open zero sets = omega arith
length-open (suc n) sets = omega (arith, length-append (with_open_sets n sets) (universe INFINITY ∷ []), length-open n sets)

module _ (old mid : Levels) (count : ℕ) (is : mid ≡ with_level_sets old (with_open_sets count old.current.sets)) where
  pub open_vars : length mid.current.sets ≡ length old.current.sets + count
  open_vars = ap (λ (l : Levels). length l.current.sets) is ∙ length-open count old.current.sets

  -- nothing but their bounds is posted
  pub open_posted : (new : Levels) (N first : ℕ) → first ≡ length old.current.sets → new.current.posted ≡ (mid.current.posted ++ []) ++ new_bounds N first (length mid.current.sets - first)
      → new.current.posted ≡ old.current.posted ++ new_bounds N (length old.current.sets) count
  open_posted new N first f e =
      let vars = open_vars in
      let more : length mid.current.sets - first ≡ count = omega (arith, vars, f) in
      e ∙ ap (λ (l : Levels). (l.current.posted ++ []) ++ new_bounds N first (length mid.current.sets - first)) is
      ∙ ap (λ (l : List Indexical). l ++ new_bounds N first (length mid.current.sets - first)) (append-nil old.current.posted)
      ∙ ap (λ n. old.current.posted ++ new_bounds N first n) more ∙ ap (λ n. old.current.posted ++ new_bounds N n count) f

-- a branch's store has a model with bounds of new variables
pub open_model : (s : State) → IsSound s → (first count : ℕ) → HasNoModel INFINITY (s.levels.current.posted ++ new_bounds s.infinity first count) → ⊥
open_model s o first count none = none_before s.infinity o.greatest s.levels.current.posted first count none _ o.now.settled.model
