-- A text has at most 2^24 bytes, so its constraints have at most 2^31 variables.
use Rattle.std.proofs.Common.{ℕ, ◌+◌, ◌^◌, ◌≤◌, List, [], ◌∷◌, ◌++◌, length, subst, inl, inr, arith}
use Rattle.fd_language.specs.Term.{Term, Var, Int, Atom, Comp}
use Rattle.fd_language.specs.Lists.{Each}
use Rattle.fd_language.specs.Variables.{variables_of, variables_of_all}
use Rattle.fd_model.specs.Goal.{Goal, Post, Constrain, Label, Best, Program, Query}
use Rattle.fd_model.specs.ConstraintExpansion.{arguments}
use Rattle.fd_model.specs.FlatQueries.{IsFlatGoal}
use Rattle.fd_model.specs.FlatOutput.{FlatParts, FlatVerdict}
use Rattle.fd_model.specs.Verdict.{accepted, IsVerdict, max_text}
use Rattle.run_laws.specs.ConstraintSizes.{IsSmall}
use Rattle.run_laws.specs.FlatTexts.{IsFlatTextGoal, FlatTextParts}
use Rattle.run_laws.specs.Laws.{FlatTexts}
use Rattle.run_laws.proofs.GoalSizes.{small_constraints}

arguments_size : (t : Term) → length (variables_of_all (arguments t)) ≤ length (variables_of t)
arguments_size (Var x) = omega arith
arguments_size (Int z) = omega arith
arguments_size (Atom a) = omega arith
arguments_size (Comp f ts) = omega arith

module _ (M N n : ℕ) (limit : n ≤ 2 ^ 31) where
  flat_goal : (g : Goal) → IsSmall n g → IsFlatTextGoal M N g → IsFlatGoal M N g
  flat_goal (Post t r) h f = f
  flat_goal (Constrain c t) h f = (f, let k = arguments_size t in omega (arith, h, k, limit))
  flat_goal _ h f = absurd f

  -- the goals before the last one
  flat_goals : (gs : List Goal) (last : Goal) → Each (IsSmall n) (gs ++ last ∷ []) → Each (IsFlatTextGoal M N) gs → Each (IsFlatGoal M N) gs
  flat_goals [] last h f = tt
  flat_goals (g ∷ gs) last h f = (flat_goal g h.0 f.0, flat_goals gs last h.1 f.1)

  text_parts : (prog : Program) (k : ℕ) (qs : List Query) (out : List ℕ) → Each (λ q. Each (IsSmall n) q.goals) qs → FlatParts M N prog k qs out → FlatTextParts M N prog k qs out
  text_parts prog k [] out h p = p
  text_parts prog k (q ∷ qs) out h (here, rest, bytes, flat, best, later) = (
    here,
    rest,
    bytes,
    λ gs o ms f. flat gs o ms (record {
      list = f.list;
      goals = f.goals;
      read = f.read;
      flat = flat_goals gs (Label o f.list) (subst (Each (IsSmall n)) f.goals h.0) f.flat;
      every = f.every;
    }),
    λ gs o least ms c f. best gs o least ms c (record {
      list = f.list;
      cost = f.cost;
      goals = f.goals;
      read = f.read;
      member = f.member;
      listed = f.listed;
      flat = flat_goals gs (Best o least f.list f.cost) (subst (Each (IsSmall n)) f.goals h.0) f.flat;
      every = f.every;
    }),
    text_parts prog (k + 1) qs rest h.1 later,
  )

text_size : (M N : ℕ) (text : List ℕ) (prog : Program) → IsVerdict M N text (accepted prog) → length text ≤ max_text
text_size M N text prog (inl h) = absurd (cc)
text_size M N text prog (inr (inl h)) = h.0
text_size M N text prog (inr (inr h)) = h.0

pub flat_texts : FlatVerdict → FlatTexts
flat_texts law M N text v budget answers out st positive within is written answered =
    let found = law M N text v budget answers out st positive within is written answered in
    let prog = found.0 in
    let own : IsVerdict M N text (accepted prog) = subst (IsVerdict M N text) found.1 is in
    let few : length text ≤ 2 ^ 31 = (let k = text_size M N text prog own in omega (arith, k)) in
    (prog, found.1, text_parts M N (length text) few prog 1 prog.queries out (small_constraints M N text prog own).queries found.2)
