-- The goals that are made of two parts.
use Rattle.std.proofs.Common.{◌≡◌, ℕ, ◌≤◌, List, [], ◌∷◌, length, map, take, Some, None, refl, sym, ap, ◌∙◌, arith, get_or}
use Rattle.std.specs.List.{AllByRecursion}
use Rattle.std.proofs.lemmas.List.Elements.{All-take, All-drop, All-from_get_or, recursion_from_All}
use Rattle.fd_language.specs.Range.{Range}
use Rattle.fd_model.specs.Goal as model
use Rattle.fd_model.specs.Goal.{Goals}
use Rattle.fd_model.specs.Queries.{either_way}
use Rattle.term_pool.specs.Contents.{Contents}
use Rattle.clause_check.specs.declared.program.Part.{Part}
use Rattle.clause_check.specs.declared.program.FlatGoal.{FlatGoal}
use Rattle.clause_check.specs.declared.program.FlatGoal.TheVariants as flat
use Rattle.clause_check.specs.declared.terms.Joint.{Joint}
use Rattle.clause_check.specs.declared.terms.Joint.TheVariants.{Semicolon, Arrow}
use Rattle.clause_check.specs.GoalStores.{flat_part, two_ways, joined_by}
use Rattle.clause_check.specs.Programs.{unlisted, part_of, tree_of, trees, IsGoal, AreGoals, IsPart}
use Rattle.clause_check.specs.Terms.{joined_goals}
use Rattle.clause_check.proofs.FlatGoals.{goal_later, part_trees}

-- where the left part is no `->` alone
plain_way : (left goals : List model.Goal) (hs : Goals) → left ≡ goals → either_way (unlisted goals) hs ≡ model.Either (unlisted goals) hs
    → model.Either (unlisted left) hs ≡ either_way (unlisted left) hs
plain_way left goals hs e k = ap (λ (gs : List model.Goal). model.Either (unlisted gs) hs) e ∙ sym k ∙ ap (λ (gs : List model.Goal). either_way (unlisted gs) hs) (sym e)

-- nor is it one where there are several goals
pub several_ways : (gs : List FlatGoal) (left right : Part) → 2 ≤ length gs → two_ways gs left right ≡ flat.Either left right
several_ways [] left right h = absurd (omega arith)
several_ways (g ∷ []) left right h = absurd (omega arith)
several_ways (flat.True ∷ g ∷ gs) left right h = refl
several_ways (flat.Fail ∷ g ∷ gs) left right h = refl
several_ways ((flat.Unify s t) ∷ g ∷ gs) left right h = refl
several_ways ((flat.Post t p) ∷ g ∷ gs) left right h = refl
several_ways ((flat.Constrain k t) ∷ g ∷ gs) left right h = refl
several_ways ((flat.Label o t) ∷ g ∷ gs) left right h = refl
several_ways ((flat.Call t) ∷ g ∷ gs) left right h = refl
several_ways ((flat.Either a b) ∷ g ∷ gs) left right h = refl
several_ways ((flat.Builtin k t) ∷ g ∷ gs) left right h = refl
several_ways (flat.Cut ∷ g ∷ gs) left right h = refl
several_ways (flat.If a b None ∷ g ∷ gs) left right h = refl
several_ways (flat.If a b (Some o) ∷ g ∷ gs) left right h = refl
several_ways ((flat.Not a) ∷ g ∷ gs) left right h = refl
several_ways ((flat.Best o least t u) ∷ g ∷ gs) left right h = refl

module _ (c : Contents) (ranges : List Range) where
  -- what they stand for
  two_ways_tree : (goals : List model.Goal) (gs : List FlatGoal) (left right : Part) → part_of goals left ≡ map (tree_of c ranges goals) gs
      → tree_of c ranges goals (two_ways gs left right) ≡ either_way (unlisted (part_of goals left)) (unlisted (part_of goals right))
  two_ways_tree goals [] left right e = plain_way (part_of goals left) _ (unlisted (part_of goals right)) e refl
  two_ways_tree goals (flat.If a b None ∷ []) left right e = ap (λ (gs : List model.Goal). either_way (unlisted gs) (unlisted (part_of goals right))) (sym e)
  two_ways_tree goals (flat.True ∷ []) left right e = plain_way (part_of goals left) _ (unlisted (part_of goals right)) e refl
  two_ways_tree goals (flat.Fail ∷ []) left right e = plain_way (part_of goals left) _ (unlisted (part_of goals right)) e refl
  two_ways_tree goals ((flat.Unify s t) ∷ []) left right e = plain_way (part_of goals left) _ (unlisted (part_of goals right)) e refl
  two_ways_tree goals ((flat.Post t p) ∷ []) left right e = plain_way (part_of goals left) _ (unlisted (part_of goals right)) e refl
  two_ways_tree goals ((flat.Constrain k t) ∷ []) left right e = plain_way (part_of goals left) _ (unlisted (part_of goals right)) e refl
  two_ways_tree goals ((flat.Label o t) ∷ []) left right e = plain_way (part_of goals left) _ (unlisted (part_of goals right)) e refl
  two_ways_tree goals ((flat.Call t) ∷ []) left right e = plain_way (part_of goals left) _ (unlisted (part_of goals right)) e refl
  two_ways_tree goals ((flat.Either a b) ∷ []) left right e = plain_way (part_of goals left) _ (unlisted (part_of goals right)) e refl
  two_ways_tree goals ((flat.Builtin k t) ∷ []) left right e = plain_way (part_of goals left) _ (unlisted (part_of goals right)) e refl
  two_ways_tree goals (flat.Cut ∷ []) left right e = plain_way (part_of goals left) _ (unlisted (part_of goals right)) e refl
  two_ways_tree goals ((flat.If a b (Some o)) ∷ []) left right e = plain_way (part_of goals left) _ (unlisted (part_of goals right)) e refl
  two_ways_tree goals ((flat.Not a) ∷ []) left right e = plain_way (part_of goals left) _ (unlisted (part_of goals right)) e refl
  two_ways_tree goals ((flat.Best o least t u) ∷ []) left right e = plain_way (part_of goals left) _ (unlisted (part_of goals right)) e refl
  two_ways_tree goals (flat.True ∷ g ∷ gs) left right e = plain_way (part_of goals left) _ (unlisted (part_of goals right)) e refl
  two_ways_tree goals (flat.Fail ∷ g ∷ gs) left right e = plain_way (part_of goals left) _ (unlisted (part_of goals right)) e refl
  two_ways_tree goals ((flat.Unify s t) ∷ g ∷ gs) left right e = plain_way (part_of goals left) _ (unlisted (part_of goals right)) e refl
  two_ways_tree goals ((flat.Post t p) ∷ g ∷ gs) left right e = plain_way (part_of goals left) _ (unlisted (part_of goals right)) e refl
  two_ways_tree goals ((flat.Constrain k t) ∷ g ∷ gs) left right e = plain_way (part_of goals left) _ (unlisted (part_of goals right)) e refl
  two_ways_tree goals ((flat.Label o t) ∷ g ∷ gs) left right e = plain_way (part_of goals left) _ (unlisted (part_of goals right)) e refl
  two_ways_tree goals ((flat.Call t) ∷ g ∷ gs) left right e = plain_way (part_of goals left) _ (unlisted (part_of goals right)) e refl
  two_ways_tree goals ((flat.Either a b) ∷ g ∷ gs) left right e = plain_way (part_of goals left) _ (unlisted (part_of goals right)) e refl
  two_ways_tree goals ((flat.Builtin k t) ∷ g ∷ gs) left right e = plain_way (part_of goals left) _ (unlisted (part_of goals right)) e refl
  two_ways_tree goals (flat.Cut ∷ g ∷ gs) left right e = plain_way (part_of goals left) _ (unlisted (part_of goals right)) e refl
  two_ways_tree goals ((flat.If a b (Some o)) ∷ g ∷ gs) left right e = plain_way (part_of goals left) _ (unlisted (part_of goals right)) e refl
  two_ways_tree goals ((flat.Not a) ∷ g ∷ gs) left right e = plain_way (part_of goals left) _ (unlisted (part_of goals right)) e refl
  two_ways_tree goals ((flat.Best o least t u) ∷ g ∷ gs) left right e = plain_way (part_of goals left) _ (unlisted (part_of goals right)) e refl
  two_ways_tree goals ((flat.If a b None) ∷ g ∷ gs) left right e = plain_way (part_of goals left) _ (unlisted (part_of goals right)) e refl

  pub joined_tree : (goals : List FlatGoal) (joint : Joint) (left right : Part) → AreGoals c (length ranges) goals
      → (let base = trees c ranges goals in
      tree_of c ranges base (joined_by joint (flat_part goals left) left right) ≡ joined_goals joint (unlisted (part_of base left)) (unlisted (part_of base right)))
  joined_tree goals Semicolon left right h = two_ways_tree (trees c ranges goals) (flat_part goals left) left right (part_trees c ranges goals left h)
  joined_tree goals Arrow left right h = refl

  -- they name parts of the goals that are there
  two_ways_own : (n : ℕ) (gs : List FlatGoal) (left right : Part) → AllByRecursion (IsGoal c (length ranges) n) gs → IsPart n left → IsPart n right
      → IsGoal c (length ranges) n (two_ways gs left right)
  two_ways_own n [] left right h l r = (l, r)
  two_ways_own n (flat.If a b None ∷ []) left right h l r = (h.0.0, h.0.1, r)
  two_ways_own n (flat.True ∷ []) left right h l r = (l, r)
  two_ways_own n (flat.Fail ∷ []) left right h l r = (l, r)
  two_ways_own n ((flat.Unify s t) ∷ []) left right h l r = (l, r)
  two_ways_own n ((flat.Post t p) ∷ []) left right h l r = (l, r)
  two_ways_own n ((flat.Constrain k t) ∷ []) left right h l r = (l, r)
  two_ways_own n ((flat.Label o t) ∷ []) left right h l r = (l, r)
  two_ways_own n ((flat.Call t) ∷ []) left right h l r = (l, r)
  two_ways_own n ((flat.Either a b) ∷ []) left right h l r = (l, r)
  two_ways_own n ((flat.Builtin k t) ∷ []) left right h l r = (l, r)
  two_ways_own n (flat.Cut ∷ []) left right h l r = (l, r)
  two_ways_own n ((flat.If a b (Some o)) ∷ []) left right h l r = (l, r)
  two_ways_own n ((flat.Not a) ∷ []) left right h l r = (l, r)
  two_ways_own n ((flat.Best o least t u) ∷ []) left right h l r = (l, r)
  two_ways_own n (flat.True ∷ g ∷ gs) left right h l r = (l, r)
  two_ways_own n (flat.Fail ∷ g ∷ gs) left right h l r = (l, r)
  two_ways_own n ((flat.Unify s t) ∷ g ∷ gs) left right h l r = (l, r)
  two_ways_own n ((flat.Post t p) ∷ g ∷ gs) left right h l r = (l, r)
  two_ways_own n ((flat.Constrain k t) ∷ g ∷ gs) left right h l r = (l, r)
  two_ways_own n ((flat.Label o t) ∷ g ∷ gs) left right h l r = (l, r)
  two_ways_own n ((flat.Call t) ∷ g ∷ gs) left right h l r = (l, r)
  two_ways_own n ((flat.Either a b) ∷ g ∷ gs) left right h l r = (l, r)
  two_ways_own n ((flat.Builtin k t) ∷ g ∷ gs) left right h l r = (l, r)
  two_ways_own n (flat.Cut ∷ g ∷ gs) left right h l r = (l, r)
  two_ways_own n ((flat.If a b (Some o)) ∷ g ∷ gs) left right h l r = (l, r)
  two_ways_own n ((flat.Not a) ∷ g ∷ gs) left right h l r = (l, r)
  two_ways_own n ((flat.Best o least t u) ∷ g ∷ gs) left right h l r = (l, r)
  two_ways_own n ((flat.If a b None) ∷ g ∷ gs) left right h l r = (l, r)

  pub part_own : (goals : List FlatGoal) (a : Part) → AreGoals c (length ranges) goals → AllByRecursion (IsGoal c (length ranges) (length goals)) (flat_part goals a)
  part_own goals a h =
      let Mine : FlatGoal → Type 0 = IsGoal c (length ranges) (length goals) in
      let all = All-from_get_or Mine goals flat.True (λ i l. goal_later c (length ranges) (length ranges) i (length goals) (get_or goals i flat.True) (omega arith) (omega (arith, l)) (h i l)) in
      recursion_from_All Mine (flat_part goals a) (All-drop Mine a.from (take a.to goals) (All-take Mine a.to goals all))

  pub joined_own : (goals : List FlatGoal) (joint : Joint) (left right : Part) → AreGoals c (length ranges) goals → IsPart (length goals) left → IsPart (length goals) right
      → IsGoal c (length ranges) (length goals) (joined_by joint (flat_part goals left) left right)
  joined_own goals Semicolon left right h l r = two_ways_own (length goals) (flat_part goals left) left right (part_own goals left h) l r
  joined_own goals Arrow left right h l r = (l, r, tt)
