-- Tasks that are put to others and taken from them.
use Rattle.std.proofs.Common.{◌≡◌, ℕ, ◌+◌, ◌≤◌, List, [], ◌∷◌, ◌++◌, length, take, drop, refl, sym, ap, ◌∙◌, arith, append-nil}
use Rattle.std.specs.List.{AllByRecursion}
use Rattle.std.proofs.lemmas.List.{append_assoc}
use Rattle.fd_language.specs.PlacedTerm.{PlacedTerm}
use Rattle.fd_model.specs.Goal as model
use Rattle.fd_model.specs.Refusals.{or_later, goal_refusal, goals_refusal}
use Rattle.term_pool.specs.Contents.{Contents}
use Rattle.clause_check.specs.declared.goals.Task.{Task}
use Rattle.clause_check.specs.declared.goals.Task.TheVariants.{Visit, Turn, Join, Deny}
use Rattle.clause_check.specs.GoalStores.{start_in, IsTask, IsStack, done, all_done, ahead, all_ahead, weight, total_weight}
use Rattle.clause_check.specs.Programs.{unlisted}
use Rattle.clause_check.specs.Terms.{joined_goals}
use Rattle.clause_check.proofs.FlatGoals.{part_more}
use Rattle.clause_check.proofs.SentenceLists.{or_later-assoc}

-- ---- stacks

pub stack_push : (least : ℕ) (ts : List Task) (t : Task) (n : ℕ) → start_in n t ≤ n → IsStack least ts (start_in n t) → IsStack least (ts ++ t ∷ []) n
stack_push least [] (Visit t) n l h = h
stack_push least [] (Turn j s b) n l h = (h, l)
stack_push least [] (Join j s a) n l h = (h, l)
stack_push least [] (Deny s) n l h = (h, l)
stack_push least (Visit u ∷ ts) t n l h = stack_push least ts t n l h
stack_push least (Turn j s b ∷ ts) t n l h = (h.0, stack_push s ts t n l h.1)
stack_push least (Join j s a ∷ ts) t n l h = (h.0, stack_push s ts t n l h.1)
stack_push least (Deny s ∷ ts) t n l h = (h.0, stack_push s ts t n l h.1)

pub stack_pop : (least : ℕ) (ts : List Task) (t : Task) (n : ℕ) → IsStack least (ts ++ t ∷ []) n → IsStack least ts (start_in n t) × (start_in n t ≤ n)
stack_pop least [] (Visit t) n h = (h, omega arith)
stack_pop least [] (Turn j s b) n h = (h.0, h.1)
stack_pop least [] (Join j s a) n h = (h.0, h.1)
stack_pop least [] (Deny s) n h = (h.0, h.1)
stack_pop least (Visit u ∷ ts) t n h = stack_pop least ts t n h
stack_pop least (Turn j s b ∷ ts) t n h = let rest = stack_pop s ts t n h.1 in ((h.0, rest.0), rest.1)
stack_pop least (Join j s a ∷ ts) t n h = let rest = stack_pop s ts t n h.1 in ((h.0, rest.0), rest.1)
stack_pop least (Deny s ∷ ts) t n h = let rest = stack_pop s ts t n h.1 in ((h.0, rest.0), rest.1)

pub stack_grow : (least : ℕ) (ts : List Task) (n m : ℕ) → n ≤ m → IsStack least ts n → IsStack least ts m
stack_grow least [] n m l h = omega (arith, h, l)
stack_grow least (Visit u ∷ ts) n m l h = stack_grow least ts n m l h
stack_grow least (Turn j s b ∷ ts) n m l h = (h.0, stack_grow s ts n m l h.1)
stack_grow least (Join j s a ∷ ts) n m l h = (h.0, stack_grow s ts n m l h.1)
stack_grow least (Deny s ∷ ts) n m l h = (h.0, stack_grow s ts n m l h.1)

module _ (N : ℕ) (c : Contents) where
  -- ---- what they do

  pub done_append : (goals : List model.Goal) (ts us : List Task) (gs : List model.Goal) → all_done N c goals (ts ++ us) gs ≡ all_done N c goals ts (all_done N c goals us gs)
  done_append goals [] us gs = refl
  done_append goals (t ∷ ts) us gs = ap (done N c goals t) (done_append goals ts us gs)

  done_more : (goals more : List model.Goal) (t : Task) (gs : List model.Goal) → IsTask c (length goals) t → done N c (goals ++ more) t gs ≡ done N c goals t gs
  done_more goals more (Visit t) gs h = refl
  done_more goals more (Turn j s b) gs h = refl
  done_more goals more (Deny s) gs h = refl
  done_more goals more (Join j s a) gs h = ap (λ (xs : List model.Goal). take s gs ++ joined_goals j (unlisted xs) (unlisted (drop s gs)) ∷ []) (part_more goals more a.from a.to h.within)

  -- more goals behind those of the parts that they name change nothing
  pub all_done_more : (goals more : List model.Goal) (ts : List Task) (gs : List model.Goal) → AllByRecursion (IsTask c (length goals)) ts
      → all_done N c (goals ++ more) ts gs ≡ all_done N c goals ts gs
  all_done_more goals more [] gs h = refl
  all_done_more goals more (t ∷ ts) gs h = done_more goals more t (all_done N c (goals ++ more) ts gs) h.0 ∙ ap (done N c goals t) (all_done_more goals more ts gs h.1)

module _ (c : Contents) where
  -- ---- what they look at

  pub ahead_append : (ts us : List Task) → all_ahead c (ts ++ us) ≡ all_ahead c us ++ all_ahead c ts
  ahead_append [] us = sym (append-nil (all_ahead c us))
  ahead_append (t ∷ ts) us = ap (λ (gs : List PlacedTerm). gs ++ ahead c t) (ahead_append ts us) ∙ append_assoc (all_ahead c us) (all_ahead c ts) (ahead c t)

  -- ---- how much there is to do

  pub weight-nil : total_weight c [] ≡ 0
  unfolding total_weight
  weight-nil = refl

  pub weight-cons : (t : Task) (ts : List Task) → total_weight c (t ∷ ts) ≡ weight c t + total_weight c ts
  unfolding total_weight
  weight-cons t ts = refl

  pub weight-append : (ts us : List Task) → total_weight c (ts ++ us) ≡ total_weight c ts + total_weight c us
  weight-append [] us = omega (arith, weight-nil)
  weight-append (t ∷ ts) us = omega (arith, weight-cons t (ts ++ us), weight-cons t ts, weight-append ts us)

pub goals_refusal-append : (M N : ℕ) (all xs ys : List PlacedTerm) → goals_refusal M N all (xs ++ ys) ≡ or_later (goals_refusal M N all xs) (goals_refusal M N all ys)
goals_refusal-append M N all [] ys = refl
goals_refusal-append M N all (x ∷ xs) ys =
    ap (or_later (goal_refusal M N all x)) (goals_refusal-append M N all xs ys) ∙ sym (or_later-assoc (goal_refusal M N all x) (goals_refusal M N all xs) (goals_refusal M N all ys))
