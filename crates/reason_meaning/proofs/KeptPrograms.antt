-- Programs without some goals of a query.
use Rattle.std.proofs.Common.{ℕ, zero, suc, Bool, true, false, List, [], ◌∷◌, map}
use Rattle.fd_model.specs.Goal.{Goal, True, Fail, Unify, Post, Constrain, Label, Call, Either, Builtin, Cut, If, IfElse, Not, Best, Query}
use Rattle.fd_model.specs.RunnablePrograms.{IsRunnable, AreRunnable, QueriesRunnable, GoalBelow, EachBelow, QueriesScoped}
use Rattle.reason_meaning.specs.FewerGoals.{kept, changed, without_best, keeping}
use Rattle.reason_meaning.specs.Laws.{KeptPrograms}

runnable_without_best : (M : ℕ) (g : Goal) → IsRunnable M g → IsRunnable M (without_best g)
runnable_without_best M (Best o least t c) h = tt
runnable_without_best M True h = h
runnable_without_best M Fail h = h
runnable_without_best M (Unify s t) h = h
runnable_without_best M (Post t r) h = h
runnable_without_best M (Constrain k t) h = h
runnable_without_best M (Label o t) h = h
runnable_without_best M (Call t) h = h
runnable_without_best M (Either a b) h = h
runnable_without_best M (Builtin k t) h = h
runnable_without_best M (Cut k) h = h
runnable_without_best M (If a b) h = h
runnable_without_best M (IfElse a b o) h = h
runnable_without_best M (Not a) h = h

below_without_best : (n : ℕ) (g : Goal) → GoalBelow n g → GoalBelow n (without_best g)
below_without_best n (Best o least t c) h = h.0
below_without_best n True h = h
below_without_best n Fail h = h
below_without_best n (Unify s t) h = h
below_without_best n (Post t r) h = h
below_without_best n (Constrain k t) h = h
below_without_best n (Label o t) h = h
below_without_best n (Call t) h = h
below_without_best n (Either a b) h = h
below_without_best n (Builtin k t) h = h
below_without_best n (Cut k) h = h
below_without_best n (If a b) h = h
below_without_best n (IfElse a b o) h = h
below_without_best n (Not a) h = h

kept_runnable : (M : ℕ) (ks : List Bool) (gs : List Goal) → AreRunnable M gs → AreRunnable M (kept ks (map without_best gs))
kept_runnable M [] gs h = tt
kept_runnable M (k ∷ ks) [] h = tt
kept_runnable M (true ∷ ks) (g ∷ gs) h = (runnable_without_best M g h.0, kept_runnable M ks gs h.1)
kept_runnable M (false ∷ ks) (g ∷ gs) h = kept_runnable M ks gs h.1

kept_below : (n : ℕ) (ks : List Bool) (gs : List Goal) → EachBelow n gs → EachBelow n (kept ks (map without_best gs))
kept_below n [] gs h = tt
kept_below n (k ∷ ks) [] h = tt
kept_below n (true ∷ ks) (g ∷ gs) h = (below_without_best n g h.0, kept_below n ks gs h.1)
kept_below n (false ∷ ks) (g ∷ gs) h = kept_below n ks gs h.1

module _ (ks : List Bool) where
  all_runnable : (M k : ℕ) (qs : List Query) → QueriesRunnable M qs → QueriesRunnable M (changed k (keeping ks) qs)
  all_runnable M k [] h = tt
  all_runnable M zero (q ∷ qs) h = (kept_runnable M ks q.goals h.0, h.1)
  all_runnable M (suc k) (q ∷ qs) h = (h.0, all_runnable M k qs h.1)

  all_scoped : (k : ℕ) (qs : List Query) → QueriesScoped qs → QueriesScoped (changed k (keeping ks) qs)
  all_scoped k [] h = tt
  all_scoped zero (q ∷ qs) h = ((h.0.0, kept_below q.variables ks q.goals h.0.1), h.1)
  all_scoped (suc k) (q ∷ qs) h = (h.0, all_scoped k qs h.1)

pub kept_programs : KeptPrograms
kept_programs M k ks prog h s =
    (record { clauses = h.clauses; queries = all_runnable ks M k prog.queries h.queries }, record { clauses = s.clauses; queries = all_scoped ks k prog.queries s.queries })
