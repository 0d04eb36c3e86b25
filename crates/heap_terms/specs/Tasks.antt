-- Compound terms made without recursion: a stack of tasks over a stack of results.
use Rattle.std.specs.Prelude.{◌≡◌, ℕ, suc, ◌+◌, ◌-◌, ◌*◌, ◌≤◌, List, [], ◌∷◌, ◌++◌, length, take, drop}
use Rattle.fd_language.specs.Term.{Name, Term, Terms, Comp, no_terms, term}
use Rattle.term_pool.specs.Terms.{size}

-- a term to be looked at, or a compound term to be made of the last results
pub data Task : Type 0 where
  visit : Term → Task
  make : Name → ℕ → Task

abbrev pub to_terms : List Term → Terms
to_terms [] = no_terms
to_terms (t ∷ ts) = term t (to_terms ts)

-- the results after a task, the newest last
abbrev pub act : Task → List Term → List Term
act (visit t) ds = ds ++ t ∷ []
act (make f n) ds = take (length ds - n) ds ++ Comp f (to_terms (drop (length ds - n) ds)) ∷ []

-- the results after all tasks, of which the first is the next
abbrev pub finish : List Task → List Term → List Term
finish [] ds = ds
finish (k ∷ ks) ds = finish ks (act k ds)

-- each task finds its results, and one is left
abbrev pub AreReady : List Task → ℕ → Type 0
AreReady [] n = n ≡ 1
AreReady (visit t ∷ ks) n = AreReady ks (suc n)
AreReady (make f m ∷ ks) n = (m ≤ n) × AreReady ks (suc (n - m))

-- what is before the walk
abbrev pub ahead : List Task → ℕ
ahead [] = 0
ahead (visit t ∷ ks) = 2 * size t + ahead ks
ahead (make f m ∷ ks) = 1 + ahead ks

-- all tasks leave this one term
pub record Leaves (ks : List Task) (ds : List Term) (t : Term) : Type 0 where
  pub ends : finish ks ds ≡ t ∷ []
  pub ready : AreReady ks (length ds)
