-- Ways to a branch, and the variables that the rows of constraints added on them.
use Rattle.std.specs.Prelude.{◌≡◌, ℕ, ◌≤◌, Bool, false, not, ◌||◌, ◌==◌, nat_lt, ℤ, List, [], ◌∷◌, ◌++◌, filter, Option, Result, Ok, Err}
use Rattle.fd_model.specs.declared.kinds.QueryFault.{QueryFault}
use Rattle.fd_model.specs.declared.kinds.Order.{Order}
use Rattle.fd_language.specs.Term.{Term, Substitution}
use Rattle.fd_language.specs.Family.{Family}
use Rattle.fd_model.specs.ClosedFamilies.{constrained}
use Rattle.fd_model.specs.Goal.{Goal, Constrain, Branch, Program, Query, Event, End, start_of}
use Rattle.fd_model.specs.RunnablePrograms.{EachBelow, ClausesScoped}
use Rattle.fd_model.specs.LinearRows.{Expansion}
use Rattle.fd_model.specs.ConstraintExpansion.{constrain}
use Rattle.fd_model.specs.Children.{Gives, look_in, Children}
use Rattle.fd_model.specs.Labelling.{open_ones}
use Rattle.fd_model.specs.Members.{Member}
use Rattle.fd_model.specs.Run.{Run}
use Rattle.fd_model.specs.Answers.{answers, EndsWith, Somewhere, AreAnswers}
use Rattle.fd_model.specs.LabellingLaws.{IsLabelled, IsSolved}

abbrev pub is_equated : List (ℕ × ℤ) → ℕ → Bool
is_equated [] v = false
is_equated (e ∷ es) v = (e.0 == v) || is_equated es v

-- The variables that were added, where n was the next fresh number: fresh ones without an integer.
abbrev pub added : ℕ → Expansion → List ℕ
added n x = filter (λ v. not (nat_lt v n || is_equated x.equated v)) (constrained x.ranges)

abbrev pub added_in : ℕ → Result Expansion QueryFault → List ℕ
added_in n (Err f) = []
added_in n (Ok x) = added n x

-- the variables that a goal's row added
abbrev pub added_by : ℕ → (ℕ → Term) → ℕ → Goal → List ℕ
added_by M look n (Constrain c t) = added_in n (constrain M look c t n)
added_by M look n _ = []

-- From the query's first branch by children, for some numbers of other branches, to a branch, and the variables that were added on the way.
pub data Way (M N : ℕ) (prog : Program) (q : Query) : Branch → List ℕ → Type 0 where
  begins : Way M N prog q (start_of q) []
  goes : {b c : Branch} {ws : List ℕ} (m : ℕ) (g : Goal) (rest : List Goal) (s : Substitution) (D : Family) (cs : List Branch) → Way M N prog q b ws → b.goals ≡ g ∷ rest
      → Children M N prog m b g rest s D (Gives cs) → Somewhere (λ d. d ≡ c) cs → Way M N prog q c (added_by M (look_in b s D) b.fresh g ++ ws)

-- The answers of a labelling at the end of a way are the values of the open members that its branch allows.
abbrev pub WayAnswers : Type 0
WayAnswers =
    (M N : ℕ) (prog : Program) (q : Query) → N ≤ M → ClausesScoped prog.clauses → EachBelow q.variables q.goals
    → (b : Branch) (ws : List ℕ) (o : Order) (ms : List Member) → Way M N prog q b ws → IsLabelled M N b o ms ws
    → (n : ℕ) (k : Option ℕ) (es : List Event) (r : ℕ) (run : Run M N prog q n k (b ∷ []) es r) → AreAnswers M N o (open_ones ms) (IsSolved M N (open_ones ms) b) (answers run) (EndsWith End es)
