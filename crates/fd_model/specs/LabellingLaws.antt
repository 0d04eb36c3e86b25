-- The statements of the laws on labellings.
use Rattle.std.specs.Prelude.{◌≡◌, ◌≢◌, ℕ, ◌<◌, ◌≤◌, IsTrue, List, [], ◌∷◌, map, length, Option, Some, ◌⊎◌, Ok}
use Rattle.fd_model.specs.declared.kinds.Order.{Order}
use Rattle.fd_model.specs.declared.kinds.Order.TheVariants.{Leftmost, FirstFail}
use Rattle.fd_language.specs.Term.{Term, Var, Int, Atom, Comp, Substitution, apply}
use Rattle.fd_language.specs.Family.{Family, has}
use Rattle.fd_model.specs.ClosedFamilies.{constrained}
use Rattle.fd_model.specs.Goal.{Label, Branch, Program, Query, Event, End}
use Rattle.fd_model.specs.BranchViews.{IsConsistent, IsView}
use Rattle.fd_model.specs.Children.{look_in}
use Rattle.fd_model.specs.Labelling.{read_list, pick, open_ones}
use Rattle.fd_model.specs.Members.{Member}
use Rattle.fd_model.specs.Run.{Run}
use Rattle.fd_model.specs.Answers.{answers, EndsWith, IsSolution, Somewhere, InOrder, Precedes, Settles, AreAnswers}
use Rattle.fd_model.specs.Satisfaction.{Assignment}

-- an integer or one of the variables vs
abbrev pub IsListed : List ℕ → Term → Type 0
IsListed vs (Var y) = IsTrue (has vs y)
IsListed vs (Int z) = Unit {0}
IsListed vs (Atom a) = ⊥
IsListed vs (Comp f ts) = ⊥

-- A branch whose only goal is a labelling of a list that is seen as ms, where each constrained variable, those in ws aside, is seen as an integer or as a
-- member.
pub record IsLabelled (M N : ℕ) (b : Branch) (o : Order) (ms : List Member) (ws : List ℕ) : Type 0 where
  pub list : Term
  pub goals : b.goals ≡ Label o list ∷ []
  pub unifier : Substitution
  pub family : Family
  pub view : IsView M N b.equations b.posted unifier family
  pub read : read_list (apply (look_in b unifier family) list) ≡ Ok ms
  pub covered : (w : ℕ) → IsTrue (has (constrained b.posted) w) → IsTrue (has ws w) ⊎ IsListed (open_ones ms) (look_in b unifier family w)

-- ns are the values of vs under an assignment of all constrained variables and of vs that the branch allows
abbrev pub IsSolved : ℕ → ℕ → List ℕ → Branch → List ℕ → Type 0
IsSolved M N vs b ns = (a : Assignment) × IsSolution M N b.equations b.posted vs a × (ns ≡ map a vs)

-- The answers of a run from such a branch are the values of the open members that the branch allows.
abbrev pub LabellingAnswers : Type 0
LabellingAnswers =
    (M N : ℕ) (prog : Program) (q : Query) (n : ℕ) (k : Option ℕ) (b : Branch) (es : List Event) (r : ℕ) (o : Order) (ms : List Member) (ws : List ℕ)
    → N ≤ M → IsConsistent M N b.equations b.posted → Settles M b.posted ws → IsLabelled M N b o ms ws
    → (run : Run M N prog q n k (b ∷ []) es r) → AreAnswers M N o (open_ones ms) (IsSolved M N (open_ones ms) b) (answers run) (EndsWith End es)

-- A member that no constrained variable is equal to takes every value that a variable may have, whatever the others have.
abbrev pub FreeMembers : Type 0
FreeMembers =
    (M N : ℕ) → N ≤ M → (b : Branch) (o : Order) (ms : List Member) (ws : List ℕ) (l : IsLabelled M N b o ms ws) (a : Assignment) → IsSolution M N b.equations b.posted (open_ones ms) a
    → (y n : ℕ) → IsTrue (has (open_ones ms) y) → ((w : ℕ) → IsTrue (has (constrained b.posted) w) → l.unifier w ≡ Var y → ⊥) → n ≤ N
    → (c : Assignment) × IsSolution M N b.equations b.posted (open_ones ms) c × (c y ≡ n) × ((x : ℕ) → x ≢ y → c x ≡ a x)

-- No two answers of a labelling are equal.
abbrev pub AnswersDiffer : Type 0
AnswersDiffer =
    (M N : ℕ) (o : Order) (vs : List ℕ) (b : Branch) (bs : List Branch) (es : List Event) (f : AreAnswers M N o vs (IsSolved M N vs b) bs (EndsWith End es))
    → InOrder (λ ms ns. ms ≢ ns) f.values

-- Where the leftmost member is taken first, nothing that the branch allows and that precedes an answer is missing.
abbrev pub NothingSkipped : Type 0
NothingSkipped =
    (M N : ℕ) (vs : List ℕ) (b : Branch) (bs : List Branch) (es : List Event) (f : AreAnswers M N Leftmost vs (IsSolved M N vs b) bs (EndsWith End es))
    → (ms ns : List ℕ) → Somewhere (λ ls. ls ≡ ms) f.values → IsSolved M N vs b ns → Precedes ns ms → Somewhere (λ ls. ls ≡ ns) f.values

-- those in front of x have more values
abbrev pub HaveMore : (ℕ → List ℕ) → List ℕ → ℕ → Type 0
HaveMore values [] x = ⊥
HaveMore values (y ∷ ys) x = (y ≡ x) ⊎ ((length (values x) < length (values y)) × HaveMore values ys x)

-- What first-fail picks has the fewest values, and is the first of these.
abbrev pub PicksFewest : Type 0
PicksFewest =
    (values : ℕ → List ℕ) (ms : List Member) (x : ℕ) → pick FirstFail values ms ≡ Some x
    → ((y : ℕ) → IsTrue (has (open_ones ms) y) → length (values x) ≤ length (values y)) × HaveMore values (open_ones ms) x
