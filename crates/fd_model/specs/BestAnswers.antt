-- Answers where the least or the greatest cost is wanted.
use Rattle.std.specs.Prelude.{◌≡◌, ℕ, ◌≤◌, Bool, ◌==◌, if◌then◌else◌, IsTrue, ℤ, pos, List, [], ◌∷◌, ◌++◌, Option, None, ◌⊎◌, Ok}
use Rattle.fd_model.specs.declared.kinds.Order.{Order}
use Rattle.fd_language.specs.Term.{Term, Substitution, apply}
use Rattle.fd_language.specs.Family.{Family, has}
use Rattle.fd_language.specs.Lists.{Each}
use Rattle.fd_model.specs.ClosedFamilies.{constrained}
use Rattle.fd_model.specs.Goal.{Label, Best, Branch, Program, Query, Event, End}
use Rattle.fd_model.specs.BranchViews.{IsConsistent, IsView}
use Rattle.fd_model.specs.Children.{with_goals, look_in, cost_fault}
use Rattle.fd_model.specs.Labelling.{read_list, open_ones}
use Rattle.fd_model.specs.Leaves.{Leaves, IsBetter, IsAsGood}
use Rattle.fd_model.specs.Members.{Member, Open, Known, as_member}
use Rattle.fd_model.specs.Run.{Run}
use Rattle.fd_model.specs.Answers.{answers, EndsWith, Shows, EachShows, Somewhere, InOrder, Comes, Settles}
use Rattle.fd_model.specs.LabellingLaws.{IsListed, IsSolved}

-- the number of a variable, where the variables vs have the numbers ns
abbrev pub number_in : List ℕ → List ℕ → ℕ → ℕ
number_in [] ns x = 0
number_in (v ∷ vs) [] x = 0
number_in (v ∷ vs) (n ∷ ns) x = if v == x then n else number_in vs ns x

-- the cost of these numbers: that of a member
abbrev pub cost_in : List ℕ → Member → List ℕ → ℤ
cost_in vs (Open x) ns = pos (number_in vs ns x)
cost_in vs (Known z) ns = z

-- One answer. It shows numbers of vs that are allowed and have the best cost, and that are the first of these in the order of the labelling of t: before are
-- those that come earlier, of which each costs more than they do, and behind those that come later, of which none costs less (or the other way round, where the
-- greatest cost is wanted). Together they are all that is allowed, each once, in the order of the leaves of the labelling that starts in such a branch.
pub record IsBestAnswer (M N : ℕ) (o : Order) (least : Bool) (t : Term) (vs : List ℕ) (cost : List ℕ → ℤ) (Allowed : List ℕ → Type 0) (Starts : Branch → Type 0) (bs : List Branch) : Type 0 where
  pub branch : Branch
  pub alone : bs ≡ branch ∷ []
  pub numbers : List ℕ
  pub shown : Shows M N vs branch numbers
  pub before : List (List ℕ)
  pub behind : List (List ℕ)
  pub allowed : Each Allowed (before ++ numbers ∷ behind)
  pub complete : (ns : List ℕ) → Allowed ns → Somewhere (λ ms. ms ≡ ns) (before ++ numbers ∷ behind)
  pub order : InOrder (Comes o) (before ++ numbers ∷ behind)
  pub earlier : Each (λ ns. IsBetter least (cost numbers) (cost ns)) before
  pub later : Each (λ ns. IsAsGood least (cost numbers) (cost ns)) behind
  pub start : Branch
  pub starts : Starts start
  pub leaves : List Branch
  pub labelled : Leaves M N o t (start ∷ []) leaves
  pub values : EachShows M N vs leaves (before ++ numbers ∷ behind)

-- or none, and then nothing is allowed, where the answers are whole
abbrev pub AreBestAnswers : ℕ → ℕ → Order → Bool → Term → List ℕ → (List ℕ → ℤ) → (List ℕ → Type 0) → (Branch → Type 0) → List Branch → Type 0 → Type 0
AreBestAnswers M N o least t vs cost Allowed Starts bs AreWhole = IsBestAnswer M N o least t vs cost Allowed Starts bs ⊎ ((bs ≡ []) × (AreWhole → (ns : List ℕ) → Allowed ns → ⊥))

-- A branch whose only goal asks for the best leaf of the labelling of a list that is seen as ms, by a cost that is seen as the member c, where each constrained
-- variable, those in ws aside, is seen as an integer or as a member.
pub record IsOptimised (M N : ℕ) (b : Branch) (o : Order) (least : Bool) (ms : List Member) (c : Member) (ws : List ℕ) : Type 0 where
  pub list : Term
  pub cost : Term
  pub goals : b.goals ≡ Best o least list cost ∷ []
  pub unifier : Substitution
  pub family : Family
  pub view : IsView M N b.equations b.posted unifier family
  pub read : read_list (apply (look_in b unifier family) list) ≡ Ok ms
  pub member : as_member (apply (look_in b unifier family) cost) ≡ Ok c
  pub listed : cost_fault ms (apply (look_in b unifier family) cost) ≡ None
  pub covered : (w : ℕ) → IsTrue (has (constrained b.posted) w) → IsTrue (has ws w) ⊎ IsListed (open_ones ms) (look_in b unifier family w)

-- The answer of such a branch is the best of what it allows, the first of these in the order of the labelling in its place.
abbrev pub BestAnswers : Type 0
BestAnswers =
    (M N : ℕ) (prog : Program) (q : Query) (n : ℕ) (k : Option ℕ) (b : Branch) (es : List Event) (r : ℕ) (o : Order) (least : Bool) (ms : List Member) (c : Member) (ws : List ℕ)
    → N ≤ M → IsConsistent M N b.equations b.posted → Settles M b.posted ws → (l : IsOptimised M N b o least ms c ws)
    → (run : Run M N prog q n k (b ∷ []) es r) → AreBestAnswers M N o least l.list (open_ones ms) (cost_in (open_ones ms) c) (IsSolved M N (open_ones ms) b)
    (λ d. d ≡ with_goals b (Label o l.list ∷ [])) (answers run) (EndsWith End es)
