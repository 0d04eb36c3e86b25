-- The statement of the law on posting a range without parameters.
use Rattle.std.specs.Prelude.{◌≡◌, ℕ, ◌≤◌, ◌<◌, pos, IsTrue, List, [], ◌∷◌}
use Rattle.fd_language.specs.Term.{Term}
use Rattle.fd_language.specs.Unifier.{Equation}
use Rattle.fd_language.specs.Family.{has}
use Rattle.fd_language.specs.Range.{Range, Indexical, set_of}
use Rattle.fd_language.specs.Range.{params}
use Rattle.fd_model.specs.Posting.{post, posts}
use Rattle.fd_language.specs.Variables.{TermBelow}
use Rattle.fd_model.specs.RunnablePrograms.{RangeBelow}
use Rattle.fd_model.specs.Satisfaction.{Assignment, singles, worth, InRange}
use Rattle.fd_model.specs.FlatConstraints.{SeesNumbers, is_place}
use Rattle.fd_model.specs.ConstraintLaws.{Extends}

-- both sides of each equation are worth the same
abbrev pub Solves : Assignment → List Equation → Type 0
Solves b [] = Unit {0}
Solves b (e ∷ es) = (worth b e.left ≡ worth b e.right) × Solves b es

pub record FitsPosted (M : ℕ) (p : Indexical) (es : List Equation) (b : Assignment) : Type 0 where
  pub solves : Solves b es
  pub inside : IsTrue (has (set_of M (singles b) p.range) (b p.target))

pub record OnePosted (M N n m : ℕ) (p : Indexical) (es : List Equation) (a : Assignment) : Type 0 where
  pub extension : Assignment
  pub extends : Extends N n a extension
  pub fits : FitsPosted M p es extension
  pub only : (b : Assignment) → Extends N n a b → FitsPosted M p es b → (v : ℕ) → v < m → b v ≡ extension v

-- What lies in the range has exactly one extension that fits what is posted, and what has one lies in the range.
pub record IsPosted (M N : ℕ) (t : Term) (r : Range) (n m : ℕ) (p : Indexical) (es : List Equation) (a : Assignment) : Type 0 where
  pub one : InRange M N a t r → OnePosted M N n m p es a
  pub satisfied : (b : Assignment) → Extends N n a b → FitsPosted M p es b → InRange M N a t r

-- for each greatest value N of variables
abbrev pub PostedRange : Type 0
PostedRange =
    (M N : ℕ) (look : ℕ → Term) (t : Term) (r : Range) (n m : ℕ) (p : Indexical) (es : List Equation) (a : Assignment) → TermBelow n t → RangeBelow n r → params r ≡ []
    → SeesNumbers M look → ((x : ℕ) → worth a (look x) ≡ pos (a x)) → ((v : ℕ) → a v ≤ N) → post look t r n ≡ posts p m es → IsPosted M N t r n m p es a

-- What a posted goal gives, where its target is an open variable or an integer and its range has no parameters: no fault.
pub record IsPostable (look : ℕ → Term) (t : Term) (r : Range) (n : ℕ) : Type 0 where
  pub posted : Indexical
  pub fresh : ℕ
  pub made : List Equation
  pub gives : post look t r n ≡ posts posted fresh made

abbrev pub FlatPosts : Type 0
FlatPosts = (M : ℕ) (look : ℕ → Term) (t : Term) (r : Range) (n : ℕ) → IsTrue (is_place t) → params r ≡ [] → SeesNumbers M look → IsPostable look t r n
