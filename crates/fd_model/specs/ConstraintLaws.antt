-- The statements of the laws on constraints.
use Rattle.std.specs.Prelude.{◌≡◌, ℕ, suc, ◌≤◌, ◌<◌, ◌^◌, ℤ, pos, ◌+ℤ◌, ◌-ℤ◌, ◌*ℤ◌, nat_abs, IsTrue, true, List, [], ◌∷◌, ◌++◌, Ok, ◌⊎◌}
use Rattle.fd_model.specs.declared.kinds.ConstraintKind.{ConstraintKind}
use Rattle.fd_model.specs.declared.kinds.ConstraintKind.TheVariants.{Element, Atmost}
use Rattle.fd_language.specs.Variables.{variables_of_all}
use Rattle.fd_language.specs.Term.{Term, Terms, Substitution, Var, Int, Atom, Comp, no_terms, term}
use Rattle.fd_language.specs.Unifier.{Unifies}
use Rattle.fd_language.specs.Family.{Family, has, IsFamily, IsSubset}
use Rattle.fd_language.specs.Range.{Indexical, set_of}
use Rattle.fd_model.specs.ClosedFamilies.{IsClosed, constrained, AllPosted}
use Rattle.fd_language.specs.Monotonicity.{IsMonotone}
use Rattle.fd_language.specs.Check.{range_fits}
use Rattle.fd_language.specs.RangeVerdict.{is_accepted}
use Rattle.fd_language.specs.Variables.{TermsBelow}
use Rattle.fd_model.specs.Linear.{Linear, collect}
use Rattle.fd_model.specs.LinearRows.{Expansion}
use Rattle.fd_model.specs.ConstraintExpansion.{expand, equations}
use Rattle.fd_model.specs.Satisfaction.{Assignment, singles, worth, Satisfies}

-- the products added up
abbrev pub total : Assignment → List (ℕ × ℤ) → ℤ
total a [] = pos 0
total a (t ∷ ts) = (t.1 *ℤ pos (a t.0)) +ℤ total a ts

-- Left minus right is the sum of the products less the constant.
abbrev pub CollectedSum : Type 0
CollectedSum = (left right : Term) (a : Assignment) (l : Linear) → collect left right ≡ Ok l → (worth a left -ℤ worth a right) ≡ (total a l.products -ℤ l.constant)

-- The equated variables have their integers,
abbrev pub AllEquated : Assignment → List (ℕ × ℤ) → Type 0
AllEquated b [] = Unit {0}
AllEquated b (e ∷ es) = (pos (b e.0) ≡ e.1) × AllEquated b es

-- and each target lies in its range where every variable has its one value.
pub record Fits (M : ℕ) (x : Expansion) (b : Assignment) : Type 0 where
  pub equated : AllEquated b x.equated
  pub inside : AllPosted (λ p. IsTrue (has (set_of M (singles b) p.range) (b p.target))) x.ranges

-- b gives numbers up to M, to the variables below n those of a
pub record Extends (M n : ℕ) (a b : Assignment) : Type 0 where
  pub within : (v : ℕ) → b v ≤ M
  pub same : (v : ℕ) → v < n → b v ≡ a v

-- exactly one extension, with numbers up to N, to the variables up to the next fresh number fits
pub record OneFits (M N n : ℕ) (x : Expansion) (a : Assignment) : Type 0 where
  pub extension : Assignment
  pub extends : Extends N n a extension
  pub fits : Fits M x extension
  pub only : (b : Assignment) → Extends N n a b → Fits M x b → (v : ℕ) → v < x.fresh → b v ≡ extension v

-- What satisfies the constraint has exactly one extension that fits, and what has one satisfies it.
pub record IsRewritten (M N : ℕ) (kind : ConstraintKind) (ts : Terms) (n : ℕ) (x : Expansion) (a : Assignment) : Type 0 where
  pub one : Satisfies N kind ts a → OneFits M N n x a
  pub satisfied : (b : Assignment) → Extends N n a b → Fits M x b → Satisfies N kind ts a

-- for each greatest value N of variables in the universe
abbrev pub Rewriting : Type 0
Rewriting =
    (M N : ℕ) (kind : ConstraintKind) (ts : Terms) (n : ℕ) (x : Expansion) (a : Assignment) → 0 < N → N ≤ M → TermsBelow n ts → ((v : ℕ) → a v ≤ N)
    → expand M kind ts n ≡ Ok x → IsRewritten M N kind ts n x a

-- the sets of the equated variables have no other numbers
abbrev pub AllEquatedIn : Family → List (ℕ × ℤ) → Type 0
AllEquatedIn S [] = Unit {0}
AllEquatedIn S (e ∷ es) = ((k : ℕ) → IsTrue (has (S e.0) k) → pos k ≡ e.1) × AllEquatedIn S es

-- S is closed under the equations and ranges of x, and has no empty set there.
pub record IsSettled (M : ℕ) (x : Expansion) (S : Family) : Type 0 where
  pub family : IsFamily M S
  pub posted : AllPosted (λ p. IsSubset (S p.target) (set_of M S p.range)) x.ranges
  pub values : AllEquatedIn S x.equated
  pub some : (v : ℕ) → IsTrue (has (constrained x.ranges) v) → (k : ℕ) × IsTrue (has (S v) k)

-- Where the variables of the constraint have one value each, so have the equated and the added ones, and the values fit.
abbrev pub Determined : Type 0
Determined =
    (M : ℕ) (kind : ConstraintKind) (ts : Terms) (n : ℕ) (x : Expansion) (S : Family) (a : Assignment) → TermsBelow n ts → ((v : ℕ) → a v ≤ M)
    → expand M kind ts n ≡ Ok x → IsSettled M x S
    → ((v : ℕ) → v < n → IsTrue (has (constrained x.ranges) v) → S v ≡ a v ∷ [])
    → (b : Assignment) × ((v : ℕ) → IsTrue (has (constrained x.ranges) v) → S v ≡ b v ∷ []) × Extends M n a b × Fits M x b

-- the integers of the terms are those of the language
abbrev mutual
  pub HasIntegers : Term → Type 0
  HasIntegers (Var x) = Unit {0}
  HasIntegers (Int z) = nat_abs z < 2 ^ 63
  HasIntegers (Atom a) = Unit {0}
  HasIntegers (Comp f ts) = HaveIntegers ts

  pub HaveIntegers : Terms → Type 0
  HaveIntegers no_terms = Unit {0}
  HaveIntegers (term t ts) = HasIntegers t × HaveIntegers ts

-- the cells of a list
abbrev pub cells : Term → ℕ
cells (Comp f (term h (term t no_terms))) = suc (cells t)
cells _ = 0

-- each list argument has at most 2^64 members
abbrev pub HasShortLists : ConstraintKind → Terms → Type 0
HasShortLists Element (term i (term l (term x no_terms))) = cells l ≤ 2 ^ 64
HasShortLists Atmost (term n (term l (term v no_terms))) = cells l ≤ 2 ^ 64
HasShortLists _ _ = Unit {0}

-- Every posted range is one that the check accepts, for each greatest number of the universe up to 2^28 - 1.
abbrev pub AcceptedRows : Type 0
AcceptedRows =
    (M : ℕ) (kind : ConstraintKind) (ts : Terms) (n : ℕ) (x : Expansion) → M < 2 ^ 28 → HaveIntegers ts → HasShortLists kind ts
    → expand M kind ts n ≡ Ok x → AllPosted (λ p. IsTrue (is_accepted M p.range)) x.ranges

-- Every posted range fits the direction table, whatever the greatest number and however long the lists.
abbrev pub FittingRows : Type 0
FittingRows =
    (M : ℕ) (kind : ConstraintKind) (ts : Terms) (n : ℕ) (x : Expansion) → expand M kind ts n ≡ Ok x → AllPosted (λ p. IsTrue (range_fits M p.range true)) x.ranges

-- Every posted range only shrinks when domains shrink.
abbrev pub MonotoneRows : Type 0
MonotoneRows = (M : ℕ) (kind : ConstraintKind) (ts : Terms) (n : ℕ) (x : Expansion) → expand M kind ts n ≡ Ok x → AllPosted (λ p. IsMonotone M p.range) x.ranges

-- The equated variables are fresh, and named.
abbrev pub AllFresh : ℕ → ℕ → List Indexical → List (ℕ × ℤ) → Type 0
AllFresh n m ps [] = Unit {0}
AllFresh n m ps (e ∷ es) = ((n ≤ e.0) × (e.0 < m) × IsTrue (has (constrained ps) e.0)) × AllFresh n m ps es

-- The ranges name variables of the arguments and fresh ones.
pub record IsScoped (ts : Terms) (n : ℕ) (x : Expansion) : Type 0 where
  pub named : (v : ℕ) → IsTrue (has (constrained x.ranges) v) → IsTrue (has (variables_of_all ts) v) ⊎ ((n ≤ v) × (v < x.fresh))
  pub equated : AllFresh n x.fresh x.ranges x.equated
  pub grows : n ≤ x.fresh

abbrev pub ScopedRows : Type 0
ScopedRows = (M : ℕ) (kind : ConstraintKind) (ts : Terms) (n : ℕ) (x : Expansion) → expand M kind ts n ≡ Ok x → IsScoped ts n x

-- A closed family without empty sets is settled for each expansion whose equations and ranges are among those that it is closed under.
abbrev pub SettledWhereClosed : Type 0
SettledWhereClosed =
    (M N : ℕ) (kind : ConstraintKind) (ts : Terms) (n : ℕ) (x : Expansion) (s : Substitution) (before after : List Indexical) (S : Family) → expand M kind ts n ≡ Ok x
    → Unifies s (equations x.equated) → IsClosed M N s (before ++ (x.ranges ++ after)) S
    → ((v : ℕ) → IsTrue (has (constrained (before ++ (x.ranges ++ after))) v) → (k : ℕ) × IsTrue (has (S v) k)) → IsSettled M x S
