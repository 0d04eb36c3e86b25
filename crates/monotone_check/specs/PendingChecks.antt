-- The terms and ranges that wait for their operators, and what is kept of each.
use Rattle.std.specs.Prelude.{◌≡◌, ℕ, suc, ◌-◌, List, [], ◌∷◌, ◌++◌, Option, Some, None}
use Rattle.fd_language.specs.declared.range_node.RangeNode.{RangeNode}
use Rattle.fd_language.specs.Range.{Range, Expr}
use Rattle.fd_language.specs.PostfixRanges.{built}
use Rattle.fd_language.specs.RangeVerdict.{expr_size, range_size}
use Rattle.monotone_check.specs.declared.summary.TermCheck.{TermCheck}
use Rattle.monotone_check.specs.declared.summary.RangeCheck.{RangeCheck}
use Rattle.monotone_check.specs.declared.pending_checks.Pending.{Pending}
use Rattle.monotone_check.specs.Summary.{IsTerm, IsRange}

-- The terms, the last one first, whose nodes end before the number n.
abbrev pub AreTerms : ℕ → (ℕ → ℕ) → ℕ → List Expr → List TermCheck → Type 0
AreTerms M at n [] items = items ≡ []
AreTerms M at n (t ∷ ts) items = (front : List TermCheck) × (s : TermCheck) × (items ≡ front ++ s ∷ []) × IsTerm M at (n - 1) t s × AreTerms M at (n - expr_size t) ts front

abbrev pub AreRanges : ℕ → (ℕ → ℕ) → ℕ → List Range → List RangeCheck → Type 0
AreRanges M at n [] items = items ≡ []
AreRanges M at n (r ∷ rs) items = (front : List RangeCheck) × (s : RangeCheck) × (items ≡ front ++ s ∷ []) × IsRange M at (n - 1) r s × AreRanges M at (n - range_size r) rs front

-- the number of nodes before those of the terms
abbrev pub before_terms : ℕ → List Expr → ℕ
before_terms n [] = n
before_terms n (t ∷ ts) = before_terms (n - expr_size t) ts

pub record IsPending (M : ℕ) (at : ℕ → ℕ) (n : ℕ) (rs : List Range) (ts : List Expr) (p : Pending) : Type 0 where
  pub terms : AreTerms M at n ts p.terms.items
  pub ranges : AreRanges M at (before_terms n ts) rs p.ranges.items

-- what waits once the node with the number n is read, where its operands were there
abbrev pub Follows : ℕ → (ℕ → ℕ) → ℕ → List RangeNode → Option Range → Pending → Type 0
Follows M at n ns None p = Unit {0}
Follows M at n ns (Some r) p = (rs : List Range) × (ts : List Expr) × (Some r ≡ built ns rs ts) × IsPending M at (suc n) rs ts p
