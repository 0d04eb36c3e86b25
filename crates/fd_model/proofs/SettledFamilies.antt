-- From a closed family to one that is settled for an expansion.
use Rattle.std.proofs.Common.{◌≡◌, ℕ, true, ℤ, List, [], ◌∷◌, ◌++◌}
use Rattle.fd_language.specs.Term.{Substitution}
use Rattle.fd_language.specs.Unifier.{Unifies}
use Rattle.fd_language.specs.Family.{Family, has, IsSubset}
use Rattle.fd_language.specs.Range.{Indexical, set_of}
use Rattle.fd_model.specs.ClosedFamilies.{IsClosed, constrained}
use Rattle.fd_model.specs.ConstraintExpansion.{equations}
use Rattle.fd_model.specs.ConstraintLaws.{AllEquatedIn, AllFresh, SettledWhereClosed}
use Rattle.fd_model.proofs.ListNames.{named_left, named_right, posted_left, posted_right}
use Rattle.fd_model.proofs.SplitScopes.{scoped_rows}

module _ (M N : ℕ) (s : Substitution) (ps : List Indexical) (S : Family) (closed : IsClosed M N s ps S) where
  equated_in : (n m : ℕ) (qs : List Indexical) (es : List (ℕ × ℤ)) → ((v : ℕ) → has (constrained qs) v ≡ true → has (constrained ps) v ≡ true)
      → AllFresh n m qs es → Unifies s (equations es) → AllEquatedIn S es
  equated_in n m qs [] f a u = tt
  equated_in n m qs (e ∷ es) f a u = ((λ k h. closed.values e.0 e.1 k (f e.0 a.0.2) u.0 h), equated_in n m qs es f a.1 u.1)

pub settled_where_closed : SettledWhereClosed
settled_where_closed M N kind ts n x s before after S h u closed some =
    let f : (v : ℕ) → has (constrained x.ranges) v ≡ true
    → has (constrained (before ++ (x.ranges ++ after))) v ≡ true = λ v e. named_right before (x.ranges ++ after) v (named_left x.ranges after v e) in
    let inside : Indexical → Type 0 = λ p. IsSubset (S p.target) (set_of M S p.range) in
    record {
      family = closed.family;
      posted = posted_left inside x.ranges after (posted_right inside before (x.ranges ++ after) closed.posted);
      values = equated_in M N s (before ++ (x.ranges ++ after)) S closed n x.fresh x.ranges x.equated f (scoped_rows M kind ts n x h).equated u;
      some = λ v e. some v (f v e);
    }
