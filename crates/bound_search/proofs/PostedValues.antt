-- What is posted for a value, and for a bound.
use Rattle.std.proofs.Common.{◌≡◌, ℕ, ◌<◌, ℤ, pos, sym, subst, List, [], ◌∷◌, ◌++◌, ◌∙◌, Option, Some, None, MatchOption, IsSome, refl, ap}
use Rattle.std.specs.Prelude.{nat_abs}
use Rattle.std.proofs.lemmas.Bool.{lt-ltb}
use Rattle.fd_language.specs.declared.TheConstants.{INFINITY}
use Rattle.fd_language.specs.declared.range_node.RangeNode.{RangeNode}
use Rattle.fd_language.specs.PostfixRanges.{IsSpelled}
use Rattle.fd_language.specs.Range.{Range, Indexical}
use Rattle.fd_model.specs.PostedLeaves.{with_value}
use Rattle.fd_model.specs.BranchViews.{IsConsistent}
use Rattle.fd_model.proofs.Lemmas.{inconsistent_by}
use Rattle.range_code.specs.declared.frame.Arg.TheVariants.{Int}
use Rattle.propagate_queue.specs.Instances.{posting_of}
use Rattle.propagate_queue.specs.Postings.{ranged, IsPosting}
use Rattle.propagate_queue.specs.PropagationInvariant.{HasNone}
use Rattle.bound_search.specs.Posting.{IsEnd, between_range, exact_range, with_ends}

-- nodes that spell a range give it
pub spelled_there : {X : Type 0} (ns : List RangeNode) (P : X → Type 0) (o : Option X) → MatchOption o (IsSpelled ns → ⊥) P → IsSpelled ns → IsSome o
spelled_there ns P None h s = absurd (h s)
spelled_there ns P (Some x) h s = refl

-- what is posted by a code of that range
pub exact_posted : (ps qs : List Indexical) (r : Range) (x n : ℕ) (z : ℤ) → r ≡ exact_range → z ≡ pos n → qs ≡ ps ++ ranged (posting_of r x (Int z ∷ [])) ∷ [] → qs ≡ with_value ps x n
exact_posted ps qs r x n z e f g =
    g ∙ ap (λ (q : Range). ps ++ ranged (posting_of q x (Int z ∷ [])) ∷ []) e ∙ ap (λ (y : ℤ). ps ++ ranged (posting_of exact_range x (Int y ∷ [])) ∷ []) f

-- the same between two integers
pub between_posted : (ps qs : List Indexical) (r : Range) (x : ℕ) (low high l h : ℤ) → r ≡ between_range → l ≡ low → h ≡ high → qs ≡ ps ++ ranged (posting_of r x (Int l ∷ Int h ∷ [])) ∷ [] → qs ≡ with_ends ps x low high
between_posted ps qs r x low high l h e f g k =
    k ∙ ap (λ (q : Range). ps ++ ranged (posting_of q x (Int l ∷ Int h ∷ [])) ∷ []) e ∙ ap (λ (y : ℤ). with_ends ps x y h) f ∙ ap (λ (y : ℤ). with_ends ps x low y) g

pub between_fits : (count x : ℕ) (r : Range) (low high : ℤ) → r ≡ between_range → x < count → IsEnd low → IsEnd high → IsPosting count (posting_of r x (Int low ∷ Int high ∷ []))
between_fits count x r low high e l f g = subst (λ q. IsPosting count (posting_of q x (Int low ∷ Int high ∷ []))) (sym e)
    (l, (lt-ltb (nat_abs low) 9223372036854775808 f, (lt-ltb (nat_abs high) 9223372036854775808 g, tt)))

-- a level that has failed is inconsistent
pub failed_inconsistent : (ps : List Indexical) (count : ℕ) → HasNone ps count → IsConsistent INFINITY INFINITY [] ps → ⊥
failed_inconsistent ps count h = inconsistent_by INFINITY ps h.0 h.2
