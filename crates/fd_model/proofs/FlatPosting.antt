-- A range without parameters is posted without a fault.
use Rattle.std.proofs.Common.{◌≡◌, ℕ, true, false, List, [], ◌∷◌, ◌++◌, refl, inl, inr, Option, Some, None, ◌⊎◌, pos, map, ◌==◌}
use Rattle.fd_model.specs.declared.kinds.QueryFault.{QueryFault}
use Rattle.fd_language.specs.declared.range_node.Need.{Need}
use Rattle.fd_language.specs.Term.{Term, Var, Int, Atom, Comp}
use Rattle.fd_language.specs.Unifier.{Equation}
use Rattle.fd_language.specs.Range.{Range, Indexical}
use Rattle.fd_language.specs.Needs.{need_of}
use Rattle.fd_language.specs.Occurrences.{Occurrence, one_occurrence, range_occurrences}
use Rattle.fd_model.specs.Posting.{offence_at, first_offence, unless_offence, post}
use Rattle.fd_model.specs.FlatConstraints.{SeesNumbers}
use Rattle.fd_model.specs.PostingLaws.{IsPostable, FlatPosts}
use Rattle.fd_language.proofs.Lemmas.{none_parameter}
use Rattle.fd_language.specs.Lists.{Each}
use Rattle.fd_model.proofs.ModelSubstitutions.{first_member}
use Rattle.fd_language.specs.Family.{has}
use Rattle.std.proofs.lemmas.Bool.{or_right}

-- no occurrence is that of a parameter
abbrev pub Free : List Occurrence → Type 0
Free ps = Each (λ p. p.parameter ≡ false) ps

abbrev pub variables : List Occurrence → List ℕ
variables ps = map (λ p. p.variable) ps

-- an open variable or an integer
abbrev pub IsPlainTerm : Term → Type 0
IsPlainTerm t = ((y : ℕ) × (t ≡ Var y)) ⊎ ((k : ℕ) × (t ≡ Int (pos k)))

module _ (need : ℕ → Need) (look : ℕ → Term) where
  no_offence_at : (p : Occurrence) → p.parameter ≡ false → IsPlainTerm (look p.variable) → offence_at need p (look p.variable) ≡ None
  no_offence_at p h (inl e) = rw (e.1, h) refl
  no_offence_at p h (inr e) = rw (e.1, h) refl

  pub no_offence : (ps : List Occurrence) → Free ps → ((x : ℕ) → has (variables ps) x ≡ true → IsPlainTerm (look x)) → first_offence need look ps ≡ None
  no_offence [] h k = refl
  no_offence (p ∷ ps) h k = rw (no_offence_at p h.0 (k p.variable (first_member p.variable (variables ps)))) (no_offence ps h.1 (λ x i. k x (or_right (p.variable == x) (has (variables ps) x) i)))

module _ (M : ℕ) (look : ℕ → Term) (sees : SeesNumbers M look) where
  none_offends : (need : ℕ → Need) (ps : List Occurrence) → Free ps → first_offence need look ps ≡ None
  none_offends need ps h = no_offence need look ps h (λ x i. elim (sees x) [ inl k ↦ inl k | inr k ↦ inr (k.0, k.2) ])

  given : (o : Option QueryFault) (p : Indexical) (n : ℕ) (es : List Equation) → o ≡ None → (t : Term) (r : Range) (k : ℕ) → post look t r k ≡ unless_offence o p n es → IsPostable look t r k
  given (Some f) p n es h t r k e = absurd (cc)
  given None p n es h t r k e = record { posted = p; fresh = n; made = es; gives = e }

pub flat_posts : FlatPosts
flat_posts M look (Var v) r n h none sees = given M look sees (first_offence (need_of r) look (one_occurrence v false ++ range_occurrences r)) _ _ _
    (none_offends M look sees (need_of r) (one_occurrence v false ++ range_occurrences r) (refl, none_parameter r none)) (Var v) r n refl
flat_posts M look (Int z) r n h none sees = given M look sees (first_offence (need_of r) look (range_occurrences r)) _ _ _
    (none_offends M look sees (need_of r) (range_occurrences r) (none_parameter r none)) (Int z) r n refl
flat_posts M look (Atom f) r n h none sees = absurd (cc)
flat_posts M look (Comp f ts) r n h none sees = absurd (cc)
