-- What is posted is monotone, where the table accepts the range.
use Rattle.std.proofs.Common.{◌≡◌, ℕ, Bool, true, false, cond, ◌==◌, not, List, [], ◌∷◌, ◌++◌, filter, map, Option, Some, None, IsTrue, refl, subst}
use Rattle.std.proofs.lemmas.Bool.{and_from}
use Rattle.std.specs.List.{list_all}
use Rattle.fd_language.specs.Term.{Term, Var, Int, Atom, Comp}
use Rattle.fd_language.specs.Unifier.{Equation}
use Rattle.fd_language.specs.Range.{Range, Indexical}
use Rattle.fd_model.specs.declared.kinds.QueryFault.{QueryFault}
use Rattle.fd_model.specs.declared.kinds.QueryFault.TheVariants.{Parameter}
use Rattle.fd_language.specs.declared.range_node.Need.{Need}
use Rattle.fd_language.specs.Needs.{meets, asks, once, parameters, need_of}
use Rattle.fd_language.specs.Check.{fill_range, range_fits}
use Rattle.fd_language.specs.Monotonicity.{IsMonotone}
use Rattle.fd_language.proofs.Lemmas.{accepted_is_monotone, monotone_renamed, each_either, OfParameter, params_occur, Asked, asked_params}
use Rattle.fd_language.specs.Occurrences.{Occurrence, one_occurrence, range_occurrences}
use Rattle.fd_model.specs.Posting.{offence_at, or_later, first_offence, integer_of, posts, unless_offence, post}
use Rattle.fd_language.specs.Lists.{Each}

-- no offence: each parameter meets its need
module _ (need : ℕ → Need) (look : ℕ → Term) where
  abbrev NoOffence : Occurrence → Type 0
  NoOffence q = offence_at need q (look q.variable) ≡ None

  or_none : (a b : Option QueryFault) → or_later a b ≡ None → (a ≡ None) × (b ≡ None)
  or_none None b h = (refl, h)
  or_none (Some f) b h = absurd (cc)

  none_each : (ps : List Occurrence) → first_offence need look ps ≡ None → Each NoOffence ps
  none_each [] h = tt
  none_each (q ∷ ps) h = let two = or_none (offence_at need q (look q.variable)) (first_offence need look ps) h in (two.0, none_each ps two.1)

  abbrev no_offence : Option QueryFault
  no_offence = None

  test_at : (b : Bool) → cond b no_offence (Some Parameter) ≡ no_offence → b ≡ true
  test_at true h = refl
  test_at false h = absurd (cc)

  met_at : (x : ℕ) (t : Term) → offence_at need (record { variable = x; parameter = true }) t ≡ None → meets (need x) (integer_of t) ≡ true
  met_at x (Int z) h = test_at (meets (need x) z) h
  met_at x _ h = absurd (cc)

  abbrev IsMet : ℕ → Type 0
  IsMet x = meets (need x) (integer_of (look x)) ≡ true

  met_each : (ds : List (ℕ × Need)) → Asked (OfParameter NoOffence) ds → Each IsMet (map (λ d. d.0) ds)
  met_each [] h = tt
  met_each (d ∷ ds) h = (met_at d.0 (look d.0) h.0, met_each ds h.1)

  each_filter : (p : ℕ → Bool) (xs : List ℕ) → Each IsMet xs → Each IsMet (filter p xs)
  each_filter p [] h = h
  each_filter p (x ∷ xs) h = each_either IsMet (p x) (x ∷ filter p xs) (filter p xs) (h.0, each_filter p xs h.1) (each_filter p xs h.1)

  each_once : (xs : List ℕ) → Each IsMet xs → Each IsMet (once xs)
  each_once [] h = h
  each_once (x ∷ xs) h = (h.0, each_filter (λ y. not (y == x)) (once xs) (each_once xs h.1))

  all_met : (xs : List ℕ) → Each IsMet xs → list_all (λ (d : ℕ × Need). meets d.1 (integer_of (look d.0))) (map (λ x. (x, need x)) xs) ≡ true
  all_met [] h = refl
  all_met (x ∷ xs) h = and_from (meets (need x) (integer_of (look x))) (list_all (λ (d : ℕ × Need). meets d.1 (integer_of (look d.0))) (map (λ x. (x, need x)) xs)) h.0 (all_met xs h.1)

posts_from : (o : Option QueryFault) (a p : Indexical) (n m : ℕ) (es ds : List Equation) → unless_offence o a n es ≡ posts p m ds → (o ≡ None) × (a ≡ p)
posts_from None a p n m es ds e = (refl, (cc))
posts_from (Some f) a p n m es ds e = absurd (cc)

filled_monotone : (M : ℕ) (look : ℕ → Term) (r : Range) → IsTrue (range_fits M r true) → first_offence (need_of r) look (range_occurrences r) ≡ None
    → IsMonotone M (fill_range (λ y. integer_of (look y)) r)
filled_monotone M look r fits none =
    accepted_is_monotone M r (λ y. integer_of (look y)) fits
    (all_met (need_of r) look (parameters r) (each_once (need_of r) look (map (λ d. d.0) (asks r))
    (met_each (need_of r) look (asks r) (asked_params (OfParameter (NoOffence (need_of r) look)) r
    (params_occur (NoOffence (need_of r) look) r (none_each (need_of r) look (range_occurrences r) none))))))

-- What is posted is monotone.
pub posted_monotone : (M : ℕ) (look : ℕ → Term) (t : Term) (r : Range) (n m : ℕ) (p : Indexical) (es : List Equation) → IsTrue (range_fits M r true)
    → post look t r n ≡ posts p m es → IsMonotone M p.range
posted_monotone M look (Var v) r n m p es fits e =
    let both = posts_from (first_offence (need_of r) look (one_occurrence v false ++ range_occurrences r)) _ p _ m _ es e in
    let later = or_none (need_of r) look (offence_at (need_of r) (record { variable = v; parameter = false }) (look v)) (first_offence (need_of r) look (range_occurrences r)) both.0 in
    subst (λ (q : Indexical). IsMonotone M q.range) both.1 (monotone_renamed M _ (fill_range (λ y. integer_of (look y)) r) (filled_monotone M look r fits later.1))
posted_monotone M look (Int z) r n m p es fits e =
    let both = posts_from (first_offence (need_of r) look (range_occurrences r)) _ p _ m _ es e in
    subst (λ (q : Indexical). IsMonotone M q.range) both.1 (monotone_renamed M _ (fill_range (λ y. integer_of (look y)) r) (filled_monotone M look r fits both.0))
posted_monotone M look (Atom a) r n m p es fits e = absurd (cc)
posted_monotone M look (Comp f ts) r n m p es fits e = absurd (cc)
