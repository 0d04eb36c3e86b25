-- What is gathered of a range occurrence by occurrence is what is gathered slot by slot.
use Rattle.std.proofs.Common.{◌≡◌, ℕ, Bool, true, false, cond, not, ◌&&◌, ◌==◌, List, [], ◌∷◌, map, filter, Option, Some, None, refl, ap, sym, ◌∙◌, eqb-true}
use Rattle.std.proofs.Common.{eq-eqb}
use Rattle.std.proofs.lemmas.Bool.{and_left}
use Rattle.fd_model.specs.declared.kinds.QueryFault.{QueryFault}
use Rattle.std.proofs.lemmas.List.Elements.{filter_agree}
use Rattle.fd_language.specs.declared.range_node.Need.{Need}
use Rattle.fd_language.specs.Family.{has}
use Rattle.fd_language.specs.Term.{Term, Var, Int, Atom, Comp, Substitution}
use Rattle.fd_language.specs.Range.{Range, params}
use Rattle.fd_language.specs.Needs.{once, need_of}
use Rattle.fd_language.specs.Occurrences.{Occurrence, range_occurrences}
use Rattle.fd_language.specs.RangeVerdict.{has_one_use}
use Rattle.fd_model.specs.Posting.{offence_at, or_later, first_offence}
use Rattle.fd_language.proofs.Lemmas.{two}
use Rattle.branch_meaning.proofs.Lemmas.{plain}
use Rattle.range_code.proofs.Lemmas.{has_kept}
use Rattle.range_code.specs.Slots.{slots_of, slot_needs, need_at}
use Rattle.branch_state.specs.StoreVariables.{offence, first_in, Apart}
use Rattle.branch_state.proofs.Lists.{once_filter}
use Rattle.branch_state.proofs.Occurrences.{AreSettled, settled, variables, plain_filter}

abbrev pub is_open : Option Need → Bool
is_open None = true
is_open (Some n) = false

module _ (look : Substitution) where
  open_need : (r : Range) (y : ℕ) → is_open (need_at r y) ≡ not (has (params r) y)
  open_need r y = by_test (has (params r) y) where
    by_test : (b : Bool) → is_open (cond b (Some (need_of r y)) None) ≡ not b
    by_test true = refl
    by_test false = refl

abbrev first_by : (ℕ → Option QueryFault) → List ℕ → Option QueryFault
first_by f [] = None
first_by f (x ∷ xs) = or_later (f x) (first_by f xs)

first_without : (f : ℕ → Option QueryFault) (x : ℕ) → f x ≡ None → (xs : List ℕ) → first_by f (filter (λ y. not (y == x)) xs) ≡ first_by f xs
first_without f x e [] = refl
first_without f x e (y ∷ xs) = by_test (y == x) refl (first_without f x e xs) where
  by_test : (b : Bool) → (y == x) ≡ b → first_by f (filter (λ y. not (y == x)) xs) ≡ first_by f xs
      → first_by f (cond (not b) (y ∷ filter (λ y. not (y == x)) xs) (filter (λ y. not (y == x)) xs)) ≡ or_later (f y) (first_by f xs)
  by_test true t h = h ∙ sym (ap (λ o. or_later o (first_by f xs)) (ap f (eqb-true y x t) ∙ e))
  by_test false t h = ap (or_later (f y)) h

first_once : (f : ℕ → Option QueryFault) (xs : List ℕ) → first_by f xs ≡ first_by f (once xs)
first_once f [] = refl
first_once f (x ∷ xs) = by_fault (f x) refl (first_once f xs) where
  by_fault : (o : Option QueryFault) → f x ≡ o → first_by f xs ≡ first_by f (once xs) → or_later o (first_by f xs) ≡ or_later o (first_by f (filter (λ y. not (y == x)) (once xs)))
  by_fault (Some e) k h = refl
  by_fault None k h = h ∙ sym (first_without f x k (once xs))

module _ (look : Substitution) (need : ℕ → Need) (ps : List ℕ) where
  abbrev at : ℕ → Option QueryFault
  at y = offence_at need (record { variable = y; parameter = has ps y }) (look y)

  offences : (qs : List Occurrence) → AreSettled ps qs → first_offence need look qs ≡ first_by at (variables qs)
  offences [] h = refl
  offences (p ∷ qs) h = two or_later (ap (λ b. offence_at need (record { variable = p.variable; parameter = b }) (look p.variable)) h.0) (offences qs h.1)

  at_slot : (y : ℕ) → at y ≡ offence (cond (has ps y) (Some (need y)) None) (look y)
  at_slot y = by_test (has ps y) (look y) where
    by_test : (b : Bool) (t : Term) → offence_at need (record { variable = y; parameter = b }) t ≡ offence (cond b (Some (need y)) None) t
    by_test true (Var x) = refl
    by_test true (Int z) = refl
    by_test true (Atom a) = refl
    by_test true (Comp f ts) = refl
    by_test false (Var x) = refl
    by_test false (Int z) = refl
    by_test false (Atom a) = refl
    by_test false (Comp f ts) = refl

  slot_offences : (xs : List ℕ) → first_by at xs ≡ first_in look xs (map (λ y. cond (has ps y) (Some (need y)) None) xs)
  slot_offences [] = refl
  slot_offences (x ∷ xs) = two or_later (at_slot x) (slot_offences xs)

-- the first offence of a range's occurrences is that of its slots
pub offence_of_range : (look : Substitution) (r : Range) → has_one_use r ≡ true → first_offence (need_of r) look (range_occurrences r) ≡ first_in look (slots_of r) (slot_needs r)
offence_of_range look r one =
    offences look (need_of r) (params r) (range_occurrences r) (settled r one)
    ∙ first_once (at look (need_of r) (params r)) (variables (range_occurrences r))
    ∙ slot_offences look (need_of r) (params r) (slots_of r)

-- the slots that are no parameters are what it reads
pub plain_slots : (r : Range) → has_one_use r ≡ true → once (plain (range_occurrences r)) ≡ filter (λ y. is_open (need_at r y)) (slots_of r)
plain_slots r one =
    ap once (plain_filter (params r) (range_occurrences r) (settled r one)) ∙ sym (once_filter (λ y. not (has (params r) y)) (variables (range_occurrences r)))
    ∙ filter_agree (λ y. not (has (params r) y)) (λ y. is_open (need_at r y)) (λ y. sym (open_need Var r y)) (slots_of r)

apart_filter : (p : ℕ → Bool) (xs : List ℕ) → Apart xs → Apart (filter p xs)
apart_filter p [] h = tt
apart_filter p (x ∷ xs) h = by_test (p x) (apart_filter p xs h.1) where
  by_test : (b : Bool) → Apart (filter p xs) → Apart (cond b (x ∷ filter p xs) (filter p xs))
  by_test true k = (has_kept p xs x ∙ and_left (has xs x) (p x) h.0, k)
  by_test false k = k

pub apart_once : (xs : List ℕ) → Apart (once xs)
apart_once [] = tt
apart_once (x ∷ xs) = (has_kept (λ y. not (y == x)) (once xs) x ∙ last (has (once xs) x) (x == x) (eq-eqb x x refl), apart_filter (λ y. not (y == x)) (once xs) (apart_once xs)) where
  last : (a b : Bool) → b ≡ true → (a && not b) ≡ false
  last true b e = ap not e
  last false b e = refl
