-- The functors of the heads of a text, as a set.
use Rattle.std.proofs.Common.{◌≡◌, ℕ, ◌<◌, Bool, true, false, cond, List, [], ◌∷◌, ◌++◌, Option, Some, None, length, refl, sym, ap, ◌∙◌}
use Rattle.std.proofs.Common.{arith}
use Rattle.std.specs.Prelude.{◌==◌, ◌&&◌, ◌||◌}
use Rattle.std.specs.List.{list_any}
use Rattle.std.proofs.lemmas.Bool.{and_parts}
use Rattle.std.proofs.lemmas.Bool.Decides.{nat_tests}
use Rattle.std.proofs.lemmas.List.Folds.{list_any-append}
use Rattle.std.proofs.Math.Bool.{or-false}
use Rattle.fd_language.specs.PlacedTerm.{PlacedTerm}
use Rattle.fd_model.specs.Refusals as refusals
use Rattle.fd_model.specs.Refusals.{is_that, is_defined, head_in, form_of}
use Rattle.term_pool.specs.declared.AtomId.{AtomId}
use Rattle.term_pool.specs.Contents.{Contents}
use Rattle.term_pool.specs.PoolInvariant.{IsPool}
use Rattle.indexmap.specs.IndexSet.{insert_key}
use Rattle.clause_check.specs.declared.terms.Functor.{Functor}
use Rattle.clause_check.specs.Heads.{same_numbers, AreHeadsOf}
use Rattle.clause_check.specs.Terms.{functor_in, IsFunctor}
use Rattle.term_pool.proofs.Lemmas.{same_id, same_names}

-- two functors of a pool are the same where their names have one number
same_in : (c : Contents) → IsPool c → (f g : Functor) → f.name.number < length c.names → g.name.number < length c.names → same_numbers f g ≡ refusals.same_functor (functor_in c f) (functor_in c g)
same_in c v f g h k = ap (λ (b : Bool). b && (f.arity == g.arity)) (same_names c v f.name g.name h k)

equal : (f g : Functor) → same_numbers f g ≡ true → f ≡ g
equal f g e =
    let names : f.name.number ≡ g.name.number = (let t = (and_parts (f.name.number == g.name.number) (f.arity == g.arity) e).0 in grind (arith, nat_tests)) in
    let arities : f.arity ≡ g.arity = (let t = (and_parts (f.name.number == g.name.number) (f.arity == g.arity) e).1 in grind (arith, nat_tests)) in
    ap (λ (a : AtomId). let made : Functor = record { name = a; arity = f.arity } in
    made) (same_id f.name g.name names) ∙ ap (λ (n : ℕ). let made : Functor = record { name = g.name; arity = n } in made) arities

-- what is among them when one more is put to them
any_insert : (heads : List Functor) (f g : Functor) → list_any (same_numbers f) (insert_key same_numbers heads g) ≡ (list_any (same_numbers f) heads || same_numbers f g)
any_insert heads f g = pick (list_any (same_numbers g) heads) refl
  where
    among : list_any (same_numbers g) heads ≡ true → (b : Bool) → same_numbers f g ≡ b → list_any (same_numbers f) heads ≡ (list_any (same_numbers f) heads || b)
    among h true e = let t : list_any (same_numbers f) heads ≡ true = ap (λ (x : Functor). list_any (same_numbers x) heads) (equal f g e) ∙ h in t ∙ sym (ap (λ (b : Bool). b || true) t)
    among h false e = sym (or-false (list_any (same_numbers f) heads))

    pick : (b : Bool) → list_any (same_numbers g) heads ≡ b → list_any (same_numbers f) (cond b heads (heads ++ g ∷ [])) ≡ (list_any (same_numbers f) heads || same_numbers f g)
    pick true e = among e (same_numbers f g) refl
    pick false e = list_any-append (same_numbers f) heads (g ∷ []) ∙ ap (λ (b : Bool). list_any (same_numbers f) heads || b) (or-false (same_numbers f g))

-- one sentence more
module _ (c : Contents) (terms : List PlacedTerm) (heads : List Functor) (x : PlacedTerm) (h : AreHeadsOf c terms heads) where
  abbrev head : Option refusals.Functor
  head = head_in (form_of x)

  defined_more : (f : refusals.Functor) → is_defined (terms ++ x ∷ []) f ≡ (is_defined terms f || is_that f head)
  defined_more f = list_any-append (λ t. is_that f (head_in (form_of t))) terms (x ∷ []) ∙ ap (λ (b : Bool). is_defined terms f || b) (or-false (is_that f head))

  -- that has no head
  pub heads_same : IsFunctor c head None → AreHeadsOf c (terms ++ x ∷ []) heads
  heads_same e f l = h f l ∙ sym (defined_more (functor_in c f)
      ∙ ap (λ (o : Option refusals.Functor). is_defined terms (functor_in c f) || is_that (functor_in c f) o) e ∙ or-false (is_defined terms (functor_in c f)))

  -- whose head has a functor
  pub heads_more : IsPool c → (g : Functor) → IsFunctor c head (Some g) → AreHeadsOf c (terms ++ x ∷ []) (insert_key same_numbers heads g)
  heads_more v g e f l =
      let own = functor_in c f in
      any_insert heads f g
      ∙ ap (λ (b : Bool). b || same_numbers f g) (h f l)
      ∙ ap (λ (b : Bool). is_defined terms own || b) (same_in c v f g l e.0)
      ∙ sym (defined_more own ∙ ap (λ (o : Option refusals.Functor). is_defined terms own || is_that own o) e.1)
