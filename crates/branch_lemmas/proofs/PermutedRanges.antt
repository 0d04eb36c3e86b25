-- Posted ranges in another order: they name the same variables, and they have the same models.
use Rattle.std.proofs.Common.{◌≡◌, ℕ, zero, suc, ◌<◌, ◌≤◌, true, ◌==◌, List, [], ◌∷◌, ◌++◌, length, All, get_or, refl, sym, ◌∙◌, subst, inl, inr, arith}
use Rattle.std.specs.List.{Contains}
use Rattle.std.specs.List.Sorted.{IsPermutation}
use Rattle.std.proofs.lemmas.Bool.{or_cases, or_left, or_right, true≢false}
use Rattle.std.proofs.lemmas.List.Elements.{All-nil, All-cons, All-head, All-tail, Contains-append_right}
use Rattle.std.proofs.lemmas.List.Sorted.{IsPermutation-sym, All-permutation, Contains-permutation}
use Rattle.fd_language.specs.Term.{Var}
use Rattle.fd_language.specs.Family.{Family, has, IsSubset}
use Rattle.fd_language.specs.Range.{Indexical, reads, set_of}
use Rattle.fd_language.proofs.Lemmas.{identity, has_either, in_left, in_right}
use Rattle.fd_model.specs.Answers.{Somewhere}
use Rattle.fd_model.specs.ClosedFamilies.{AllPosted, constrained}
use Rattle.fd_model.specs.Models.{IsModel}
use Rattle.fd_model.proofs.Lemmas.{closed_without}
use Rattle.branch_meaning.specs.Store.{names}

-- ---- what holds of all, and of one

posted_all : (H : Indexical → Type 0) (ps : List Indexical) → AllPosted H ps → All H ps
posted_all H [] h = All-nil H
posted_all H (p ∷ ps) h = All-cons H p ps h.0 (posted_all H ps h.1)

all_posted : (H : Indexical → Type 0) (ps : List Indexical) → All H ps → AllPosted H ps
all_posted H [] a = tt
all_posted H (p ∷ ps) a = (All-head H p ps a, all_posted H ps (All-tail H p ps a))

posted_permuted : (H : Indexical → Type 0) (ps qs : List Indexical) → IsPermutation ps qs → AllPosted H ps → AllPosted H qs
posted_permuted H ps qs o h = all_posted H qs (All-permutation H ps qs o (posted_all H ps h))

some_contains : (H : Indexical → Type 0) (ps : List Indexical) → Somewhere H ps → (p : Indexical) × Contains ps p × H p
some_contains H [] s = absurd s
some_contains H (p ∷ ps) (inl h) = (p, (0, omega arith, refl), h)
some_contains H (p ∷ ps) (inr s) = (let w = some_contains H ps s in (w.0, Contains-append_right (p ∷ []) ps w.0 w.1, w.2))

contains_some : (H : Indexical → Type 0) (ps : List Indexical) (p : Indexical) (k : ℕ) → k < length ps → get_or ps k p ≡ p → H p → Somewhere H ps
contains_some H [] p k l e h = absurd (omega (arith, l))
contains_some H (q ∷ ps) p zero l e h = inl (subst H (sym e) h)
contains_some H (q ∷ ps) p (suc k) l e h = inr (contains_some H ps p k (omega (arith, l)) e h)

-- what holds of one of them
pub some_permuted : (H : Indexical → Type 0) (ps qs : List Indexical) → IsPermutation ps qs → Somewhere H ps → Somewhere H qs
some_permuted H ps qs o s =
    let w = some_contains H ps s in
    let there = Contains-permutation ps qs w.0 o w.1 in
    contains_some H qs w.0 there.0 there.1 there.2 w.2

-- ---- the variables that are named

some_named : (ps : List Indexical) (x : ℕ) → has (constrained ps) x ≡ true → Somewhere (λ p. has (names p) x ≡ true) ps
some_named [] x h = absurd (true≢false (sym h))
some_named (p ∷ ps) x h = elim (has_either (names p) (constrained ps) x h) [ inl a ↦ inl a | inr a ↦ inr (some_named ps x a) ]

named_some : (ps : List Indexical) (x : ℕ) → Somewhere (λ p. has (names p) x ≡ true) ps → has (constrained ps) x ≡ true
named_some [] x s = absurd s
named_some (p ∷ ps) x (inl h) = in_left (names p) (constrained ps) x h
named_some (p ∷ ps) x (inr s) = in_right (names p) (constrained ps) x (named_some ps x s)

pub named_permuted : (ps qs : List Indexical) → IsPermutation ps qs → (x : ℕ) → has (constrained ps) x ≡ true → has (constrained qs) x ≡ true
named_permuted ps qs o x h = named_some qs x (some_permuted (λ p. has (names p) x ≡ true) ps qs o (some_named ps x h))

-- ---- the models

pub model_permuted : (M N : ℕ) (ps qs : List Indexical) → IsPermutation ps qs → (T : Family) → IsModel M N [] ps T → IsModel M N [] qs T
model_permuted M N ps qs o T m =
    let back : (x : ℕ) → has (constrained qs) x ≡ true → has (constrained ps) x ≡ true = named_permuted qs ps (IsPermutation-sym ps qs o) in
    record {
      unifier = Var;
      general = identity;
      closed = closed_without M N qs T m.closed.family (posted_permuted (λ p. IsSubset (T p.target) (set_of M T p.range)) ps qs o m.closed.posted)
          (λ x n c h. m.closed.within x n (back x c) h);
      full = λ x c. m.full x (back x c);
    }
