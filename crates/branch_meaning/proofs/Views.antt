-- A frame whose store is at rest shows what is seen in the branch.
use Rattle.std.proofs.Common.{◌≡◌, ℕ, true, List, ◌++◌, Some}
use Rattle.fd_language.specs.Term.{Term, Var, Int, Atom, Comp, Substitution, apply}
use Rattle.fd_language.specs.Unifier.{Equation}
use Rattle.fd_language.specs.Family.{Family, has}
use Rattle.fd_language.specs.Range.{Indexical}
use Rattle.fd_model.specs.ClosedFamilies.{constrained}
use Rattle.fd_model.specs.BranchViews.{IsConsistent, IsView, seen, set_at}
use Rattle.fd_model.specs.Models.{IsModel}
use Rattle.fd_model.proofs.Lemmas.{closed_either, split_both}
use Rattle.branch_meaning.specs.Models.{numbers}
use Rattle.branch_meaning.specs.HeldBranches.{HeldState, IsHeld, IsAtRest}
use Rattle.branch_meaning.proofs.Models.{with_numbers, without_numbers}
use Rattle.branch_meaning.proofs.Store.{same_sets}
use Rattle.branch_meaning.proofs.SeenTerms.{seen_from_look, look_from_seen}
use Rattle.branch_meaning.proofs.AnswerVariables.{set_there, set_back}

-- both are variables, or the same integer or atom, or compound terms
abbrev pub SameKind : Term → Term → Type 0
SameKind (Var x) (Var y) = Unit {0}
SameKind (Int z) (Int w) = z ≡ w
SameKind (Atom a) (Atom b) = a ≡ b
SameKind (Comp f ts) (Comp g us) = Unit {0}
SameKind _ _ = ⊥

pub kind_both : (look back : Substitution) (t u : Term) → apply look t ≡ u → apply back u ≡ t → SameKind t u
kind_both look back (Var x) (Var y) e f = tt
kind_both look back (Var x) (Int z) e f = absurd (cc)
kind_both look back (Var x) (Atom a) e f = absurd (cc)
kind_both look back (Var x) (Comp g us) e f = absurd (cc)
kind_both look back (Int z) (Var y) e f = absurd (cc)
kind_both look back (Int z) (Int w) e f = cc
kind_both look back (Int z) (Atom a) e f = absurd (cc)
kind_both look back (Int z) (Comp g us) e f = absurd (cc)
kind_both look back (Atom a) (Var y) e f = absurd (cc)
kind_both look back (Atom a) (Int w) e f = absurd (cc)
kind_both look back (Atom a) (Atom b) e f = cc
kind_both look back (Atom a) (Comp g us) e f = absurd (cc)
kind_both look back (Comp g ts) (Var y) e f = absurd (cc)
kind_both look back (Comp g ts) (Int w) e f = absurd (cc)
kind_both look back (Comp g ts) (Atom b) e f = absurd (cc)
kind_both look back (Comp g ts) (Comp h us) e f = tt

module _ (M N : ℕ) (f : HeldState) (es : List Equation) (ps : List Indexical) (P : ℕ → Type 0) (look : Substitution) (h : IsHeld M N f es ps P look) (T : Family) (rest : IsAtRest M N f T)
    (s : Substitution) (D : Family) (v : IsView M N es ps s D) (c : IsConsistent M N es ps) where
  full : (x : ℕ) → has (constrained ps) x ≡ true → (n : ℕ) × (has (D x) n ≡ true)
  full x k = let g = c.some x k in (g.0, ((v.contains g.1.family (closed_either M N es s g.1.unifier ps g.1.family v.general g.1.general g.1.closed)).at x).each g.0 g.1.member)

  model : IsModel M N es ps D
  model = record { unifier = s; general = v.general; closed = v.closed; full = full }

  -- a constrained variable's set is that of its variable of the store
  pub view_sets : (x : ℕ) → has (constrained ps) x ≡ true → D x ≡ T (h.slot x)
  view_sets = same_sets M N (numbers h.fixed ++ es) ps P f.cells look f.link h.slot f.store h.stored D T (with_numbers M N es ps h.fixed D h.sure model)
      (λ R m. let w = without_numbers M N es ps h.fixed R m in v.contains R (closed_either M N es s w.unifier ps R v.general w.general w.closed)) rest.model rest.most

  -- what is seen comes from the heap's terms
  pub view_back : (back : Substitution) × ((x : ℕ) → P x → apply back (look x) ≡ seen s D (constrained ps) (Var x))
  view_back = seen_from_look M N es ps s D v full h.fixed h.sure P f.cells look h.stored.heap

  -- and they from what is seen
  pub view_look : (x : ℕ) → apply look (seen s D (constrained ps) (Var x)) ≡ look x
  view_look = look_from_seen M N es ps s D v full (numbers h.fixed) P f.cells look f.link h.slot f.store h.stored T rest.model view_sets rest.several

  look_s : (x : ℕ) → apply look (s x) ≡ look x
  look_s x = v.general.general look x (split_both look (numbers h.fixed) es h.stored.heap.unifies).1

  pub view_kind : (x : ℕ) → P x → SameKind (seen s D (constrained ps) (Var x)) (look x)
  view_kind x p = kind_both look view_back.0 (seen s D (constrained ps) (Var x)) (look x) (view_look x) (view_back.1 x p)

  -- an open variable's set is that of its cell, and it has none exactly where its cell isn't linked
  pub view_set_there : (d y : ℕ) (xs : List ℕ) → look y ≡ Var d → set_at s D (constrained ps) y ≡ Some xs → (k : ℕ) × (f.link d ≡ Some k) × (T k ≡ xs)
  view_set_there = set_there M N es (numbers h.fixed) ps s D v P f.cells look f.link h.slot f.store h.stored T rest.model view_sets look_s view_back.0 view_back.1

  pub view_set_back : (d y k : ℕ) → view_back.0 d ≡ Var y → f.link d ≡ Some k → set_at s D (constrained ps) y ≡ Some (T k)
  view_set_back = set_back M N es (numbers h.fixed) ps s D v P f.cells look f.link h.slot f.store h.stored T rest.model view_sets look_s view_back.0 view_back.1
