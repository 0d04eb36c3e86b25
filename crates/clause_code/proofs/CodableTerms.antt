-- The terms of a program are such that code can be written for them.
use Rattle.std.proofs.Common.{◌≡◌, ℕ, zero, suc, ◌<◌, Bool, true, if◌then◌else◌, List, [], ◌∷◌, Some, length, slice_get, slice_set, get_or, refl, ap, sym, ◌∙◌}
use Rattle.std.proofs.Common.{subst, arith}
use Rattle.std.proofs.lemmas.Option.{slice_get-get_or}
use Rattle.fd_language.specs.Term.{Term, Terms, Var, Int, Atom, Comp, no_terms, term}
use Rattle.fd_language.specs.Variables.{TermBelow, TermsBelow}
use Rattle.term_pool.specs.declared.AtomId.{AtomId}
use Rattle.term_pool.specs.declared.TermId.{TermId}
use Rattle.term_pool.specs.Contents.{Contents, Shape, var, int, atom, comp, Entry, atom_name}
use Rattle.term_pool.specs.Terms.{term_of, terms_by, shape_term}
use Rattle.term_pool.specs.PoolInvariant.{IsPool, IsWithin}
use Rattle.term_pool.proofs.Lemmas.{term_of_entry}
use Rattle.clause_code.specs.CodablePrograms.{IsNarrow, AreNarrow}
use Rattle.clause_code.specs.Steps.{Step, get_variable, unify_variable, put_variable, marked, marked_by, marked_by_all, HasAtom, Suits, AllSuit}
use Rattle.clause_code.specs.SimpleGoals.{AreMade}
use Rattle.clause_code.proofs.WrittenSteps.{atom_known}

-- the names of the term are the pool's
abbrev mutual
  pub IsNamed : Contents → Term → Type 0
  IsNamed c (Var x) = Unit {0}
  IsNamed c (Int z) = Unit {0}
  IsNamed c (Atom a) = HasAtom c a
  IsNamed c (Comp f ts) = HasAtom c f × AreNamed c ts

  pub AreNamed : Contents → Terms → Type 0
  AreNamed c no_terms = Unit {0}
  AreNamed c (term t ts) = IsNamed c t × AreNamed c ts

has_atom : (c : Contents) → IsPool c → (a : AtomId) → a.number < length c.names → HasAtom c (atom_name c a)
has_atom c valid a l = let e = atom_known c a valid l in record { name = ap (atom_name c) e; within = subst (λ (b : AtomId). b.number < length c.names) (sym e) l }

all_named : (c : Contents) (m : ℕ) (ts : List TermId) → ((t : TermId) → t.number < m → IsNamed c (term_of c t))
    → ((k : ℕ) (d : TermId) → k < length ts → (get_or ts k d).number < m) → AreNamed c (terms_by (term_of c) ts)
all_named c m [] f h = tt
all_named c m (t ∷ ts) f h = (f t (h 0 t (omega arith)), all_named c m ts f (λ k d l. h (suc k) d (omega (arith, l))))

shape_named : (c : Contents) → IsPool c → (m : ℕ) (s : Shape) → IsWithin (length c.names) m s → ((t : TermId) → t.number < m → IsNamed c (term_of c t)) → IsNamed c (shape_term c s)
shape_named c valid m (var x) w f = tt
shape_named c valid m (int z) w f = tt
shape_named c valid m (atom a) w f = has_atom c valid a w
shape_named c valid m (comp g ts) w f = (has_atom c valid g w.0, all_named c m ts f w.1)

named_below : (c : Contents) → IsPool c → (n : ℕ) (t : TermId) → t.number < n → t.number < length c.entries → IsNamed c (term_of c t)
named_below c valid zero t l m = absurd (omega (arith, l))
named_below c valid (suc n) t l m =
    let d : Entry = record { shape = var 0; place = 0 } in
    let e : Entry = get_or c.entries t.number d in
    let there : slice_get c.entries t.number ≡ Some e = slice_get-get_or c.entries t.number d m in
    subst (IsNamed c) (sym (term_of_entry c valid t e there))
    (shape_named c valid t.number e.shape (valid.within t.number e there) (λ u k. named_below c valid n u (omega (arith, k, l)) (omega (arith, k, m))))

mutual
  suits_by : (c : Contents) (v : ℕ) (t : Term) → IsNamed c t → TermBelow v t → IsNarrow t → Suits c v t
  suits_by c v (Var x) n b w = b
  suits_by c v (Int z) n b w = tt
  suits_by c v (Atom a) n b w = n
  suits_by c v (Comp f ts) n b w = (n.0, w.0, w.1, all_suit_by c v ts n.1 b w.2)

  all_suit_by : (c : Contents) (v : ℕ) (ts : Terms) → AreNamed c ts → TermsBelow v ts → AreNarrow ts → AllSuit c v ts
  all_suit_by c v no_terms n b w = tt
  all_suit_by c v (term t ts) n b w = (suits_by c v t n.0 b.0 w.0, all_suit_by c v ts n.1 b.1 w.1)

-- A term of the pool with variables below v, and not too many arguments.
pub term_suits : (c : Contents) → IsPool c → (v : ℕ) (t : TermId) → t.number < length c.entries → TermBelow v (term_of c t) → IsNarrow (term_of c t) → Suits c v (term_of c t)
term_suits c valid v t l b w = suits_by c v (term_of c t) (named_below c valid (suc t.number) t (omega arith) l) b w

-- Where all are made, none is marked.
pub made_same : (made : List Bool) (ss : List Step) → AreMade made → marked_by_all made ss ≡ made
made_same made [] a = refl
made_same made (s ∷ ss) a = ap (λ m. marked_by_all m ss) (one s) ∙ made_same made ss a
  where
    mark : (x : ℕ) → marked made x ≡ made
    mark x = ap (λ c. if c then made else slice_set made x true) (a x)

    one : (s : Step) → marked_by made s ≡ made
    one (get_variable x r) = mark x
    one (unify_variable x) = mark x
    one (put_variable x r) = mark x
    one _ = refl
