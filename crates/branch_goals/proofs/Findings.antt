-- What built-in goals come to.
use Rattle.std.proofs.Common.{◌≡◌, ℕ, Bool, true, false, ◌&&◌, ◌||◌, eq-eqb, eqb-true, ℤ, pos, List, [], ◌∷◌, length, Option, Some, None, Ok, Err, inl, inr}
use Rattle.std.proofs.Common.{refl, ap, sym, ◌∙◌, subst}
use Rattle.std.specs.Prelude.{MatchOption}
use Rattle.std.specs.Option.{unwrap_or}
use Rattle.std.specs.Str.{bytes_eq}
use Rattle.std.proofs.lemmas.Bool.{cases_Bool, and_parts}
use Rattle.std.proofs.lemmas.Bool.Decides.{Decides-int_eq}
use Rattle.std.proofs.lemmas.Slice.Eq.{bytes_eq-Decides}
use Rattle.fd_language.specs.Family.{Family}
use Rattle.fd_language.specs.Range.{greatest as greatest_of}
use Rattle.fd_language.specs.Term.{Term, Terms, Var, Int, Atom, Comp, no_terms, term}
use Rattle.fd_language.proofs.Lemmas.{two}
use Rattle.fd_model.specs.Arithmetic.{Value, value_of}
use Rattle.fd_model.specs.Builtins.{decided, equated, evaluated, checked_value, compared, found, is_same, are_same, is_integer, is_atom, is_atomic, those}
use Rattle.fd_model.specs.Builtins.{numbers_of, equals_number, equals_value, greatest_number, last_of, set_numbers}
use Rattle.fd_model.specs.Levels.{Levels}
use Rattle.fd_model.specs.declared.kinds.BuiltinKind.{BuiltinKind}
use Rattle.fd_model.specs.declared.kinds.BuiltinKind.TheVariants as kind
use Rattle.fd_model.specs.declared.kinds.QueryFault.{QueryFault}
use Rattle.fd_model.specs.declared.kinds.QueryFault.TheVariants.{Instantiation, BadType}
use Rattle.heap_cells.specs.declared.Cell.{Cell}
use Rattle.heap_cells.specs.declared.Cell.TheVariants as cell
use Rattle.heap_cells.specs.Cells.{Cells, Heaps, free, linked, slot_at, compound_at}
use Rattle.heap_cells.specs.Terms.{Naming, IsOneToOne, Same, term_of}
use Rattle.heap_cells.specs.HeapInvariant.{IsHeap}
use Rattle.heap_cells.proofs.Lemmas.{shown_atom, shown_compound, shown_free, shown_int, shown_linked, term-Int}
use Rattle.range_code.specs.Frames.{family_of}
use Rattle.builtin_calls.specs.Outcomes.{IsFault}
use Rattle.builtin_calls.specs.declared.evaluation.EvalFault.{EvalFault}
use Rattle.builtin_calls.specs.declared.evaluation.EvalFault.TheVariants as eval
use Rattle.builtin_calls.specs.Identity.{TellsIdentical}
use Rattle.fd_language.specs.SingleValues.{value_in}
use Rattle.branch_meaning.specs.HeldBranches.{link_at}
use Rattle.branch_meaning.specs.HeldBranches as held
use Rattle.branch_meaning.specs.AnswerTexts.{cell_set}
use Rattle.branch_lemmas.specs.Frames.{link_of, link_in}
use Rattle.branch_state.specs.States.{State, IsCell, IsSound}
use Rattle.branch_goals.specs.declared.builtin_findings.Found.TheVariants.{Fault, Decided, Equal}
use Rattle.branch_goals.specs.declared.builtin_findings.Numbers.{Numbers as Held}
use Rattle.branch_goals.specs.declared.builtin_findings.Numbers.TheVariants.{One}
use Rattle.heap_cells.specs.SeenTerms.{HasLinksBelow, seen_term}
use Rattle.branch_goals.specs.Findings.{Finds, IsValueAt, AreValuesAt, AreNumbersAt, IsComparison, IsQuestion, fault_is, holds_by, seen_at, the_numbers}
use Rattle.branch_goals.specs.Findings.{told_by, numbers_in_set}
use Rattle.term_pool.specs.declared.AtomId.{AtomId}

pub links_below : (s : State) → IsSound s → (hs : Heaps) (ls : Levels) → hs ≡ s.heaps → ls ≡ s.levels → HasLinksBelow (length ls.current.sets) hs.now
links_below s sound hs ls e f = subst (λ (l : Levels). HasLinksBelow (length l.current.sets) hs.now) (sym f)
    (subst (λ (h : Heaps). HasLinksBelow (length s.levels.current.sets) h.now) (sym e) sound.now.linked)

-- ---- values

pub value_by : (name : Naming) (s : State) (hs : Heaps) (ls : Levels) → hs ≡ s.heaps → ls ≡ s.levels → (c : Cell) (P : Value → Type 0)
    → P (value_of (seen_term name hs.now (family_of ls.current.sets) c)) → P (value_of (seen_at name s c))
value_by name s hs ls e f c P p =
    subst (λ (l : Levels). P (value_of (seen_term name s.heaps.now (family_of l.current.sets) c))) f (subst (λ (h : Heaps). P (value_of (seen_term name h.now (family_of ls.current.sets) c))) e p)

pub fault_value : (e : EvalFault) (v : Value) (f : QueryFault) → IsFault e v → fault_is e f → checked_value v ≡ Err f
fault_value eval.Unbound v f i g = ap checked_value i ∙ ap Err (sym g)
fault_value eval.NotANumber v f i g = ap checked_value i ∙ ap Err (sym g)
fault_value eval.Overflow v f i g = ap checked_value i ∙ ap Err (sym g)
fault_value eval.ZeroDivisor v f i g = ap checked_value i ∙ ap Err (sym g)
fault_value eval.NoMemory v f i g = absurd g

found_compared : (k : BuiltinKind) → IsComparison k → (sets : ℕ → Option (List ℕ)) (a b u v : Term) → found k sets a b u v ≡ compared (holds_by k) (evaluated u) (evaluated v)
found_compared kind.True i sets a b u v = absurd i
found_compared kind.Fail i sets a b u v = absurd i
found_compared kind.False i sets a b u v = absurd i
found_compared kind.Unify i sets a b u v = absurd i
found_compared kind.Same i sets a b u v = absurd i
found_compared kind.NotSame i sets a b u v = absurd i
found_compared kind.Is i sets a b u v = absurd i
found_compared kind.NumEqual i sets a b u v = refl
found_compared kind.NumDiffer i sets a b u v = refl
found_compared kind.NumLess i sets a b u v = refl
found_compared kind.NumAtMost i sets a b u v = refl
found_compared kind.NumGreater i sets a b u v = refl
found_compared kind.NumAtLeast i sets a b u v = refl
found_compared kind.Var i sets a b u v = absurd i
found_compared kind.Nonvar i sets a b u v = absurd i
found_compared kind.Integer i sets a b u v = absurd i
found_compared kind.Atom i sets a b u v = absurd i
found_compared kind.Atomic i sets a b u v = absurd i
found_compared kind.Compound i sets a b u v = absurd i
found_compared kind.Write i sets a b u v = absurd i
found_compared kind.Nl i sets a b u v = absurd i
found_compared kind.FdMin i sets a b u v = absurd i
found_compared kind.FdMax i sets a b u v = absurd i
found_compared kind.FdSize i sets a b u v = absurd i
found_compared kind.FdDom i sets a b u v = absurd i

module _ (name : Naming) (s : State) (k : BuiltinKind) (a b : Cell) where
  abbrev sets : ℕ → Option (List ℕ)
  sets d = cell_set (family_of s.levels.current.sets) (link_at (link_in s.heaps.now d) (family_of s.levels.current.sets))

  abbrev A : Term
  A = term_of name s.heaps.now a

  abbrev B : Term
  B = term_of name s.heaps.now b

  pub compare_fault : IsComparison k → (f : QueryFault) → AreValuesAt name s a b (Err f) → Finds name s k a b (Fault f)
  compare_fault i f e = found_compared k i sets A B (seen_at name s a) (seen_at name s b) ∙ e (holds_by k)

  pub compare_told : IsComparison k → (z w : ℤ) → AreValuesAt name s a b (Ok (z, w)) → (r : Bool) → r ≡ holds_by k z w → Finds name s k a b (Decided r)
  compare_told i z w e r h = found_compared k i sets A B (seen_at name s a) (seen_at name s b) ∙ two (compared (holds_by k)) e.0 e.1 ∙ ap decided (sym h)

-- ---- numbers

module _ (name : Naming) (h : Cells) (valid : IsHeap h) (all : List (List ℕ)) (c : Cell) where
  abbrev G : Family
  G = family_of all

  abbrev given : ℕ → Option (List ℕ)
  given d = cell_set G (link_at (link_in h d) G)

  pub numbers_free : (i : ℕ) → slot_at h i ≡ free → Same h c (cell.Ref i) → AreNumbersAt name h all c (Err Instantiation)
  numbers_free i e s = ap (numbers_of given) (shown_free name h valid G c i e s) ∙ ap (λ o. set_numbers (cell_set G (link_at o G))) (ap link_of e)

  in_set : (xs : List ℕ) (k i : ℕ) → G k ≡ xs → link_in h i ≡ Some k → numbers_of given (value_in xs i) ≡ Ok (numbers_in_set xs)
  in_set [] k i g e = ap (λ o. set_numbers (cell_set G (link_at o G))) e ∙ ap (λ ys. set_numbers (cell_set G (held.open_link ys k))) g ∙ ap (λ ys. Ok (those ys)) g
  in_set (w ∷ []) k i g e = refl
  in_set (x ∷ y ∷ ys) k i g e = ap (λ o. set_numbers (cell_set G (link_at o G))) e ∙ ap (λ zs. set_numbers (cell_set G (held.open_link zs k))) g ∙ ap (λ zs. Ok (those zs)) g

  pub numbers_linked : (i k : ℕ) (n : Held) → slot_at h i ≡ linked k → Same h c (cell.Ref i) → the_numbers n ≡ numbers_in_set (G k) → AreNumbersAt name h all c (Ok n)
  numbers_linked i k n e s g = ap (numbers_of given) (shown_linked name h valid G c i k e s) ∙ in_set (G k) k i refl (ap link_of e) ∙ ap Ok (sym g)

  pub numbers_int : (z : ℤ) → Same h c (cell.Int z) → AreNumbersAt name h all c (Ok (One z))
  numbers_int z s = ap (numbers_of given) (shown_int name h valid G c z s)

  pub numbers_atom : (a : AtomId) → Same h c (cell.Atom a) → AreNumbersAt name h all c (Err BadType)
  numbers_atom a s = ap (numbers_of given) (shown_atom name h valid G c a s)

  pub numbers_compound : (f : AtomId) (args : List Cell) (j : ℕ) → compound_at h j ≡ record { name = f; args = args } → Same h c (cell.Struct j) → AreNumbersAt name h all c (Err BadType)
  numbers_compound f args j e s = ap (numbers_of given) (shown_compound name h valid G c f args j e s)

asked : (k : BuiltinKind) → IsQuestion k → (sets : ℕ → Option (List ℕ)) (a b u v : Term) → found k sets a b u v ≡ equals_number (λ ns. Int (told_by k ns)) b (numbers_of sets u)
asked kind.FdMin i sets a b u v = refl
asked kind.FdMax i sets a b u v = refl
asked kind.FdSize i sets a b u v = refl
asked kind.True i sets a b u v = absurd i
asked kind.Fail i sets a b u v = absurd i
asked kind.False i sets a b u v = absurd i
asked kind.Unify i sets a b u v = absurd i
asked kind.Same i sets a b u v = absurd i
asked kind.NotSame i sets a b u v = absurd i
asked kind.Is i sets a b u v = absurd i
asked kind.NumEqual i sets a b u v = absurd i
asked kind.NumDiffer i sets a b u v = absurd i
asked kind.NumLess i sets a b u v = absurd i
asked kind.NumAtMost i sets a b u v = absurd i
asked kind.NumGreater i sets a b u v = absurd i
asked kind.NumAtLeast i sets a b u v = absurd i
asked kind.Var i sets a b u v = absurd i
asked kind.Nonvar i sets a b u v = absurd i
asked kind.Integer i sets a b u v = absurd i
asked kind.Atom i sets a b u v = absurd i
asked kind.Atomic i sets a b u v = absurd i
asked kind.Compound i sets a b u v = absurd i
asked kind.Write i sets a b u v = absurd i
asked kind.Nl i sets a b u v = absurd i
asked kind.FdDom i sets a b u v = absurd i

module _ (name : Naming) (s : State) (valid : IsHeap s.heaps.now) (k : BuiltinKind) (i : IsQuestion k) (of is : Cell) where
  pub asked_told : IsCell s is → (n : Held) (z : ℤ) → AreNumbersAt name s.heaps.now s.levels.current.sets of (Ok n) → z ≡ told_by k (the_numbers n) → Finds name s k of is (Equal is (cell.Int z))
  asked_told own n z e h = (
    own,
    (tt, tt),
    asked k i (sets name s k of is) (A name s k of is) (B name s k of is) (seen_at name s of) (seen_at name s is)
        ∙ ap (equals_number (λ ns. Int (told_by k ns)) (B name s k of is)) e
        ∙ ap (equated (B name s k of is)) (ap Int (sym h) ∙ sym (term-Int name s.heaps.now valid z)),
  )

-- ---- identity

mutual
  same_self : (t : Term) → is_same t t ≡ true
  same_self (Var x) = eq-eqb x x refl
  same_self (Int z) = (Decides-int_eq z z).1 refl
  same_self (Atom a) = (bytes_eq-Decides a a).1 refl
  same_self (Comp f ts) = two (λ x y. x && y) ((bytes_eq-Decides f f).1 refl) (all_self ts)

  all_self : (ts : Terms) → are_same ts ts ≡ true
  all_self no_terms = refl
  all_self (term t ts) = two (λ x y. x && y) (same_self t) (all_self ts)

mutual
  is_one : (t u : Term) → is_same t u ≡ true → t ≡ u
  is_one (Var x) (Var y) e = ap Var (eqb-true x y e)
  is_one (Int z) (Int w) e = ap Int ((Decides-int_eq z w).0 e)
  is_one (Atom a) (Atom b) e = ap Atom ((bytes_eq-Decides a b).0 e)
  is_one (Comp f ts) (Comp g us) e = let p = and_parts (bytes_eq f g) (are_same ts us) e in two Comp ((bytes_eq-Decides f g).0 p.0) (are_one ts us p.1)
  is_one (Var x) (Int z) e = absurd (cc)
  is_one (Var x) (Atom a) e = absurd (cc)
  is_one (Var x) (Comp f ts) e = absurd (cc)
  is_one (Int z) (Var x) e = absurd (cc)
  is_one (Int z) (Atom a) e = absurd (cc)
  is_one (Int z) (Comp f ts) e = absurd (cc)
  is_one (Atom a) (Var x) e = absurd (cc)
  is_one (Atom a) (Int z) e = absurd (cc)
  is_one (Atom a) (Comp f ts) e = absurd (cc)
  is_one (Comp f ts) (Var x) e = absurd (cc)
  is_one (Comp f ts) (Int z) e = absurd (cc)
  is_one (Comp f ts) (Atom a) e = absurd (cc)

  are_one : (ts us : Terms) → are_same ts us ≡ true → ts ≡ us
  are_one no_terms no_terms e = refl
  are_one (term t ts) (term u us) e = let p = and_parts (is_same t u) (are_same ts us) e in two term (is_one t u p.0) (are_one ts us p.1)
  are_one no_terms (term u us) e = absurd (cc)
  are_one (term t ts) no_terms e = absurd (cc)

pub told_identical : (name : Naming) → IsOneToOne name → (s : State) (a b : Cell) (r : Bool)
    → TellsIdentical s.heaps.now (family_of s.levels.current.sets) a b r → r ≡ is_same (seen_at name s a) (seen_at name s b)
told_identical name n s a b true t =
    sym (ap (is_same (seen_at name s a)) (sym (t name)) ∙ same_self (seen_at name s a))
told_identical name n s a b false t = elim (cases_Bool (is_same (seen_at name s a) (seen_at name s b))) [
  | inl y ↦ absurd (t name n (is_one (seen_at name s a) (seen_at name s b) y))
  | inr y ↦ sym y
]

-- ---- tests of types

pub atomic_is : (t : Term) → (is_integer t || is_atom t) ≡ is_atomic t
atomic_is (Var x) = refl
atomic_is (Int z) = refl
atomic_is (Atom a) = refl
atomic_is (Comp f ts) = refl

-- ---- the other goals

module _ (name : Naming) (s : State) (k : BuiltinKind) (a b : Cell) where
  pub is_told : IsHeap s.heaps.now → IsCell s a → kind.Is ≡ k → (z : ℤ) → IsValueAt name s b (Ok z) → Finds name s k a b (Equal a (cell.Int z))
  is_told valid own e z v =
      subst (λ j. Finds name s j a b (Equal a (cell.Int z))) e
      (own, (tt, tt), ap (equals_value (term_of name s.heaps.now a)) v ∙ ap (equated (term_of name s.heaps.now a)) (sym (term-Int name s.heaps.now valid z)))

-- the greatest of a rising list is its last
pub last_is : (n : ℕ) (ns : List ℕ) → last_of n ns ≡ greatest_of (n ∷ ns)
last_is n [] = refl
last_is n (m ∷ ms) = last_is m ms

pub greatest_is : (xs : List ℕ) → greatest_number (those xs) ≡ pos (greatest_of xs)
greatest_is [] = refl
greatest_is (x ∷ xs) = ap pos (last_is x xs)

pub greatest_or : (xs : List ℕ) (o : Option ℕ) → MatchOption o (xs ≡ []) (λ n. n ≡ greatest_of xs) → unwrap_or o 0 ≡ greatest_of xs
greatest_or xs None e = sym (ap greatest_of e)
greatest_or xs (Some n) e = e
