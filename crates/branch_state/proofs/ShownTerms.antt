-- What is shown of cells.
use Rattle.std.proofs.Common.{◌≡◌, ℕ, suc, ◌+◌, ◌<◌, ◌==◌, nat_eq, Bool, true, false, cond, not, List, [], ◌∷◌, ◌++◌, length, length-append, filter, map}
use Rattle.std.proofs.Common.{reverse, take, get_or, Option, Some, None, MatchOption, refl, ap, sym, ◌∙◌, subst, arith, append-nil, append_assoc}
use Rattle.std.specs.Prelude.{All}
use Rattle.std.specs.List.{list_any}
use Rattle.std.proofs.lemmas.Bool.{true≢false}
use Rattle.std.proofs.lemmas.List.{reverse-append, map_push, reverse-reverse}
use Rattle.std.proofs.lemmas.List.Elements.{All-append, filter_agree}
use Rattle.branch_state.proofs.RangeSlots.{take_next}
use Rattle.monotone_check.proofs.Lemmas.{eq_sym}
use Rattle.fd_language.specs.Family.{has}
use Rattle.fd_language.specs.Needs.{once}
use Rattle.fd_language.specs.Term.{Name, Term, Terms, Var, term}
use Rattle.fd_language.specs.Variables.{variables_of, variables_of_all, distinct}
use Rattle.fd_model.specs.Lines.{as_terms}
use Rattle.heap_cells.specs.declared.Cell.{Cell}
use Rattle.heap_cells.specs.Atoms.{IsAtomBelow, HasAtomsBelow}
use Rattle.heap_cells.specs.Cells.{Cells, IsOf}
use Rattle.heap_cells.specs.HeapInvariant.{IsHeap}
use Rattle.heap_cells.proofs.Lemmas.{head_of, tail_of, none_at_all, both_of, all_front, last_of, all_reverse}
use Rattle.heap_cells.specs.SeenTerms.{read_term, seen_term}
use Rattle.term_pool.specs.declared.AtomId.{AtomId}
use Rattle.term_pool.specs.declared.TermId.{TermId}
use Rattle.term_pool.specs.declared.Node.{Node}
use Rattle.term_pool.specs.declared.Node.TheVariants as node
use Rattle.term_pool.specs.Contents.{Contents, comp, name_in}
use Rattle.term_pool.specs.Terms as pool
use Rattle.term_pool.specs.Terms.{KeepsTerms, Extends, total_size}
use Rattle.term_pool.specs.PoolInvariant.{shape_of}
use Rattle.term_pool.proofs.Lemmas.{rest_is_smaller, parts_are_smaller, total_size-append, total_size-cons, total_size-nil}
use Rattle.fd_language.proofs.Lemmas.{two}
use Rattle.range_code.specs.Frames.{family_of}
use Rattle.range_code.proofs.Lemmas.{once_more, keys_more, has_once, any_has}
use Rattle.branch_lemmas.specs.AtomNames.{full}
use Rattle.branch_lemmas.proofs.Lemmas.{full_term}
use Rattle.branch_state.specs.ShownTerms.{terms_read, with_set, with_sets, variables_at, AreShowable, AreGathered}

-- ---- a cell as it is read

pub term_read : (names : List Name) (h : Cells) (sets : List (List ℕ)) → IsHeap h → HasAtomsBelow (length names) h → (c : Cell) → IsOf h c
    → IsAtomBelow (length names) c → seen_term (name_in names) h (family_of sets) c ≡ seen_term (full names) h (family_of sets) c
term_read names h sets valid atoms c own low = ap (read_term h (family_of sets)) (sym (full_term names h valid atoms c own low))

pub all_read : (names : List Name) (h : Cells) (sets : List (List ℕ)) → IsHeap h → HasAtomsBelow (length names) h → (cs : List Cell)
    → AreShowable (length names) h cs → map (seen_term (name_in names) h (family_of sets)) cs ≡ terms_read names h sets cs
all_read names h sets valid atoms [] a = refl
all_read names h sets valid atoms (c ∷ cs) a =
    let one = head_of (λ c. IsOf h c × IsAtomBelow (length names) c) c cs a in
    two (λ (t : Term) (l : List Term). t ∷ l) (term_read names h sets valid atoms c one.0 one.1) (all_read names h sets valid atoms cs (tail_of (λ c. IsOf h c × IsAtomBelow (length names) c) c cs a))

-- one cell more
abbrev Own : Contents → TermId → Type 0
Own p t = t.number < length p.entries

map_kept : (p q : Contents) (ts : List TermId) → KeepsTerms p q → All (Own p) ts → map (pool.term_of q) ts ≡ map (pool.term_of p) ts
map_kept p q [] k a = refl
map_kept p q (t ∷ ts) k a = ap (λ (u : Term). u ∷ map (pool.term_of q) ts) (k t (head_of (Own p) t ts a)) ∙ ap (λ (l : List Term). pool.term_of p t ∷ l) (map_kept p q ts k (tail_of (Own p) t ts a))

wider : (p q : Contents) → Extends p q → (t : TermId) → Own p t → Own q t
wider p q x t o = let e = ap length x.entries.1 in let l = length-append p.entries x.entries.0 in omega (arith, e, l, o)

pub read_more : (f : Cell → Term) (cs : List Cell) (i : ℕ) (d : Cell) → i < length cs → (p q : Contents) (ts new : List TermId) (t : TermId) → KeepsTerms p q
    → Extends p q → All (Own p) ts → map (pool.term_of p) ts ≡ map f (take i cs) → Own q t → pool.term_of q t ≡ f (get_or cs i d) → new ≡ ts ++ t ∷ []
    → All (Own q) new × (map (pool.term_of q) new ≡ map f (take (i + 1) cs))
read_more f cs i d l p q ts new t k x own e o is n = (
  subst (All (Own q)) (sym n) (All-append (Own q) ts (t ∷ []) (λ j u m. wider p q x (get_or ts j u) (own j u m)) (both_of (Own q) t [] o (none_at_all (Own q)))),
  ap (map (pool.term_of q)) n ∙ map_push (pool.term_of q) ts t ∙ ap (λ (l : List Term). l ++ pool.term_of q t ∷ []) (map_kept p q ts k own ∙ e) ∙ ap (λ (u : Term). map f (take i cs) ++ u ∷ []) is
      ∙ sym (ap (map f) (ap (λ m. take m cs) (let g : i + 1 ≡ suc i = omega arith in g) ∙ take_next cs i d l) ∙ map_push f (take i cs) (get_or cs i d)),
)

-- ---- the variables of terms

terms_same : (by : TermId → Term) (ts : List TermId) → as_terms (map by ts) ≡ pool.terms_by by ts
terms_same by [] = refl
terms_same by (t ∷ ts) = ap (term (by t)) (terms_same by ts)

at_append : (p : Contents) (ts us : List TermId) → variables_at p (ts ++ us) ≡ variables_at p ts ++ variables_at p us
at_append p [] us = refl
at_append p (t ∷ ts) us = ap (λ l. variables_of (pool.term_of p t) ++ l) (at_append p ts us) ∙ sym (append_assoc (variables_of (pool.term_of p t)) (variables_at p ts) (variables_at p us))

-- so far: those found, and those of the terms ahead, of which the last is the next
pub record IsFinding (p : Contents) (all : List ℕ) (found : List ℕ) (ahead : List TermId) : Type 0 where
  pub own : All (Own p) ahead
  pub rest : all ≡ found ++ variables_at p (reverse ahead)

pub finding_first : (p : Contents) (ts ahead : List TermId) → All (Own p) ts → ahead ≡ reverse ts → IsFinding p (variables_at p ts) [] ahead
finding_first p ts ahead a e = subst (IsFinding p (variables_at p ts) []) (sym e) (record { own = all_reverse (Own p) ts a; rest = ap (variables_at p) (sym (reverse-reverse ts)) })

module _ (p : Contents) (all found : List ℕ) (ahead rest : List TermId) (t : TermId) (split : ahead ≡ rest ++ t ∷ []) (w : IsFinding p all found ahead) where
  pub next_own : Own p t
  next_own = last_of (Own p) rest t (subst (All (Own p)) split w.own)

  rest_own : All (Own p) rest
  rest_own = all_front (Own p) rest (t ∷ []) (subst (All (Own p)) split w.own)

  turned : all ≡ found ++ (variables_of (pool.term_of p t) ++ variables_at p (reverse rest))
  turned = w.rest ∙ ap (λ l. found ++ variables_at p l) (ap reverse split ∙ reverse-append rest (t ∷ []))

  pub finding_var : (x : ℕ) (now : List ℕ) → pool.term_of p t ≡ Var x → now ≡ found ++ x ∷ [] → IsFinding p all now rest
  finding_var x now is e = record {
    own = rest_own;
    rest = turned ∙ ap (λ u. found ++ (variables_of u ++ variables_at p (reverse rest))) is ∙ sym (append_assoc found (x ∷ []) (variables_at p (reverse rest)))
        ∙ ap (λ l. l ++ variables_at p (reverse rest)) (sym e);
  }

  pub finding_parts : (f : AtomId) (parts now : List TermId) → pool.term_of p t ≡ pool.shape_term p (comp f parts) → All (λ q. q.number < t.number) parts
      → now ≡ rest ++ reverse parts → IsFinding p all found now
  finding_parts f parts now is low e = subst (IsFinding p all found) (sym e) (record {
    own = All-append (Own p) rest (reverse parts) rest_own (all_reverse (Own p) parts (λ k d l. (let a : (get_or parts k d).number < t.number = low k d l in let b = next_own in omega (arith, a, b))));
    rest = turned ∙ ap (λ u. found ++ (variables_of u ++ variables_at p (reverse rest))) is
        ∙ ap (λ (u : Terms). found ++ (variables_of_all u ++ variables_at p (reverse rest))) (sym (terms_same (pool.term_of p) parts))
        ∙ ap (λ l. found ++ l) (sym (at_append p parts (reverse rest)))
        ∙ ap (λ l. found ++ variables_at p l) (sym (reverse-append rest (reverse parts) ∙ ap (λ l. l ++ reverse rest) (reverse-reverse parts)));
  })

  pub finding_leaf : (y : Node) → pool.term_of p t ≡ pool.shape_term p (shape_of y) → ((x : ℕ) → y ≡ node.Var x → ⊥) → ((f : _) (ts : _) → y ≡ node.Comp f ts → ⊥) → IsFinding p all found rest
  finding_leaf (node.Var x) is v c = absurd (v x refl)
  finding_leaf (node.Comp f ts) is v c = absurd (c f ts refl)
  finding_leaf (node.Int z) is v c = record { own = rest_own; rest = turned ∙ ap (λ u. found ++ (variables_of u ++ variables_at p (reverse rest))) is }
  finding_leaf (node.Atom a) is v c = record { own = rest_own; rest = turned ∙ ap (λ u. found ++ (variables_of u ++ variables_at p (reverse rest))) is }

size_reverse : (p : Contents) (ts : List TermId) → total_size p (reverse ts) ≡ total_size p ts
size_reverse p [] = refl
size_reverse p (t ∷ ts) = ap (total_size p) (reverse-append (t ∷ []) ts) ∙ (let a = total_size-append p (reverse ts) (t ∷ []) in let b = size_reverse p ts in
    let c = total_size-cons p t [] in let d = total_size-nil p in let e = total_size-cons p t ts in omega (arith, a, b, c, d, e))

pub rest_less : (p : Contents) (ahead rest : List TermId) (t : TermId) → ahead ≡ rest ++ t ∷ [] → total_size p rest < total_size p ahead
rest_less p ahead rest t e = subst (λ ts. total_size p rest < total_size p ts) (sym e) (rest_is_smaller p rest t)

pub parts_less : (p : Contents) (ahead rest parts next : List TermId) (t : TermId) (f : AtomId) → ahead ≡ rest ++ t ∷ [] → next ≡ rest ++ reverse parts
    → pool.term_of p t ≡ pool.shape_term p (comp f parts) → total_size p next < total_size p ahead
parts_less p ahead rest parts next t f e n is =
    let a = total_size-append p rest (reverse parts) in let b = size_reverse p parts in let c = total_size-append p rest parts in
    let s = parts_are_smaller p rest t (comp f parts) is in
    subst (λ us. total_size p next < total_size p us) (sym e) (subst (λ us. total_size p us < total_size p (rest ++ t ∷ [])) (sym n) (omega (arith, a, b, c, s)))

pub finding_last : (p : Contents) (all found : List ℕ) (ahead : List TermId) → ahead ≡ [] → IsFinding p all found ahead → found ≡ all
finding_last p all found ahead e w = sym (w.rest ∙ ap (λ l. found ++ variables_at p (reverse l)) e ∙ append-nil found)

-- ---- their sets

distinct_once : (xs : List ℕ) → distinct xs ≡ once xs
distinct_once [] = refl
distinct_once (x ∷ xs) = ap (λ l. x ∷ l) (ap (filter (λ y. not (x == y))) (distinct_once xs) ∙ filter_agree (λ y. not (x == y)) (λ y. not (y == x)) (λ y. ap not (eq_sym x y)) (once xs))

sets_more : (set : ℕ → Option (List ℕ)) (xs : List ℕ) (x : ℕ) → with_sets set (xs ++ x ∷ []) ≡ with_sets set xs ++ with_set x (set x) []
sets_more set [] x = refl
sets_more set (y ∷ xs) x = by_set (set y) (sets_more set xs x) where
  by_set : (o : Option (List ℕ)) → with_sets set (xs ++ x ∷ []) ≡ with_sets set xs ++ with_set x (set x) []
      → with_set y o (with_sets set (xs ++ x ∷ [])) ≡ with_set y o (with_sets set xs) ++ with_set x (set x) []
  by_set None e = e
  by_set (Some s) e = ap (λ l. (y, s) ∷ l) e

-- one variable more
pub gathered_more : (set : ℕ → Option (List ℕ)) (xs keys new : List ℕ) (ps qs : List (ℕ × List ℕ)) (x : ℕ) (b : Bool) → AreGathered set xs keys ps
    → new ≡ cond (list_any (nat_eq x) keys) keys (keys ++ x ∷ []) → b ≡ not (list_any (nat_eq x) keys)
    → qs ≡ cond b (ps ++ with_set x (set x) []) ps → AreGathered set (xs ++ x ∷ []) new qs
gathered_more set xs keys new ps qs x b w e f g = record {
  keys_are = keys_more xs keys new x e w.keys_are;
  sets_are = g ∙ by_test b (has xs x) (f ∙ ap not (ap (list_any (nat_eq x)) w.keys_are ∙ any_has (once xs) x ∙ has_once xs x)) (once_more xs x);
} where
  by_test : (b c : Bool) → b ≡ not c → once (xs ++ x ∷ []) ≡ cond c (once xs) (once xs ++ x ∷ []) → cond b (ps ++ with_set x (set x) []) ps ≡ with_sets set (once (xs ++ x ∷ []))
  by_test true true e h = absurd (true≢false e)
  by_test true false e h = ap (λ l. l ++ with_set x (set x) []) w.sets_are ∙ sym (ap (with_sets set) h ∙ sets_more set (once xs) x)
  by_test false true e h = w.sets_are ∙ sym (ap (with_sets set) h)
  by_test false false e h = absurd (true≢false (sym e))

pub gathered_all : (set : ℕ → Option (List ℕ)) (xs keys : List ℕ) (ps : List (ℕ × List ℕ)) → AreGathered set xs keys ps → ps ≡ with_sets set (distinct xs)
gathered_all set xs keys ps w = w.sets_are ∙ ap (with_sets set) (sym (distinct_once xs))

-- ---- a variable that is added

pub set_added : (set : ℕ → Option (List ℕ)) (x : ℕ) (ps qs : List (ℕ × List ℕ)) (b : Bool) (d : List ℕ) → b ≡ true → set x ≡ Some d → qs ≡ ps ++ (x, d) ∷ []
    → qs ≡ cond b (ps ++ with_set x (set x) []) ps
set_added set x ps qs b d t e q = q ∙ ap (λ o. ps ++ with_set x o []) (sym e) ∙ ap (λ c. cond c (ps ++ with_set x (set x) []) ps) (sym t)

pub set_absent : (set : ℕ → Option (List ℕ)) (x : ℕ) (ps : List (ℕ × List ℕ)) (b : Bool) → b ≡ true → set x ≡ None → ps ≡ cond b (ps ++ with_set x (set x) []) ps
set_absent set x ps b t e = sym (append-nil ps) ∙ ap (λ o. ps ++ with_set x o []) (sym e) ∙ ap (λ c. cond c (ps ++ with_set x (set x) []) ps) (sym t)

pub set_before : (set : ℕ → Option (List ℕ)) (x : ℕ) (ps : List (ℕ × List ℕ)) (b : Bool) → b ≡ false → ps ≡ cond b (ps ++ with_set x (set x) []) ps
set_before set x ps b t = ap (λ c. cond c (ps ++ with_set x (set x) []) ps) (sym t)

pub none_there : {X : Type 0} (o : Option X) (s : Option (List ℕ)) (f : X → List ℕ) → MatchOption o (s ≡ None) (λ d. s ≡ Some (f d)) → ((d : X) → o ≡ Some d → ⊥) → s ≡ None
none_there None s f m n = m
none_there (Some d) s f m n = absurd (n d refl)
