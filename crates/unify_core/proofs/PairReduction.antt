-- Steps of a unification, one after another.
use Rattle.std.proofs.Common.{◌≡◌, ℕ, ◌<◌, false, refl, ap, sym, ◌∙◌, subst, arith, inl, inr, ◌⊎◌, List, [], ◌∷◌, ◌++◌, length, get_or, length-set}
use Rattle.std.proofs.Common.{length-append, zero, suc}
use Rattle.std.specs.Prelude.{All, reverse}
use Rattle.std.proofs.lemmas.Bool.{cases_eq}
use Rattle.std.proofs.lemmas.List.{append-nil, get_or_append_left, reverse-append, reverse-reverse}
use Rattle.std.proofs.lemmas.List.Elements.{All-append}
use Rattle.fd_language.proofs.Lemmas.{apply_vars}
use Rattle.term_pool.proofs.Lemmas.{size_above_zero}
use Rattle.term_pool.specs.Terms.{size}
use Rattle.term_pool.specs.declared.AtomId.{AtomId}
use Rattle.fd_language.specs.Term.{Term, Terms, Var, Int, Atom, Comp, no_terms, term, Substitution, apply, apply_all}
use Rattle.fd_language.specs.Unifier.{Equation, Unifies}
use Rattle.fd_language.specs.Variables.{TermBelow, TermsBelow}
use Rattle.heap_cells.specs.declared.Cell.{Cell}
use Rattle.heap_cells.specs.declared.Cell.TheVariants as cell
use Rattle.heap_cells.specs.Cells.{Cells, Slot, Compound, free, linked, bound, is_bound, slot_at, compound_at, IsOf, with_slot}
use Rattle.heap_cells.specs.Terms.{Naming, terms_by, within, depth, slot_term, term_of, one, after, occurs, Same}
use Rattle.heap_cells.specs.Atoms.{IsAtomBelow, HasAtomsBelow}
use Rattle.heap_cells.specs.HeapInvariant.{IsHeap}
use Rattle.heap_cells.proofs.Lemmas.{unbound_term, term-Struct, bind_terms, of_same, after_is, same_apply, one_self, one_other, through_one, through_all}
use Rattle.heap_cells.proofs.Lemmas.{join_both, split_both, head_of, tail_of, none_at_all, both_of, all_front, last_of, all_reverse, same_below, bound_below}
use Rattle.unify_core.specs.declared.Pair.{Pair}
use Rattle.unify_core.specs.declared.Touch.{Touch}
use Rattle.unify_core.specs.Touches.{AreTouched, IsRefuted}
use Rattle.unify_core.specs.PairReduction.{equation, equations, Reduces, IsOwn, HasAtoms, IsSameSize}
use Rattle.unify_core.specs.Unifications.{IsUnified, cells_equal}
use Rattle.unify_core.specs.TerminationMeasure.{unnamed, weight}
use Rattle.unify_core.specs.Outcome.{IsDone, paired}
use Rattle.unify_core.proofs.Touches.{touched_none, touched_both, one_else}
use Rattle.unify_core.proofs.TerminationMeasure.{less_lighter, bind_lighter, parts_lighter}

pub equations-append : (name : Naming) (h : Cells) (ps qs : List Pair) → equations name h (ps ++ qs) ≡ equations name h ps ++ equations name h qs
equations-append name h [] qs = refl
equations-append name h (p ∷ ps) qs = ap (λ es. equation name h p ∷ es) (equations-append name h ps qs)

pub split_work : (u : Substitution) (name : Naming) (h : Cells) (ps qs : List Pair) → Unifies u (equations name h (ps ++ qs)) → Unifies u (equations name h ps) × Unifies u (equations name h qs)
split_work u name h ps qs g = split_both u (equations name h ps) (equations name h qs) (subst (Unifies u) (equations-append name h ps qs) g)

pub join_work : (u : Substitution) (name : Naming) (h : Cells) (ps qs : List Pair) → Unifies u (equations name h ps) → Unifies u (equations name h qs) → Unifies u (equations name h (ps ++ qs))
join_work u name h ps qs f g = subst (Unifies u) (sym (equations-append name h ps qs)) (join_both u (equations name h ps) (equations name h qs) f g)

-- terms over the heap's variables
mutual
  pub still_below : (m n : ℕ) (s : Substitution) → ((x : ℕ) → x < m → TermBelow n (s x)) → (t : Term) → TermBelow m t → TermBelow n (apply s t)
  still_below m n s h (Var x) b = h x b
  still_below m n s h (Int z) b = tt
  still_below m n s h (Atom a) b = tt
  still_below m n s h (Comp f ts) b = still_below_all m n s h ts b

  pub still_below_all : (m n : ℕ) (s : Substitution) → ((x : ℕ) → x < m → TermBelow n (s x)) → (ts : Terms) → TermsBelow m ts → TermsBelow n (apply_all s ts)
  still_below_all m n s h no_terms b = tt
  still_below_all m n s h (term t ts) b = (still_below m n s h t b.0, still_below_all m n s h ts b.1)

terms_below : (n : ℕ) (by : Cell → Term) (P : Cell → Type 0) → ((c : Cell) → P c → TermBelow n (by c)) → (cs : List Cell) → All P cs → TermsBelow n (terms_by by cs)
terms_below n by P f [] h = tt
terms_below n by P f (c ∷ cs) h = (f c (head_of P c cs h), terms_below n by P f cs (tail_of P c cs h))

slot_below : (n : ℕ) (by : Cell → Term) (i : ℕ) (s : Slot) → i < n → ((c : Cell) → s ≡ bound c → TermBelow n (by c)) → TermBelow n (slot_term by i s)
slot_below n by i free l f = l
slot_below n by i (linked k) l f = l
slot_below n by i (bound c) l f = f c refl

within_below : (name : Naming) (h : Cells) → IsHeap h → (n : ℕ) (c : Cell) → IsOf h c → TermBelow (length h.slots) (within name h n c)
within_below name h v zero c o = tt
within_below name h v (suc n) (cell.Ref i) o = slot_below (length h.slots) (within name h n) i (slot_at h i) o (λ c e. within_below name h v n c (v.slots i c e))
within_below name h v (suc n) (cell.Int z) o = tt
within_below name h v (suc n) (cell.Atom a) o = tt
within_below name h v (suc n) (cell.Struct j) o = terms_below (length h.slots) (within name h n) (IsOf h) (λ c p. within_below name h v n c p) (compound_at h j).args (v.parts j)

pub term_below : (name : Naming) (h : Cells) → IsHeap h → (c : Cell) → IsOf h c → TermBelow (length h.slots) (term_of name h c)
unfolding term_of
term_below name h v c o = within_below name h v (depth h) c o

-- the work on a heap whose variables have new terms
moved : (name : Naming) (h g : Cells) (s u : Substitution) → ((c : Cell) → term_of name g c ≡ apply s (term_of name h c)) → ((x : ℕ) → apply u (s x) ≡ u x)
    → (ps : List Pair) → Unifies u (equations name h ps) → Unifies u (equations name g ps)
moved name h g s u e t [] f = tt
moved name h g s u e t (p ∷ ps) f = (
  ap (apply u) (e p.left) ∙ through_all u s t (term_of name h p.left) ∙ f.0 ∙ sym (ap (apply u) (e p.right) ∙ through_all u s t (term_of name h p.right)),
  moved name h g s u e t ps f.1,
)

moved_back : (name : Naming) (h g : Cells) (s r : Substitution) → ((c : Cell) → term_of name g c ≡ apply s (term_of name h c)) → (ps : List Pair)
    → Unifies r (equations name g ps) → Unifies (after r s) (equations name h ps)
moved_back name h g s r e [] f = tt
moved_back name h g s r e (p ∷ ps) f = (
  after_is r s (term_of name h p.left) ∙ sym (ap (apply r) (e p.left)) ∙ f.0 ∙ ap (apply r) (e p.right) ∙ sym (after_is r s (term_of name h p.right)),
  moved_back name h g s r e ps f.1,
)

unifies_same : (r s : Substitution) → ((x : ℕ) → r x ≡ s x) → (es : List Equation) → Unifies r es → Unifies s es
unifies_same r s e [] f = tt
unifies_same r s e (q ∷ es) f = (sym (same_apply r s e q.left) ∙ f.0 ∙ same_apply r s e q.right, unifies_same r s e es f.1)

-- nothing is done yet
pub reduces_none : (name : Naming) (h : Cells) (ps : List Pair) → Reduces name h ps h ps []
reduces_none name h ps = record {
  new = Var;
  terms = λ c. sym (apply_vars (term_of name h c));
  forth = λ u f. (λ x. refl, f);
  back = λ r f. f;
  cells = λ c l. l;
  outside = λ c l. refl;
  touches = touched_none h;
}

-- the last pair is worth other pairs
pub reduces_pair : (name : Naming) (h : Cells) (ps : List Pair) (p : Pair) (qs : List Pair)
    → ((u : Substitution) → Unifies u (equations name h (p ∷ [])) → Unifies u (equations name h qs))
    → ((u : Substitution) → Unifies u (equations name h qs) → Unifies u (equations name h (p ∷ [])))
    → Reduces name h (ps ++ p ∷ []) h (ps ++ qs) []
reduces_pair name h ps p qs there back = record {
  new = Var;
  terms = λ c. sym (apply_vars (term_of name h c));
  forth = λ u f. (λ x. refl, let both = split_work u name h ps (p ∷ []) f in join_work u name h ps qs both.0 (there u both.1));
  back = λ r f. (let both = split_work r name h ps qs f in join_work r name h ps (p ∷ []) both.0 (back r both.1));
  cells = λ c l. l;
  outside = λ c l. refl;
  touches = touched_none h;
}

-- the pair says that a variable is a cell's term
abbrev pub Says : Cells → Pair → ℕ → Cell → Type 0
Says h p v to = (Same h p.left (cell.Ref v) × Same h p.right to) ⊎ (Same h p.right (cell.Ref v) × Same h p.left to)

module _ (h : Cells) (valid : IsHeap h) (v : ℕ) (to : Cell) (there : v < length h.slots) (own : IsOf h to) (unbound : is_bound (slot_at h v) ≡ false)
    (absent : (name : Naming) → occurs v (term_of name h to) ≡ false) (p : Pair) (says : Says h p v to) where
  abbrev now : Cells
  now = with_slot h v (bound to)

  terms_now : (name : Naming) (c : Cell) → term_of name now c ≡ apply (one v (term_of name h to)) (term_of name h c)
  terms_now name c = bind_terms h v to valid there own unbound absent name c

  own_term : (name : Naming) → term_of name h (cell.Ref v) ≡ Var v
  own_term name = unbound_term name h valid v unbound

  pub says_forth : (name : Naming) (u : Substitution) → Unifies u (equations name h (p ∷ [])) → u v ≡ apply u (term_of name h to)
  says_forth name u f = go says
    where
      go : Says h p v to → u v ≡ apply u (term_of name h to)
      go (inl s) = sym (ap (apply u) (s.0 name ∙ own_term name)) ∙ f.0 ∙ ap (apply u) (s.1 name)
      go (inr s) = sym (ap (apply u) (s.0 name ∙ own_term name)) ∙ sym f.0 ∙ ap (apply u) (s.1 name)

  pub says_back : (name : Naming) (u : Substitution) → u v ≡ apply u (term_of name h to) → Unifies u (equations name h (p ∷ []))
  says_back name u e = go says
    where
      go : Says h p v to → Unifies u (equations name h (p ∷ []))
      go (inl s) = (ap (apply u) (s.0 name ∙ own_term name) ∙ e ∙ sym (ap (apply u) (s.1 name)), tt)
      go (inr s) = (ap (apply u) (s.1 name) ∙ sym e ∙ sym (ap (apply u) (s.0 name ∙ own_term name)), tt)

  pub reduces_bind : (name : Naming) (ps : List Pair) (ts : List Touch) → AreTouched h now (one v (term_of name h to)) ts → Reduces name h (ps ++ p ∷ []) now ps ts
  reduces_bind name ps ts touches =
      let t = term_of name h to in
      record {
        new = one v t;
        terms = terms_now name;
        forth = λ u f. (
            let both = split_work u name h ps (p ∷ []) f in
            let e = says_forth name u both.1 in
            (λ x. through_one u v t e (Var x), moved name h now (one v t) u (terms_now name) (λ x. through_one u v t e (Var x)) ps both.0)
            );
        back = λ r f.
            join_work (after r (one v t)) name h ps (p ∷ []) (moved_back name h now (one v t) r (terms_now name) ps f)
            (says_back name (after r (one v t)) (ap (apply r) (one_self v t) ∙ sym (after_is r (one v t) t ∙ ap (apply r) (one_other v t t (absent name)))));
        cells = λ c l. elim (cases_eq c v) [
          | inl e ↦ subst (λ x. TermBelow (length h.slots) (one v t x)) (sym e) (subst (TermBelow (length h.slots)) (sym (one_self v t)) (term_below name h valid to own))
          | inr d ↦ subst (TermBelow (length h.slots)) (sym (one_else v t c d)) l
        ];
        outside = λ c l. one_else v t c (omega arith);
        touches = touches;
      }

  same_size : IsSameSize h now
  same_size = record { slots = length-set h.slots v (bound to); compounds = refl }

  pub own_still : (ps : List Pair) → All (IsOwn h) (ps ++ p ∷ []) → All (IsOwn now) ps
  own_still ps a = λ k d l.
      let b : IsOwn h (get_or (ps ++ p ∷ []) k d) = a k d (let s = length-append ps (p ∷ []) in omega arith) in
      let c : IsOwn h (get_or ps k d) = subst (IsOwn h) (get_or_append_left ps (p ∷ []) d k l) b in
      (of_same h now (get_or ps k d).left (sym (length-set h.slots v (bound to))) refl c.0, of_same h now (get_or ps k d).right (sym (length-set h.slots v (bound to))) refl c.1)

  pub atoms_still : (n : ℕ) (ps : List Pair) → HasAtomsBelow n h → All (HasAtoms n) (ps ++ p ∷ []) → HasAtomsBelow n now × All (HasAtoms n) ps
  atoms_still n ps a b = (bound_below n h a v to there (go says), all_front (HasAtoms n) ps (p ∷ []) b)
    where
      last : HasAtoms n p
      last = last_of (HasAtoms n) ps p b

      go : Says h p v to → IsAtomBelow n to
      go (inl s) = same_below n h valid a p.right to last.1 s.1
      go (inr s) = same_below n h valid a p.left to last.0 s.1

  small : size (term_of unnamed h to) < weight h (p ∷ [])
  small = go says
    where
      go : Says h p v to → size (term_of unnamed h to) < weight h (p ∷ [])
      go (inl s) = let a : size (term_of unnamed h p.right) ≡ size (term_of unnamed h to) = ap size (s.1 unnamed) in let b = size_above_zero (term_of unnamed h p.left) in omega arith
      go (inr s) = let a : size (term_of unnamed h p.left) ≡ size (term_of unnamed h to) = ap size (s.1 unnamed) in let b = size_above_zero (term_of unnamed h p.right) in omega arith

  pub done_bind : (ps : List Pair) (before ts more : List Touch) → ts ≡ before ++ more → ((name : Naming) → AreTouched h now (one v (term_of name h to)) more)
      → IsDone h (ps ++ p ∷ []) before now ps ts
  done_bind ps before ts more e touches = record {
    more = more;
    touches = e;
    reduces = λ name. reduces_bind name ps more (touches name);
    size = same_size;
    own = own_still ps;
    atoms = λ n. atoms_still n ps;
    falls = bind_lighter h v to (term_of unnamed h to) ps p there unbound (terms_now unnamed) small;
  }

-- the last pair is one cell
pub done_same : (h : Cells) (ps : List Pair) (p : Pair) (before : List Touch) → Same h p.left p.right → IsDone h (ps ++ p ∷ []) before h ps before
done_same h ps p before s = record {
  more = [];
  touches = sym (append-nil before);
  reduces = λ name. subst (λ qs. Reduces name h (ps ++ p ∷ []) h qs []) (append-nil ps) (reduces_pair name h ps p [] (λ u f. tt) (λ u f. (ap (apply u) (s name), tt)));
  size = record { slots = refl; compounds = refl };
  own = λ a k d l. subst (IsOwn h) (get_or_append_left ps (p ∷ []) d k l) (a k d (let q = length-append ps (p ∷ []) in omega arith));
  atoms = λ n a b. (a, all_front (HasAtoms n) ps (p ∷ []) b);
  falls = less_lighter h ps p;
}

-- two compound terms of one name and as many arguments
parts_forth : (name : Naming) (h : Cells) (u : Substitution) (cs ds : List Cell) → length cs ≡ length ds
    → apply_all u (terms_by (term_of name h) cs) ≡ apply_all u (terms_by (term_of name h) ds) → Unifies u (equations name h (paired cs ds))
parts_forth name h u [] ds l e = tt
parts_forth name h u (c ∷ cs) [] l e = tt
parts_forth name h u (c ∷ cs) (d ∷ ds) l e = (cc, parts_forth name h u cs ds (omega arith) (let f : apply_all u (terms_by (term_of name h) cs) ≡ apply_all u (terms_by (term_of name h) ds) = cc in f))

parts_back : (name : Naming) (h : Cells) (u : Substitution) (cs ds : List Cell) → length cs ≡ length ds → Unifies u (equations name h (paired cs ds))
    → apply_all u (terms_by (term_of name h) cs) ≡ apply_all u (terms_by (term_of name h) ds)
parts_back name h u [] [] l f = refl
parts_back name h u [] (d ∷ ds) l f = absurd (omega arith)
parts_back name h u (c ∷ cs) [] l f = absurd (omega arith)
parts_back name h u (c ∷ cs) (d ∷ ds) l f = let a = f.0 in let b = parts_back name h u cs ds (omega arith) f.1 in cc

-- the same pairs from the last on
reverse_forth : (name : Naming) (h : Cells) (u : Substitution) (ps : List Pair) → Unifies u (equations name h ps) → Unifies u (equations name h (reverse ps))
reverse_forth name h u [] f = f
reverse_forth name h u (p ∷ ps) f = subst (λ qs. Unifies u (equations name h qs)) (sym (reverse-append (p ∷ []) ps))
    (join_work u name h (reverse ps) (p ∷ []) (reverse_forth name h u ps f.1) (f.0, tt))

reverse_back : (name : Naming) (h : Cells) (u : Substitution) (ps : List Pair) → Unifies u (equations name h (reverse ps)) → Unifies u (equations name h ps)
reverse_back name h u ps f = subst (λ qs. Unifies u (equations name h qs)) (reverse-reverse ps) (reverse_forth name h u (reverse ps) f)

parts_own : (h : Cells) (cs ds : List Cell) → All (IsOf h) cs → All (IsOf h) ds → All (IsOwn h) (paired cs ds)
parts_own h [] ds a b = λ k d l. absurd (omega arith)
parts_own h (c ∷ cs) [] a b = λ k d l. absurd (omega arith)
parts_own h (c ∷ cs) (d ∷ ds) a b = both_of (IsOwn h) (record { left = c; right = d }) (paired cs ds) (head_of (IsOf h) c cs a, head_of (IsOf h) d ds b)
    (parts_own h cs ds (tail_of (IsOf h) c cs a) (tail_of (IsOf h) d ds b))

parts_atoms : (n : ℕ) (cs ds : List Cell) → All (IsAtomBelow n) cs → All (IsAtomBelow n) ds → All (HasAtoms n) (paired cs ds)
parts_atoms n [] ds a b = none_at_all (HasAtoms n)
parts_atoms n (c ∷ cs) [] a b = none_at_all (HasAtoms n)
parts_atoms n (c ∷ cs) (d ∷ ds) a b = both_of (HasAtoms n) (record { left = c; right = d }) (paired cs ds) (
  head_of (IsAtomBelow n) c cs a,
  head_of (IsAtomBelow n) d ds b,
) (parts_atoms n cs ds (tail_of (IsAtomBelow n) c cs a) (tail_of (IsAtomBelow n) d ds b))

-- a cell is a compound term with this name and these arguments
abbrev pub IsCompound : Cells → Cell → AtomId → List Cell → Type 0
IsCompound h c f cs = (j : ℕ) × (compound_at h j ≡ record { name = f; args = cs }) × Same h c (cell.Struct j)

pub compound_term_is : (name : Naming) (h : Cells) → IsHeap h → (c : Cell) (f : AtomId) (cs : List Cell) → IsCompound h c f cs → term_of name h c ≡ Comp (name f) (terms_by (term_of name h) cs)
compound_term_is name h v c f cs k = k.2 name ∙ term-Struct name h v k.0 ∙ ap (λ (d : Compound). Comp (name d.name) (terms_by (term_of name h) d.args)) k.1

pub compound_own : (h : Cells) → IsHeap h → (c : Cell) (f : AtomId) (cs : List Cell) → IsCompound h c f cs → All (IsOf h) cs
compound_own h v c f cs k = subst (λ (d : Compound). All (IsOf h) d.args) k.1 (v.parts k.0)

compound_atoms : (n : ℕ) (h : Cells) → HasAtomsBelow n h → (c : Cell) (f : AtomId) (cs : List Cell) → IsCompound h c f cs → All (IsAtomBelow n) cs
compound_atoms n h a c f cs k = subst (λ (d : Compound). All (IsAtomBelow n) d.args) k.1 (a.args k.0)

pub done_parts : (h : Cells) → IsHeap h → (ps : List Pair) (p : Pair) (before : List Touch) (f : AtomId) (cs ds : List Cell) → IsCompound h p.left f cs
    → IsCompound h p.right f ds → length cs ≡ length ds → IsDone h (ps ++ p ∷ []) before h (ps ++ reverse (paired cs ds)) before
done_parts h v ps p before f cs ds a b l = record {
  more = [];
  touches = sym (append-nil before);
  reduces = λ name.
      let x = compound_term_is name h v p.left f cs a in
      let y = compound_term_is name h v p.right f ds b in
      reduces_pair name h ps p (reverse (paired cs ds))
      (λ u g. reverse_forth name h u (paired cs ds) (parts_forth name h u cs ds l
      (let e : Comp (name f) (apply_all u (terms_by (term_of name h) cs)) ≡ Comp (name f) (apply_all u (terms_by (term_of name h) ds)) = sym
      (ap (apply u) x) ∙ g.0 ∙ ap (apply u) y in cc)))
      (λ u g. (ap (apply u) x ∙ ap (Comp (name f)) (parts_back name h u cs ds l (reverse_back name h u (paired cs ds) g)) ∙ sym (ap (apply u) y), tt));
  size = record { slots = refl; compounds = refl };
  own = λ o. All-append (IsOwn h) ps (reverse (paired cs ds))
      (λ k d q. subst (IsOwn h) (get_or_append_left ps (p ∷ []) d k q) (o k d (let s = length-append ps (p ∷ []) in omega arith)))
      (all_reverse (IsOwn h) (paired cs ds) (parts_own h cs ds (compound_own h v p.left f cs a) (compound_own h v p.right f ds b)));
  atoms = λ n o l. (
    o,
    All-append (HasAtoms n) ps (reverse (paired cs ds)) (all_front (HasAtoms n) ps (p ∷ []) l)
        (all_reverse (HasAtoms n) (paired cs ds) (parts_atoms n cs ds (compound_atoms n h o p.left f cs a) (compound_atoms n h o p.right f ds b))),
  );
  falls = parts_lighter h ps p [] [] cs ds (compound_term_is unnamed h v p.left f cs a) (compound_term_is unnamed h v p.right f ds b);
}

-- one step after others
pub reduces_both : (name : Naming) (old mid now : Cells) (ps qs rs : List Pair) (ts us : List Touch) → IsSameSize old mid → Reduces name old ps mid qs ts
    → Reduces name mid qs now rs us → Reduces name old ps now rs (ts ++ us)
reduces_both name old mid now ps qs rs ts us same a b = record {
  new = after b.new a.new;
  terms = λ c. b.terms c ∙ ap (apply b.new) (a.terms c) ∙ sym (after_is b.new a.new (term_of name old c));
  forth = λ u f. (
      let first = a.forth u f in
      let second = b.forth u first.1 in
      (λ x. through_all u b.new second.0 (a.new x) ∙ first.0 x, second.1)
      );
  back = λ r f. unifies_same (after (after r b.new) a.new) (after r (after b.new a.new)) (λ x. after_is r b.new (a.new x)) (equations name old ps) (a.back (after r b.new) (b.back r f));
  cells = λ c l. still_below (length old.slots) (length old.slots) b.new (λ x m. subst (λ n. TermBelow n (b.new x)) same.slots (b.cells x (let e = same.slots in omega arith))) (a.new c) (a.cells c l);
  outside = λ c l. ap (apply b.new) (a.outside c l) ∙ b.outside c (let e = same.slots in omega arith);
  touches = touched_both old mid now a.new b.new ts us a.touches b.touches;
}

-- the work is hopeless where what is left of it is
pub refuted_both : (name : Naming) (old mid : Cells) (ps qs : List Pair) (ts : List Touch) → Reduces name old ps mid qs ts
    → IsRefuted mid (equations name mid qs) → IsRefuted old (equations name old ps)
refuted_both name old mid ps qs ts a r u f = let bad = r u (a.forth u f).1 in (bad.0, bad.1, (a.touches.still bad.0 bad.1 bad.2).0, bad.3)

-- all of it is done
pub unified : (name : Naming) (old last : Cells) (a b : Cell) (ts : List Touch) → Reduces name old (record { left = a; right = b } ∷ []) last [] ts → IsUnified name old a b last ts
unified name old last a b ts r = record {
  unifier = r.new;
  general = record {
    unifies = unifies_same (after Var r.new) r.new (λ x. apply_vars (r.new x)) (cells_equal name old a b) (r.back Var tt);
    general = λ u x f. (r.forth u f).0 x;
  };
  terms = r.terms;
  cells = r.cells;
  outside = r.outside;
  touches = r.touches;
}

pub append-nil-is : (ts : List Touch) → ts ≡ ts ++ []
append-nil-is ts = sym (append-nil ts)
