-- What one pair comes to, by what its cells are at their roots.
use Rattle.std.proofs.Common.{◌≡◌, ℕ, ℤ, ◌<◌, Bool, true, false, ◌==◌, refl, ap, sym, ◌∙◌, subst, arith, inl, inr, List, [], ◌∷◌, ◌++◌, length}
use Rattle.std.proofs.Common.{Bor}
use Rattle.std.specs.Prelude.{Result, Ok, Err}
use Rattle.term_pool.specs.declared.AtomId.{AtomId}
use Rattle.fd_language.specs.Term.{Term, Var, Int, Atom, Comp, Substitution, apply, apply_all}
use Rattle.heap_cells.specs.declared.Cell.{Cell}
use Rattle.heap_cells.specs.declared.Cell.TheVariants as cell
use Rattle.heap_cells.specs.declared.Seen.{Seen}
use Rattle.heap_cells.specs.declared.Seen.TheVariants as seen
use Rattle.heap_cells.specs.Cells.{Cells, free, bound, is_bound, slot_at, IsOf, with_slot}
use Rattle.heap_cells.specs.Terms.{Naming, IsOneToOne, terms_by, term_of, Same}
use Rattle.heap_cells.specs.SeenCells.{IsSeen, IsTop}
use Rattle.heap_cells.specs.HeapInvariant.{IsHeap}
use Rattle.heap_cells.proofs.Lemmas.{unbound_term, term-Int, term-Atom, occurs_check}
use Rattle.unify_core.specs.declared.Pair.{Pair}
use Rattle.unify_core.specs.declared.Touch.{Touch}
use Rattle.unify_core.specs.declared.Touch.TheVariants as touch
use Rattle.unify_core.specs.Touches.{IsLinked, IsSymbolic}
use Rattle.unify_core.specs.Outcome.{IfTrue, IfFalse, IsDone, IsHopeless, IsBinding, IsInfinite, IsSymbolicCell, TellsTouch}
use Rattle.unify_core.proofs.Touches.{touched_open, touched_value, touched_same}
use Rattle.unify_core.proofs.PairReduction.{Says, IsCompound, compound_term_is, split_work, done_bind, append-nil-is}

pub if_true : {E : Type 0} (r : Result Bool E) (P Q : Type 0) → (P → Q) → IfTrue r P → IfTrue r Q
if_true (Ok true) P Q f p = f p
if_true (Ok false) P Q f p = tt
if_true (Err e) P Q f p = tt

pub if_false : {E : Type 0} (r : Result Bool E) (P Q : Type 0) → (P → Q) → IfFalse r P → IfFalse r Q
if_false (Ok true) P Q f p = tt
if_false (Ok false) P Q f p = f p
if_false (Err e) P Q f p = tt

symbolic_applied : (u : Substitution) (t : Term) → IsSymbolic t → IsSymbolic (apply u t)
symbolic_applied u (Var x) s = absurd s
symbolic_applied u (Int z) s = s
symbolic_applied u (Atom a) s = s
symbolic_applied u (Comp f ts) s = s

refuted : (h : Cells) (ps : List Pair) (p : Pair) → ((name : Naming) → IsOneToOne name → (u : Substitution)
    → apply u (term_of name h p.left) ≡ apply u (term_of name h p.right) → (c : ℕ) × (k : ℕ) × IsLinked h c k × IsSymbolic (u c)) → IsHopeless h (ps ++ p ∷ [])
refuted h ps p f name o u e = f name o u (split_work u name h ps (p ∷ []) e).1.0

pub same_through : (h : Cells) (c d e : Cell) → Same h c d → Same h d e → Same h c e
same_through h c d e f g name = f name ∙ g name

-- a variable on one side, and a cell on the other
module _ (h : Cells) (valid : IsHeap h) (ps : List Pair) (p : Pair) (before : List Touch) (v : ℕ) (to : Cell) (there : v < length h.slots) (own : IsOf h to)
    (unbound : is_bound (slot_at h v) ≡ false) (says : Says h p v to) where
  says_of : (name : Naming) (u : Substitution) → apply u (term_of name h p.left) ≡ apply u (term_of name h p.right) → u v ≡ apply u (term_of name h to)
  says_of name u e = go says
    where
      go : Says h p v to → u v ≡ apply u (term_of name h to)
      go (inl s) = sym (ap (apply u) (s.0 name ∙ unbound_term name h valid v unbound)) ∙ e ∙ ap (apply u) (s.1 name)
      go (inr s) = sym (ap (apply u) (s.0 name ∙ unbound_term name h valid v unbound)) ∙ sym e ∙ ap (apply u) (s.1 name)

  pub infinite_hopeless : IsInfinite h v to → IsHopeless h (ps ++ p ∷ [])
  infinite_hopeless i = refuted h ps p (λ name o u e. (let w = i name in absurd (occurs_check u v w.0 w.1 w.3 (says_of name u e ∙ ap (apply u) w.2))))

  pub symbolic_hopeless : (k : ℕ) → IsLinked h v k → IsSymbolicCell h to → IsHopeless h (ps ++ p ∷ [])
  symbolic_hopeless k l s = refuted h ps p (λ name o u e. (v, k, l, subst IsSymbolic (sym (says_of name u e)) (symbolic_applied u (term_of name h to) (s name))))

  pub open_done : (g : Cells) → slot_at h v ≡ free → IsBinding h v to g → IsDone h (ps ++ p ∷ []) before g ps before
  open_done g f b = subst (λ (k : Cells). IsDone h (ps ++ p ∷ []) before k ps before) (sym b.bound)
      (done_bind h valid v to there own unbound b.absent p says ps before before [] (append-nil-is before) (λ name. touched_open h v to (term_of name h to) there f))

  pub linked_done : (g : Cells) (k : ℕ) (ts : List Touch) → IsLinked h v k → (to ≡ cell.Ref v → ⊥) → IsBinding h v to g → TellsTouch h v k to before ts → IsDone h (ps ++ p ∷ []) before g ps ts
  linked_done g k ts l apart b t = subst (λ (c : Cells). IsDone h (ps ++ p ∷ []) before c ps ts) (sym b.bound) (go t)
    where
      go : TellsTouch h v k to before ts → IsDone h (ps ++ p ∷ []) before (with_slot h v (bound to)) ps ts
      go (inl i) = done_bind h valid v to there own unbound b.absent p says ps before ts (touch.Value k i.0 ∷ []) i.2
          (λ name. touched_value h v to (term_of name h to) there k i.0 l (ap (term_of name h) i.1 ∙ term-Int name h valid i.0))
      go (inr d) = done_bind h valid v to there own unbound b.absent p says ps before ts (touch.Same k d.1 ∷ []) d.4
          (λ name. touched_same h v to (term_of name h to) there k d.0 d.1 l d.3 (λ e. apart (d.2 ∙ ap cell.Ref e)) (ap (term_of name h) d.2 ∙ unbound_term name h valid d.0 (ap is_bound d.3)))

-- cells that stand for different terms
module _ (h : Cells) (valid : IsHeap h) (ps : List Pair) (p : Pair) (left right : Cell) (sl : Same h p.left left) (sr : Same h p.right right) where
  between : (name : Naming) (u : Substitution) (s t : Term) → term_of name h left ≡ s → term_of name h right ≡ t
      → apply u (term_of name h p.left) ≡ apply u (term_of name h p.right) → apply u s ≡ apply u t
  between name u s t a b e = sym (ap (apply u) (sl name ∙ a)) ∙ e ∙ ap (apply u) (sr name ∙ b)

  pub differ : ((name : Naming) → IsOneToOne name → (u : Substitution) → (s : Term) × (t : Term) × (term_of name h left ≡ s) × (term_of name h right ≡ t)
      × (apply u s ≡ apply u t → ⊥)) → IsHopeless h (ps ++ p ∷ [])
  differ f = refuted h ps p (λ name o u e. (let d = f name o u in absurd (d.4 (between name u d.0 d.1 d.2 d.3 e))))

  -- a compound term on the left
  pub compound_else : (f : AtomId) (cs : List Cell) (y : Seen) → IsCompound h left f cs → IsSeen h right y → ((i : ℕ) → y ≡ seen.Open i → ⊥)
      → ((g : AtomId) (ds : Bor (List Cell)) → y ≡ seen.Struct g ds → ⊥) → IsHopeless h (ps ++ p ∷ [])
  compound_else f cs (seen.Open i) k s a b = absurd (a i refl)
  compound_else f cs (seen.Struct g ds) k s a b = absurd (b g ds refl)
  compound_else f cs (seen.Constrained j n) k s a b = refuted h ps p (λ name o u e.
      (let w = between name u (Comp (name f) (terms_by (term_of name h) cs)) (Var j) (compound_term_is name h valid left f cs k) (s.2 name ∙ unbound_term name h valid j (ap is_bound s.1)) e in
      (j, n, s.1, subst IsSymbolic w tt)))
  compound_else f cs (seen.Int z) k s a b = differ (λ name o u. (
    Comp (name f) (terms_by (term_of name h) cs),
    Int z,
    compound_term_is name h valid left f cs k,
    s name ∙ term-Int name h valid z,
    λ e. cc,
  ))
  compound_else f cs (seen.Atom x) k s a b = differ (λ name o u. (
    Comp (name f) (terms_by (term_of name h) cs),
    Atom (name x),
    compound_term_is name h valid left f cs k,
    s name ∙ term-Atom name h valid x,
    λ e. cc,
  ))

  -- constants on the left
  int_else : (z : ℤ) (y : Seen) → left ≡ cell.Int z → IsSeen h right y → IsTop h right y → (left ≡ right → ⊥) → ((i : ℕ) → y ≡ seen.Open i → ⊥)
      → ((i k : ℕ) → y ≡ seen.Constrained i k → ⊥) → IsHopeless h (ps ++ p ∷ [])
  int_else z (seen.Open i) l s t n a b = absurd (a i refl)
  int_else z (seen.Constrained i k) l s t n a b = absurd (b i k refl)
  int_else z (seen.Int w) l s t n a b = differ (λ name o u. (
    Int z,
    Int w,
    ap (term_of name h) l ∙ term-Int name h valid z,
    s name ∙ term-Int name h valid w,
    λ e. n (let f : z ≡ w = cc in l ∙ ap cell.Int f ∙ sym t),
  ))
  int_else z (seen.Atom x) l s t n a b = differ (λ name o u. (Int z, Atom (name x), ap (term_of name h) l ∙ term-Int name h valid z, s name ∙ term-Atom name h valid x, λ e. cc))
  int_else z (seen.Struct g ds) l s t n a b = differ (λ name o u. (
    Int z,
    Comp (name g) (terms_by (term_of name h) ds.now),
    ap (term_of name h) l ∙ term-Int name h valid z,
    compound_term_is name h valid right g ds.now (s.0, s.2, s.3),
    λ e. cc,
  ))

  atom_else : (x : AtomId) (y : Seen) → left ≡ cell.Atom x → IsSeen h right y → IsTop h right y → (left ≡ right → ⊥) → ((i : ℕ) → y ≡ seen.Open i → ⊥)
      → ((i k : ℕ) → y ≡ seen.Constrained i k → ⊥) → IsHopeless h (ps ++ p ∷ [])
  atom_else x (seen.Open i) l s t n a b = absurd (a i refl)
  atom_else x (seen.Constrained i k) l s t n a b = absurd (b i k refl)
  atom_else x (seen.Int w) l s t n a b = differ (λ name o u. (Atom (name x), Int w, ap (term_of name h) l ∙ term-Atom name h valid x, s name ∙ term-Int name h valid w, λ e. cc))
  atom_else x (seen.Atom y) l s t n a b = differ (λ name o u. (
    Atom (name x),
    Atom (name y),
    ap (term_of name h) l ∙ term-Atom name h valid x,
    s name ∙ term-Atom name h valid y,
    λ e. n (let f : name x ≡ name y = cc in l ∙ ap cell.Atom (o x y f) ∙ sym t),
  ))
  atom_else x (seen.Struct g ds) l s t n a b = differ
      (λ name o u. (
        Atom (name x),
        Comp (name g) (terms_by (term_of name h) ds.now),
        ap (term_of name h) l ∙ term-Atom name h valid x,
        compound_term_is name h valid right g ds.now (s.0, s.2, s.3),
        λ e. cc,
      ))

  pub constant_else : (x y : Seen) → IsTop h left x → IsSeen h right y → IsTop h right y → (left ≡ right → ⊥) → ((i : ℕ) → x ≡ seen.Open i → ⊥)
      → ((i k : ℕ) → x ≡ seen.Constrained i k → ⊥) → ((g : AtomId) (ds : Bor (List Cell)) → x ≡ seen.Struct g ds → ⊥)
      → ((i : ℕ) → y ≡ seen.Open i → ⊥) → ((i k : ℕ) → y ≡ seen.Constrained i k → ⊥) → IsHopeless h (ps ++ p ∷ [])
  constant_else (seen.Open i) y l s t n a b c d e = absurd (a i refl)
  constant_else (seen.Constrained i k) y l s t n a b c d e = absurd (b i k refl)
  constant_else (seen.Struct g ds) y l s t n a b c d e = absurd (c g ds refl)
  constant_else (seen.Int z) y l s t n a b c d e = int_else z y l s t n d e
  constant_else (seen.Atom x) y l s t n a b c d e = atom_else x y l s t n d e

  -- compound terms with other names, or with other numbers of arguments
  same_count : (u : Substitution) (f g : Cell → Term) (cs ds : List Cell) → apply_all u (terms_by f cs) ≡ apply_all u (terms_by g ds) → length cs ≡ length ds
  same_count u f g [] [] e = refl
  same_count u f g [] (d ∷ ds) e = cc
  same_count u f g (c ∷ cs) [] e = cc
  same_count u f g (c ∷ cs) (d ∷ ds) e = let h = same_count u f g cs ds (let q : apply_all u (terms_by f cs) ≡ apply_all u (terms_by g ds) = cc in q) in omega arith

  pub compounds_differ : (f g : AtomId) (cs ds : List Cell) → IsCompound h left f cs → IsCompound h right g ds → (f ≡ g → length cs ≡ length ds → ⊥) → IsHopeless h (ps ++ p ∷ [])
  compounds_differ f g cs ds a b n = differ (λ name o u. (
    Comp (name f) (terms_by (term_of name h) cs),
    Comp (name g) (terms_by (term_of name h) ds),
    compound_term_is name h valid left f cs a,
    compound_term_is name h valid right g ds b,
    λ e. n (let q : name f ≡ name g = cc in o f g q) (same_count u (term_of name h) (term_of name h) cs ds
        (let q : apply_all u (terms_by (term_of name h) cs) ≡ apply_all u (terms_by (term_of name h) ds) = cc in q)),
  ))
