-- A walk over compound terms in which a variable is looked for.
use Rattle.std.proofs.Common.{◌≡◌, ℕ, suc, ℤ, ◌+◌, ◌<◌, Bool, true, false, ◌||◌, ◌==◌, refl, ap, sym, ◌∙◌, subst, arith, List, [], ◌∷◌, ◌++◌, length, take}
use Rattle.std.proofs.Common.{drop, get_or, append_assoc, drop-cons, eq-eqb, ne_eqb}
use Rattle.std.specs.Prelude.{All}
use Rattle.std.proofs.Math.Seq.{take-suc}
use Rattle.std.proofs.lemmas.List.{map-append, take-append-drop}
use Rattle.std.proofs.lemmas.List.Elements.{All-append}
use Rattle.std.proofs.Math.Bool.{or-false}
use Rattle.std.proofs.lemmas.Bool.{or_right}
use Rattle.term_pool.specs.declared.AtomId.{AtomId}
use Rattle.term_pool.specs.Terms.{size, sizes}
use Rattle.fd_language.specs.Term.{Term, Comp}
use Rattle.heap_cells.specs.declared.Cell.{Cell}
use Rattle.heap_cells.specs.declared.Cell.TheVariants as cell
use Rattle.heap_cells.specs.Cells.{Cells, free, is_bound, slot_at, compound_at, IsOf}
use Rattle.heap_cells.specs.Terms.{Naming, terms_by, term_of, occurs, occurs_any, Same}
use Rattle.heap_cells.specs.declared.Seen.{Seen}
use Rattle.heap_cells.specs.declared.Seen.TheVariants as seen
use Rattle.heap_cells.specs.SeenCells.{IsSeen, IsTop, IsRoot}
use Rattle.heap_cells.specs.HeapInvariant.{IsHeap}
use Rattle.heap_cells.proofs.Lemmas.{unbound_term, term-Int, term-Atom, term-Struct, none_at_all, both_of, all_front}
use Rattle.unify_core.specs.TerminationMeasure.{unnamed}
use Rattle.unify_core.specs.Touches.{IsSymbolic}
use Rattle.unify_core.specs.OccursCheck.{compounds, OccursAmong, LeavesAhead, IsOther, IsAbsentAmong}
use Rattle.unify_core.specs.Outcome.{TellsOccurs, IsInfinite}
use Rattle.unify_core.proofs.PairReduction.{IsCompound, compound_term_is}
use Rattle.std.proofs.Math.Bool.{or_assoc}

occurs_any-append : (v : ℕ) (by : Cell → Term) (cs ds : List Cell) → occurs_any v (terms_by by (cs ++ ds)) ≡ (occurs_any v (terms_by by cs) || occurs_any v (terms_by by ds))
occurs_any-append v by [] ds = refl
occurs_any-append v by (c ∷ cs) ds = ap (λ b. occurs v (by c) || b) (occurs_any-append v by cs ds) ∙ sym (or_assoc (occurs v (by c)) (occurs_any v (terms_by by cs)) (occurs_any v (terms_by by ds)))

sizes-append : (by : Cell → Term) (cs ds : List Cell) → sizes (terms_by by (cs ++ ds)) ≡ sizes (terms_by by cs) + sizes (terms_by by ds)
sizes-append by [] ds = omega arith
sizes-append by (c ∷ cs) ds = let e = sizes-append by cs ds in omega arith

or_there : (a b : Bool) → (a || (true || b)) ≡ true
or_there true b = refl
or_there false b = refl

-- the same of compound terms by their numbers
any_compounds-append : (v : ℕ) (by : Cell → Term) (js ks : List ℕ)
    → occurs_any v (terms_by by (compounds (js ++ ks))) ≡ (occurs_any v (terms_by by (compounds js)) || occurs_any v (terms_by by (compounds ks)))
any_compounds-append v by js ks = ap (λ cs. occurs_any v (terms_by by cs)) (map-append cell.Struct js ks) ∙ occurs_any-append v by (compounds js) (compounds ks)

pub ahead_size : Cells → List ℕ → ℕ
ahead_size h js = sizes (terms_by (term_of unnamed h) (compounds js))

ahead_size-append : (h : Cells) (js ks : List ℕ) → ahead_size h (js ++ ks) ≡ ahead_size h js + ahead_size h ks
unfolding ahead_size
ahead_size-append h js ks = ap (λ cs. sizes (terms_by (term_of unnamed h) cs)) (map-append cell.Struct js ks) ∙ sizes-append (term_of unnamed h) (compounds js) (compounds ks)

own_both : (h : Cells) (js ks : List ℕ) → All (IsOf h) (compounds js) → All (IsOf h) (compounds ks) → All (IsOf h) (compounds (js ++ ks))
own_both h js ks a b = subst (All (IsOf h)) (sym (map-append cell.Struct js ks)) (All-append (IsOf h) (compounds js) (compounds ks) a b)

-- ---- a look at cells in their order

module _ (h : Cells) (v : ℕ) (cs : List Cell) (c : Cell) (old now : List ℕ) (l : LeavesAhead h v cs old now) where
  pub leaves_absent : ((name : Naming) → occurs v (term_of name h c) ≡ false) → LeavesAhead h v (cs ++ c ∷ []) old now
  leaves_absent absent = record {
    more = l.more;
    ahead = l.ahead;
    own = l.own;
    same = λ name.
        let T = term_of name h in
        l.same name ∙ sym (occurs_any-append v T cs (c ∷ []) ∙ ap (λ b. occurs_any v (terms_by T cs) || (b || false)) (absent name) ∙ or-false (occurs_any v (terms_by T cs)));
    smaller = let e = sizes-append (term_of unnamed h) cs (c ∷ []) in let s = l.smaller in omega arith;
  }

  pub leaves_pushed : (j : ℕ) (next : List ℕ) → next ≡ now ++ j ∷ [] → IsOf h (cell.Struct j) → Same h c (cell.Struct j) → LeavesAhead h v (cs ++ c ∷ []) old next
  leaves_pushed j next e o s = record {
    more = l.more ++ j ∷ [];
    ahead = e ∙ ap (λ js. js ++ j ∷ []) l.ahead ∙ append_assoc old l.more (j ∷ []);
    own = own_both h l.more (j ∷ []) l.own (both_of (IsOf h) (cell.Struct j) [] o (none_at_all (IsOf h)));
    same = λ name.
        let T = term_of name h in
        any_compounds-append v T l.more (j ∷ []) ∙ ap (λ b. b || (occurs v (T (cell.Struct j)) || false)) (l.same name)
        ∙ ap (λ t. occurs_any v (terms_by T cs) || (occurs v t || false)) (sym (s name)) ∙ sym (occurs_any-append v T cs (c ∷ []));
    smaller =
        let T = term_of unnamed h in
        let d = sizes-append T cs (c ∷ []) in
        let f = ap (λ ds. sizes (terms_by T ds)) (map-append cell.Struct l.more (j ∷ [])) ∙ sizes-append T (compounds l.more) (cell.Struct j ∷ []) in
        let z = ap size (s unnamed) in
        let m = l.smaller in
        omega arith;
  }

pub leaves_next : (h : Cells) (v : ℕ) (cs : List Cell) (i : ℕ) (d : Cell) → i < length cs → (old new : List ℕ)
    → LeavesAhead h v (take i cs ++ get_or cs i d ∷ []) old new → LeavesAhead h v (take (i + 1) cs) old new
leaves_next h v cs i d l old new = subst (λ ds. LeavesAhead h v ds old new) (sym (take-suc cs i d l) ∙ ap (λ n. take n cs) (let e : suc i ≡ i + 1 = omega arith in e))

-- one of the cells
pub found_among : (h : Cells) (v : ℕ) (cs : List Cell) (i : ℕ) (d : Cell) → i < length cs → ((name : Naming) → occurs v (term_of name h (get_or cs i d)) ≡ true) → OccursAmong h v cs
found_among h v cs i d l there name =
    let T = term_of name h in
    let rest = drop (suc i) cs in
    ap (λ ds. occurs_any v (terms_by T ds)) (sym (ap (λ ds. take i cs ++ ds) (sym (drop-cons cs i d l)) ∙ take-append-drop i cs))
    ∙ occurs_any-append v T (take i cs) (get_or cs i d ∷ rest)
    ∙ ap (λ b. occurs_any v (terms_by T (take i cs)) || (b || occurs_any v (terms_by T rest))) (there name) ∙ or_there (occurs_any v (terms_by T (take i cs))) (occurs_any v (terms_by T rest))

-- ---- the walk: the variable occurs in the top exactly where it occurs in a compound term ahead

pub record Looks (h : Cells) (v : ℕ) (ahead : List ℕ) (top : Cell) : Type 0 where
  pub own : All (IsOf h) (compounds ahead)
  pub same : (name : Naming) → occurs_any v (terms_by (term_of name h) (compounds ahead)) ≡ occurs v (term_of name h top)

pub looks_last : (h : Cells) (v : ℕ) (top : Cell) (ahead : List ℕ) → ahead ≡ [] → Looks h v ahead top → TellsOccurs h v top false
looks_last h v top ahead e l name = sym (ap (λ js. occurs_any v (terms_by (term_of name h) (compounds js))) e) ∙ l.same name

module _ (h : Cells) (valid : IsHeap h) (v : ℕ) (ahead : List ℕ) (at : ℕ) (top : Cell) (looks : Looks h v (ahead ++ at ∷ []) top) (f : AtomId)
    (args : List Cell) (compound : IsCompound h (cell.Struct at) f args) where
  last_is : (name : Naming) → (occurs_any v (terms_by (term_of name h) (compounds ahead)) || occurs_any v (terms_by (term_of name h) args)) ≡ occurs v (term_of name h top)
  last_is name =
      let T = term_of name h in
      let a = occurs_any v (terms_by T (compounds ahead)) in
      sym (ap (λ b. a || b) (or-false (occurs v (T (cell.Struct at))) ∙ ap (occurs v) (compound_term_is name h valid (cell.Struct at) f args compound)))
      ∙ sym (any_compounds-append v T ahead (at ∷ [])) ∙ looks.same name

  pub found_there : OccursAmong h v args → TellsOccurs h v top true
  found_there there name = sym (sym (last_is name) ∙ or_right (occurs_any v (terms_by (term_of name h) (compounds ahead))) (occurs_any v (terms_by (term_of name h) args)) (there name))

  pub looks_further : (next : List ℕ) → LeavesAhead h v args ahead next → Looks h v next top
  looks_further next l = subst (λ js. Looks h v js top) (sym l.ahead) (record {
    own = own_both h ahead l.more (all_front (IsOf h) (compounds ahead) (compounds (at ∷ [])) (subst (All (IsOf h)) (map-append cell.Struct ahead (at ∷ [])) looks.own)) l.own;
    same = λ name.
        let T = term_of name h in
        any_compounds-append v T ahead l.more ∙ ap (λ b. occurs_any v (terms_by T (compounds ahead)) || b) (l.same name) ∙ last_is name;
  })

  pub looks_smaller : (next : List ℕ) → LeavesAhead h v args ahead next → ahead_size h next < ahead_size h (ahead ++ at ∷ [])
  unfolding ahead_size
  looks_smaller next l =
      let e = ap (ahead_size h) l.ahead ∙ ahead_size-append h ahead l.more in
      let g = ahead_size-append h ahead (at ∷ []) in
      let k : size (term_of unnamed h (cell.Struct at)) ≡ 1 + sizes (terms_by (term_of unnamed h) args) = ap size (compound_term_is unnamed h valid (cell.Struct at) f args compound) in
      let s = l.smaller in
      omega arith

-- what is seen at a cell
pub var_occurs : (h : Cells) → IsHeap h → (v i : ℕ) (c : Cell) → is_bound (slot_at h i) ≡ false → Same h c (cell.Ref i) → (name : Naming) → occurs v (term_of name h c) ≡ (i == v)
var_occurs h valid v i c u s name = ap (occurs v) (s name ∙ unbound_term name h valid i u)

pub var_there : (h : Cells) → IsHeap h → (v i : ℕ) (c : Cell) → is_bound (slot_at h i) ≡ false → Same h c (cell.Ref i) → i ≡ v → (name : Naming) → occurs v (term_of name h c) ≡ true
var_there h valid v i c u s e name = var_occurs h valid v i c u s name ∙ eq-eqb i v e

pub var_absent : (h : Cells) → IsHeap h → (v i : ℕ) (c : Cell) → is_bound (slot_at h i) ≡ false → Same h c (cell.Ref i) → (i ≡ v → ⊥) → (name : Naming) → occurs v (term_of name h c) ≡ false
var_absent h valid v i c u s d name = var_occurs h valid v i c u s name ∙ ne_eqb i v d

pub int_absent : (h : Cells) → IsHeap h → (v : ℕ) (c : Cell) (z : ℤ) → Same h c (cell.Int z) → (name : Naming) → occurs v (term_of name h c) ≡ false
int_absent h valid v c z s name = ap (occurs v) (s name ∙ term-Int name h valid z)

pub atom_absent : (h : Cells) → IsHeap h → (v : ℕ) (c : Cell) (a : AtomId) → Same h c (cell.Atom a) → (name : Naming) → occurs v (term_of name h c) ≡ false
atom_absent h valid v c a s name = ap (occurs v) (s name ∙ term-Atom name h valid a)

-- a cell that comes to a constant
pub constant_absent : (h : Cells) → IsHeap h → (v : ℕ) (c to : Cell) → Same h c to → ((i : ℕ) → to ≡ cell.Ref i → ⊥) → ((j : ℕ) → to ≡ cell.Struct j → ⊥)
    → (name : Naming) → occurs v (term_of name h c) ≡ false
constant_absent h valid v c (cell.Ref i) s r n = absurd (r i refl)
constant_absent h valid v c (cell.Int z) s r n = int_absent h valid v c z s
constant_absent h valid v c (cell.Atom x) s r n = atom_absent h valid v c x s
constant_absent h valid v c (cell.Struct j) s r n = absurd (n j refl)

-- ---- a look at a cell and at its arguments

other_absent : (h : Cells) → IsHeap h → (v : ℕ) (c to : Cell) → IsRoot h to → Same h c to → IsOther v to → (name : Naming) → occurs v (term_of name h c) ≡ false
other_absent h valid v c (cell.Ref i) r s o = var_absent h valid v i c r s o
other_absent h valid v c (cell.Int z) r s o = int_absent h valid v c z s
other_absent h valid v c (cell.Atom x) r s o = atom_absent h valid v c x s
other_absent h valid v c (cell.Struct j) r s o = absurd o

pub root_other : (h : Cells) → IsHeap h → (v : ℕ) (to : Cell) → IsRoot h to → IsOther v to → (name : Naming) → occurs v (term_of name h to) ≡ false
root_other h valid v to r o = other_absent h valid v to to r (λ name. refl) o

pub others_next : (h : Cells) → IsHeap h → (v : ℕ) (cs : List Cell) (i : ℕ) (d to : Cell) → i < length cs → IsAbsentAmong h v (take i cs) → IsRoot h to
    → Same h (get_or cs i d) to → IsOther v to → IsAbsentAmong h v (take (i + 1) cs)
others_next h valid v cs i d to l before r s o name =
    let T = term_of name h in
    let e : suc i ≡ i + 1 = omega arith in
    ap (λ n. occurs_any v (terms_by T (take n cs))) (sym e) ∙ ap (λ ds. occurs_any v (terms_by T ds)) (take-suc cs i d l) ∙ occurs_any-append v T (take i cs) (get_or cs i d ∷ [])
    ∙ ap (λ b. b || (occurs v (T (get_or cs i d)) || false)) (before name) ∙ ap (λ b. b || false) (other_absent h valid v (get_or cs i d) to r s o name)

pub args_absent : (h : Cells) → IsHeap h → (v : ℕ) (c : Cell) (f : AtomId) (args : List Cell) → IsCompound h c f args → IsAbsentAmong h v args → (name : Naming) → occurs v (term_of name h c) ≡ false
args_absent h valid v c f args k a name = ap (occurs v) (compound_term_is name h valid c f args k) ∙ a name

-- another root that is no compound term
pub root_absent : (h : Cells) → IsHeap h → (v : ℕ) (to : Cell) → IsRoot h to → (to ≡ cell.Ref v → ⊥) → ((j : ℕ) → to ≡ cell.Struct j → ⊥) → (name : Naming) → occurs v (term_of name h to) ≡ false
root_absent h valid v (cell.Ref i) r d n = var_absent h valid v i (cell.Ref i) r (λ name. refl) (λ e. d (ap cell.Ref e))
root_absent h valid v (cell.Int z) r d n = int_absent h valid v (cell.Int z) z (λ name. refl)
root_absent h valid v (cell.Atom x) r d n = atom_absent h valid v (cell.Atom x) x (λ name. refl)
root_absent h valid v (cell.Struct j) r d n = absurd (n j refl)

-- a root that is a compound term
pub compound_infinite : (h : Cells) → IsHeap h → (v j : ℕ) → TellsOccurs h v (cell.Struct j) true → IsInfinite h v (cell.Struct j)
compound_infinite h valid v j t name =
    let k = compound_at h j in
    let e : term_of name h (cell.Struct j) ≡ Comp (name k.name) (terms_by (term_of name h) k.args) = term-Struct name h valid j in
    (name k.name, terms_by (term_of name h) k.args, e, sym (ap (occurs v) e) ∙ sym (t name))

-- a root that is neither a variable nor an integer
pub else_symbolic : (h : Cells) → IsHeap h → (to : Cell) (y : Seen) → IsRoot h to → ((i : ℕ) → to ≡ cell.Ref i → slot_at h i ≡ free → ⊥) → IsSeen h to y
    → (IsRoot h to → IsTop h to y) → ((i k : ℕ) → y ≡ seen.Constrained i k → ⊥) → ((z : ℤ) → y ≡ seen.Int z → ⊥)
    → (name : Naming) → IsSymbolic (term_of name h to)
else_symbolic h valid to (seen.Open i) r d s t a b name = absurd (d i (t r) s.1)
else_symbolic h valid to (seen.Constrained i k) r d s t a b name = absurd (a i k refl)
else_symbolic h valid to (seen.Int z) r d s t a b name = absurd (b z refl)
else_symbolic h valid to (seen.Atom x) r d s t a b name = subst IsSymbolic (sym (s name ∙ term-Atom name h valid x)) tt
else_symbolic h valid to (seen.Struct f args) r d s t a b name = subst IsSymbolic (sym (compound_term_is name h valid to f args.now (s.0, s.2, s.3))) tt
