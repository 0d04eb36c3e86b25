-- What one look at a cell shows.
use Rattle.std.proofs.Common.{◌≡◌, ℕ, ◌<◌, false, refl, ap, sym, ◌∙◌, subst, arith, length, get_or, []}
use Rattle.std.proofs.lemmas.Bool.{true≢false}
use Rattle.fd_language.specs.Term.{Var, Int, Atom, Comp}
use Rattle.heap_cells.specs.declared.Cell.{Cell}
use Rattle.heap_cells.specs.declared.Cell.TheVariants as cell
use Rattle.heap_cells.specs.declared.Variable.{Variable}
use Rattle.heap_cells.specs.declared.Variable.TheVariants as variable
use Rattle.heap_cells.specs.declared.Heap.TheInside.{Inside}
use Rattle.heap_cells.specs.Cells.{Slot, free, linked, bound, is_bound, Cells, slot_at, compound_at, Heaps, IsOf}
use Rattle.heap_cells.specs.HeapFields.{slot_of}
use Rattle.heap_cells.specs.SeenCells.{IsRoot, IsNeverOpen, binding_or, one_step}
use Rattle.heap_cells.specs.Terms.{Naming, Same, term_of, terms_by}
use Rattle.heap_cells.specs.HeapInvariant.{IsHeap}
use Rattle.heap_cells.proofs.Fields.{view_of, slot_is, slots_there}
use Rattle.heap_cells.proofs.Ranks.{term-Int, term-Atom, term-Struct, unbound_term}

abbrev unnamed : Naming
unnamed a = []

-- a cell whose end isn't an open variable comes to no open variable
pub never_open : (h : Cells) → IsHeap h → (c r : Cell) → Same h c r → IsRoot h r → ((i : ℕ) → r ≡ cell.Ref i → slot_at h i ≡ free → ⊥) → IsNeverOpen h c
never_open h v c (cell.Ref j) s root n i k =
    let e : Var i ≡ Var j = sym (unbound_term unnamed h v i (ap is_bound k.1)) ∙ sym (k.2 unnamed) ∙ s unnamed ∙ unbound_term unnamed h v j root in
    let same : i ≡ j = cc in
    n j refl (ap (slot_at h) (sym same) ∙ k.1)
never_open h v c (cell.Int z) s root n i k =
    let e : Var i ≡ Int z = sym (unbound_term unnamed h v i (ap is_bound k.1)) ∙ sym (k.2 unnamed) ∙ s unnamed ∙ term-Int unnamed h v z in
    absurd (let f : ⊥ = cc in f)
never_open h v c (cell.Atom a) s root n i k =
    let e : Var i ≡ Atom (unnamed a) = sym (unbound_term unnamed h v i (ap is_bound k.1)) ∙ sym (k.2 unnamed) ∙ s unnamed ∙ term-Atom unnamed h v a in
    absurd (let f : ⊥ = cc in f)
never_open h v c (cell.Struct j) s root n i k =
    let e : Var i ≡ Comp (unnamed (compound_at h j).name) (terms_by (term_of unnamed h) (compound_at h j).args) = sym
    (unbound_term unnamed h v i (ap is_bound k.1)) ∙ sym (k.2 unnamed) ∙ s unnamed ∙ term-Struct unnamed h v j in
    absurd (let f : ⊥ = cc in f)

-- a look at another cell leads nowhere else
pub stays_put : (h : Cells) (c : Cell) → ((i : ℕ) → c ≡ cell.Ref i → ⊥) → c ≡ one_step h c
stays_put h (cell.Ref i) n = absurd (n i refl)
stays_put h (cell.Int z) n = refl
stays_put h (cell.Atom a) n = refl
stays_put h (cell.Struct j) n = refl

-- a slot that isn't open isn't free
pub not_free : (v : Variable) → (v ≡ variable.Open → ⊥) → (v ≡ variable.Loose → ⊥) → slot_of v ≡ free → ⊥
not_free variable.Open n m e = n refl
not_free variable.Loose n m e = m refl
not_free (variable.Constrained k) n m e = cc
not_free (variable.Ref i) n m e = cc
not_free (variable.Int z) n m e = cc
not_free (variable.Atom a) n m e = cc
not_free (variable.Struct j) n m e = cc

-- cells of variables are told apart by their numbers
pub number_of : (i j : ℕ) → cell.Ref i ≡ cell.Ref j → i ≡ j
number_of i j e = cc

-- the slot of a variable that is bound to a cell
pub binding_at : (f : Inside) (seen : Heaps) → view_of f ≡ seen → (c : Cell) (i : ℕ) (v : Variable) (next : Cell) → c ≡ cell.Ref i → IsOf seen.now c
    → v ≡ get_or f.variables.items i v → slot_of v ≡ bound next → slot_at seen.now i ≡ bound next
binding_at f seen e c i v next r o g b =
    let own : i < length seen.now.slots = subst (IsOf seen.now) r o in
    let there = slots_there f seen e in
    slot_is f seen e i v v (omega arith) g ∙ b

-- a variable is bound to one cell
pub bound_alike : (h : Cells) (c : Cell) (i : ℕ) (next : Cell) (j k : ℕ) → c ≡ cell.Ref i → slot_at h i ≡ bound next → c ≡ cell.Ref j → slot_at h j ≡ bound (cell.Ref k) → next ≡ cell.Ref k
bound_alike h c i next j k e s f t =
    let same : i ≡ j = number_of i j (sym e ∙ f) in
    let both : bound next ≡ bound (cell.Ref k) = sym s ∙ ap (slot_at h) same ∙ t in
    cc

-- a look at a variable that isn't bound leads nowhere else
pub unbound_step : (h : Cells) (i : ℕ) → is_bound (slot_at h i) ≡ false → one_step h (cell.Ref i) ≡ cell.Ref i
unbound_step h i u = go (slot_at h i) u
  where
    go : (s : Slot) → is_bound s ≡ false → binding_or s (cell.Ref i) ≡ cell.Ref i
    go free v = refl
    go (linked k) v = refl
    go (bound d) v = absurd (let f : ⊥ = cc in f)

-- nor is it bound to a variable
pub unbound_here : (h : Cells) (c : Cell) (i : ℕ) → c ≡ cell.Ref i → is_bound (slot_at h i) ≡ false → (j k : ℕ) → c ≡ cell.Ref j → slot_at h j ≡ bound (cell.Ref k) → ⊥
unbound_here h c i e u j k f t = true≢false (sym (ap is_bound (ap (slot_at h) (number_of i j (sym e ∙ f)) ∙ t)) ∙ u)
