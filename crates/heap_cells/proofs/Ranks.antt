-- The term of a cell, by its equations: the bound on the depth means nothing once it is above the cell's rank.
use Rattle.std.proofs.Common.{◌≡◌, ℕ, zero, suc, ◌+◌, ◌^◌, ◌<◌, ◌≤◌, ℤ, false, refl, ap, sym, ◌∙◌, arith, List, [], ◌∷◌, length}
use Rattle.std.specs.Prelude.{All}
use Rattle.std.proofs.lemmas.List.Sums.{count_by-le-length}
use Rattle.term_pool.specs.declared.AtomId.{AtomId}
use Rattle.fd_language.specs.Term.{Term, Var, Int, Atom, Comp}
use Rattle.heap_cells.specs.declared.Cell.{Cell}
use Rattle.heap_cells.specs.declared.Cell.TheVariants as cell
use Rattle.heap_cells.specs.Cells.{Slot, free, linked, bound, is_bound, Cells, slot_at, compound_at}
use Rattle.heap_cells.specs.Terms.{Naming, terms_by, slot_term, compound_term, within, depth, term_of}
use Rattle.heap_cells.specs.HeapInvariant.{bound_in, IsRanked, IsHeap}
use Rattle.std.proofs.Math.Nat.{pow-le-pow_right}
use Rattle.heap_cells.proofs.Elements.{head_of, tail_of}

-- terms of cells by two ways that agree on these cells
pub terms_agree : (P : Cell → Type 0) (f g : Cell → Term) → ((c : Cell) → P c → f c ≡ g c) → (cs : List Cell) → All P cs → terms_by f cs ≡ terms_by g cs
terms_agree P f g e [] h = refl
terms_agree P f g e (c ∷ cs) h = let a = e c (head_of P c cs h) in let b = terms_agree P f g e cs (tail_of P c cs h) in cc

pub slot_agrees : (f g : Cell → Term) (i : ℕ) (s : Slot) → ((c : Cell) → s ≡ bound c → f c ≡ g c) → slot_term f i s ≡ slot_term g i s
slot_agrees f g i free e = refl
slot_agrees f g i (linked k) e = refl
slot_agrees f g i (bound c) e = e c refl

-- two bounds above the rank
pub stable : (name : Naming) (h : Cells) (rank : Cell → ℕ) → IsRanked h rank → (n m : ℕ) (c : Cell) → rank c < n → rank c < m → within name h n c ≡ within name h m c
stable name h rank r zero m c a b = absurd (omega arith)
stable name h rank r (suc n) zero c a b = absurd (omega arith)
stable name h rank r (suc n) (suc m) (cell.Ref i) a b =
    slot_agrees (within name h n) (within name h m) i (slot_at h i) (λ c e. let l = r.slots i c e in stable name h rank r n m c (omega arith) (omega arith))
stable name h rank r (suc n) (suc m) (cell.Int z) a b = refl
stable name h rank r (suc n) (suc m) (cell.Atom x) a b = refl
stable name h rank r (suc n) (suc m) (cell.Struct j) a b =
    ap (Comp (name (compound_at h j).name))
    (terms_agree (λ c. rank c < rank (cell.Struct j)) (within name h n) (within name h m) (λ c l. stable name h rank r n m c (omega arith) (omega arith)) (compound_at h j).args (r.parts j))

-- every rank is below the bound
pub ranks_low : (h : Cells) (rank : Cell → ℕ) → IsRanked h rank → (c : Cell) → rank c < depth h
ranks_low h rank r c =
    let l = r.low c in
    let b : bound_in h.slots ≤ length h.slots = count_by-le-length is_bound h.slots in
    let s : bound_in h.slots + length h.compounds ≤ length h.slots + length h.compounds = omega arith in
    let p : 2 ^ (bound_in h.slots + length h.compounds) ≤ 2 ^ (length h.slots + length h.compounds) = pow-le-pow_right (omega arith) s in
    omega arith

pub term_by_rank : (name : Naming) (h : Cells) (rank : Cell → ℕ) → IsRanked h rank → (n : ℕ) (c : Cell) → rank c < n → term_of name h c ≡ within name h n c
unfolding term_of
term_by_rank name h rank r n c l = stable name h rank r (depth h) n c (ranks_low h rank r c) l

-- the equations
pub term-Ref : (name : Naming) (h : Cells) → IsHeap h → (i : ℕ) → term_of name h (cell.Ref i) ≡ slot_term (term_of name h) i (slot_at h i)
term-Ref name h v i =
    let rank = v.ranked.0 in
    let r = v.ranked.1 in
    term_by_rank name h rank r (suc (rank (cell.Ref i))) (cell.Ref i) (omega arith)
    ∙ slot_agrees (within name h (rank (cell.Ref i))) (term_of name h) i (slot_at h i) (λ c e. sym (term_by_rank name h rank r (rank (cell.Ref i)) c (r.slots i c e)))

pub term-Int : (name : Naming) (h : Cells) → IsHeap h → (z : ℤ) → term_of name h (cell.Int z) ≡ Int z
term-Int name h v z = term_by_rank name h v.ranked.0 v.ranked.1 (suc (v.ranked.0 (cell.Int z))) (cell.Int z) (omega arith)

pub term-Atom : (name : Naming) (h : Cells) → IsHeap h → (a : AtomId) → term_of name h (cell.Atom a) ≡ Atom (name a)
term-Atom name h v a = term_by_rank name h v.ranked.0 v.ranked.1 (suc (v.ranked.0 (cell.Atom a))) (cell.Atom a) (omega arith)

pub term-Struct : (name : Naming) (h : Cells) → IsHeap h → (j : ℕ) → term_of name h (cell.Struct j) ≡ compound_term name (term_of name h) (compound_at h j)
term-Struct name h v j =
    let rank = v.ranked.0 in
    let r = v.ranked.1 in
    term_by_rank name h rank r (suc (rank (cell.Struct j))) (cell.Struct j) (omega arith)
    ∙ ap (Comp (name (compound_at h j).name))
    (terms_agree (λ c. rank c < rank (cell.Struct j)) (within name h (rank (cell.Struct j))) (term_of name h)
    (λ c l. sym (term_by_rank name h rank r (rank (cell.Struct j)) c l)) (compound_at h j).args (r.parts j))

-- a variable that isn't bound stands for itself
pub unbound_term : (name : Naming) (h : Cells) → IsHeap h → (i : ℕ) → is_bound (slot_at h i) ≡ false → term_of name h (cell.Ref i) ≡ Var i
unbound_term name h v i e = term-Ref name h v i ∙ own (term_of name h) (slot_at h i) e
  where
    own : (by : Cell → Term) (s : Slot) → is_bound s ≡ false → slot_term by i s ≡ Var i
    own by free e = refl
    own by (linked k) e = refl
    own by (bound c) e = cc

pub bound_term : (name : Naming) (h : Cells) → IsHeap h → (i : ℕ) (c : Cell) → slot_at h i ≡ bound c → term_of name h (cell.Ref i) ≡ term_of name h c
bound_term name h v i c e = term-Ref name h v i ∙ ap (slot_term (term_of name h) i) e
