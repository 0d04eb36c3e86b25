-- The placed term of an id is that of its entry.
use Rattle.std.proofs.Common.{◌≡◌, ℕ, zero, suc, ◌<◌, ◌+◌, List, [], ◌∷◌, ◌++◌, Option, Some, None, refl, sym, ap, ◌∙◌, arith, length, length-append}
use Rattle.std.specs.Prelude.{slice_get, option_map, unwrap_or, All}
use Rattle.std.proofs.lemmas.List.Elements.{All-head, All-tail}
use Rattle.fd_language.specs.Term.{Name}
use Rattle.fd_language.specs.PlacedTerm.{PlacedTerm, atom, comp, part}
use Rattle.term_pool.specs.declared.TermId.{TermId}
use Rattle.term_pool.specs.Contents as pool
use Rattle.term_pool.specs.Contents.{Shape, Entry, Contents, name_in, shape_at, place_at}
use Rattle.term_pool.specs.PoolInvariant.{IsPool, IsWithin}
use Rattle.term_pool.proofs.Names.{slice_get-append, slice_get_seam, slice_get_found}
use Rattle.term_pool.specs.PlacedTerms.{parts_by, placed_by, placed_by_id, placed_from, placed_of}

-- parts with the same terms make the same term
pub parts_by_same : (p q : TermId → PlacedTerm) (n : ℕ) (ts : List TermId) → All (λ t. t.number < n) ts → ((t : TermId) → t.number < n → p t ≡ q t) → parts_by p ts ≡ parts_by q ts
parts_by_same p q n [] a same = refl
parts_by_same p q n (t ∷ ts) a same =
    let one : p t ≡ q t = same t (All-head (λ t. t.number < n) t ts a) in
    let rest : parts_by p ts ≡ parts_by q ts = parts_by_same p q n ts (All-tail (λ t. t.number < n) t ts a) same in
    ap (λ (x : PlacedTerm). part x (parts_by p ts)) one ∙ ap (part (q t)) rest

placed_by_same : (names : List Name) (p q : TermId → PlacedTerm) (m n at : ℕ) (s : Shape) → IsWithin m n s → ((t : TermId) → t.number < n → p t ≡ q t) → placed_by names p at s ≡ placed_by names q at s
placed_by_same names p q m n at (pool.var x) w same = refl
placed_by_same names p q m n at (pool.int z) w same = refl
placed_by_same names p q m n at (pool.atom a) w same = refl
placed_by_same names p q m n at (pool.comp f ts) w same = ap (comp (name_in names f) at) (parts_by_same p q n ts w.1 same)

pub numbered-append : (terms more : List PlacedTerm) (t : TermId) → t.number < length terms → placed_by_id (terms ++ more) t ≡ placed_by_id terms t
numbered-append terms more t h = ap (λ (o : Option PlacedTerm). unwrap_or o (atom [] 0)) (slice_get-append terms more t.number h)

pub numbered_seam : (terms : List PlacedTerm) (x : PlacedTerm) (t : TermId) → t.number ≡ length terms → placed_by_id (terms ++ x ∷ []) t ≡ x
numbered_seam terms x t h = ap (λ (o : Option PlacedTerm). unwrap_or o (atom [] 0)) (slice_get_seam terms x t.number h)

-- the terms that are there stay
pub front_kept : (names : List Name) (terms : List PlacedTerm) (es : List Entry) (t : TermId) → t.number < length terms → placed_by_id (placed_from names terms es) t ≡ placed_by_id terms t
front_kept names terms [] t h = refl
front_kept names terms (e ∷ es) t h =
    let x = placed_by names (placed_by_id terms) e.place e.shape in
    front_kept names (terms ++ x ∷ []) es t (omega (arith, length-append terms (x ∷ []))) ∙ numbered-append terms (x ∷ []) t h

-- each is made of those before it
made_at : (names : List Name) (m : ℕ) (terms : List PlacedTerm) (es : List Entry) (i : ℕ) (e : Entry) (t : TermId) → slice_get es i ≡ Some e → t.number ≡ length terms + i → IsWithin m t.number e.shape
    → placed_by_id (placed_from names terms es) t ≡ placed_by names (placed_by_id (placed_from names terms es)) e.place e.shape
made_at names m terms [] i e t s n w = absurd cc
made_at names m terms (f ∷ es) zero e t s n w =
    let same : f ≡ e = cc in
    let x = placed_by names (placed_by_id terms) f.place f.shape in
    let all = placed_from names (terms ++ x ∷ []) es in
    let at_end : t.number ≡ length terms = omega arith in
    let mine : placed_by_id all t ≡ x = front_kept names (terms ++ x ∷ []) es t (omega (arith, length-append terms (x ∷ []))) ∙ numbered_seam terms x t at_end in
    let parts : placed_by names (placed_by_id terms) e.place e.shape ≡ placed_by names (placed_by_id all) e.place e.shape =
    placed_by_same names (placed_by_id terms) (placed_by_id all) m t.number e.place e.shape w (λ p h. sym (front_kept names terms (f ∷ es) p (omega arith))) in
    mine ∙ ap (λ (g : Entry). placed_by names (placed_by_id terms) g.place g.shape) same ∙ parts
made_at names m terms (f ∷ es) (suc i) e t s n w =
    let x = placed_by names (placed_by_id terms) f.place f.shape in
    made_at names m (terms ++ x ∷ []) es i e t s (omega (arith, length-append terms (x ∷ []))) w

placed_of_entry : (c : Contents) → IsPool c → (t : TermId) (e : Entry) → slice_get c.entries t.number ≡ Some e → placed_of c t ≡ placed_by c.names (placed_of c) e.place e.shape
unfolding placed_of
placed_of_entry c p t e s = made_at c.names (length c.names) [] c.entries t.number e t s (omega arith) (p.within t.number e s)

-- The placed term of an id is that of its shape and its place, with those of its parts.
pub placed_of_shape : (c : Contents) → IsPool c → (t : TermId) (s : Shape) (p : ℕ) → shape_at c t ≡ Some s → place_at c t ≡ Some p → placed_of c t ≡ placed_by c.names (placed_of c) p s
placed_of_shape c v t s p h k = go (slice_get c.entries t.number) refl
  where
    go : (o : Option Entry) → slice_get c.entries t.number ≡ o → placed_of c t ≡ placed_by c.names (placed_of c) p s
    go None e =
        let none : option_map (λ (e : Entry). e.shape) None ≡ Some s = ap (option_map (λ (e : Entry). e.shape)) (sym e) ∙ h in
        absurd cc
    go (Some x) e =
        let shape : option_map (λ (e : Entry). e.shape) (Some x) ≡ Some s = ap (option_map (λ (e : Entry). e.shape)) (sym e) ∙ h in
        let place : option_map (λ (e : Entry). e.place) (Some x) ≡ Some p = ap (option_map (λ (e : Entry). e.place)) (sym e) ∙ k in
        let a : x.shape ≡ s = cc in
        let b : x.place ≡ p = cc in
        placed_of_entry c v t x e ∙ ap (λ (r : Shape). placed_by c.names (placed_of c) x.place r) a ∙ ap (λ (q : ℕ). placed_by c.names (placed_of c) q s) b

-- Each id of the pool has a shape and a place.
pub entry_of : (c : Contents) (t : TermId) → t.number < length c.entries → (e : Entry) × (shape_at c t ≡ Some e.shape) × (place_at c t ≡ Some e.place)
entry_of c t h = let f = slice_get_found c.entries t.number h in (f.0, ap (option_map (λ (e : Entry). e.shape)) f.1, ap (option_map (λ (e : Entry). e.place)) f.1)
