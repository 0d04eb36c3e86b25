-- Laws of the terms that ids stand for.
use Rattle.std.proofs.Common.{◌≡◌, ℕ, zero, suc, ◌<◌, ◌+◌, List, [], ◌∷◌, ◌++◌, Option, Some, None, refl, sym, ap, subst, ◌∙◌, arith, length, length-append}
use Rattle.std.proofs.Common.{append_assoc}
use Rattle.std.specs.Prelude.{slice_get, option_map, unwrap_or, All, IsUtf8}
use Rattle.std.proofs.lemmas.List.{append-nil}
use Rattle.std.proofs.lemmas.List.Elements.{All-head, All-tail}
use Rattle.fd_language.specs.Term.{Name, Term, Atom, Comp, term}
use Rattle.term_pool.specs.declared.AtomId.{AtomId}
use Rattle.term_pool.specs.declared.TermId.{TermId}
use Rattle.term_pool.specs.Contents.{Shape, var, int, atom, comp, Entry, Contents, atom_name, name_in, shape_at, place_at}
use Rattle.term_pool.specs.Terms.{terms_by, term_by, term_by_id, terms_from, term_of, shape_term, KeepsTerms, Extends}
use Rattle.term_pool.specs.PoolInvariant.{IsPool, IsWithin, HasMachineNumbers, IsStorable, AreStorable}
use Rattle.term_pool.proofs.Names.{slice_get-append, slice_get_seam, slice_get_found, name_in-append, utf8_name}

-- parts with the same terms make the same term
pub terms_by_same : (p q : TermId → Term) (n : ℕ) (ts : List TermId) → All (λ t. t.number < n) ts → ((t : TermId) → t.number < n → p t ≡ q t) → terms_by p ts ≡ terms_by q ts
terms_by_same p q n [] a same = refl
terms_by_same p q n (t ∷ ts) a same =
    let one : p t ≡ q t = same t (All-head (λ t. t.number < n) t ts a) in
    let rest : terms_by p ts ≡ terms_by q ts = terms_by_same p q n ts (All-tail (λ t. t.number < n) t ts a) same in
    ap (λ (x : Term). term x (terms_by p ts)) one ∙ ap (term (q t)) rest

pub term_by_same : (names : List Name) (p q : TermId → Term) (m n : ℕ) (s : Shape) → IsWithin m n s → ((t : TermId) → t.number < n → p t ≡ q t) → term_by names p s ≡ term_by names q s
term_by_same names p q m n (var x) w same = refl
term_by_same names p q m n (int z) w same = refl
term_by_same names p q m n (atom a) w same = refl
term_by_same names p q m n (comp f ts) w same = ap (Comp (name_in names f)) (terms_by_same p q n ts w.1 same)

-- more names change no term
pub term_by_names : (names more : List Name) (p : TermId → Term) (n : ℕ) (s : Shape) → IsWithin (length names) n s → term_by (names ++ more) p s ≡ term_by names p s
term_by_names names more p n (var x) w = refl
term_by_names names more p n (int z) w = refl
term_by_names names more p n (atom a) w = ap Atom (name_in-append names more a w)
term_by_names names more p n (comp f ts) w = ap (λ (m : Name). Comp m (terms_by p ts)) (name_in-append names more f w.0)

numbered-append : (terms more : List Term) (t : TermId) → t.number < length terms → term_by_id (terms ++ more) t ≡ term_by_id terms t
numbered-append terms more t h = ap (λ (o : Option Term). unwrap_or o (Atom [])) (slice_get-append terms more t.number h)

numbered_seam : (terms : List Term) (x : Term) (t : TermId) → t.number ≡ length terms → term_by_id (terms ++ x ∷ []) t ≡ x
numbered_seam terms x t h = ap (λ (o : Option Term). unwrap_or o (Atom [])) (slice_get_seam terms x t.number h)

terms_from-append : (names : List Name) (terms : List Term) (es fs : List Entry) → terms_from names terms (es ++ fs) ≡ terms_from names (terms_from names terms es) fs
terms_from-append names terms [] fs = refl
terms_from-append names terms (e ∷ es) fs = terms_from-append names (terms ++ term_by names (term_by_id terms) e.shape ∷ []) es fs

length-terms_from : (names : List Name) (terms : List Term) (es : List Entry) → length (terms_from names terms es) ≡ length terms + length es
length-terms_from names terms [] = omega arith
length-terms_from names terms (e ∷ es) =
    let x = term_by names (term_by_id terms) e.shape in
    length-terms_from names (terms ++ x ∷ []) es ∙ omega (arith, length-append terms (x ∷ []))

-- the terms that are there stay
front_kept : (names : List Name) (terms : List Term) (es : List Entry) (t : TermId) → t.number < length terms → term_by_id (terms_from names terms es) t ≡ term_by_id terms t
front_kept names terms [] t h = refl
front_kept names terms (e ∷ es) t h =
    let x = term_by names (term_by_id terms) e.shape in
    front_kept names (terms ++ x ∷ []) es t (omega (arith, length-append terms (x ∷ []))) ∙ numbered-append terms (x ∷ []) t h

-- each is made of those before it
made_at : (names : List Name) (m : ℕ) (terms : List Term) (es : List Entry) (i : ℕ) (e : Entry) (t : TermId) → slice_get es i ≡ Some e → t.number ≡ length terms + i → IsWithin m t.number e.shape
    → term_by_id (terms_from names terms es) t ≡ term_by names (term_by_id (terms_from names terms es)) e.shape
made_at names m terms [] i e t s n w = absurd cc
made_at names m terms (f ∷ es) zero e t s n w =
    let same : f ≡ e = cc in
    let x = term_by names (term_by_id terms) f.shape in
    let all = terms_from names (terms ++ x ∷ []) es in
    let at_end : t.number ≡ length terms = omega arith in
    let mine : term_by_id all t ≡ x = front_kept names (terms ++ x ∷ []) es t (omega (arith, length-append terms (x ∷ []))) ∙ numbered_seam terms x t at_end in
    let parts : term_by names (term_by_id terms) e.shape ≡ term_by names (term_by_id all) e.shape =
    term_by_same names (term_by_id terms) (term_by_id all) m t.number e.shape w (λ p h. sym (front_kept names terms (f ∷ es) p (omega arith))) in
    mine ∙ ap (λ (g : Entry). term_by names (term_by_id terms) g.shape) same ∙ parts
made_at names m terms (f ∷ es) (suc i) e t s n w =
    let x = term_by names (term_by_id terms) f.shape in
    made_at names m (terms ++ x ∷ []) es i e t s (omega (arith, length-append terms (x ∷ []))) w

-- the terms are the same under more names
names_kept : (names more : List Name) (terms : List Term) (es : List Entry) → ((i : ℕ) (e : Entry) → slice_get es i ≡ Some e → (n : ℕ) × IsWithin (length names) n e.shape)
    → terms_from (names ++ more) terms es ≡ terms_from names terms es
names_kept names more terms [] h = refl
names_kept names more terms (e ∷ es) h =
    let w = h 0 e refl in
    ap (λ (x : Term). terms_from (names ++ more) (terms ++ x ∷ []) es) (term_by_names names more (term_by_id terms) w.0 e.shape w.1)
    ∙ names_kept names more (terms ++ term_by names (term_by_id terms) e.shape ∷ []) es (λ i f s. h (suc i) f s)

-- The term of an id is that of its shape, with the terms of its parts.
pub term_of_entry : (c : Contents) → IsPool c → (t : TermId) (e : Entry) → slice_get c.entries t.number ≡ Some e → term_of c t ≡ shape_term c e.shape
unfolding term_of
term_of_entry c p t e s = made_at c.names (length c.names) [] c.entries t.number e t s (omega arith) (p.within t.number e s)

-- the entry of a shape
entry_at : (c : Contents) (t : TermId) (s : Shape) → shape_at c t ≡ Some s → (e : Entry) × (slice_get c.entries t.number ≡ Some e) × (e.shape ≡ s)
entry_at c t s h = go (slice_get c.entries t.number) h
  where
    go : (o : Option Entry) → option_map (λ e. e.shape) o ≡ Some s → (e : Entry) × (o ≡ Some e) × (e.shape ≡ s)
    go None k = absurd cc
    go (Some e) k = (e, refl, cc)

pub term_of_shape : (c : Contents) → IsPool c → (t : TermId) (s : Shape) → shape_at c t ≡ Some s → term_of c t ≡ shape_term c s
term_of_shape c p t s h = let e = entry_at c t s h in term_of_entry c p t e.0 e.1 ∙ ap (shape_term c) e.2

-- A term's atoms are of the pool, and its parts have smaller numbers.
pub shape_within : (c : Contents) → IsPool c → (t : TermId) (s : Shape) → shape_at c t ≡ Some s → IsWithin (length c.names) t.number s
shape_within c p t s h = let e = entry_at c t s h in subst (IsWithin (length c.names) t.number) e.2 (p.within t.number e.0 e.1)

-- A pool that grows keeps the terms of its ids.
pub terms_kept : (old new : Contents) → IsPool old → Extends old new → KeepsTerms old new
unfolding term_of
terms_kept old new p x t h =
    let front = terms_from old.names [] old.entries in
    let names : terms_from new.names [] new.entries ≡ terms_from (old.names ++ x.names.0) [] (old.entries ++ x.entries.0) = cc (x.names.1, x.entries.1) in
    let split = terms_from-append (old.names ++ x.names.0) [] old.entries x.entries.0 in
    let same : terms_from (old.names ++ x.names.0) [] old.entries ≡ front = names_kept old.names x.names.0 [] old.entries (λ i e s. (i, p.within i e s)) in
    let whole : terms_from new.names [] new.entries ≡ terms_from (old.names ++ x.names.0) front x.entries.0 = names ∙ split
    ∙ ap (λ (ts : List Term). terms_from (old.names ++ x.names.0) ts x.entries.0) same in
    ap (λ (ts : List Term). term_by_id ts t) whole
    ∙ front_kept (old.names ++ x.names.0) front x.entries.0 t (omega (arith, length-terms_from old.names [] old.entries))

-- A pool that grows keeps the names of its atoms.
pub name_kept : (old new : Contents) → Extends old new → (a : AtomId) → a.number < length old.names → atom_name new a ≡ atom_name old a
name_kept old new x a h = ap (λ (ns : List Name). name_in ns a) x.names.1 ∙ name_in-append old.names x.names.0 a h

-- The place that an id had in the old pool it has in the new one.
pub place_kept : (old new : Contents) → Extends old new → (t : TermId) → t.number < length old.entries → place_at new t ≡ place_at old t
place_kept old new x t h =
    ap (λ (es : List Entry). option_map (λ e. e.place) (slice_get es t.number)) x.entries.1
    ∙ ap (option_map (λ (e : Entry). e.place)) (slice_get-append old.entries x.entries.0 t.number h)

-- A shape whose ids are of the old pool has the same term in the new one.
pub shape_term_kept : (old new : Contents) → IsPool old → Extends old new → (s : Shape) → IsWithin (length old.names) (length old.entries) s → shape_term new s ≡ shape_term old s
shape_term_kept old new p x s w =
    term_by_same new.names (term_of new) (term_of old) (length old.names) (length old.entries) s w (terms_kept old new p x)
    ∙ ap (λ (ns : List Name). term_by ns (term_of old) s) x.names.1
    ∙ term_by_names old.names x.names.0 (term_of old) (length old.entries) s w

-- A pool extends itself, and what extends it may be extended.
pub extends_refl : (c : Contents) → Extends c c
extends_refl c = record { names = ([], sym (append-nil c.names)); entries = ([], sym (append-nil c.entries)) }

pub extends_trans : (a b c : Contents) → Extends a b → Extends b c → Extends a c
extends_trans a b c x y = record {
  names = (x.names.0 ++ y.names.0, y.names.1 ∙ ap (λ (ns : List Name). ns ++ y.names.0) x.names.1 ∙ append_assoc a.names x.names.0 y.names.0);
  entries = (x.entries.0 ++ y.entries.0, y.entries.1 ∙ ap (λ (es : List Entry). es ++ y.entries.0) x.entries.1 ∙ append_assoc a.entries x.entries.0 y.entries.0);
}

-- One more entry behind the others.
pub extends_push : (c : Contents) (e : Entry) → Extends c (record c { entries = c.entries ++ e ∷ [] })
extends_push c e = record { names = ([], sym (append-nil c.names)); entries = (e ∷ [], refl) }

-- A name is a text.
pub name_is_text : (c : Contents) → IsPool c → (a : AtomId) → IsUtf8 (atom_name c a)
name_is_text c p a = utf8_name c.names a p.texts

parts_storable : (c : Contents) (n : ℕ) (ts : List TermId) → All (λ t. t.number < n) ts → ((t : TermId) → t.number < n → IsStorable (term_of c t)) → AreStorable (terms_by (term_of c) ts)
parts_storable c n [] a h = tt
parts_storable c n (t ∷ ts) a h = (h t (All-head (λ t. t.number < n) t ts a), parts_storable c n ts (All-tail (λ t. t.number < n) t ts a) h)

shape_storable : (c : Contents) → IsPool c → (n : ℕ) (s : Shape) → IsWithin (length c.names) n s → HasMachineNumbers s
    → ((t : TermId) → t.number < n → IsStorable (term_of c t)) → IsStorable (shape_term c s)
shape_storable c p n (var x) w m h = m
shape_storable c p n (int z) w m h = m
shape_storable c p n (atom a) w m h = name_is_text c p a
shape_storable c p n (comp f ts) w m h = (name_is_text c p f, parts_storable c n ts w.1 h)

storable_below : (c : Contents) → IsPool c → (n : ℕ) (t : TermId) → t.number < n → t.number < length c.entries → IsStorable (term_of c t)
storable_below c p zero t h l = absurd (omega arith)
storable_below c p (suc n) t h l =
    let e = slice_get_found c.entries t.number l in
    subst IsStorable (sym (term_of_entry c p t e.0 e.1))
    (shape_storable c p t.number e.0.shape (p.within t.number e.0 e.1) (p.machine t.number e.0 e.1) (λ q k. storable_below c p n q (omega arith) (omega arith)))

-- The numbers of a pool's terms have 64 bits, and their names are texts.
pub term_is_storable : (c : Contents) → IsPool c → (t : TermId) → t.number < length c.entries → IsStorable (term_of c t)
term_is_storable c p t l = storable_below c p (suc t.number) t (omega arith) l
