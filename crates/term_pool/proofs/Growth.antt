-- What is stored is kept while names, parts and nodes are added.
use Rattle.std.proofs.Common.{◌≡◌, ℕ, suc, ◌<◌, ◌≤◌, ◌+◌, ◌⊎◌, inl, inr, List, [], ◌∷◌, ◌++◌, Some, None, Bool, true, cond, refl, sym, ap, subst, ◌∙◌, arith}
use Rattle.std.proofs.Common.{length, take, drop, length-append}
use Rattle.std.specs.Prelude.{slice_get, option_map, OnOk, OnErr, IfOk, IsOk, IsTrue, Result, Ok, Err, All, IsUtf8, codes}
use Rattle.std.specs.List.{list_any}
use Rattle.std.specs.Str.{bytes_eq}
use Rattle.std.proofs.lemmas.List.{map-append, append-nil, drop-append-le, take-append-le, length-drop, length-map}
use Rattle.std.proofs.lemmas.Option.{slice_get_within, slice_get-map}
use Rattle.fd_language.specs.Term.{Name}
use Rattle.term_pool.specs.declared.AtomId.{AtomId}
use Rattle.term_pool.specs.declared.TermId.{TermId}
use Rattle.term_pool.specs.declared.TheConstants.{NIL, CONS, SPAN}
use Rattle.term_pool.specs.declared.Placed.{Placed}
use Rattle.term_pool.specs.declared.Stored.{Stored}
use Rattle.term_pool.specs.declared.Stored.TheVariants as stored
use Rattle.term_pool.specs.Contents.{first_names, Shape, var, int, atom, comp, Entry, Contents, name_in, shape_at, interned}
use Rattle.term_pool.specs.Terms.{Extends, term_of, shape_term}
use Rattle.term_pool.specs.PoolInvariant.{IsPool, IsWithin, HasMachineNumbers, AreDistinct}
use Rattle.term_pool.specs.PoolFields.{stored_shape, entry_of, entries_of, HasParts, AreStored, Grows}
use Rattle.term_pool.proofs.Names.{pushed_at, slice_get_seam, name_in-append, name_in-Some, named_is_there, slice_get-name_in, interned_grows}
use Rattle.term_pool.proofs.Names.{distinct_interned, utf8_interned}
use Rattle.term_pool.proofs.Laws.{term_of_entry, shape_term_kept, extends_refl, extends_push}

part_kept : (from count : ℕ) (xs ys : List TermId) → from + count ≤ length xs → take count (drop from (xs ++ ys)) ≡ take count (drop from xs)
part_kept from count xs ys h = rw (drop-append-le from xs ys (omega arith), take-append-le count (drop from xs) ys (omega (arith, length-drop from xs))) refl

shape_kept : (xs ys : List TermId) (s : Stored) → HasParts (length xs) s → stored_shape (xs ++ ys) s ≡ stored_shape xs s
shape_kept xs ys (stored.Var x) h = refl
shape_kept xs ys (stored.Int z) h = refl
shape_kept xs ys (stored.Atom a) h = refl
shape_kept xs ys (stored.Comp f from count) h = ap (comp f) (part_kept from count xs ys h)

has_parts_more : (n m : ℕ) (s : Stored) → n ≤ m → HasParts n s → HasParts m s
has_parts_more n m (stored.Var x) le h = tt
has_parts_more n m (stored.Int z) le h = tt
has_parts_more n m (stored.Atom a) le h = tt
has_parts_more n m (stored.Comp f from count) le h = omega arith

-- all entries, from the front
entries_kept : (xs ys : List TermId) (ns : List Placed) → ((i : ℕ) (n : Placed) → slice_get ns i ≡ Some n → HasParts (length xs) n.node) → entries_of (xs ++ ys) ns ≡ entries_of xs ns
entries_kept xs ys [] h = refl
entries_kept xs ys (n ∷ ns) h =
    ap (λ (s : Shape). record { shape = s; place = n.place } ∷ entries_of (xs ++ ys) ns) (shape_kept xs ys n.node (h 0 n refl))
    ∙ ap (λ (es : List Entry). entry_of xs n ∷ es) (entries_kept xs ys ns (λ i m e. h (suc i) m e))

pub grown_entries : (names : List Name) (old new : List TermId) (ns : List Placed) → Grows old new → AreStored names old ns → entries_of new ns ≡ entries_of old ns
grown_entries names old new ns g k = ap (λ (l : List TermId). entries_of l ns) g.1 ∙ entries_kept old g.0 ns k.held

pub length-entries_of : (parts : List TermId) (ns : List Placed) → length (entries_of parts ns) ≡ length ns
length-entries_of parts ns = length-map ns (entry_of parts)

-- the shape of what is stored
pub stored_at : (names : List Name) (parts : List TermId) (ns : List Placed) (t : TermId) (n : Placed) → slice_get ns t.number ≡ Some n
    → shape_at (record { names = names; entries = entries_of parts ns }) t ≡ Some (stored_shape parts n.node)
stored_at names parts ns t n h = ap (option_map (λ (e : Entry). e.shape)) (slice_get-map (entry_of parts) ns t.number ∙ ap (option_map (entry_of parts)) h)

-- more parts behind
pub stored_grown : (names : List Name) (old new : List TermId) (ns : List Placed) → Grows old new → AreStored names old ns → AreStored names new ns
stored_grown names old new ns g k = record {
  pool = subst (λ (es : List Entry). IsPool (record { names = names; entries = es })) (sym (grown_entries names old new ns g k)) k.pool;
  held = λ i n e. subst (λ (l : List TermId). HasParts (length l) n.node) (sym g.1) (has_parts_more (length old) (length (old ++ g.0)) n.node (omega (arith, length-append old g.0)) (k.held i n e));
}

within_more : (m n k : ℕ) (s : Shape) → m ≤ n → IsWithin m k s → IsWithin n k s
within_more m n k (var x) le w = tt
within_more m n k (int z) le w = tt
within_more m n k (atom a) le w = omega arith
within_more m n k (comp f ts) le w = (omega (arith, w.0), w.1)

-- one more entry
pub pool_push : (c : Contents) (e : Entry) → IsPool c → IsWithin (length c.names) (length c.entries) e.shape → HasMachineNumbers e.shape → IsPool (record c { entries = c.entries ++ e ∷ [] })
pool_push c e p w m = record {
  three = p.three;
  nil = p.nil;
  cons = p.cons;
  span = p.span;
  distinct = p.distinct;
  texts = p.texts;
  within = λ i f s. within i f (pushed_at c.entries e f i s);
  machine = λ i f s. machine i f (pushed_at c.entries e f i s);
}
  where
    within : (i : ℕ) (f : Entry) → (slice_get c.entries i ≡ Some f) ⊎ ((length c.entries ≡ i) × (e ≡ f)) → IsWithin (length c.names) i f.shape
    within i f (inl h) = p.within i f h
    within i f (inr h) = subst (λ (x : Entry). IsWithin (length c.names) i x.shape) h.1 (subst (λ (j : ℕ). IsWithin (length c.names) j e.shape) h.0 w)

    machine : (i : ℕ) (f : Entry) → (slice_get c.entries i ≡ Some f) ⊎ ((length c.entries ≡ i) × (e ≡ f)) → HasMachineNumbers f.shape
    machine i f (inl h) = p.machine i f h
    machine i f (inr h) = subst (λ (x : Entry). HasMachineNumbers x.shape) h.1 m

-- one more name
pub pool_named : (c : Contents) (text : Name) → IsUtf8 text → IsPool c → IsPool (record c { names = interned c.names text })
pool_named c text u p = record {
  three = omega (arith, p.three, longer);
  nil = kept NIL (omega (arith, p.three)) ∙ p.nil;
  cons = kept CONS (omega (arith, p.three)) ∙ p.cons;
  span = kept SPAN (omega (arith, p.three)) ∙ p.span;
  distinct = distinct_interned c.names text p.distinct;
  texts = utf8_interned c.names text u p.texts;
  within = λ i e s. within_more (length c.names) (length (interned c.names text)) i e.shape (longer) (p.within i e s);
  machine = p.machine;
}
  where
    grows : (more : List Name) × (interned c.names text ≡ c.names ++ more)
    grows = interned_grows c.names text

    longer : length c.names ≤ length (interned c.names text)
    longer = subst (λ (ns : List Name). length c.names ≤ length ns) (sym grows.1) (omega (arith, length-append c.names grows.0))

    kept : (a : AtomId) → a.number < length c.names → name_in (interned c.names text) a ≡ name_in c.names a
    kept a h = ap (λ (ns : List Name). name_in ns a) grows.1 ∙ name_in-append c.names grows.0 a h

pub stored_named : (names : List Name) (text : Name) → IsUtf8 text → (parts : List TermId) (ns : List Placed) → AreStored names parts ns → AreStored (interned names text) parts ns
stored_named names text u parts ns k = record {
  pool = pool_named (record { names = names; entries = entries_of parts ns }) text u k.pool;
  held = k.held;
}

-- one more node
pub entries_push : (parts : List TermId) (ns : List Placed) (n : Placed) → entries_of parts (ns ++ n ∷ []) ≡ entries_of parts ns ++ entry_of parts n ∷ []
entries_push parts ns n = map-append (entry_of parts) ns (n ∷ [])

pub stored_push : (names : List Name) (parts : List TermId) (ns : List Placed) (n : Placed) → AreStored names parts ns → HasParts (length parts) n.node
    → IsWithin (length names) (length ns) (stored_shape parts n.node) → HasMachineNumbers (stored_shape parts n.node) → AreStored names parts (ns ++ n ∷ [])
stored_push names parts ns n k h w m = record {
  pool = subst (λ (es : List Entry). IsPool (record { names = names; entries = es })) (sym (entries_push parts ns n))
      (pool_push (record { names = names; entries = entries_of parts ns }) (entry_of parts n) k.pool
      (subst (λ (l : ℕ). IsWithin (length names) l (stored_shape parts n.node)) (sym (length-entries_of parts ns)) w) m);
  held = λ i x e. held i x (pushed_at ns n x i e);
}
  where
    held : (i : ℕ) (x : Placed) → (slice_get ns i ≡ Some x) ⊎ ((length ns ≡ i) × (n ≡ x)) → HasParts (length parts) x.node
    held i x (inl e) = k.held i x e
    held i x (inr e) = subst (λ (y : Placed). HasParts (length parts) y.node) e.1 h

-- the pool that begins
pub distinct_first : AreDistinct first_names
distinct_first = distinct_interned (codes "[]" ∷ codes "." ∷ []) (codes "..")
    (distinct_interned (codes "[]" ∷ []) (codes ".") (distinct_interned [] (codes "[]") (λ a b la lb e. absurd (omega arith))))

texts_first : All IsUtf8 first_names
unfolding lib.Utf8.encode
texts_first =
    utf8_interned (codes "[]" ∷ codes "." ∷ []) (codes "..") (46 ∷ 46 ∷ [], (refl, refl))
    (utf8_interned (codes "[]" ∷ []) (codes ".") (46 ∷ [], (refl, refl)) (utf8_interned [] (codes "[]") (91 ∷ 93 ∷ [], (refl, refl)) (λ k d l. absurd (omega arith))))

pub first_pool : IsPool (record { names = first_names; entries = [] })
first_pool = record {
  three = omega arith;
  nil = refl;
  cons = refl;
  span = refl;
  distinct = distinct_first;
  texts = texts_first;
  within = λ i e s. absurd cc;
  machine = λ i e s. absurd cc;
}

pub first_stored : (names : List Name) (parts : List TermId) (ns : List Placed) → names ≡ first_names → ns ≡ [] → AreStored names parts ns
first_stored names parts ns e h = record {
  pool = subst (λ (xs : List Placed). IsPool (record { names = names; entries = entries_of parts xs })) (sym h)
      (subst (λ (l : List Name). IsPool (record { names = l; entries = [] })) (sym e) first_pool);
  held = λ i n s. let none : slice_get ns i ≡ None = ap (λ (xs : List Placed). slice_get xs i) h in absurd cc;
}

-- the term of the new entry
pub term_added : (c : Contents) (e : Entry) → IsPool c → IsWithin (length c.names) (length c.entries) e.shape → HasMachineNumbers e.shape → (t : TermId) → t.number ≡ length c.entries
    → term_of (record c { entries = c.entries ++ e ∷ [] }) t ≡ shape_term c e.shape
term_added c e p w m t h =
    let new : Contents = record c { entries = c.entries ++ e ∷ [] } in
    term_of_entry new (pool_push c e p w m) t e (slice_get_seam c.entries e t.number h) ∙ shape_term_kept c new p (extends_push c e) e.shape w

-- a pool that is as before
pub same_extends : (a b : Contents) → b ≡ a → Extends a b
same_extends a b e = subst (λ (p : Contents). Extends a p) (sym e) (extends_refl a)

-- the names after a call of `intern`
pub after_intern : {A E : Type 0} (r : Result A E) (old new : List Name) (text : Name) → OnOk r (new ≡ interned old text) → OnErr r (new ≡ old) → (new ≡ interned old text) ⊎ (new ≡ old)
after_intern (Ok x) old new text o e = inl o
after_intern (Err x) old new text o e = inr e

pub stored_interned : (old new : List Name) (text : Name) → IsUtf8 text → (parts : List TermId) (ns : List Placed) → (new ≡ interned old text) ⊎ (new ≡ old)
    → AreStored old parts ns → AreStored new parts ns
stored_interned old new text u parts ns (inl e) k = subst (λ (names : List Name). AreStored names parts ns) (sym e) (stored_named old text u parts ns k)
stored_interned old new text u parts ns (inr e) k = subst (λ (names : List Name). AreStored names parts ns) (sym e) k

pub extends_interned : (old new : List Name) (text : Name) (es : List Entry) → (new ≡ interned old text) ⊎ (new ≡ old)
    → Extends (record { names = old; entries = es }) (record { names = new; entries = es })
extends_interned old new text es (inl e) = let g = interned_grows old text in record { names = (g.0, e ∙ g.1); entries = ([], sym (append-nil es)) }
extends_interned old new text es (inr e) = record { names = ([], e ∙ sym (append-nil old)); entries = ([], sym (append-nil es)) }

-- a name that is there has its number
pub known_atom : {E : Type 0} (r : Result AtomId E) (old new : List Name) (text : Name) → AreDistinct old → (IsTrue (list_any (bytes_eq text) old) → IsOk r)
    → IfOk r (λ x. slice_get new x.number ≡ Some text)
    → OnOk r (new ≡ interned old text) → (a : AtomId) → a.number < length old → name_in old a ≡ text → r ≡ Ok a
known_atom {E} r old new text d known stands names a l e = go r known stands names
  where
    there : list_any (bytes_eq text) old ≡ true
    there = named_is_there old text a.number (slice_get-name_in old a l ∙ ap (λ (t : Name). Some t) e)

    go : (s : Result AtomId E) → (IsTrue (list_any (bytes_eq text) old) → IsOk s) → IfOk s (λ x. slice_get new x.number ≡ Some text) → OnOk s (new ≡ interned old text) → s ≡ Ok a
    go (Err x) k s n = let bad = k there in absurd cc
    go (Ok x) k s n =
        let same : new ≡ old = n ∙ ap (λ (b : Bool). cond b old (old ++ text ∷ [])) there in
        let mine : slice_get old x.number ≡ Some text = ap (λ (ns : List Name). slice_get ns x.number) (sym same) ∙ s in
        ap (λ (y : AtomId). Ok y) (d x a (slice_get_within old x.number text mine) l (name_in-Some old x text mine ∙ sym e))

-- a fact holds on an error too
pub on_err : {A E : Type 0} (r : Result A E) (P : Type 0) → P → OnErr r P
on_err (Ok x) P h = tt
on_err (Err e) P h = h
