-- Laws of the placed terms that ids stand for.
use Rattle.std.proofs.Common.{◌≡◌, ℕ, suc, ◌<◌, ◌≤◌, ◌+◌, List, [], ◌∷◌, ◌++◌, Some, refl, ap, ◌∙◌, arith, length, length-append}
use Rattle.std.specs.Prelude.{slice_get, All, Result, Ok, Err, IfOk, OnOk}
use Rattle.fd_language.specs.Term.{Name}
use Rattle.fd_language.specs.PlacedTerm.{PlacedTerm, atom, comp, no_parts, one, part, two, with_last}
use Rattle.term_pool.specs.declared.AtomId.{AtomId}
use Rattle.term_pool.specs.declared.TermId.{TermId}
use Rattle.term_pool.specs.Contents as pool
use Rattle.term_pool.specs.Contents.{Shape, Entry, Contents, atom_name}
use Rattle.term_pool.specs.Terms.{Extends}
use Rattle.term_pool.specs.PoolInvariant.{IsPool, IsWithin}
use Rattle.term_pool.proofs.Lemmas.{name_in-append, extends_trans, parts_by_same, numbered_seam, front_kept}
use Rattle.term_pool.specs.PlacedTerms.{parts_by, placed_by, placed_by_id, placed_from, placed_of}
use Rattle.term_reader.specs.PlacedTerms.{parts_of, Adds}

-- more names change no term
placed_by_names : (names more : List Name) (p : TermId → PlacedTerm) (n at : ℕ) (s : Shape) → IsWithin (length names) n s → placed_by (names ++ more) p at s ≡ placed_by names p at s
placed_by_names names more p n at (pool.var x) w = refl
placed_by_names names more p n at (pool.int z) w = refl
placed_by_names names more p n at (pool.atom a) w = ap (λ (m : Name). atom m at) (name_in-append names more a w)
placed_by_names names more p n at (pool.comp f ts) w = ap (λ (m : Name). comp m at (parts_by p ts)) (name_in-append names more f w.0)

placed_from-append : (names : List Name) (terms : List PlacedTerm) (es fs : List Entry) → placed_from names terms (es ++ fs) ≡ placed_from names (placed_from names terms es) fs
placed_from-append names terms [] fs = refl
placed_from-append names terms (e ∷ es) fs = placed_from-append names (terms ++ placed_by names (placed_by_id terms) e.place e.shape ∷ []) es fs

length-placed_from : (names : List Name) (terms : List PlacedTerm) (es : List Entry) → length (placed_from names terms es) ≡ length terms + length es
length-placed_from names terms [] = omega arith
length-placed_from names terms (e ∷ es) =
    let x = placed_by names (placed_by_id terms) e.place e.shape in
    length-placed_from names (terms ++ x ∷ []) es ∙ omega (arith, length-append terms (x ∷ []))

-- the terms are the same under more names
names_kept : (names more : List Name) (terms : List PlacedTerm) (es : List Entry) → ((i : ℕ) (e : Entry) → slice_get es i ≡ Some e → (n : ℕ) × IsWithin (length names) n e.shape)
    → placed_from (names ++ more) terms es ≡ placed_from names terms es
names_kept names more terms [] h = refl
names_kept names more terms (e ∷ es) h =
    let w = h 0 e refl in
    ap (λ (x : PlacedTerm). placed_from (names ++ more) (terms ++ x ∷ []) es) (placed_by_names names more (placed_by_id terms) w.0 e.place e.shape w.1)
    ∙ names_kept names more (terms ++ placed_by names (placed_by_id terms) e.place e.shape ∷ []) es (λ i f s. h (suc i) f s)

-- A pool that grows keeps the terms of its ids, with their places.
pub placed_kept : (old new : Contents) → IsPool old → Extends old new → (t : TermId) → t.number < length old.entries → placed_of new t ≡ placed_of old t
unfolding placed_of
placed_kept old new p x t h =
    let front = placed_from old.names [] old.entries in
    let names : placed_from new.names [] new.entries ≡ placed_from (old.names ++ x.names.0) [] (old.entries ++ x.entries.0) = cc (x.names.1, x.entries.1) in
    let split = placed_from-append (old.names ++ x.names.0) [] old.entries x.entries.0 in
    let same : placed_from (old.names ++ x.names.0) [] old.entries ≡ front = names_kept old.names x.names.0 [] old.entries (λ i e s. (i, p.within i e s)) in
    let whole : placed_from new.names [] new.entries ≡ placed_from (old.names ++ x.names.0) front x.entries.0 = names ∙ split
    ∙ ap (λ (ts : List PlacedTerm). placed_from (old.names ++ x.names.0) ts x.entries.0) same in
    ap (λ (ts : List PlacedTerm). placed_by_id ts t) whole
    ∙ front_kept (old.names ++ x.names.0) front x.entries.0 t (omega (arith, length-placed_from old.names [] old.entries))

-- and those of several ids
pub parts_kept : (old new : Contents) → IsPool old → Extends old new → (ts : List TermId) → All (λ t. t.number < length old.entries) ts → parts_of new ts ≡ parts_of old ts
unfolding parts_of
parts_kept old new p x ts h = parts_by_same (placed_of new) (placed_of old) (length old.entries) ts h (λ t k. placed_kept old new p x t k)

-- the term of a new entry
pub placed_added : (c : Contents) (e : Entry) (t : TermId) → IsPool c → IsWithin (length c.names) (length c.entries) e.shape → t.number ≡ length c.entries
    → placed_of (record c { entries = c.entries ++ e ∷ [] }) t ≡ placed_by c.names (placed_of c) e.place e.shape
unfolding placed_of
placed_added c e t p w at =
    let front = placed_from c.names [] c.entries in
    ap (λ (ts : List PlacedTerm). placed_by_id ts t) (placed_from-append c.names [] c.entries (e ∷ []))
    ∙ numbered_seam front (placed_by c.names (placed_by_id front) e.place e.shape) t (omega (arith, length-placed_from c.names [] c.entries))

-- what `Pool::add` gives
pub adds : (old new : Contents) (e : Entry) (t : TermId) → IsPool old → IsWithin (length old.names) (length old.entries) e.shape
    → new ≡ record old { entries = old.entries ++ e ∷ [] } → Extends old new → IsPool new → t.number ≡ length old.entries → Adds old new (placed_by old.names (placed_of old) e.place e.shape) t
adds old new e t p w is x v at = record {
  grows = x;
  valid = v;
  within = omega (arith, at, ap (λ (c : Contents). length c.entries) is, length-append old.entries (e ∷ []));
  is = ap (λ (c : Contents). placed_of c t) is ∙ placed_added old e t p w at;
}

pub extends_length : (old new : Contents) → Extends old new → length old.entries ≤ length new.entries
extends_length old new x = omega (arith, ap (λ (l : List Entry). length l) x.entries.1, length-append old.entries x.entries.0)

pub extends_names : (old new : Contents) → Extends old new → length old.names ≤ length new.names
extends_names old new x = omega (arith, ap (λ (l : List Name). length l) x.names.1, length-append old.names x.names.0)

parts_by-last : (by : TermId → PlacedTerm) (ts : List TermId) (t : TermId) → parts_by by (ts ++ t ∷ []) ≡ with_last (parts_by by ts) (by t)
parts_by-last by [] t = refl
parts_by-last by (u ∷ ts) t = ap (part (by u)) (parts_by-last by ts t)

pub parts_of-last : (c : Contents) (ts : List TermId) (t : TermId) → parts_of c (ts ++ t ∷ []) ≡ with_last (parts_of c ts) (placed_of c t)
unfolding parts_of
parts_of-last c ts t = parts_by-last (placed_of c) ts t

pub parts_of_none : (c : Contents) → parts_of c [] ≡ no_parts
unfolding parts_of
parts_of_none c = refl

pub parts_of_one : (c : Contents) (t : TermId) → parts_of c (t ∷ []) ≡ one (placed_of c t)
unfolding parts_of
parts_of_one c t = refl

pub parts_of_two : (c : Contents) (s t : TermId) → parts_of c (s ∷ t ∷ []) ≡ two (placed_of c s) (placed_of c t)
unfolding parts_of
parts_of_two c s t = refl

pub added : {E : Type 0} (r : Result TermId E) (old new : Contents) (e : Entry) → IsPool old → IsWithin (length old.names) (length old.entries) e.shape
    → OnOk r (new ≡ record old { entries = old.entries ++ e ∷ [] }) → Extends old new → IsPool new → IfOk r (λ t. t.number ≡ length old.entries)
    → IfOk r (Adds old new (placed_by old.names (placed_of old) e.place e.shape))
added (Ok t) old new e p w is x v at = adds old new e t p w is x v at
added (Err f) old new e p w is x v at = tt

-- a name first, then the term
pub added_named : {E : Type 0} (r : Result TermId E) (old mid new : Contents) (a : AtomId) (name : Name) (at : ℕ) (ts : List TermId) → IsPool old → All (λ t. t.number < length old.entries) ts
    → Extends old mid → atom_name mid a ≡ name → IfOk r (Adds mid new (comp (atom_name mid a) at (parts_of mid ts))) → IfOk r (Adds old new (comp name at (parts_of old ts)))
added_named (Err f) old mid new a name at ts p h x e k = tt
added_named (Ok t) old mid new a name at ts p h x e k = record {
  grows = extends_trans old mid new x k.grows;
  valid = k.valid;
  within = k.within;
  is = k.is ∙ ap (λ (n : Name). comp n at (parts_of mid ts)) e ∙ ap (comp name at) (parts_kept old mid p x ts h);
}
