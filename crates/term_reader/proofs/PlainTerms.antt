-- A placed term without its places is the pool's term, and has the pool's place.
use Rattle.std.proofs.Common.{◌≡◌, ℕ, List, [], ◌∷◌, ◌++◌, Option, Some, None, refl, sym, ap, ◌∙◌, map}
use Rattle.std.specs.Prelude.{slice_get, unwrap_or, option_map}
use Rattle.std.proofs.lemmas.List.{map-append, append_assoc, append-nil}
use Rattle.std.proofs.lemmas.Option.{slice_get-map}
use Rattle.fd_language.specs.Term.{Name, Term, Atom, Comp, term}
use Rattle.fd_language.specs.PlacedTerm.{PlacedTerm, atom, plain, all_plain, place}
use Rattle.term_pool.specs.declared.TermId.{TermId}
use Rattle.term_pool.specs.Contents as pool
use Rattle.term_pool.specs.Contents.{Shape, Entry, Contents, name_in, place_at}
use Rattle.term_pool.specs.Terms as terms
use Rattle.term_pool.specs.Terms.{term_by, terms_by, terms_from, term_of}
use Rattle.term_pool.specs.PlacedTerms.{parts_by, placed_by, placed_by_id, placed_from, placed_of}

parts_plain : (p : TermId → PlacedTerm) (q : TermId → Term) (ts : List TermId) → ((t : TermId) → plain (p t) ≡ q t) → all_plain (parts_by p ts) ≡ terms_by q ts
parts_plain p q [] h = refl
parts_plain p q (t ∷ ts) h = ap (λ (x : Term). term x (all_plain (parts_by p ts))) (h t) ∙ ap (term (q t)) (parts_plain p q ts h)

by_plain : (names : List Name) (p : TermId → PlacedTerm) (q : TermId → Term) (at : ℕ) (s : Shape) → ((t : TermId) → plain (p t) ≡ q t) → plain (placed_by names p at s) ≡ term_by names q s
by_plain names p q at (pool.var x) h = refl
by_plain names p q at (pool.int z) h = refl
by_plain names p q at (pool.atom a) h = refl
by_plain names p q at (pool.comp f ts) h = ap (Comp (name_in names f)) (parts_plain p q ts h)

pick_plain : (o : Option PlacedTerm) → plain (unwrap_or o (atom [] 0)) ≡ unwrap_or (option_map plain o) (Atom [])
pick_plain None = refl
pick_plain (Some x) = refl

numbered_plain : (ts : List PlacedTerm) (t : TermId) → plain (placed_by_id ts t) ≡ terms.term_by_id (map plain ts) t
numbered_plain ts t = pick_plain (slice_get ts t.number) ∙ ap (λ (o : Option Term). unwrap_or o (Atom [])) (sym (slice_get-map plain ts t.number))

from_plain : (names : List Name) (ts : List PlacedTerm) (es : List Entry) → map plain (placed_from names ts es) ≡ terms_from names (map plain ts) es
from_plain names ts [] = refl
from_plain names ts (e ∷ es) =
    let x = placed_by names (placed_by_id ts) e.place e.shape in
    from_plain names (ts ++ x ∷ []) es
    ∙ ap (λ (us : List Term). terms_from names us es) (map-append plain ts (x ∷ []))
    ∙ ap (λ (u : Term). terms_from names (map plain ts ++ u ∷ []) es) (by_plain names (placed_by_id ts) (terms.term_by_id (map plain ts)) e.place e.shape (numbered_plain ts))

-- without its places it is the term that the id stands for
pub plain_placed : (c : Contents) (t : TermId) → plain (placed_of c t) ≡ term_of c t
unfolding placed_of term_of
plain_placed c t = numbered_plain (placed_from c.names [] c.entries) t ∙ ap (λ (us : List Term). terms.term_by_id us t) (from_plain c.names [] c.entries)

by_place : (names : List Name) (p : TermId → PlacedTerm) (at : ℕ) (s : Shape) → place (placed_by names p at s) ≡ at
by_place names p at (pool.var x) = refl
by_place names p at (pool.int z) = refl
by_place names p at (pool.atom a) = refl
by_place names p at (pool.comp f ts) = refl

from_places : (names : List Name) (ts : List PlacedTerm) (es : List Entry) → map place (placed_from names ts es) ≡ map place ts ++ map (λ e. e.place) es
from_places names ts [] = sym (append-nil (map place ts))
from_places names ts (e ∷ es) =
    let x = placed_by names (placed_by_id ts) e.place e.shape in
    from_places names (ts ++ x ∷ []) es
    ∙ ap (λ (ps : List ℕ). ps ++ map (λ e. e.place) es) (map-append place ts (x ∷ []))
    ∙ append_assoc (map place ts) (place x ∷ []) (map (λ e. e.place) es)
    ∙ ap (λ (p : ℕ). map place ts ++ p ∷ map (λ e. e.place) es) (by_place names (placed_by_id ts) e.place e.shape)

pick_place : (o : Option PlacedTerm) (p : ℕ) → option_map place o ≡ Some p → place (unwrap_or o (atom [] 0)) ≡ p
pick_place None p e = absurd cc
pick_place (Some x) p e = cc

-- and its place is the pool's
pub place_placed : (c : Contents) (t : TermId) (p : ℕ) → place_at c t ≡ Some p → place (placed_of c t) ≡ p
unfolding placed_of
place_placed c t p e =
    let all = placed_from c.names [] c.entries in
    pick_place (slice_get all t.number) p
    (sym (slice_get-map place all t.number) ∙ ap (λ (ps : List ℕ). slice_get ps t.number) (from_places c.names [] c.entries) ∙ slice_get-map (λ e. e.place) c.entries t.number ∙ e)
