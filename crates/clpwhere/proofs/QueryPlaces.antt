-- Terms that are queries, and the places of those among sentences.
use Rattle.std.proofs.Common.{◌≡◌, ℕ, ◌<◌, Bool, true, false, cond, List, [], ◌∷◌, ◌++◌, Some, length, map, refl, ap, ◌∙◌, arith, append-nil}
use Rattle.std.specs.Prelude.{codes, filter, if◌then◌else◌}
use Rattle.std.specs.Str.{bytes_eq}
use Rattle.std.proofs.lemmas.List.{map-append}
use Rattle.std.proofs.lemmas.List.Elements.{filter-append}
use Rattle.fd_language.specs.Term.{Name}
use Rattle.fd_language.specs.PlacedTerm.{PlacedTerm, comp, place}
use Rattle.fd_language.specs.Reading.{Sentence}
use Rattle.fd_model.specs.Refusals.{query, clause, directive, fact}
use Rattle.term_pool.specs.declared.AtomId.{AtomId}
use Rattle.term_pool.specs.declared.TermId.{TermId}
use Rattle.term_pool.specs.Contents as pool
use Rattle.term_pool.specs.Contents.{Contents, Shape, atom_name, shape_at}
use Rattle.term_pool.specs.PlacedTerms.{parts_by, placed_by, placed_of}
use Rattle.term_pool.specs.PoolInvariant.{IsPool}
use Rattle.term_pool.proofs.Lemmas.{entry_of, placed_of_shape}
use Rattle.clpwhere.specs.Queries.{is_query, is_query_form, query_places}

-- ---- terms

-- a term of one part is a query by its name
one_part : (f : Name) (p : ℕ) (by : TermId → PlacedTerm) (ts : List TermId) → length ts ≡ 1 → is_query (comp f p (parts_by by ts)) ≡ bytes_eq f (codes "?-")
one_part f p by [] h = absurd (omega (arith, h))
one_part f p by (a ∷ []) h = by_name (bytes_eq f (codes "?-")) (bytes_eq f (codes ":-"))
  where
    by_name : (q d : Bool) → is_query_form (if q then query (by a) else if d then directive else fact (comp f p (parts_by by (a ∷ [])))) ≡ q
    by_name true d = refl
    by_name false true = refl
    by_name false false = refl
one_part f p by (a ∷ b ∷ ts) h = absurd (omega (arith, h))

-- and one of none or several is none
no_part : (f : Name) (p : ℕ) (by : TermId → PlacedTerm) (ts : List TermId) → length ts < 1 → is_query (comp f p (parts_by by ts)) ≡ false
no_part f p by [] h = refl
no_part f p by (a ∷ ts) h = absurd (omega (arith, h))

more_parts : (f : Name) (p : ℕ) (by : TermId → PlacedTerm) (ts : List TermId) → 1 < length ts → is_query (comp f p (parts_by by ts)) ≡ false
more_parts f p by [] h = absurd (omega (arith, h))
more_parts f p by (a ∷ []) h = absurd (omega (arith, h))
more_parts f p by (a ∷ b ∷ []) h = by_name (bytes_eq f (codes ":-"))
  where
    by_name : (d : Bool) → is_query_form (if d then clause (by a) (by b) else fact (comp f p (parts_by by (a ∷ b ∷ [])))) ≡ false
    by_name true = refl
    by_name false = refl
more_parts f p by (a ∷ b ∷ d ∷ ts) h = refl

-- ---- of a pool

seen_at : (c : Contents) (t : TermId) (s : Shape) → IsPool c → t.number < length c.entries → shape_at c t ≡ Some s → (p : ℕ) × (placed_of c t ≡ placed_by c.names (placed_of c) p s)
seen_at c t s v h k = let e = entry_of c t h in (e.0.place, placed_of_shape c v t s e.0.place k e.2)

pub one_seen : (c : Contents) (t : TermId) (f : AtomId) (ts : List TermId) → IsPool c → t.number < length c.entries → shape_at c t ≡ Some (pool.comp f ts) → length ts ≡ 1
    → is_query (placed_of c t) ≡ bytes_eq (atom_name c f) (codes "?-")
one_seen c t f ts v h k l = let s = seen_at c t (pool.comp f ts) v h k in ap is_query s.1 ∙ one_part (atom_name c f) s.0 (placed_of c) ts l

pub none_seen : (c : Contents) (t : TermId) (f : AtomId) (ts : List TermId) → IsPool c → t.number < length c.entries → shape_at c t ≡ Some (pool.comp f ts) → length ts < 1
    → is_query (placed_of c t) ≡ false
none_seen c t f ts v h k l = let s = seen_at c t (pool.comp f ts) v h k in ap is_query s.1 ∙ no_part (atom_name c f) s.0 (placed_of c) ts l

pub more_seen : (c : Contents) (t : TermId) (f : AtomId) (ts : List TermId) → IsPool c → t.number < length c.entries → shape_at c t ≡ Some (pool.comp f ts) → 1 < length ts
    → is_query (placed_of c t) ≡ false
more_seen c t f ts v h k l = let s = seen_at c t (pool.comp f ts) v h k in ap is_query s.1 ∙ more_parts (atom_name c f) s.0 (placed_of c) ts l

-- a term without parts is none
abbrev pub is_bare : Shape → Bool
is_bare (pool.var x) = true
is_bare (pool.int z) = true
is_bare (pool.atom a) = true
is_bare (pool.comp f ts) = false

pub bare_seen : (c : Contents) (t : TermId) (s : Shape) → IsPool c → t.number < length c.entries → shape_at c t ≡ Some s → is_bare s ≡ true → is_query (placed_of c t) ≡ false
bare_seen c t s v h k b = let seen = seen_at c t s v h k in ap is_query seen.1 ∙ go s seen.0 b
  where
    go : (s : Shape) (p : ℕ) → is_bare s ≡ true → is_query (placed_by c.names (placed_of c) p s) ≡ false
    go (pool.var x) p b = refl
    go (pool.int z) p b = refl
    go (pool.atom a) p b = refl
    go (pool.comp f ts) p b = absurd (cc (b))

-- ---- sentences

-- the places of one sentence more
pub places_more : (ss : List Sentence) (s : Sentence) → is_query s.term ≡ true → query_places (ss ++ s ∷ []) ≡ query_places ss ++ place s.term ∷ []
places_more ss s e =
    let one : filter (λ (x : Sentence). is_query x.term) (s ∷ []) ≡ s ∷ [] = ap (λ b. cond b (s ∷ []) []) e in
    ap (map (λ x. place x.term)) (filter-append (λ (x : Sentence). is_query x.term) ss (s ∷ []) ∙ ap (λ l. filter (λ (x : Sentence). is_query x.term) ss ++ l) one)
    ∙ map-append (λ (x : Sentence). place x.term) (filter (λ (x : Sentence). is_query x.term) ss) (s ∷ [])

pub places_same : (ss : List Sentence) (s : Sentence) → is_query s.term ≡ false → query_places (ss ++ s ∷ []) ≡ query_places ss
places_same ss s e =
    let none : filter (λ (x : Sentence). is_query x.term) (s ∷ []) ≡ [] = ap (λ b. cond b (s ∷ []) []) e in
    ap (map (λ x. place x.term)) (filter-append (λ (x : Sentence). is_query x.term) ss (s ∷ []) ∙ ap (λ l. filter (λ (x : Sentence). is_query x.term) ss ++ l) none
    ∙ append-nil (filter (λ (x : Sentence). is_query x.term) ss))
