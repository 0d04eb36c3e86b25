-- The placed term that each number of a pool stands for.
use Rattle.std.specs.Prelude.{ℕ, List, [], ◌∷◌, ◌++◌, slice_get, unwrap_or}
use Rattle.fd_language.specs.Term.{Name}
use Rattle.fd_language.specs.PlacedTerm.{PlacedTerm, PlacedTerms, var, int, atom, comp, no_parts, part}
use Rattle.term_pool.specs.declared.TermId.{TermId}
use Rattle.term_pool.specs.Contents as pool
use Rattle.term_pool.specs.Contents.{Shape, Entry, Contents, name_in}

-- the placed terms of the parts, in their order
abbrev pub parts_by : (TermId → PlacedTerm) → List TermId → PlacedTerms
parts_by by [] = no_parts
parts_by by (t ∷ ts) = part (by t) (parts_by by ts)

-- the placed term of a shape at a place, where each part's is given
abbrev pub placed_by : List Name → (TermId → PlacedTerm) → ℕ → Shape → PlacedTerm
placed_by names by p (pool.var x) = var x p
placed_by names by p (pool.int z) = int z p
placed_by names by p (pool.atom a) = atom (name_in names a) p
placed_by names by p (pool.comp f ts) = comp (name_in names f) p (parts_by by ts)

-- the placed term with a number
abbrev pub placed_by_id : List PlacedTerm → TermId → PlacedTerm
placed_by_id terms t = unwrap_or (slice_get terms t.number) (atom [] 0)

-- the terms, followed by those of the entries, each of which is made of the terms before it
abbrev pub placed_from : List Name → List PlacedTerm → List Entry → List PlacedTerm
placed_from names terms [] = terms
placed_from names terms (e ∷ es) = placed_from names (terms ++ placed_by names (placed_by_id terms) e.place e.shape ∷ []) es

-- the term that an id stands for, with its places
unfoldable pub placed_of : Contents → TermId → PlacedTerm
placed_of c t = placed_by_id (placed_from c.names [] c.entries) t
