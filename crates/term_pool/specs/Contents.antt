-- What a pool holds, as callers see it: names of atoms and nodes of terms, each found by its number.
use Rattle.std.specs.Prelude.{ℕ, ℤ, List, [], ◌∷◌, Option, option_map, slice_get, unwrap_or, ◌++◌, if◌then◌else◌, codes}
use Rattle.std.specs.List.{list_any}
use Rattle.std.specs.Str.{bytes_eq}
use Rattle.fd_language.specs.Term.{Name}
use Rattle.term_pool.specs.declared.AtomId.{AtomId}
use Rattle.term_pool.specs.declared.TermId.{TermId}

-- what a term is at its top, with the ids of its parts
pub data Shape : Type 0 where
  var : ℕ → Shape
  int : ℤ → Shape
  atom : AtomId → Shape
  comp : AtomId → List TermId → Shape

-- the ids of the parts
abbrev pub parts_of : Shape → List TermId
parts_of (var x) = []
parts_of (int z) = []
parts_of (atom a) = []
parts_of (comp f ts) = ts

-- a term's shape, and its place in the text in bytes
pub record Entry : Type 0 where
  pub shape : Shape
  pub place : ℕ

-- the atoms' names and the terms' entries, each list in the order of its numbers
pub record Contents : Type 0 where
  pub names : List Name
  pub entries : List Entry

-- the names that every pool begins with
abbrev pub first_names : List Name
first_names = codes "[]" ∷ codes "." ∷ codes ".." ∷ []

-- the name with a number, where there is one
abbrev pub name_in : List Name → AtomId → Name
name_in names a = unwrap_or (slice_get names a.number) []

-- the name of an atom of the pool
abbrev pub atom_name : Contents → AtomId → Name
atom_name c a = name_in c.names a

-- the shape and the place of a term of the pool
abbrev pub shape_at : Contents → TermId → Option Shape
shape_at c t = option_map (λ e. e.shape) (slice_get c.entries t.number)

abbrev pub place_at : Contents → TermId → Option ℕ
place_at c t = option_map (λ e. e.place) (slice_get c.entries t.number)

-- the names with this one, at the end where it is not among them
abbrev pub interned : List Name → Name → List Name
interned names text = if list_any (bytes_eq text) names then names else names ++ text ∷ []
