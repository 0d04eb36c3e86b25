-- The term that each number of a pool stands for.
use Rattle.std.specs.Prelude.{◌≡◌, ℕ, ◌+◌, ◌<◌, List, [], ◌∷◌, ◌++◌, length, slice_get, unwrap_or}
use Rattle.fd_language.specs.Term.{Name, Term, Terms, Var, Int, Atom, Comp, no_terms, term}
use Rattle.term_pool.specs.declared.TermId.{TermId}
use Rattle.term_pool.specs.Contents.{Shape, var, int, atom, comp, Entry, Contents, name_in}

-- the terms of the parts, in their order
abbrev pub terms_by : (TermId → Term) → List TermId → Terms
terms_by part [] = no_terms
terms_by part (t ∷ ts) = term (part t) (terms_by part ts)

-- the term of a shape, where each part's term is given
abbrev pub term_by : List Name → (TermId → Term) → Shape → Term
term_by names part (var x) = Var x
term_by names part (int z) = Int z
term_by names part (atom a) = Atom (name_in names a)
term_by names part (comp f ts) = Comp (name_in names f) (terms_by part ts)

-- the term with a number
abbrev pub term_by_id : List Term → TermId → Term
term_by_id terms t = unwrap_or (slice_get terms t.number) (Atom [])

-- the terms, followed by those of the entries, each of which is made of the terms before it
abbrev pub terms_from : List Name → List Term → List Entry → List Term
terms_from names terms [] = terms
terms_from names terms (e ∷ es) = terms_from names (terms ++ term_by names (term_by_id terms) e.shape ∷ []) es

-- the term that an id stands for
unfoldable pub term_of : Contents → TermId → Term
term_of c t = term_by_id (terms_from c.names [] c.entries) t

-- the term of a shape whose parts are of the pool
abbrev pub shape_term : Contents → Shape → Term
shape_term c s = term_by c.names (term_of c) s

-- each earlier id stands for the same term as before
abbrev pub KeepsTerms : Contents → Contents → Type 0
KeepsTerms old new = (t : TermId) → t.number < length old.entries → term_of new t ≡ term_of old t

-- new has all of old, with the same numbers
pub record Extends (old new : Contents) : Type 0 where
  pub names : (more : List Name) × (new.names ≡ old.names ++ more)
  pub entries : (more : List Entry) × (new.entries ≡ old.entries ++ more)

-- how many variables, integers, atoms and compound terms a term has
abbrev mutual
  pub size : Term → ℕ
  size (Var x) = 1
  size (Int z) = 1
  size (Atom a) = 1
  size (Comp f ts) = 1 + sizes ts

  pub sizes : Terms → ℕ
  sizes no_terms = 0
  sizes (term t ts) = size t + sizes ts

-- the sizes of the terms of a list of ids together: what a walk has before it
unfoldable pub total_size : Contents → List TermId → ℕ
total_size c [] = 0
total_size c (t ∷ ts) = size (term_of c t) + total_size c ts
