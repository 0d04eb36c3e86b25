-- What is read of the terms of a text.
use Rattle.std.specs.Prelude.{◌≡◌, ◌+◌, ◌<◌, [], ◌∷◌, ◌++◌, length, Option, Some, None}
use Rattle.fd_language.specs.PlacedTerm.{place}
use Rattle.fd_model.specs.Refusals.{SentenceKind, query, form_of}
use Rattle.term_pool.specs.declared.TermId.{TermId}
use Rattle.term_pool.specs.Contents.{Contents, Shape}
use Rattle.term_pool.specs.PlacedTerms.{placed_of, placed_by}
use Rattle.term_pool.specs.Terms.{term_of, size}
use Rattle.answer_check.specs.FlatForm.{conjuncts}
use Rattle.answer_check.specs.Members.{cell_in}

-- the first element and the rest of a list's term, which stand before it in the pool
pub record IsCell (c : Contents) (t h u : TermId) : Type 0 where
  pub head : h.number < length c.entries
  pub tail : u.number < length c.entries
  pub earlier : u.number < t.number
  pub is : cell_in (term_of c t) ≡ Some (term_of c h, term_of c u)

-- the term is of this shape at its top
abbrev pub IsSeen : Contents → TermId → Shape → Type 0
IsSeen c t s = placed_of c t ≡ placed_by c.names (placed_of c) (place (placed_of c t)) s

-- the term is one goal
abbrev pub IsAlone : Contents → TermId → Type 0
IsAlone c t = conjuncts (placed_of c t) ≡ placed_of c t ∷ []

-- the goals of the one side stand before those of the other
pub record AreSides (c : Contents) (t a b : TermId) : Type 0 where
  pub left : a.number < length c.entries
  pub right : b.number < length c.entries
  pub goals : conjuncts (placed_of c t) ≡ conjuncts (placed_of c a) ++ conjuncts (placed_of c b)
  pub smaller : size (term_of c a) + size (term_of c b) < size (term_of c t)

-- the body of a query, and none where the sentence is no query
abbrev pub IsQueryForm : SentenceKind → Type 0
IsQueryForm (query b) = Unit {0}
IsQueryForm f = ⊥

abbrev pub IsBody : Contents → TermId → Option TermId → Type 0
IsBody c t None = IsQueryForm (form_of (placed_of c t)) → ⊥
IsBody c t (Some b) = (b.number < length c.entries) × (form_of (placed_of c t) ≡ query (placed_of c b))
