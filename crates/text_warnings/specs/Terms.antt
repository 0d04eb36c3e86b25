-- What the terms of a text are: sentences, heads, bodies, goals.
use Rattle.std.specs.Prelude.{◌≡◌, ◌+◌, ◌<◌, ◌==◌, ◌&&◌, Bool, false, [], ◌∷◌, ◌++◌, length, Option, Some, None, if◌then◌else◌}
use Rattle.fd_language.specs.Term.{Name}
use Rattle.fd_language.specs.PlacedTerm.{place}
use Rattle.fd_model.specs.Forms.{joining_names, is_named}
use Rattle.fd_model.specs.Refusals as refusals
use Rattle.fd_model.specs.Refusals.{form_of}
use Rattle.term_pool.specs.declared.TermId.{TermId}
use Rattle.term_pool.specs.Contents.{Contents, Shape, atom_name}
use Rattle.term_pool.specs.Terms.{term_of, size}
use Rattle.term_pool.specs.PlacedTerms.{placed_of, placed_by}
use Rattle.text_warnings.specs.Files.{FilePredicate}
use Rattle.text_warnings.specs.Clauses.{cost_names, goals_in}
use Rattle.text_warnings.specs.declared.terms.Functor.{Functor}
use Rattle.text_warnings.specs.declared.terms.Filed.{Filed}
use Rattle.text_warnings.specs.declared.terms.SentenceForm.{SentenceForm}
use Rattle.text_warnings.specs.declared.terms.SentenceForm.TheVariants.{Query, Clause, Directive, Fact}
use Rattle.text_warnings.specs.declared.terms.Body.{Body}
use Rattle.text_warnings.specs.declared.terms.Body.TheVariants.{Both, Inner, Goal}

-- the term is of this shape at its top
abbrev pub IsSeen : Contents → TermId → Shape → Type 0
IsSeen c t s = placed_of c t ≡ placed_by c.names (placed_of c) (place (placed_of c t)) s

abbrev pub functor_in : Contents → Functor → refusals.Functor
functor_in c f = refusals.functor (atom_name c f.name) f.arity

-- two functors of a pool are the same where their names have one number
abbrev pub same_numbers : Functor → Functor → Bool
same_numbers f g = (f.name.number == g.name.number) && (f.arity == g.arity)

-- the functor is this one, and its name is of the pool
abbrev pub IsFunctor : Contents → Option refusals.Functor → Option Functor → Type 0
IsFunctor c o None = o ≡ None
IsFunctor c o (Some f) = (f.name.number < length c.names) × (o ≡ Some (functor_in c f))

abbrev pub form_in : Contents → SentenceForm → refusals.SentenceKind
form_in c (Query b) = refusals.query (placed_of c b)
form_in c (Clause h b) = refusals.clause (placed_of c h) (placed_of c b)
form_in c Directive = refusals.directive
form_in c (Fact t) = refusals.fact (placed_of c t)

abbrev pub IsFormWithin : Contents → SentenceForm → Type 0
IsFormWithin c (Query b) = b.number < length c.entries
IsFormWithin c (Clause h b) = (h.number < length c.entries) × (b.number < length c.entries)
IsFormWithin c Directive = Unit {0}
IsFormWithin c (Fact t) = t.number < length c.entries

abbrev pub IsSentenceForm : Contents → TermId → SentenceForm → Type 0
IsSentenceForm c t f = IsFormWithin c f × (form_of (placed_of c t) ≡ form_in c f)

-- what a body with one part is, and with two
abbrev pub one_part_form : Name → TermId → Body
one_part_form f a = if is_named (joining_names 1) f then Inner a else Goal

abbrev pub two_parts_form : Name → TermId → TermId → Body
two_parts_form f a b =
    if is_named (joining_names 2) f then Both a b else if is_named cost_names f then Inner a else Goal

-- the goals of a body by those of its parts, which are smaller
abbrev pub IsBody : Contents → TermId → Body → Type 0
IsBody c t (Both a b) =
    (a.number < length c.entries) × (b.number < length c.entries)
    × (goals_in (placed_of c t) ≡ goals_in (placed_of c a) ++ goals_in (placed_of c b))
    × (size (term_of c a) + size (term_of c b) < size (term_of c t))
IsBody c t (Inner a) =
    (a.number < length c.entries) × (goals_in (placed_of c t) ≡ goals_in (placed_of c a))
    × (size (term_of c a) < size (term_of c t))
IsBody c t Goal = goals_in (placed_of c t) ≡ placed_of c t ∷ []

abbrev pub filed_in : Contents → Filed → FilePredicate
filed_in c f = record { file = f.file; functor = functor_in c f.functor }

-- two predicates in files are the same
abbrev pub same_filed : Filed → Filed → Bool
same_filed f g = (f.file == g.file) && same_numbers f.functor g.functor

-- the predicate in its file is that of the clause before, where there is one
abbrev pub is_after : Option Filed → Filed → Bool
is_after None f = false
is_after (Some g) f = same_filed f g
