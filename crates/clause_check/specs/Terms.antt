-- What the terms of a text are: sentences, heads, bodies, goals.
use Rattle.std.specs.Prelude.{◌≡◌, ℕ, ◌+◌, ◌<◌, List, [], ◌∷◌, ◌++◌, length, map, Option, Some, None, min}
use Rattle.fd_language.specs.PlacedTerm.{PlacedTerm, place}
use Rattle.fd_language.specs.Spelling.{least_place}
use Rattle.fd_model.specs.Goal.{no_goals, goal}
use Rattle.fd_model.specs.Goal as model
use Rattle.fd_model.specs.Queries.{goal_of, body_goals, followed, either_way}
use Rattle.fd_model.specs.Refusals as refusals
use Rattle.fd_model.specs.Refusals.{form_of, goals_of, wide_places}
use Rattle.term_pool.specs.declared.TermId.{TermId}
use Rattle.term_pool.specs.Contents.{Contents, Shape, atom_name}
use Rattle.term_pool.specs.Terms.{term_of, size}
use Rattle.term_pool.specs.PlacedTerms.{placed_of, placed_by}
use Rattle.term_reader.specs.declared.reader.Sentences.{Sentences}
use Rattle.clause_check.specs.declared.terms.Functor.{Functor}
use Rattle.clause_check.specs.declared.terms.SentenceForm.{SentenceForm}
use Rattle.clause_check.specs.declared.terms.SentenceForm.TheVariants.{Query, Clause, Directive, Fact}
use Rattle.clause_check.specs.declared.terms.Body.{Body}
use Rattle.clause_check.specs.declared.terms.Body.TheVariants.{Both, Joined, Denied, Goal}
use Rattle.clause_check.specs.declared.terms.Joint.{Joint}
use Rattle.clause_check.specs.declared.terms.Joint.TheVariants.{Semicolon, Arrow}

-- the terms of the sentences, in the order of the text
abbrev pub terms_of : Sentences → List PlacedTerm
terms_of s = map (λ x. placed_of s.pool x.term) s.list.items

-- the term is of this shape at its top
abbrev pub IsSeen : Contents → TermId → Shape → Type 0
IsSeen c t s = placed_of c t ≡ placed_by c.names (placed_of c) (place (placed_of c t)) s

-- the id is of the pool, and stands for this term
abbrev pub IsPartOf : Contents → PlacedTerm → TermId → Type 0
IsPartOf c x t = (t.number < length c.entries) × (placed_of c t ≡ x)

abbrev pub functor_in : Contents → Functor → refusals.Functor
functor_in c f = refusals.functor (atom_name c f.name) f.arity

-- the functor is this one, and its name is of the pool
abbrev pub IsFunctor : Contents → Option refusals.Functor → Option Functor → Type 0
IsFunctor c o None = o ≡ None
IsFunctor c o (Some f) = (f.name.number < length c.names) × (o ≡ Some (functor_in c f))

abbrev pub IsFunctorOf : Contents → PlacedTerm → Option Functor → Type 0
IsFunctorOf c x f = IsFunctor c (refusals.functor_of x) f

abbrev pub form_in : Contents → SentenceForm → refusals.SentenceKind
form_in c (Query b) = refusals.query (placed_of c b)
form_in c (Clause h b) = refusals.clause (placed_of c h) (placed_of c b)
form_in c Directive = refusals.directive
form_in c (Fact t) = refusals.fact (placed_of c t)

abbrev pub IsFormWithin : Contents → SentenceForm → Type 0
IsFormWithin c (Query b) = b.number < length c.entries
IsFormWithin c (Clause h b) = (h.number < length c.entries) × (b.number < length c.entries)
IsFormWithin c Directive = Unit {0}
IsFormWithin c (Fact t) = t.number < length c.entries

abbrev pub IsSentenceForm : Contents → TermId → SentenceForm → Type 0
IsSentenceForm c t f = IsFormWithin c f × (form_of (placed_of c t) ≡ form_in c f)

-- the goal that is made of two bodies
abbrev pub joined_goals : Joint → model.Goals → model.Goals → model.Goal
joined_goals Semicolon gs hs = either_way gs hs
joined_goals Arrow gs hs = model.If gs hs

-- the two bodies of which a term is made, whose goals stand one behind the other
abbrev pub AreSides : Contents → TermId → TermId → TermId → Type 0
AreSides c t a b =
    (a.number < length c.entries) × (b.number < length c.entries)
    × (goals_of (placed_of c t) ≡ goals_of (placed_of c a) ++ goals_of (placed_of c b))
    × (size (term_of c a) + size (term_of c b) < size (term_of c t))

-- the only one
abbrev pub IsInner : Contents → TermId → TermId → Type 0
IsInner c t a = (a.number < length c.entries) × (goals_of (placed_of c t) ≡ goals_of (placed_of c a)) × (size (term_of c a) < size (term_of c t))

-- whatever the greatest number that a variable may have
abbrev pub IsBody : Contents → TermId → Body → Type 0
IsBody c t (Both a b) = AreSides c t a b × ((N : ℕ) → body_goals N (placed_of c t) ≡ followed (body_goals N (placed_of c a)) (body_goals N (placed_of c b)))
IsBody c t (Joined j a b) = AreSides c t a b × ((N : ℕ) → body_goals N (placed_of c t) ≡ goal (joined_goals j (body_goals N (placed_of c a)) (body_goals N (placed_of c b))) no_goals)
IsBody c t (Denied a) = IsInner c t a × ((N : ℕ) → body_goals N (placed_of c t) ≡ goal (model.Not (body_goals N (placed_of c a))) no_goals)
IsBody c t Goal = (goals_of (placed_of c t) ≡ placed_of c t ∷ []) × ((N : ℕ) → body_goals N (placed_of c t) ≡ goal (goal_of N (placed_of c t)) no_goals)

-- the smallest place among those of the compound terms with too many arguments
abbrev pub IsWidePlace : PlacedTerm → Option ℕ → Type 0
IsWidePlace x o = o ≡ least_place (wide_places x)

abbrev pub lesser : Option ℕ → ℕ → ℕ
lesser None p = p
lesser (Some q) p = min q p
