-- What is kept of a term's parts, as the definitions see it.
use Rattle.std.specs.Prelude.{◌≡◌, ◌+◌, ◌<◌, ◌++◌, length, if◌then◌else◌}
use Rattle.fd_language.specs.Term.{Name}
use Rattle.fd_model.specs.Forms.{is_named}
use Rattle.fd_language.specs.PlacedTerm.{place}
use Rattle.term_pool.specs.declared.TermId.{TermId}
use Rattle.term_pool.specs.Contents.{Contents, atom_name}
use Rattle.term_pool.specs.Terms.{term_of, size}
use Rattle.term_pool.specs.PlacedTerms.{placed_of}
use Rattle.text_warnings.specs.TermParts as model
use Rattle.text_warnings.specs.TermParts.{TermParts}
use Rattle.text_warnings.specs.SilentLosses.{range_losses, plain_losses, joined_ranges, shifted_ranges}
use Rattle.text_warnings.specs.declared.parts.Parts.{Parts}
use Rattle.text_warnings.specs.declared.parts.Parts.TheVariants.{One, Two, Other}
use Rattle.text_warnings.specs.declared.terms.Body.{Body}
use Rattle.text_warnings.specs.declared.terms.Body.TheVariants.{Both, Inner, Goal}

abbrev pub parts_in : Contents → Parts → TermParts
parts_in c (One f a) = model.one (atom_name c f) (placed_of c a)
parts_in c (Two f a b) = model.two (atom_name c f) (placed_of c a) (placed_of c b)
parts_in c Other = model.other

-- the name and the parts are of the pool, and the parts are smaller than the term
abbrev pub ArePartsWithin : Contents → TermId → Parts → Type 0
ArePartsWithin c t (One f a) = (f.number < length c.names) × (a.number < length c.entries) × (size (term_of c a) < size (term_of c t))
ArePartsWithin c t (Two f a b) =
    (f.number < length c.names) × (a.number < length c.entries) × (b.number < length c.entries)
    × (size (term_of c a) + size (term_of c b) < size (term_of c t))
ArePartsWithin c t Other = Unit {0}

abbrev pub ArePartsOf : Contents → TermId → Parts → Type 0
ArePartsOf c t ps = ArePartsWithin c t ps × (model.parts_of (placed_of c t) ≡ parts_in c ps)

-- what a range of two parts is
abbrev pub two_ranges : Name → TermId → TermId → Body
two_ranges f a b = if is_named joined_ranges f then Both a b else if is_named shifted_ranges f then Inner a else Goal

-- the losses of a range by those of its parts, which are smaller
abbrev pub IsRange : Contents → TermId → Body → Type 0
IsRange c t (Both a b) =
    (a.number < length c.entries) × (b.number < length c.entries)
    × (range_losses (placed_of c t) ≡ range_losses (placed_of c a) ++ range_losses (placed_of c b))
    × (size (term_of c a) + size (term_of c b) < size (term_of c t))
IsRange c t (Inner a) =
    (a.number < length c.entries) × (range_losses (placed_of c t) ≡ range_losses (placed_of c a))
    × (size (term_of c a) < size (term_of c t))
IsRange c t Goal = range_losses (placed_of c t) ≡ plain_losses (place (placed_of c t)) (model.parts_of (placed_of c t))
