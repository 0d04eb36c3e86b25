use Rattle.std.proofs.Common.{◌≡◌, ◌∙◌, ◌+◌, ◌++◌, [], map, string_bytes, sym, ap, refl}
use Rattle.std.specs.List.{position}
use Rattle.std.specs.Prelude.{not}
use Rattle.std.proofs.lemmas.Option.{MatchOption-at_none}
use Rattle.term_pool.specs.Contents.{Contents, first_names}
use Rattle.listing_reader.specs.Sheets.{sheet_in}
use Rattle.listing_loader.specs.Marks.{atom_marks}
use Rattle.listing_loader.proofs.Sections.{atom_exit, weak_option}
use Rattle.listing_loader.proofs.number_checks.first_wrong.Goals as goal
use Rattle.listing_loader.proofs.number_checks.first_wrong.Goals.{In_ok-number}

-- what was found among the atoms
among : (c : In_ok-number) → c.in_ok-number.field-0 ≡ position not (atom_marks first_names (sheet_in c.args.sheet.now).atoms)
among c =
    c.in_ok-number.ensures.found ∙ ap (λ l. position not (atom_marks l (map string_bytes c.deref.result.now))) (ap (λ (p : Contents). p.names) c.requires)
    ∙ ap (λ l. position not (atom_marks first_names (map string_bytes l))) c.deref.ensures.value

pub returns-in-Some-clause-found : goal.returns-in-Some-clause-found
returns-in-Some-clause-found c =
    atom_exit (sheet_in c.args.sheet.now) (3 + c.in-Some.number) c.in-Some.number refl (sym c.in-Some.is ∙ among (goal.at.returns-in-Some-clause-found c).In_ok-number)

pub returns-in-None-clause-found : goal.returns-in-None-clause-found
returns-in-None-clause-found c = c.first_behind.ensures (sym c.in-None.is ∙ among (goal.at.returns-in-None-clause-found c).In_ok-number)

pub returns-in-None-clause-put : goal.returns-in-None-clause-put
returns-in-None-clause-put c =
    weak_option c.first_behind.result _
    (MatchOption-at_none _ _ c.in-None.is c.in_ok-number.ensures.put ∙ ap (λ (p : Contents). record p { names = p.names ++ map string_bytes c.deref.result.now }) c.requires
    ∙ ap (λ l. record { names = first_names ++ map string_bytes l; entries = [] }) c.deref.ensures.value)
