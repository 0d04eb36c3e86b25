use Rattle.std.proofs.Common.{rules, ◌≡◌, ◌∙◌, ◌∷◌, ◌++◌, Bor, List, [], ℕ, ap, map, string_bytes, subst, sym}
use Rattle.code_listing.specs.Listing.{Sheet}
use Rattle.listing_reader.specs.Reading.{split}
use Rattle.listing_reader.specs.Sheets.{sheet_in}
use Rattle.listing_reader.specs.SheetTexts.{IsSheetFault, Tells}
use Rattle.listing_reader.proofs.SheetTexts.{known_fault, known_sheet, told_fault, told_sheet}
use Rattle.listing_reader.proofs.read.read_sheet.Goals as goal

abbrev now : Bor (List ℕ) → List ℕ
now w = w.now

pub returns-clause-sheet : goal.returns-clause-sheet
returns-clause-sheet c =
    let lines = map now c.deref.result.now in
    let rest = c.in_ok-lines.rest.now in
    let is : split 10 c.args.text.now ≡ lines ++ rest ∷ [] = c.in_ok-lines.ensures ∙ ap (λ (l : List (Bor (List ℕ))). map now l ++ rest ∷ []) (sym c.deref.ensures.value) in
    let t = c.in_ok-atoms.ensures.told in
    subst (λ (s : Sheet). Tells c.args.text.now s) (sym c.in_ok-sheet.ensures.sheet)
    (told_sheet c.args.text.now lines rest is (map string_bytes c.in_ok-atoms.atoms.items) c.in_ok-atoms.behind t.0 t.1)

pub returns-clause-known : goal.returns-clause-known
returns-clause-known c =
    let lines = map now c.deref.result.now in
    let rest = c.in_ok-lines.rest.now in
    let is : split 10 c.args.text.now ≡ lines ++ rest ∷ [] = c.in_ok-lines.ensures ∙ ap (λ (l : List (Bor (List ℕ))). map now l ++ rest ∷ []) (sym c.deref.ensures.value) in
    let t = c.in_ok-atoms.ensures.told in
    let here : Tells c.args.text.now (sheet_in c.in_ok-sheet.sheet) = subst (λ (s : Sheet). Tells c.args.text.now s) (sym c.in_ok-sheet.ensures.sheet)
    (told_sheet c.args.text.now lines rest is (map string_bytes c.in_ok-atoms.atoms.items) c.in_ok-atoms.behind t.0 t.1) in
    λ s f. known_sheet c.one_sheet.ensures c.args.text.now s (sheet_in c.in_ok-sheet.sheet) f here

pub returns-in_err-atoms-clause-fault : goal.returns-in_err-atoms-clause-fault
returns-in_err-atoms-clause-fault c =
    let lines = map now c.deref.result.now in
    let rest = c.in_ok-lines.rest.now in
    let is : split 10 c.args.text.now ≡ lines ++ rest ∷ [] = c.in_ok-lines.ensures ∙ ap (λ (l : List (Bor (List ℕ))). map now l ++ rest ∷ []) (sym c.deref.ensures.value) in
    let h = told_fault c.args.text.now lines rest is c.in_err-atoms.field-0.0 c.in_err-atoms.ensures.fault in search rules

pub returns-in_err-atoms-clause-known : goal.returns-in_err-atoms-clause-known
returns-in_err-atoms-clause-known c =
    let lines = map now c.deref.result.now in
    let rest = c.in_ok-lines.rest.now in
    let is : split 10 c.args.text.now ≡ lines ++ rest ∷ [] = c.in_ok-lines.ensures ∙ ap (λ (l : List (Bor (List ℕ))). map now l ++ rest ∷ []) (sym c.deref.ensures.value) in
    let h = told_fault c.args.text.now lines rest is c.in_err-atoms.field-0.0 c.in_err-atoms.ensures.fault in
    λ s f. let k = known_fault c.args.text.now c.in_err-atoms.field-0.0 h s f in search rules
