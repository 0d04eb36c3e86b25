-- The code that is made of a sheet.
use Rattle.std.proofs.Common.{◌≡◌, ℕ, ◌+◌, ◌<◌, List, [], ◌++◌, length, sym, ◌∙◌, subst, inl, inr, arith}
use Rattle.std.proofs.lemmas.Bool.{cases_lt}
use Rattle.fd_language.specs.Range.{Range}
use Rattle.fd_language.proofs.Lemmas.{two}
use Rattle.term_pool.specs.Contents.{Contents, first_names}
use Rattle.wam_code.specs.Area.{State, Area}
use Rattle.code_listing.specs.Listing.{Sheet}
use Rattle.code_listing.specs.Sheets.{IsSheet, HasOrderedTables, area_in}
use Rattle.code_flow.specs.PlaceConditions.{IsFirstFailing}
use Rattle.code_text.specs.declared.verification.VerifyFault.{VerifyFault}
use Rattle.code_text.specs.declared.verification.VerifyFault.TheVariants.{NotVerified}
use Rattle.code_text.specs.Verdict.{IsVerifyFault}
use Rattle.listing_loader.specs.Marks.{number_marks, AreRight, place_line}
use Rattle.listing_loader.specs.LoadedCode.{IsPlaceFault, AreRanges}
use Rattle.listing_loader.proofs.SheetReferences.{ordered, fits_behind}

-- the place that a fault of the code tells
pub failing_at : (a : Area) (ss : List State) (f : VerifyFault) (p : ℕ) → f ≡ NotVerified p → IsVerifyFault a ss f → IsFirstFailing a ss p
failing_at a ss f p e h = subst (IsVerifyFault a ss) e h

-- its area, by its pool and its ranges
abbrev pub area_with : Sheet → Contents → List Range → Area
area_with s pool rs = record { pool = pool; code = s.code; tables = s.tables; ranges = rs; entries = s.entries; queries = s.queries }

module _ (s : Sheet) (pool : Contents) (rs : List Range) (named : pool ≡ record { names = first_names ++ s.atoms; entries = [] }) (ranges : AreRanges s rs) where
  pub area_is : area_with s pool rs ≡ area_in s
  area_is = two (area_with s) named ranges.spelled

  pub has_order : IsSheet s → AreRight (number_marks s) → (a : Area) → a ≡ area_with s pool rs → HasOrderedTables a
  has_order sheet right a e = subst HasOrderedTables (sym (e ∙ area_is)) (ordered s sheet right)

  pub place_within : IsSheet s → AreRight (number_marks s) → (p : ℕ) → IsFirstFailing (area_with s pool rs) s.states p → p < length s.code
  place_within sheet right p f = elim (cases_lt p (length s.code)) [
    | inl l ↦ l
    | inr far ↦ absurd ((subst (λ (a : Area). IsFirstFailing a s.states p) area_is f).fails (fits_behind s sheet right p far))
  ]

  pub place_fault : IsSheet s → AreRight (number_marks s) → (line p : ℕ) → line ≡ place_line s 0 + p → IsFirstFailing (area_with s pool rs) s.states p → IsPlaceFault s line
  place_fault sheet right line p e f = record {
    numbers = right;
    ranges = ranges.good;
    place = p;
    there = place_within sheet right p f;
    at = omega (arith, e);
    first = subst (λ (a : Area). IsFirstFailing a s.states p) area_is f;
  }
