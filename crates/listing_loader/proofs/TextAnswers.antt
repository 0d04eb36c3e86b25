-- What is answered of a text, by what is answered of its sheet.
use Rattle.std.proofs.Common.{◌≡◌, ℕ, List, [], Result, Ok, Err, sym, ap, ◌∙◌, subst}
use Rattle.std.specs.Prelude.{IfOk, IfErr, OnOk, MatchResult}
use Rattle.code_listing.specs.Listing.{Sheet, sheet_of, sheet_text, listing, IsSameCode}
use Rattle.code_listing.specs.Sheets.{area_in, Listed}
use Rattle.code_flow.specs.Laws.{PlacesDecide}
use Rattle.wam_code.specs.VerifiedCode.{IsVerifiedBy}
use Rattle.listing_reader.specs.SheetTexts.{Tells}
use Rattle.listing_loader.specs.declared.fault.LoadFault.{LoadFault}
use Rattle.listing_loader.specs.declared.fault.LoadFault.TheVariants.{NoMemory}
use Rattle.listing_loader.specs.LoadedCode.{IsLoadFault, IsSheetRefusal, IsGood, IsHeld}
use Rattle.listing_loader.proofs.CodeSheets.{held_good, held_verified}
use Rattle.listing_loader.proofs.SheetRoundTrip.{told_back, told_code}
use Rattle.listing_loader.proofs.UniqueFaults.{fault_of, no_refusal}

-- the code of a sheet
abbrev pub code_in : Sheet → Listed
code_in s = record { area = area_in s; states = s.states }

module _ (text : List ℕ) (s : Sheet) (tells : Tells text s) where
  pub its_listing : (r : Result Listed LoadFault) → IfOk r (λ l. l ≡ code_in s) → OnOk r (IsGood s) → IfOk r (λ l. listing l.area l.states ≡ text)
  its_listing (Ok l) e g = ap (λ (m : Listed). listing m.area m.states) e ∙ ap sheet_text (told_back s g) ∙ sym tells.bytes
  its_listing (Err f) e g = tt

  pub its_fault : (r : Result Listed LoadFault) → IfErr r (IsSheetRefusal s) → IfErr r (λ f. IsLoadFault text f)
  its_fault (Ok l) h = tt
  its_fault (Err f) h = fault_of text s f tells h

  -- code that memory holds, whose listing the text is
  pub its_code : PlacesDecide → (r : Result Listed LoadFault) → IfOk r (λ l. l ≡ code_in s) → OnOk r (IsGood s) → IfErr r (IsSheetRefusal s) → (l : Listed)
      → IsHeld l → listing l.area l.states ≡ text → s ≡ sheet_of l.area l.states
      → MatchResult r (λ m. IsSameCode l.area m.area × (m.states ≡ l.states)) (λ f. f ≡ NoMemory)
  its_code law (Ok m) e g h l held is same = (
    ap (λ (t : Sheet). record t { states = [] }) (sym same) ∙ sym (told_code s [] g) ∙ ap (λ (n : Listed). sheet_of n.area []) (sym e),
    ap (λ (n : Listed). n.states) e ∙ ap (λ (t : Sheet). t.states) same,
  )
  its_code law (Err f) e g h l held is same =
      no_refusal law s f (subst IsGood (sym same) (held_good l held)) (subst (λ (z : Sheet). IsVerifiedBy (area_in z) z.states) (sym same) (held_verified l held)) h

-- what holds whatever is answered
pub weak_ok : {A E : Type 0} (r : Result A E) (P : Type 0) → P → OnOk r P
weak_ok (Ok x) P h = h
weak_ok (Err e) P h = tt
