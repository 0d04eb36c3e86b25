use Rattle.std.proofs.Common.{rules, ◌≡◌, ℕ, List, All, IsTrue, ◌↔◌, false, true, refl, subst, length}
use Rattle.std.proofs.lemmas.Option.{slice_get_read}
use Rattle.wam_code.specs.declared.instruction.Code.{Code}
use Rattle.wam_code.specs.declared.instruction.Key.{Key}
use Rattle.wam_code.specs.Area.{Holds, area_of}
use Rattle.wam_code.specs.VerifiedCode.{IsThere, IsKey}
use Rattle.code_listing.specs.Listing.{table_of}
use Rattle.code_listing.specs.States.{states_of}
use Rattle.code_flow.specs.PlaceConditions.{FitsInstruction}
use Rattle.code_text.specs.Places.{HasChoices, LiesAhead}
use Rattle.code_text.proofs.PlaceConditions.{instruction_fits, fits_there, fits_keys, fits_choices, fits_ahead, fits_leads, not_so, failed}
use Rattle.code_text.proofs.places.fits_instruction.Goals as goal

pub returns-then-not-is_there : goal.returns-then-not-is_there
returns-then-not-is_there c =
    let a = area_of c.args.parts.now in
    let ss = states_of c.args.states.now in
    let at = c.args.at in
    let i = c.index-code.result.now in
    let h : Holds a at i = slice_get_read a.code (length a.code) at i refl c.requires.within c.index-code.ensures in
    let f : c.is_there.result ≡ false = search rules in
    not_so ((j : Code) → Holds a at j → FitsInstruction a ss at j) (λ x. failed c.is_there.result (IsThere a i) c.is_there.ensures f (fits_there a at i h ss x))

pub returns-then-not-has_keys : goal.returns-then-not-has_keys
returns-then-not-has_keys c =
    let a = area_of c.args.parts.now in
    let ss = states_of c.args.states.now in
    let at = c.args.at in
    let i = c.index-code.result.now in
    let h : Holds a at i = slice_get_read a.code (length a.code) at i refl c.requires.within c.index-code.ensures in
    let f : c.has_keys.result ≡ false = search rules in
    let keys : IsTrue c.has_keys.result ↔ All (λ row. IsKey a row.0) (table_of a.tables i) = subst
    (λ (rows : List (Key × ℕ)). IsTrue c.has_keys.result ↔ All (λ row. IsKey a row.0) rows) c.rows_of.ensures c.has_keys.ensures in
    not_so ((j : Code) → Holds a at j → FitsInstruction a ss at j) (λ x. failed c.has_keys.result (All (λ row. IsKey a row.0) (table_of a.tables i)) keys f (fits_keys a at i h ss x))

pub returns-then-not-has_choices : goal.returns-then-not-has_choices
returns-then-not-has_choices c =
    let a = area_of c.args.parts.now in
    let ss = states_of c.args.states.now in
    let at = c.args.at in
    let i = c.index-code.result.now in
    let h : Holds a at i = slice_get_read a.code (length a.code) at i refl c.requires.within c.index-code.ensures in
    let f : c.has_choices.result ≡ false = search rules in
    not_so ((j : Code) → Holds a at j → FitsInstruction a ss at j) (λ x. failed c.has_choices.result (HasChoices a at) c.has_choices.ensures f (fits_choices a at i h ss x))

pub returns-then-not-is_ahead : goal.returns-then-not-is_ahead
returns-then-not-is_ahead c =
    let a = area_of c.args.parts.now in
    let ss = states_of c.args.states.now in
    let at = c.args.at in
    let i = c.index-code.result.now in
    let h : Holds a at i = slice_get_read a.code (length a.code) at i refl c.requires.within c.index-code.ensures in
    let f : c.in_ok-is_ahead.is_ahead ≡ false = search rules in
    not_so ((j : Code) → Holds a at j → FitsInstruction a ss at j) (λ x. failed c.in_ok-is_ahead.is_ahead (LiesAhead a at) c.in_ok-is_ahead.ensures f (fits_ahead a at i h ss x))

pub returns : goal.returns
returns c =
    let a = area_of c.args.parts.now in
    let ss = states_of c.args.states.now in
    let at = c.args.at in
    let i = c.index-code.result.now in
    let h : Holds a at i = slice_get_read a.code (length a.code) at i refl c.requires.within c.index-code.ensures in
    let there : c.is_there.result ≡ true = search rules in
    let keyed : c.has_keys.result ≡ true = search rules in
    let chosen : c.has_choices.result ≡ true = search rules in
    let ahead : c.in_ok-is_ahead.is_ahead ≡ true = search rules in
    let keys : IsTrue c.has_keys.result ↔ All (λ row. IsKey a row.0) (table_of a.tables i) = subst
    (λ (rows : List (Key × ℕ)). IsTrue c.has_keys.result ↔ All (λ row. IsKey a row.0) rows) c.rows_of.ensures c.has_keys.ensures in (
      λ b. instruction_fits a at i h (c.is_there.ensures.0 there) (keys.0 keyed) (c.has_choices.ensures.0 chosen) (c.in_ok-is_ahead.ensures.0 ahead) ss
          (c.in_ok-is_led.ensures.0 b),
      λ f. c.in_ok-is_led.ensures.1 (fits_leads a at i h ss f),
    )
