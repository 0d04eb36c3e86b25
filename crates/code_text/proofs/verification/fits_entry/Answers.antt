use Rattle.std.proofs.Common.{rules, ◌≡◌, ◌∙◌, true, false, sym}
use Rattle.wam_code.specs.Area.{area_of}
use Rattle.code_flow.specs.PlaceConditions.{FitsEntry}
use Rattle.code_listing.specs.States.{states_of}
use Rattle.code_text.proofs.PlaceConditions.{not_so}
use Rattle.code_text.proofs.verification.fits_entry.Goals as goal

pub returns-then-not-begins : goal.returns-then-not-begins
returns-then-not-begins c =
    let f : c.begins.result ≡ false = search rules in
    not_so (FitsEntry (area_of c.args.parts.now) (states_of c.args.states.now) c.args.entry) (λ x. (let e : false ≡ true = sym f ∙ c.begins.ensures.1 x.begins in cc (e)))

pub returns : goal.returns
returns c =
    let t : c.begins.result ≡ true = search rules in
    (λ b. record { begins = c.begins.ensures.0 t; name = c.has_atom.ensures.0 b }, λ x. c.has_atom.ensures.1 x.name)
