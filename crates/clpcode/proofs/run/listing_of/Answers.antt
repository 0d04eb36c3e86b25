use Rattle.std.proofs.Common.{◌≡◌, Option, sym, subst}
use Rattle.std.specs.Prelude.{MatchOption}
use Rattle.std.proofs.lemmas.Result.{IfOk-weaker}
use Rattle.clause_check.specs.Programs.{program_in}
use Rattle.wam_code.specs.Area.{Area}
use Rattle.code_listing.specs.Sheets.{Listed}
use Rattle.text_output.specs.Endings.{RunsProgram}
use Rattle.text_output.proofs.Lemmas.{runs_program}
use Rattle.clpcode.specs.Headline.{IsListing}
use Rattle.clpcode.proofs.run.listing_of.Goals as goal

pub returns-in-Some : goal.returns-in-Some
returns-in-Some c =
    let p = c.args.program in
    let area : Area = c.in_ok-area.area in
    let code = c.in-Some.code in
    let own : code.area ≡ area = subst (λ (o : Option Listed). MatchOption o (Unit {0}) (λ (l : Listed). l.area ≡ area)) c.in-Some.is c.in_ok-code.ensures in
    let runs = subst (λ (a : Area). RunsProgram a (program_in p)) (sym own) (runs_program area p c.known.ensures c.in_ok-area.ensures.stands) in
    IfOk-weaker c.write_listing.result _ (λ text. (l : Listed) × IsListing text.items l × RunsProgram l.area (program_in p))
    (λ text is. (code, record { held = c.hold.ensures; bytes = sym is }, runs)) c.write_listing.ensures
