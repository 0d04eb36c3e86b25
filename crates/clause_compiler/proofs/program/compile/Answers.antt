use Rattle.std.proofs.Common.{ap, sym, ◌∙◌, subst}
use Rattle.clause_check.specs.Programs.{program_in}
use Rattle.wam_code.specs.Keys.{HasRisingTables}
use Rattle.wam_code.specs.VerifiedCode.{IsVerified}
use Rattle.wam_code.specs.Tries.{StandsForProgram}
use Rattle.clause_compiler.specs.Parts.{area_with}
use Rattle.clause_compiler.specs.PredicateSwitches.{HasSwitches}
use Rattle.clause_compiler.proofs.VerifiedCode.{laid_out_verified}
use Rattle.clause_compiler.proofs.CodeMeaning.{laid_out_stands}
use Rattle.clause_compiler.proofs.program.compile.Goals as goal

pub from_verified-requires : goal.from_verified-requires
from_verified-requires c =
    let x = c.in_ok-parts.parts in
    subst (λ p. IsVerified (area_with p x)) (sym c.into_pool.ensures) (laid_out_verified (area_with c.args.program.pool x) (program_in c.args.program) c.in_ok-parts.ensures)

pub returns-clause-stands : goal.returns-clause-stands
returns-clause-stands c =
    let x = c.in_ok-parts.parts in
    subst (λ a. StandsForProgram a (program_in c.args.program)) (sym (c.from_verified.ensures ∙ ap (λ p. area_with p x) c.into_pool.ensures))
    (laid_out_stands (area_with c.args.program.pool x) (program_in c.args.program) c.in_ok-parts.ensures)

pub returns-clause-switches : goal.returns-clause-switches
returns-clause-switches c =
    let x = c.in_ok-parts.parts in
    subst (λ a. HasSwitches a (program_in c.args.program)) (sym (c.from_verified.ensures ∙ ap (λ p. area_with p x) c.into_pool.ensures)) c.in_ok-parts.ensures.switched

pub returns-clause-rising : goal.returns-clause-rising
returns-clause-rising c = let x = c.in_ok-parts.parts in subst HasRisingTables (sym (c.from_verified.ensures ∙ ap (λ p. area_with p x) c.into_pool.ensures)) c.in_ok-parts.ensures.rising
