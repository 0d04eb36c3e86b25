use Rattle.wam_code.specs.Area.{area_of}
use Rattle.wam_code.specs.VerifiedCode.{IsKey}
use Rattle.code_text.proofs.ListPrefixes.{AllBelow}
use Rattle.code_text.proofs.reference_checks.has_keys.Given as goal

abbrev pub invariant-loop-index : goal.invariant-loop-index
invariant-loop-index l = AllBelow (λ x. IsKey (area_of l.parts) x.0) l.rows l.index
