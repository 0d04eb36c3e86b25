use Rattle.wam_code.specs.Area.{area_of}
use Rattle.wam_code.specs.VerifiedCode.{IsAtom}
use Rattle.code_text.proofs.ListPrefixes.{AllBelow}
use Rattle.code_text.proofs.reference_checks.has_atoms.Given as goal

abbrev pub invariant-loop-index : goal.invariant-loop-index
invariant-loop-index l = AllBelow (λ x. IsAtom (area_of l.parts) x) l.atoms l.index
