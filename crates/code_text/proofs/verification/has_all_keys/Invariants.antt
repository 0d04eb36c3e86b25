use Rattle.std.proofs.Common.{All}
use Rattle.wam_code.specs.Area.{area_of}
use Rattle.wam_code.specs.VerifiedCode.{IsKey}
use Rattle.code_text.proofs.ListPrefixes.{AllBelow}
use Rattle.code_text.proofs.verification.has_all_keys.Given as goal

abbrev pub invariant-loop-index : goal.invariant-loop-index
invariant-loop-index l = AllBelow (λ table. All (λ row. IsKey (area_of l.parts) row.0) table) (area_of l.parts).tables l.index
