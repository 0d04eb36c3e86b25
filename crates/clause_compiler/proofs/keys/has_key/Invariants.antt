use Rattle.std.proofs.Common.{◌≡◌, false, is_some, take}
use Rattle.std.specs.List.{list_any}
use Rattle.clause_compiler.specs.Keys.{key_of}
use Rattle.clause_compiler.proofs.keys.has_key.Given as goal

abbrev pub invariant-loop-i : goal.invariant-loop-i
invariant-loop-i l = list_any (λ n. is_some (key_of l.program n)) (take l.i l.clauses) ≡ false
