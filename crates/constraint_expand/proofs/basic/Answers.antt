use Rattle.std.proofs.Common.{rules}
use Rattle.constraint_expand.proofs.Arguments.{compare_few, compare_many, different_few, different_many, element_few, element_many, atmost_few, atmost_many}
use Rattle.constraint_expand.proofs.Arguments.{another}
use Rattle.constraint_expand.proofs.basic.Goals.{in_default-via-in-Compare+then-args-lt2, in_default-via-in-Compare+else-args-lt2+else-this-lt3}
use Rattle.constraint_expand.proofs.basic.Goals.{in_default-via-in-AllDifferent+then-this-lt1, in_default-via-in-AllDifferent+else-this-lt1+else-this-lt2}
use Rattle.constraint_expand.proofs.basic.Goals.{in_default-via-in-Element+then-this-lt3-2, in_default-via-in-Element+else-this-lt3-2+else-this-lt4}
use Rattle.constraint_expand.proofs.basic.Goals.{in_default-via-in-Atmost+then-this-lt3-3, in_default-via-in-Atmost+else-this-lt3-3+else-this-lt4-2}
use Rattle.constraint_expand.proofs.basic.Goals.{in_default-via-in_default}
use Rattle.constraint_expand.proofs.basic.Goals as goal

pub returns-in_default : goal.returns-in_default
returns-in_default c =
    elim c.in_default.branch [
      | in_default-via-in-Compare+then-args-lt2 w ↦ search (rules, compare_few)
      | in_default-via-in-Compare+else-args-lt2+else-this-lt3 w ↦ search (rules, compare_many)
      | in_default-via-in-AllDifferent+then-this-lt1 w ↦ search (rules, different_few)
      | in_default-via-in-AllDifferent+else-this-lt1+else-this-lt2 w ↦ search (rules, different_many)
      | in_default-via-in-Element+then-this-lt3-2 w ↦ search (rules, element_few)
      | in_default-via-in-Element+else-this-lt3-2+else-this-lt4 w ↦ search (rules, element_many)
      | in_default-via-in-Atmost+then-this-lt3-3 w ↦ search (rules, atmost_few)
      | in_default-via-in-Atmost+else-this-lt3-3+else-this-lt4-2 w ↦ search (rules, atmost_many)
      | in_default-via-in_default w ↦ another _ _ _ c.args.args.now w.in_default.not-Compare-0 w.in_default.not-AllDifferent-0 w.in_default.not-Element-0 w.in_default.not-Atmost-0
    ]
