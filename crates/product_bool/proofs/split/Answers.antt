use Rattle.std.proofs.Common.{rules}
use Rattle.fd_language.specs.declared.TheConstants.{INFINITY}
use Rattle.product_bool.proofs.Arguments.{compare_few, compare_many, and_few, and_many, or_few, or_many, not_few, not_many, reified_few, reified_many, another}
use Rattle.product_bool.proofs.split.Goals.{in_default-via-in-Compare+then-args-lt2, in_default-via-in-Compare+else-args-lt2+else-this-lt3}
use Rattle.product_bool.proofs.split.Goals.{in_default-via-in-And+then-this-lt3-2, in_default-via-in-And+else-this-lt3-2+else-this-lt4}
use Rattle.product_bool.proofs.split.Goals.{in_default-via-in-Or+then-this-lt3-3, in_default-via-in-Or+else-this-lt3-3+else-this-lt4-2}
use Rattle.product_bool.proofs.split.Goals.{in_default-via-in-Not+then-this-lt2, in_default-via-in-Not+else-this-lt2+else-this-lt3-4}
use Rattle.product_bool.proofs.split.Goals.{in_default-via-in-Reified+then-this-lt2-2, in_default-via-in-Reified+else-this-lt2-2+else-this-lt3-5}
use Rattle.product_bool.proofs.split.Goals.{in_default-via-in_default}
use Rattle.product_bool.proofs.split.Goals as goal

pub returns-in_default : goal.returns-in_default
returns-in_default c =
    elim c.in_default.branch [
      | in_default-via-in-Compare+then-args-lt2 w ↦ search (rules, compare_few)
      | in_default-via-in-Compare+else-args-lt2+else-this-lt3 w ↦ search (rules, compare_many)
      | in_default-via-in-And+then-this-lt3-2 w ↦ search (rules, and_few)
      | in_default-via-in-And+else-this-lt3-2+else-this-lt4 w ↦ search (rules, and_many)
      | in_default-via-in-Or+then-this-lt3-3 w ↦ search (rules, or_few)
      | in_default-via-in-Or+else-this-lt3-3+else-this-lt4-2 w ↦ search (rules, or_many)
      | in_default-via-in-Not+then-this-lt2 w ↦ search (rules, not_few)
      | in_default-via-in-Not+else-this-lt2+else-this-lt3-4 w ↦ search (rules, not_many)
      | in_default-via-in-Reified+then-this-lt2-2 w ↦ search (rules, reified_few)
      | in_default-via-in-Reified+else-this-lt2-2+else-this-lt3-5 w ↦ search (rules, reified_many)
      | in_default-via-in_default w ↦ another INFINITY _ _ _ c.args.args.now w.in_default.not-Compare-0 w.in_default.not-And-0 w.in_default.not-Or-0 w.in_default.not-Not-0 w.in_default.not-Reified-0
    ]
