use Rattle.std.proofs.Common.{refl}
use Rattle.fd_language.specs.Operators.{infix_of, prefix_of}
use Rattle.name_syntax.proofs.operators.rows.Goals as goal

pub returns : goal.returns
unfolding infix_of prefix_of
returns c = record { ordered = refl; between = refl; before = refl; all_between = refl; all_before = refl }
