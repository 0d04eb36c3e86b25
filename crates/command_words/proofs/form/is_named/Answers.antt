use Rattle.std.proofs.Common.{◌∙◌, ap, sym, string_bytes, is_some}
use Rattle.command_words.proofs.Pairs.{none_behind}
use Rattle.command_words.proofs.form.is_named.Goals as goal

pub returns : goal.returns
returns c = ap is_some (sym (none_behind string_bytes c.args.name.now c.loop-left.left.now c.in_default.len_below) ∙ c.loop-left.invariant)
