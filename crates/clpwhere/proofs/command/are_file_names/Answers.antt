use Rattle.std.proofs.Common.{◌≡◌, ◌<◌, length, string_bytes, arith}
use Rattle.std.proofs.lemmas.Bool.Decides.{nat_tests}
use Rattle.clpwhere.proofs.FileNames.{names_all, names_none}
use Rattle.clpwhere.proofs.command.are_file_names.Goals as goal

pub returns-then-is_empty : goal.returns-then-is_empty
returns-then-is_empty c =
    let none : length c.args.words.now ≡ 0 = grind (arith, nat_tests) in
    names_none string_bytes c.args.words.now none

pub returns : goal.returns
returns c =
    let some : 0 < length c.args.words.now = grind (arith, nat_tests) in
    names_all string_bytes c.args.words.now c.all_file_names.result c.all_file_names.ensures some
