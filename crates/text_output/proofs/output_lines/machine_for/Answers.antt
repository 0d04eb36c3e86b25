use Rattle.std.proofs.Common.{rules, ◌≡◌}
use Rattle.text_output.specs.Endings.{limits_of}
use Rattle.text_output.proofs.LastEvents.{is_new}
use Rattle.text_output.proofs.output_lines.machine_for.Goals as goal

pub returns : goal.returns
returns g c =
    let shared : c.in_ok-shared.shared.value ≡ c.args.code.now.value = search rules in
    let made = c.new.ensures in
    is_new c.new.result c.in_ok-shared.shared.value c.args.code.now.value shared c.args.query (limits_of c.args.options) made.code made.limits made.spent made.whole made.stands
