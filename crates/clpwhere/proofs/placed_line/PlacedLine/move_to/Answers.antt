use Rattle.std.proofs.Common.{rules, refl}
use Rattle.clpwhere.proofs.LineParts.{goes_on}
use Rattle.clpwhere.proofs.placed_line.PlacedLine.move_to.Goals as goal

pub returns : goal.returns
returns c = goes_on c.args.text.now.bytes c.args.from c.args.place c.args.self.now _ c.in-Some.part.now c.requires.order c.requires.line c.in-Some.ensures refl refl (search rules)
