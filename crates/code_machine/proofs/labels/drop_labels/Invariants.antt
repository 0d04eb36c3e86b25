use Rattle.std.proofs.Common.{◌≡◌, length, reverse}
use Rattle.code_machine.specs.Labels.{labels_below}
use Rattle.code_machine.proofs.labels.drop_labels.Given as goal

abbrev pub invariant-dropping : goal.invariant-dropping
invariant-dropping l = labels_below l.points (reverse l.labels.items) ≡ labels_below l.points (reverse l.initial.labels.items)

abbrev pub decreases-dropping : goal.decreases-dropping
decreases-dropping l = length l.labels.items
