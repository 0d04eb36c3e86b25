use Rattle.std.proofs.Common.{◌≡◌, map, take}
use Rattle.fd_language.specs.Range.{least}
use Rattle.fd_model.specs.Labelling.{open_ones}
use Rattle.range_code.specs.Frames.{family_of}
use Rattle.bound_search.specs.Members.{members_of}
use Rattle.bound_search.proofs.best_leaf.keep_leaf.Given as goal

abbrev pub invariant-loop-member : goal.invariant-loop-member
invariant-loop-member g l = l.best.values.items ≡ map (λ x. least (family_of l.store.current.sets x)) (open_ones (members_of (take l.member-index l.list)))
