use Rattle.std.proofs.Common.{rules}
use Rattle.code_listing.specs.States.{states_of}
use Rattle.wam_code.specs.VerifiedCode.{BeginsWith}
use Rattle.code_text.proofs.EntryStates.{begins_by, begins_past}
use Rattle.code_text.proofs.PlaceConditions.{not_so}
use Rattle.code_text.proofs.entry_states.begins.Goals as goal

pub returns-then-at-states : goal.returns-then-at-states
returns-then-at-states c = begins_by c.args.states.now c.args.counts.now c.args.at c.args.count c.owner_at.result c.is_same.result c.requires.counts
    c.requires.small (search rules) c.owner_at.ensures c.is_same.ensures

pub returns-else-at-states : goal.returns-else-at-states
returns-else-at-states c = not_so (BeginsWith (states_of c.args.states.now) c.args.at c.args.count) (begins_past c.args.states.now c.args.at c.args.count (search rules))
