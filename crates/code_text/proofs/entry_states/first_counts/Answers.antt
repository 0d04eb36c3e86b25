use Rattle.std.proofs.Common.{rules, ◌∷◌, [], length, arith, ap, length-append}
use Rattle.std.proofs.lemmas.List.{length-map}
use Rattle.std.proofs.lemmas.Option.{slice_get_within}
use Rattle.code_listing.specs.States.{state_of, states_of}
use Rattle.code_text.proofs.EntryStates.{counts_step}
use Rattle.code_text.proofs.entry_states.first_counts.Goals as goal

pub loop-at-preserved : goal.loop-at-preserved
loop-at-preserved c = record {
  size = omega (arith, ap length c.in_ok-push.ensures.items, length-append c.loop-at.counts.items (c.in_ok-count.count ∷ []));
  counts = counts_step c.args.states.now c.loop-at.counts.items c.push.new.self.items c.loop-at.at c.in_ok-count.count c.index-states-at.result
      c.loop-at.invariant.size (search rules) c.index-states-at.is c.in_ok-count.ensures c.in_ok-push.ensures.items c.loop-at.invariant.counts;
}

pub returns : goal.returns
returns c = λ at s h. c.loop-at.invariant.counts at s (omega (arith, slice_get_within (states_of c.args.states.now) at s h, length-map c.args.states.now state_of, c.loop-at-test.false)) h
