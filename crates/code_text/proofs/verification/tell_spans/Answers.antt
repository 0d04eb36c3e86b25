use Rattle.std.proofs.Common.{◌∙◌, ◌<◌, ℕ, List, Option, length, subst, ap}
use Rattle.std.proofs.lemmas.Option.{slice_get_within}
use Rattle.wam_code.specs.Area.{area_of}
use Rattle.code_text.specs.Owners.{AreOwners, AreCrossings}
use Rattle.code_text.specs.Places.{IsEntryTold}
use Rattle.code_listing.specs.States.{states_of}
use Rattle.code_text.proofs.Faults.{spans_told, answer_kept}
use Rattle.code_text.proofs.FaultPlaces.{faults_then}
use Rattle.code_text.proofs.verification.tell_spans.Goals as goal

pub returns : goal.returns
returns c =
    let a = area_of c.args.parts.now in
    let ss = states_of c.args.states.now in
    let own = c.in_ok-owners.owners.items in
    let old = c.args.first.now.place in
    let begun = c.begins_of.new.first.place in
    let owned = c.owners_of.new.first.place in
    let entered = c.tell_entries.new.first.place in
    let crossed = c.tell_all_crossings.new.first.place in
    let answered = c.tell_answers.new.first.place in
    let new = c.tell_queries.new.first.place in
    let second = c.tell_entries.ensures.tells.kept in
    let third = (c.in_ok-tell_all_crossings.ensures.tells ss).kept in
    let fourth = c.tell_answers.ensures.tells.kept in
    let fifth = c.tell_queries.ensures.tells.kept in
    let owners = subst (λ n. AreOwners a n owned own) (ap length c.deref.ensures.value ∙ c.in_ok-begins.ensures.len) c.in_ok-owners.ensures.owners in
    let told_entries = subst (λ (l : List (Option ℕ)). (n : ℕ) → n < length a.entries → IsEntryTold a ss l entered n) c.deref-3.ensures.value c.tell_entries.ensures.found in
    let crossings = subst (λ (l : List (Option ℕ)). (at : ℕ) → at < length a.code → AreCrossings a l crossed at) c.deref-4.ensures.value c.in_ok-tell_all_crossings.ensures.crossings in
    record {
      found = spans_told a ss own owned entered crossed new owners (λ p t. fifth p (fourth p (third p (second p t)))) told_entries
          (λ p t. fifth p (fourth p (third p t))) crossings (λ p t. fifth p (fourth p t)) c.tell_queries.ensures.found
          (λ n q h. answer_kept a ss answered new q fifth (c.tell_answers.ensures.found n q h)) (λ n e h. slice_get_within a.entries n e h);
      tells = faults_then a ss old begun new (c.begins_of.ensures.tells ss)
          (faults_then a ss begun owned new (c.in_ok-owners.ensures.tells ss)
          (faults_then a ss owned entered new c.tell_entries.ensures.tells
          (faults_then a ss entered crossed new (c.in_ok-tell_all_crossings.ensures.tells ss)
          (faults_then a ss crossed answered new c.tell_answers.ensures.tells c.tell_queries.ensures.tells))));
    }
