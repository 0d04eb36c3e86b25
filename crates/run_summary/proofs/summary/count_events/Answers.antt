use Rattle.std.proofs.Common.{◌≡◌, ◌+◌, ◌∙◌, sym, ap, refl, ℕ}
use Rattle.code_machine.specs.States.{names_of}
use Rattle.text_output.proofs.Lemmas.{no_ending}
use Rattle.run_summary.proofs.Tallies.{counted_all, counted_more}
use Rattle.run_summary.proofs.summary.count_events.Goals as goal

pub returns-in-Some-clause-whole : goal.returns-in-Some-clause-whole
returns-in-Some-clause-whole g c = λ es r h.
    let final = c.in-Some.ensures.0 in
    counted_all c.events.machine c.next.new.self c.events.answers es r (names_of c.events.machine) c.in_ok-event.event _ final (c.events.invariant es r h)
    (c.in_ok-event.ensures.last final) c.in_ok-event.ensures.next (c.spent.ensures.whole (c.in_ok-event.ensures.ended final)) refl c.in-Some.ensures.1 refl

pub events-preserved-in_ok-answers : goal.events-preserved-in_ok-answers
events-preserved-in_ok-answers g c = λ es r h.
    let names = names_of c.events.machine in
    let ev = c.in_ok-event.event in
    let add : c.in_ok-answers.answers ≡ c.events.answers + c.answers_in.result = c.in_ok-answers.ensures.sum in
    counted_more c.events.machine c.next.new.self c.events.answers c.in_ok-answers.answers es r names ev (no_ending ev c.ending.result c.ending.ensures c.in_default.not-Some)
    (c.events.invariant es r h) c.in_ok-event.ensures.next (add ∙ ap (λ (n : ℕ). c.events.answers + n) (sym (c.answers_in.ensures names)))

pub events-preserved-in_ok-answers-2 : goal.events-preserved-in_ok-answers-2
events-preserved-in_ok-answers-2 g c = λ es r h.
    let names = names_of c.events.machine in
    let ev = c.in_ok-event.event in
    let add : c.in_ok-answers.answers ≡ c.events.answers + c.answers_in.result = c.in_ok-answers.ensures.sum in
    counted_more c.events.machine c.next.new.self c.events.answers c.in_ok-answers.answers es r names ev (no_ending ev c.ending.result c.ending.ensures c.in_default.not-Some)
    (c.events.invariant es r h) c.in_ok-event.ensures.next (add ∙ ap (λ (n : ℕ). c.events.answers + n) (sym (c.answers_in.ensures names)))

pub events-preserved : goal.events-preserved
events-preserved g c = λ es r h.
    let names = names_of c.events.machine in
    let ev = c.in_ok-event.event in
    let add : c.in_ok-answers.answers ≡ c.events.answers + c.answers_in.result = c.in_ok-answers.ensures.sum in
    counted_more c.events.machine c.next.new.self c.events.answers c.in_ok-answers.answers es r names ev (no_ending ev c.ending.result c.ending.ensures c.in_default.not-Some)
    (c.events.invariant es r h) c.in_ok-event.ensures.next (add ∙ ap (λ (n : ℕ). c.events.answers + n) (sym (c.answers_in.ensures names)))
