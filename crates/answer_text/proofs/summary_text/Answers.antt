use Rattle.std.proofs.Common.{rules, ◌≡◌, ◌++◌, ◌∙◌, ap, List, ℕ, codes, decimal}
use Rattle.fd_model.specs.Lines.{event_bytes, line}
use Rattle.machine_events.specs.Events.{event_of}
use Rattle.answer_text.proofs.Summaries.{four_lines}
use Rattle.answer_text.proofs.summary_text.Goals as goal

pub returns : goal.returns
returns c = λ names.
    let end = event_bytes (event_of names c.args.last.now) in
    let first : c.put_count.new.text.items ≡ c.new-text.result.items ++ line (codes "gen " ++ decimal c.args.size) =
    c.in_ok-put_count.ensures ∙ ap (λ (n : ℕ). c.new-text.result.items ++ line (codes "gen " ++ decimal n)) c.from.ensures in
    let last : c.unwrap.result.now ≡ end = search rules in
    four_lines (line (codes "gen " ++ decimal c.args.size)) (line (codes "answers " ++ decimal c.args.answers)) (line (codes "reductions " ++ decimal c.args.spent)) end
    c.new-text.result.items c.put_count.new.text.items c.put_count-2.new.text.items c.put_count-3.new.text.items c.extend_from_slice.new.self.items
    c.new-text.ensures.items first c.in_ok-put_count-2.ensures c.in_ok-put_count-3.ensures
    (c.in_ok-extend_from_slice.ensures.items ∙ ap (λ (t : List ℕ). c.put_count-3.new.text.items ++ t) last)
