use Rattle.std.proofs.Common.{◌++◌, ◌∙◌, List, ℕ, ap}
use Rattle.fd_model.specs.Lines.{domain_text}
use Rattle.answer_text.proofs.JoinedTexts.{domain_spans, put_between}
use Rattle.answer_text.proofs.domains.put_domain.Goals as goal

pub returns : goal.returns
returns c =
    put_between c.args.text.now.items c.push.new.self.items c.put_spans.new.text.items c.push-2.new.self.items (domain_text c.args.domain.now) c.in_ok-push.ensures.items
    (c.in_ok-put_spans.ensures ∙ ap (λ (t : List ℕ). c.push.new.self.items ++ t) (domain_spans 268435455 c.args.domain.now c.spans.result.now c.spans.ensures.spans c.spans.ensures.members))
    c.in_ok-push-2.ensures.items
