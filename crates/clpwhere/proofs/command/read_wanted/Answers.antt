use Rattle.std.proofs.Common.{◌≡◌, ◌∙◌, inr, map, sym, ap, subst, rules}
use Rattle.std.specs.Prelude.{string_bytes}
use Rattle.clpwhere.specs.Parts.{TextParts}
use Rattle.clpwhere.specs.Queries.{AreQueries}
use Rattle.clpwhere.specs.Words.{faults, request_of}
use Rattle.clpwhere.proofs.command.read_wanted.Goals as goal

pub returns-in_ok-text-in-Ok-2 : goal.returns-in_ok-text-in-Ok-2
returns-in_ok-text-in-Ok-2 g c =
    let t = c.in_ok-text-in-Ok-2.text in
    let asked : request_of (map string_bytes c.args.words.now) ≡ faults c.in-Ok-2.text.name = search rules in
    let same = c.in_ok-text-in-Ok-2.ensures.text in
    inr (
      asked ∙ ap (λ (x : TextParts). faults x.name) (sym same),
      subst (λ (x : TextParts). AreQueries x.bytes t.queries) (sym same) c.in_ok-text-in-Ok-2.ensures.queries,
    )
