use Rattle.std.proofs.Common.{◌∙◌, List, ℕ, sym, ap}
use Rattle.clpwhere.specs.BeforePlace.{read_in}
use Rattle.clpwhere.proofs.BeforePlace.{in_utf8, not_utf8}
use Rattle.clpwhere.proofs.before_place.read_before.Goals as goal

pub returns-in-Ok : goal.returns-in-Ok
returns-in-Ok c =
    let text = c.in-Ok.ensures.cases in
    c.read_in.ensures ∙ ap (λ (bytes : List ℕ). read_in bytes c.args.place) text.0 ∙ sym (in_utf8 c.args.text.now c.args.place text.1)

pub returns-in-Err : goal.returns-in-Err
returns-in-Err c = sym (not_utf8 c.args.text.now c.args.place c.in-Err.ensures.cases.0)
