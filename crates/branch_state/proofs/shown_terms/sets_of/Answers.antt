use Rattle.std.proofs.Common.{◌∙◌, ap, take, arith, List, ℕ}
use Rattle.std.proofs.lemmas.List.{take_all}
use Rattle.fd_language.specs.Variables.{distinct}
use Rattle.branch_state.specs.ShownTerms.{open_set, with_sets}
use Rattle.branch_state.proofs.ShownTerms.{gathered_all}
use Rattle.branch_state.proofs.shown_terms.sets_of.Goals as goal

pub returns : goal.returns
returns g c =
    let set = open_set c.args.heap.now.now c.args.store.now.current.sets in
    let i = c.loop-variable.variable-index in
    let past = c.loop-variable-test.false in
    gathered_all set (take i c.args.variables.now) c.loop-variable.seen.keys c.loop-variable.sets.items c.loop-variable.invariant
    ∙ ap (λ (l : List ℕ). with_sets set (distinct l)) (take_all i c.args.variables.now (omega (arith, past)))
