use Rattle.std.proofs.Common.{List, ℕ, ◌++◌, take, get_or, sym, ap, ◌∙◌}
use Rattle.std.specs.List.{flat_map}
use Rattle.std.proofs.lemmas.List.{take_more}
use Rattle.fd_model.specs.Refusals as refusals
use Rattle.term_pool.specs.declared.TermId.{TermId}
use Rattle.term_pool.specs.PlacedTerms.{placed_of}
use Rattle.text_warnings.specs.Clauses.{calls_of}
use Rattle.text_warnings.specs.Graphs.{numbers_in}
use Rattle.text_warnings.proofs.AddedWarnings.{flat_map_push}
use Rattle.text_warnings.proofs.BodyCalls.{numbers-append}
use Rattle.text_warnings.proofs.calls.starts_of.Goals as goal

pub loop-body-preserved : goal.loop-body-preserved
loop-body-preserved c =
    let pool = c.args.pool.now in
    let keys = c.args.functors.now.keys in
    let i = c.loop-body.body-index in
    let bodies = c.args.bodies.now in
    let d : TermId = record { number = 0 } in
    let f : TermId → List refusals.Functor = λ b. calls_of (placed_of pool b) in
    let t = get_or bodies i d in
    c.in_ok-put_calls.ensures ∙ ap (λ (l : List ℕ). l ++ numbers_in pool keys (f t)) c.loop-body.invariant
    ∙ sym (numbers-append pool keys (flat_map f (take i bodies)) (f t))
    ∙ ap (numbers_in pool keys) (sym (flat_map_push f (take i bodies) t) ∙ ap (flat_map f) (sym (take_more bodies i d c.loop-body-test.true)))
