use Rattle.std.proofs.Common.{◌≡◌, ◌<◌, ℕ, Option, length, sym, ap, ◌∙◌}
use Rattle.std.specs.Option.{option_to_list}
use Rattle.std.proofs.lemmas.List.Elements.{recursion_from_All}
use Rattle.fd_model.specs.Refusals as refusals
use Rattle.text_warnings.specs.declared.terms.Functor.{Functor}
use Rattle.text_warnings.specs.Terms.{functor_in}
use Rattle.text_warnings.specs.Graphs.{number_in, numbers_in}
use Rattle.text_warnings.proofs.Functors.{number_same}
use Rattle.text_warnings.proofs.BodyCalls.{alone}
use Rattle.text_warnings.proofs.calls.number_of.Goals as goal

pub returns : goal.returns
returns c =
    let pool = c.args.pool.now in
    let keys = c.args.functors.now.keys in
    let f = c.in_ok-functor.functor in
    let own = recursion_from_All (λ (g : Functor). g.name.number < length pool.names) keys c.requires.names in
    let at : c.get_index_of.result ≡ number_in pool keys (functor_in pool f) = c.get_index_of.ensures.index
    ∙ number_same pool c.functor_of.ensures.valid keys f c.in_ok-functor.ensures.functor.0 own in
    ap (λ (o : Option ℕ). option_to_list o) at ∙ sym (alone (number_in pool keys (functor_in pool f)))
    ∙ ap (λ (o : Option refusals.Functor). numbers_in pool keys (option_to_list o)) (sym c.in_ok-functor.ensures.functor.1)
