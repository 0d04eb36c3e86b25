use Rattle.std.proofs.Common.{◌∙◌, ◌++◌, sym, ap}
use Rattle.std.specs.Option.{option_to_list}
use Rattle.std.proofs.lemmas.List.{append-nil}
use Rattle.fd_language.specs.Needs.{once}
use Rattle.range_code.proofs.Lemmas.{keys_more}
use Rattle.code_listing.proofs.slots.put_variable.Goals as goal

pub returns-in_ok-insert-in-Some : goal.returns-in_ok-insert-in-Some
returns-in_ok-insert-in-Some c = λ xs e.
    (keys_more xs c.args.met.now.keys c.insert.new.self.keys c.in-Some.variable c.in_ok-insert-in-Some.ensures.keys e
    ∙ ap (λ o. once (xs ++ option_to_list o)) (sym c.in-Some.is ∙ c.variable_of.ensures))

pub returns-in-None : goal.returns-in-None
returns-in-None c = λ xs e. (e ∙ ap once (sym (append-nil xs)) ∙ ap (λ o. once (xs ++ option_to_list o)) (sym c.in-None.is ∙ c.variable_of.ensures))
