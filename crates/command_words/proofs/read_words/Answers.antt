use Rattle.std.proofs.Common.{◌≡◌, ◌∙◌, ap, sym, refl, Some, map, string_bytes, true, codes, Result, Ok, Err, IfErr, subst}
use Rattle.std.specs.Prelude.{option_and_then, unwrap_or}
use Rattle.std.specs.Result.{IsErrAnd}
use Rattle.clap.proofs.WalkLemmas.{first_value-rows}
use Rattle.clap.specs.Words.{App, HasMatchesOf, Text, app_of, first_of, first_value, found_of, takes}
use Rattle.command_words.specs.Words.{asked, agenda_in, found_value}
use Rattle.command_words.specs.declared.AgendaName.TheVariants.{Fifo}
use Rattle.command_words.specs.declared.WordsFault.{WordsFault}
use Rattle.command_words.specs.declared.WordsFault.TheVariants as fault
use Rattle.command_words.proofs.Law.{accepts, accepts_none, form_is_taken, options_same}
use Rattle.command_words.proofs.Numbers.{answers_within, generate_within, infinity_within}
use Rattle.command_words.proofs.read_words.Goals as goal

only_memory : {T : Type 0} (r : Result T WordsFault) (K Q : Type 0) → IsErrAnd r (λ e. K → e ≡ fault.NoMemory) → K → IfErr r (λ e. e ≡ fault.Usage → Q)
only_memory (Ok x) K Q h k = tt
only_memory (Err e) K Q h k = λ usage. let memory : e ≡ fault.NoMemory = h k in cc

found : (c : goal.Joined-matches) (id : Text) → first_value (found_of c.in_ok-matches.matches) id ≡ found_value (map string_bytes c.args.words.now) id
found c id =
    let has = subst (λ (a : App). HasMatchesOf a (map string_bytes c.args.words.now) c.in_ok-matches.matches) c.in_ok-command.ensures c.in_ok-matches.ensures.matches in
    first_value-rows (found_of c.in_ok-matches.matches) id ∙ ap (first_of id) (has refl).0

pub returns-then-is_empty-clause-accepted : goal.returns-then-is_empty-clause-accepted
returns-then-is_empty-clause-accepted c = accepts_none string_bytes c.args.words.now c.if-is_empty.ensures

pub returns-in_err-matches-clause-refused : goal.returns-in_err-matches-clause-refused
returns-in_err-matches-clause-refused c =
    let taken : takes (app_of c.in_ok-command.field-0) (map string_bytes c.args.words.now) ≡ true =
    ap (λ (a : App). takes a (map string_bytes c.args.words.now)) c.in_ok-command.ensures ∙ form_is_taken (map string_bytes c.args.words.now) (sym c.if-not-has_form.ensures) in
    only_memory c.from_residual-in_err-matches.result _ _ c.from_residual-in_err-matches.ensures.1 (c.in_err-matches.ensures.passes taken)

pub returns-clause-accepted : goal.returns-clause-accepted
returns-clause-accepted c =
    accepts (map string_bytes c.args.words.now) (sym c.if-not-has_form.ensures) ∙ ap Some (sym (c.found_options.ensures.asked ∙ options_same _ _ (found c)))

pub returns-clause-agenda : goal.returns-clause-agenda
returns-clause-agenda c = c.found_options.ensures.agenda ∙ ap (λ o. unwrap_or (option_and_then agenda_in o) Fifo) (found c (codes "agenda"))

pub returns-clause-answers : goal.returns-clause-answers
returns-clause-answers c = answers_within (asked c.found_options.result) (first_value (found_of c.in_ok-matches.matches)) c.found_options.ensures.asked

pub returns-clause-infinity : goal.returns-clause-infinity
returns-clause-infinity c = infinity_within (asked c.found_options.result) (first_value (found_of c.in_ok-matches.matches)) c.found_options.ensures.asked

pub returns-clause-generate : goal.returns-clause-generate
returns-clause-generate c = generate_within (asked c.found_options.result) (first_value (found_of c.in_ok-matches.matches)) c.found_options.ensures.asked
