use Rattle.std.proofs.Common.{◌≡◌, ◌+◌, ◌++◌, ◌∙◌, ℕ, [], ◌∷◌, List, Option, take, slice_index_or, refl, sym, ap, subst, Bor}
use Rattle.std.specs.Prelude.{option_copied}
use Rattle.std.proofs.lemmas.List.{take_all, take_more}
use Rattle.fd_model.specs.Lines.{open_part}
use Rattle.answer_text.specs.Pieces.{inserted, with_number}
use Rattle.answer_text.specs.Variables.{AreTexts, open_by, set_by}
use Rattle.answer_text.proofs.VariableNumbers.{inserted_append}
use Rattle.answer_text.proofs.Texts.{texts_step}
use Rattle.answer_text.proofs.variables.variable_texts.Goals as goal

pub returns-clause-numbers : goal.returns-clause-numbers
returns-clause-numbers c =
    c.loop-variable.invariant.numbers ∙ ap (inserted c.args.numbers.now.keys) (take_all c.loop-variable.variable-index c.args.variables.now c.loop-variable-test.false)

pub returns-clause-texts : goal.returns-clause-texts
returns-clause-texts c = λ more.
    subst (λ (vs : List ℕ). AreTexts (open_by (set_by c.args.sets.now) (c.loop-variable.numbers.keys ++ more)) vs c.loop-variable.texts.items)
    (take_all c.loop-variable.variable-index c.args.variables.now c.loop-variable-test.false) (c.loop-variable.invariant.texts more)

pub loop-variable-preserved : goal.loop-variable-preserved
loop-variable-preserved c =
    let vars = c.args.variables.now in
    let i = c.loop-variable.variable-index in
    let v = slice_index_or vars i 0 in
    let ks = c.loop-variable.numbers.keys in
    let start = c.args.numbers.now.keys in
    let set = set_by c.args.sets.now in
    let text : c.in_ok-text.text.items ≡ open_part (c.in_ok-index.index + 1) (set v) =
    c.in_ok-text.ensures ∙ ap (λ (o : Option (Bor (List ℕ))). open_part (c.in_ok-index.index + 1) (option_copied o)) (c.copied-set.ensures ∙ c.get.ensures.value) in
    record {
      numbers = c.in_ok-index.ensures.keys
          ∙ ap (λ (l : List ℕ). with_number l v) c.loop-variable.invariant.numbers
          ∙ sym (ap (inserted start) (take_more vars i 0 c.loop-variable-test.true) ∙ inserted_append start (take i vars) (v ∷ []));
      texts = λ more. texts_step set ks c.insert_full.new.self.keys more vars i c.loop-variable.texts.items c.push.new.self.items
          (record { var = v; text = c.in_ok-text.text }) c.loop-variable-test.true
          c.in_ok-index.ensures.keys c.loop-variable.invariant.texts refl (text ∙ ap (λ (n : ℕ). open_part (n + 1) (set v)) c.in_ok-index.ensures.index) c.in_ok-push.ensures.items;
    }
