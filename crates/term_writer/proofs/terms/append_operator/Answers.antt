use Rattle.std.proofs.Common.{ℕ, List, [], ◌∷◌, ◌++◌, ◌∙◌, ap, sym}
use Rattle.term_writer.proofs.Joins.{spaced}
use Rattle.term_writer.proofs.terms.append_operator.Goals as goal

pub returns-then-is_letter_word : goal.returns-then-is_letter_word
returns-then-is_letter_word c =
    c.in_ok-push-2.ensures.items
    ∙ ap (λ (w : List ℕ). w ++ 32 ∷ []) (c.in_ok-extend_from_slice.ensures.items ∙ ap (λ (w : List ℕ). w ++ c.as_bytes.result.now) c.in_ok-push.ensures.items
    ∙ ap (λ (w : List ℕ). (c.args.text.now.items ++ 32 ∷ []) ++ w) c.as_bytes.ensures.value)
    ∙ spaced c.args.text.now.items c.args.name.now (sym c.is_letter_word.ensures ∙ c.if-is_letter_word.true)
