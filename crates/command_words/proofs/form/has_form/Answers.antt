use Rattle.std.proofs.Common.{◌∙◌, string_bytes}
use Rattle.command_words.proofs.Pairs.{form_of_few, form_of_pair}
use Rattle.command_words.proofs.form.has_form.Goals as goal
use Rattle.command_words.proofs.form.has_form.Goals.{then-not-is_choice-via-then-not-is_choice, then-not-is_choice-via-else-not-is_choice+then-is_named}

pub returns-then-not-is_choice : goal.returns-then-not-is_choice
returns-then-not-is_choice c =
    let pair = form_of_pair string_bytes c.loop-left.left.now c.name-item.result c.value-item.result _ _ c.in-len2-up.len_at_least c.name-item.is c.value-item.is
    c.as_str-name.ensures.value c.as_str.ensures.value in
    elim c.then-not-is_choice.branch [
      | then-not-is_choice-via-then-not-is_choice w ↦ (rw (← w.if-not-is_choice.ensures) at pair) ∙ c.loop-left.invariant
      | then-not-is_choice-via-else-not-is_choice+then-is_named w ↦ (rw (← w.if-not-is_choice.ensures, ← w.if-is_named.ensures) at pair) ∙ c.loop-left.invariant
    ]

pub loop-left-preserved : goal.loop-left-preserved
loop-left-preserved c =
    let pair = form_of_pair string_bytes c.loop-left.left.now c.name-item.result c.value-item.result _ _ c.in-len2-up.len_at_least c.name-item.is c.value-item.is
    c.as_str-name.ensures.value c.as_str.ensures.value in
    (rw (← c.if-not-is_choice.ensures, ← c.if-is_named.ensures) at pair) ∙ c.loop-left.invariant

pub returns : goal.returns
returns c = c.is_empty.ensures ∙ form_of_few string_bytes c.loop-left.left.now c.in_default.len_below ∙ c.loop-left.invariant
