use Rattle.std.proofs.Common.{◌≡◌, ◌+◌, ◌++◌, ◌∙◌, ℕ, [], ◌∷◌, List, take, sym, ap, subst}
use Rattle.std.specs.Prelude.{nat_eq, option_copied}
use Rattle.std.proofs.lemmas.List.{take_more}
use Rattle.indexmap.specs.IndexMap.{get}
use Rattle.machine_events.specs.Events.{set_in}
use Rattle.answer_text.specs.Variables.{HasSets, set_by}
use Rattle.answer_text.proofs.Sets.{set_kept, set_added, is_known, is_new, copied_step}
use Rattle.answer_text.proofs.variables.sets_of.Goals.{then-is_none+in_ok-insert, else-is_none}
use Rattle.answer_text.proofs.variables.sets_of.Goals as goal

pub loop-variable-preserved : goal.loop-variable-preserved
loop-variable-preserved c =
    let sets = c.args.sets.now in
    let i = c.loop-variable.variable-index in
    let s = c.loop-variable-item.result in
    let old = c.loop-variable.found in
    let more : take i sets ++ s ∷ [] ≡ take (i + 1) sets =
    ap (λ (x : ℕ × List ℕ). take i sets ++ x ∷ []) c.loop-variable-item.is ∙ sym (take_more sets i s c.loop-variable-test.true) in
    elim c.if-is_none.branch [
      | then-is_none+in_ok-insert w ↦
          subst (λ m. HasSets (take (i + 1) sets) m) (sym w.found-is) (λ (y : ℕ).
          set_added (take i sets) s (set_by old) c.loop-variable.invariant (set_by w.insert.new.self)
          (is_new c.get.result (get nat_eq old s.0) c.is_none.result c.get.ensures.value c.is_none.ensures w.if-is_none.true)
          (λ (x : ℕ). ap option_copied (w.in_ok-insert.ensures.updates.0 x) ∙ copied_step (nat_eq s.0 x) _ (get nat_eq old x)) y
          ∙ ap (λ (l : List (ℕ × List ℕ)). set_in l y) more)
      | else-is_none w ↦
          subst (λ m. HasSets (take (i + 1) sets) m) (sym w.found-is) (λ (y : ℕ).
          set_kept (take i sets) s (set_by old) c.loop-variable.invariant
          (is_known c.get.result (get nat_eq old s.0) c.is_none.result c.get.ensures.value c.is_none.ensures w.if-is_none.false) y
          ∙ ap (λ (l : List (ℕ × List ℕ)). set_in l y) more)
    ]
