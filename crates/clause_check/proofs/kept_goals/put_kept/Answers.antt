use Rattle.std.proofs.Common.{◌≡◌, ◌+◌, ◌++◌, ◌<◌, List, [], ◌∷◌, length, take, get_or, false, true, sym, ap, ◌∙◌, arith, append-nil}
use Rattle.std.proofs.lemmas.List.{append_assoc, get_or_append_left, get_or_default}
use Rattle.fd_language.proofs.Lemmas.{two}
use Rattle.clause_check.specs.declared.program.FlatGoal.{FlatGoal}
use Rattle.clause_check.specs.declared.program.FlatGoal.TheVariants.{True}
use Rattle.clause_check.specs.FewerGoals.{flat_kept, flat_without_best}
use Rattle.clause_check.proofs.kept_goals.put_kept.Goals.{then-kept-i+in_ok-push, else-kept-i}
use Rattle.clause_check.proofs.FewerGoals.{kept_step}
use Rattle.clause_check.proofs.kept_goals.put_kept.Goals as goal

pub loop-i-preserved : goal.loop-i-preserved
loop-i-preserved c =
    let old = c.args.goals.now.items in
    let ks = c.args.kept.now in
    let i = c.loop-i.i in
    let some = flat_kept (take i ks) old c.args.part in
    let a_goal = get_or old (c.args.part.from + i) True in
    let within = c.requires.part.within in
    elim c.if-kept-i.branch [
      | then-kept-i+in_ok-push w ↦
          let g = w.index.result.now in
          let here : c.args.part.from + i < length old = omega (arith, within, c.requires.each, c.loop-i-test.true) in
          let read : g ≡ get_or old (c.args.part.from + i) g = w.index.ensures
          ∙ ap (λ (xs : List FlatGoal). get_or xs (c.args.part.from + i) g) c.loop-i.invariant ∙ get_or_append_left old some g (c.args.part.from + i) here in
          let step = kept_step ks old c.args.part i true g c.requires.part c.requires.each c.loop-i-test.true w.if-kept-i.true read in
          let put : c.if-kept-i.goals.items ≡ (old ++ some) ++ flat_without_best g ∷ [] =
          ap (λ v. v.items) w.goals-is ∙ w.in_ok-push.ensures.items ∙ two (λ (xs : List FlatGoal) (x : FlatGoal). xs ++ x ∷ []) c.loop-i.invariant w.without_best-goal.ensures in
          put ∙ append_assoc old some (flat_without_best g ∷ []) ∙ ap (λ (xs : List FlatGoal). old ++ xs) (sym step)
      | else-kept-i w ↦
          let read : a_goal ≡ get_or old (c.args.part.from + i) a_goal =
          get_or_default old (c.args.part.from + i) True a_goal (omega (arith, within, c.requires.each, c.loop-i-test.true)) in
          let step = kept_step ks old c.args.part i false a_goal c.requires.part c.requires.each c.loop-i-test.true w.if-kept-i.false read in
          ap (λ v. v.items) w.goals-is ∙ c.loop-i.invariant ∙ ap (λ (xs : List FlatGoal). old ++ xs) (sym (step ∙ append-nil some))
    ]
