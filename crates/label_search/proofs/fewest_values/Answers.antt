use Rattle.std.proofs.Common.{◌≡◌, ◌-◌, suc, arith, sym, subst}
use Rattle.std.specs.Prelude.{Some}
use Rattle.label_search.proofs.Picks.{IsBest, best_last, best_here, best_single, best_several, picked_best, several_best}
use Rattle.label_search.proofs.fewest_values.Given as given
use Rattle.label_search.proofs.fewest_values.Goals as goal
use Rattle.label_search.proofs.fewest_values.Goals.{else-count-gt1-via-then-count-gt1+else-count-fewest, else-count-gt1-via-else-count-gt1}

pub loop-i-init : goal.loop-i-init
loop-i-init g c = best_last _ _ _ _

pub loop-i-preserved-then-count-fewest : goal.loop-i-preserved-then-count-fewest
loop-i-preserved-then-count-fewest g c =
    let sets = g.V.View.sets c.args.view.now in
    let e : c.loop-i.i ≡ suc (c.loop-i.i - 1) = omega arith in
    let f = c.value_count_of-count.ensures in
    subst (λ n. IsBest c.args.infinity 4294967295 sets c.args.list.now (c.loop-i.i - 1) n (Some (c.loop-i.i - 1))) (sym f)
    (best_here c.args.infinity 4294967295 sets c.args.list.now (c.loop-i.i - 1) c.loop-i.fewest (omega arith) c.loop-i.best
    (subst (λ j. IsBest c.args.infinity 4294967295 sets c.args.list.now j c.loop-i.fewest c.loop-i.best) e c.loop-i.invariant) (omega arith) (omega arith))

pub loop-i-preserved : goal.loop-i-preserved
loop-i-preserved g c =
    let sets = g.V.View.sets c.args.view.now in
    let e : c.loop-i.i ≡ suc (c.loop-i.i - 1) = omega arith in
    let f = c.value_count_of-count.ensures in
    let old = subst (λ j. IsBest c.args.infinity 4294967295 sets c.args.list.now j c.loop-i.fewest c.loop-i.best) e c.loop-i.invariant in
    elim c.else-count-gt1.branch [
      | else-count-gt1-via-then-count-gt1+else-count-fewest w ↦
          best_several c.args.infinity 4294967295 sets c.args.list.now (c.loop-i.i - 1) c.loop-i.fewest (omega arith) c.loop-i.best old (omega arith)
          (omega arith) (omega (arith, c.value_count_of-count.type_inv))
      | else-count-gt1-via-else-count-gt1 w ↦ best_single c.args.infinity 4294967295 sets c.args.list.now (c.loop-i.i - 1) c.loop-i.fewest (omega arith) c.loop-i.best old (omega arith)
    ]

best : (g : given.Over) (c : goal.After-loop-i g) → IsBest c.args.infinity 4294967295 (g.V.View.sets c.args.view.now) c.args.list.now 0 c.loop-i.fewest c.loop-i.best
best g c = let e : c.loop-i.i ≡ 0 = omega arith in subst (λ j. IsBest c.args.infinity 4294967295 (g.V.View.sets c.args.view.now) c.args.list.now j c.loop-i.fewest c.loop-i.best) e c.loop-i.invariant

pub returns-clause-picked : goal.returns-clause-picked
returns-clause-picked g c = picked_best c.args.infinity 4294967295 (g.V.View.sets c.args.view.now) c.args.list.now c.loop-i.fewest c.loop-i.best (best g c)

pub returns-clause-several : goal.returns-clause-several
returns-clause-several g c = several_best c.args.infinity 4294967295 (g.V.View.sets c.args.view.now) c.args.list.now c.loop-i.fewest c.loop-i.best (best g c)
