use Rattle.std.proofs.Common.{◌<◌, ◌∙◌, ap, length, sym, subst, Some, add-one}
use Rattle.term_pool.specs.Terms.{term_of, terms_by}
use Rattle.clause_code.specs.Steps.{Suits}
use Rattle.clause_code.specs.ArgumentHomes.{MayStay, Stayed}
use Rattle.clause_code.proofs.ArgumentHomes.{all_own, nth_of, stayed_next}
use Rattle.clause_code.proofs.argument_homes.stay_all.Goals as goal
use Rattle.clause_code.proofs.argument_homes.stay_all.Goals.{in-Var, in_default}

pub stay-requires : goal.stay-requires
stay-requires c =
    let v = length c.args.homes.now.items in
    let own = all_own c.args.pool.now v c.args.ids.now c.requires.own c.requires.suits c.loop-i.i (record { number = 0 }) c.loop-i-test.true in
    let low : c.in-Var.x < v = subst (Suits c.args.pool.now v) c.in-Var.ensures.term own.1 in
    subst (λ n. c.in-Var.x < n) (sym c.loop-i.invariant.long) low

pub loop-i-preserved : goal.loop-i-preserved
loop-i-preserved c =
    let ts = terms_by (term_of c.args.pool.now) c.args.ids.now in
    let v = length c.args.homes.now.items in
    elim c.match-view.branch [
      | in-Var w ↦
          let own = all_own c.args.pool.now v c.args.ids.now c.requires.own c.requires.suits c.loop-i.i (record { number = 0 }) c.loop-i-test.true in
          let low : w.in-Var.x < v = subst (Suits c.args.pool.now v) w.in-Var.ensures.term own.1 in
          let there = nth_of (term_of c.args.pool.now) c.args.ids.now c.loop-i.i (record { number = 0 }) c.loop-i-test.true ∙ ap Some w.in-Var.ensures.term in
          subst (λ h. Stayed c.args.homes.now.items h.items ts c.args.from) (sym w.homes-is)
          (stayed_next c.args.homes.now.items c.loop-i.homes.items w.stay.new.homes.items ts c.args.from c.loop-i.i w.in-Var.x c.loop-i.auto.i there
          (subst (λ n. w.in-Var.x < n) (sym c.loop-i.invariant.long) low)
          (subst (λ k. MayStay w.in-Var.x k c.loop-i.homes.items w.stay.new.homes.items) (add-one c.loop-i.i) w.stay.ensures) c.loop-i.invariant)
      | in_default w ↦ subst (λ h. Stayed c.args.homes.now.items h.items ts c.args.from) (sym w.homes-is) c.loop-i.invariant
    ]
