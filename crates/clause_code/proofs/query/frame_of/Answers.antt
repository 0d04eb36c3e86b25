use Rattle.std.proofs.Common.{ap, get_or, subst, arith, ◌∙◌, map}
use Rattle.wam_code.specs.declared.instruction.Register.TheVariants.{Y}
use Rattle.clause_code.specs.Slots.{AreGiven, AreAll}
use Rattle.clause_code.proofs.QueryCode.{frame_made}
use Rattle.clause_code.proofs.query.frame_of.Goals as goal

pub returns : goal.returns
returns c =
    let v = c.args.variables in
    let shown = c.args.shown.now in
    let s = c.in_ok-slots.ensures in
    let g = c.in_ok-behind.ensures in
    let new = c.give_others.new.slots.items in
    let long = (let a = s.given in a.long) in
    frame_made v c.in_ok-behind.behind shown new c.in_ok-homes.homes.items (subst (λ n. AreGiven n c.in_ok-behind.behind new) long g.given) (subst (λ n. AreAll n new) long g.all)
    (λ j l. let first = s.shown j l in g.kept (get_or shown j 0) (omega (arith, first)) ∙ first) c.requires.below (c.in_ok-homes.ensures ∙ ap (map Y) c.deref.ensures.value)
