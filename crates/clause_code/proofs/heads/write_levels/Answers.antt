use Rattle.std.proofs.Common.{◌++◌, ap, refl, ◌∙◌, arith}
use Rattle.clause_code.specs.ClauseParts.{level_codes}
use Rattle.clause_code.proofs.LevelInstructions.{levels_none, levels_next, levels_all}
use Rattle.clause_code.proofs.heads.write_levels.Goals as goal

pub loop-slot-init : goal.loop-slot-init
loop-slot-init c = record { codes = levels_none c.args.levels.first c.args.code.now.items; early = λ e. refl }

pub loop-slot-preserved : goal.loop-slot-preserved
loop-slot-preserved c =
    let k = c.loop-slot.invariant in
    let low = c.loop-slot.auto.slot in
    let test = c.loop-slot-test.true in record {
      codes = levels_next c.args.levels.first c.loop-slot.slot c.args.code.now.items c.loop-slot.code.items c.push.new.self.items low k.codes c.in_ok-push.ensures.items;
      early = λ e. absurd (omega (arith, e, low, test));
    }

pub returns : goal.returns
returns c =
    let k = c.loop-slot.invariant in
    let a = c.loop-slot.auto in
    let l = c.args.levels in
    k.codes ∙ ap (λ n. c.args.code.now.items ++ level_codes n l.first) (levels_all l.first l.end c.loop-slot.slot a.slot a.slot-end c.loop-slot-test.false k.early)
