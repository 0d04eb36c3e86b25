use Rattle.std.proofs.Common.{rules, refl, subst, sym, SFits, to_z-of_z}
use mir.Syntax.{w64}
use Rattle.range_code.specs.Forms.{IsAdded}
use Rattle.range_code.proofs.Forms.{added_read}
use Rattle.range_code.proofs.form.Bound.add.Goals as goal

pub returns-in_ok-push-in-Read : goal.returns-in_ok-push-in-Read
returns-in_ok-push-in-Read c t =
    let f : SFits w64 c.args.addend.weight = search rules in
    let e = simp to_z-of_z at c.in_ok-push-in-Read.ensures.items in
    subst (λ l. IsAdded c.args.self.now (record { weight = c.args.addend.weight; leaf = l })
    (record { constant = c.args.self.now.constant; products = c.push.new.self; division = c.args.self.now.division })) (sym c.in-Read.is)
    (added_read c.args.self.now (record { constant = c.args.self.now.constant; products = c.push.new.self; division = c.args.self.now.division })
    (record { weight = c.args.addend.weight; slot = c.in-Read.slot; end = c.in-Read.end }) refl e refl)
