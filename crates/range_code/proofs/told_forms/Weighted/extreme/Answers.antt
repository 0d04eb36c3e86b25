use Rattle.std.proofs.Common.{rules, arith, ◌≡◌, pos, ◌*ℤ◌, SFits, to_z, to_z-of_z}
use mir.ValLaws.{to_z_pos}
use mir.Syntax.{w32, w64}
use Rattle.range_code.proofs.Forms.{product_small}
use Rattle.range_code.proofs.PairedSums.{product_fits}
use Rattle.range_code.proofs.told_forms.Weighted.extreme.Goals as goal

pub returns-clause-limit : goal.returns-clause-limit
returns-clause-limit g c =
    let f : SFits w32 c.args.self.weight = search rules in
    let k : SFits w64 c.args.self.weight = search rules in
    let e : to_z w64 c.end_of-end.result ≡ pos c.end_of-end.result = to_z_pos w64 c.end_of-end.result (omega (arith, c.end_of-end.ensures.limit)) in
    let p : SFits w64 (c.args.self.weight *ℤ pos c.end_of-end.result) = product_fits c.args.self.weight c.end_of-end.result f c.end_of-end.ensures.limit in
    simp (to_z-of_z, e) (product_small c.args.self.weight c.end_of-end.result c.end_of-end.ensures.limit)
