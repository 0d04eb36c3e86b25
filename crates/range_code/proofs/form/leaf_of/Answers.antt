use Rattle.std.proofs.Common.{rules, SFits, to_z-of_z}
use mir.Syntax.{w64}
use Rattle.range_code.proofs.Forms.{leaf_number, leaf_infinity, leaf_min, leaf_max, leaf_val}
use Rattle.range_code.proofs.form.leaf_of.Goals as goal

pub returns-in-Int : goal.returns-in-Int
returns-in-Int c =
    let f : SFits w64 c.in-Int.value = search rules in
    simp to_z-of_z (leaf_number c.args.node c.in-Int.value c.in-Int.is)

pub returns-in-Infinity : goal.returns-in-Infinity
returns-in-Infinity c = leaf_infinity c.args.node c.in-Infinity.is

pub returns-in-Min : goal.returns-in-Min
returns-in-Min c = leaf_min c.args.node c.in-Min.slot c.in-Min.is

pub returns-in-Max : goal.returns-in-Max
returns-in-Max c = leaf_max c.args.node c.in-Max.slot c.in-Max.is

pub returns-in-Val : goal.returns-in-Val
returns-in-Val c = leaf_val c.args.node c.in-Val.slot c.in-Val.is
