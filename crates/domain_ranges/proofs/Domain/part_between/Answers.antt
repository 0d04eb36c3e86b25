use Rattle.std.proofs.Common.{rules, ◌≡◌, ◌<ℤ◌, ◌≤ℤ◌, arith, pos, SFits, to_z, of_z, to_z-of_z}
use Rattle.std.proofs.lemmas.Int.{ints}
use Rattle.std.specs.Int.{int_min}
use lib.IntN.{nat_abs}
use mir.Syntax.{w64}
use Rattle.domain_ranges.proofs.Integers.{held_number, wide_number}
use Rattle.domain_ranges.proofs.Parts.{all_between, cut_below, cut_above, none_below, none_above}
use Rattle.domain_ranges.proofs.Domain.part_between.Goals as goal

pub returns-then-lo-high : goal.returns-then-lo-high
returns-then-lo-high c =
    let ends = c.self.inside.ends in
    let a : SFits w64 c.args.lo = c.ranges.lo in
    let b : SFits w64 c.args.hi = c.ranges.hi in
    let q : SFits w64 c.min-high.result = search rules in
    let e = wide_number c.self.inside.ends.0 (search rules) in
    let f = wide_number c.self.inside.ends.1 (search rules) in
    let less : pos ends.0 <ℤ c.args.lo = (let h = simp (to_z-of_z, e) at c.if-lo-least.true in grind (arith, ints, h)) in
    let to : c.min-high.result ≡ int_min c.args.hi (pos ends.1) = simp (to_z-of_z, f) at c.min-high.ensures.value in
    let order : c.args.lo ≤ℤ c.min-high.result = (let h = simp to_z-of_z at c.if-lo-high.true in grind (arith, ints, h)) in
    let low = held_number c.args.lo ends.0 a (omega (arith, ints, less)) in
    let high = held_number c.min-high.result ends.0 q (omega (arith, ints, less, order)) in
    cut_below c.self.inside.list.items c.args.self.now ends c.args.lo c.args.hi c.self.invariant c.self.view_is less c.min-high.result to
    (nat_abs (to_z w64 (of_z w64 c.args.lo))) (nat_abs (to_z w64 (of_z w64 c.min-high.result))) low high (omega (arith, ints, low, high, order)) c.requires

pub returns-else-lo-high : goal.returns-else-lo-high
returns-else-lo-high c =
    let ends = c.self.inside.ends in
    let a : SFits w64 c.args.lo = c.ranges.lo in
    let b : SFits w64 c.args.hi = c.ranges.hi in
    let q : SFits w64 c.min-high.result = search rules in
    let e = wide_number c.self.inside.ends.0 (search rules) in
    let f = wide_number c.self.inside.ends.1 (search rules) in
    let less : pos ends.0 <ℤ c.args.lo = (let h = simp (to_z-of_z, e) at c.if-lo-least.true in grind (arith, ints, h)) in
    let to : c.min-high.result ≡ int_min c.args.hi (pos ends.1) = simp (to_z-of_z, f) at c.min-high.ensures.value in
    let order = simp to_z-of_z at c.if-lo-high.false in
    none_above c.self.inside.list.items c.args.self.now ends c.args.lo c.args.hi c.self.invariant c.self.view_is less c.min-high.result to (grind (arith, ints, order))

pub returns-then-hi-greatest : goal.returns-then-hi-greatest
returns-then-hi-greatest c =
    let a : SFits w64 c.args.lo = c.ranges.lo in
    let b : SFits w64 c.args.hi = c.ranges.hi in
    let e = wide_number c.self.inside.ends.0 (search rules) in
    let f = wide_number c.self.inside.ends.1 (search rules) in
    all_between c.self.inside.list.items c.args.self.now c.self.inside.ends c.args.lo c.args.hi c.self.invariant c.self.view_is
    (let h = simp (to_z-of_z, e) at c.if-lo-least.false in grind (arith, ints, h))
    (let h = simp (to_z-of_z, f) at c.if-hi-greatest.true in grind (arith, ints, h))

pub returns-then-hi-least : goal.returns-then-hi-least
returns-then-hi-least c =
    let ends = c.self.inside.ends in
    let a : SFits w64 c.args.lo = c.ranges.lo in
    let b : SFits w64 c.args.hi = c.ranges.hi in
    let e = wide_number c.self.inside.ends.0 (search rules) in
    let f = wide_number c.self.inside.ends.1 (search rules) in
    let under : c.args.lo ≤ℤ pos ends.0 = (let h = simp (to_z-of_z, e) at c.if-lo-least.false in grind (arith, ints, h)) in
    let over : pos ends.0 ≤ℤ c.args.hi = (let h = simp (to_z-of_z, e) at c.if-hi-least.true in grind (arith, ints, h)) in
    let less : c.args.hi <ℤ pos ends.1 = (let h = simp (to_z-of_z, f) at c.if-hi-greatest.false in grind (arith, ints, h)) in
    cut_above c.self.inside.list.items c.args.self.now ends c.args.lo c.args.hi c.self.invariant c.self.view_is under over less
    (nat_abs (to_z w64 (of_z w64 c.args.hi))) (held_number c.args.hi ends.0 b over) c.requires

pub returns-else-hi-least : goal.returns-else-hi-least
returns-else-hi-least c =
    let a : SFits w64 c.args.lo = c.ranges.lo in
    let b : SFits w64 c.args.hi = c.ranges.hi in
    let e = wide_number c.self.inside.ends.0 (search rules) in
    none_below c.self.inside.list.items c.args.self.now c.self.inside.ends c.args.lo c.args.hi c.self.invariant c.self.view_is
    (let h = simp (to_z-of_z, e) at c.if-lo-least.false in grind (arith, ints, h))
    (let h = simp (to_z-of_z, e) at c.if-hi-least.false in grind (arith, ints, h))
