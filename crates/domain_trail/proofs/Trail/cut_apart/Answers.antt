use Rattle.std.proofs.Common.{ℕ, List, ap, subst, SFits, to_z-of_z}
use mir.Syntax.{w64, w128}
use Rattle.domain_ranges.specs.Narrowing.{between, IsNarrowed}
use Rattle.domain_ranges.proofs.Lemmas.{wider}
use Rattle.domain_trail.proofs.Cuts.{set_of_cell}
use Rattle.domain_trail.proofs.Trail.cut_apart.Goals as goal

pub take_left-requires-clause-left : goal.take_left-requires-clause-left
take_left-requires-clause-left c =
    let t = c.self.inside in
    let a : SFits w64 c.args.lo = c.ranges.lo in
    let b : SFits w64 c.args.hi = c.ranges.hi in
    let f : SFits w128 c.args.lo = wider c.args.lo a in
    let g : SFits w128 c.args.hi = wider c.args.hi b in
    let n = simp to_z-of_z at c.in_ok-left.ensures.narrowed in
    let is = set_of_cell t.cells.items c.args.self.now c.args.k c.index.result.now (ap (λ s. s.current) c.self.view_is) c.requires.var c.index.ensures in
    (between c.args.lo c.args.hi, subst (λ (l : List ℕ). IsNarrowed l (between c.args.lo c.args.hi) c.in_ok-left.left) is n)

pub returns-clause-cut : goal.returns-clause-cut
returns-clause-cut c =
    let t = c.self.inside in
    let a : SFits w64 c.args.lo = c.ranges.lo in
    let b : SFits w64 c.args.hi = c.ranges.hi in
    let f : SFits w128 c.args.lo = wider c.args.lo a in
    let g : SFits w128 c.args.hi = wider c.args.hi b in
    let n = simp to_z-of_z at c.in_ok-left.ensures.narrowed in
    let is = set_of_cell t.cells.items c.args.self.now c.args.k c.index.result.now (ap (λ s. s.current) c.self.view_is) c.requires.var c.index.ensures in
    c.take_left.ensures.cut (between c.args.lo c.args.hi) (subst (λ (l : List ℕ). IsNarrowed l (between c.args.lo c.args.hi) c.in_ok-left.left) is n)
