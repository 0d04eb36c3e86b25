use Rattle.std.proofs.Common.{rules, Fits, ◌≡◌, ◌<◌, ℕ, List, [], ◌∷◌, filter, length, reverse, refl, ap, sym, ◌∙◌, subst, arith, SFits, to_z-of_z}
use Rattle.std.specs.Prelude.{slice_set}
use Rattle.domain_ranges.specs.Spans.{members}
use Rattle.domain_trail.specs.declared.Cell.{Cell}
use Rattle.domain_trail.specs.Trails.{IsTrail, MayChange, AreOld}
use Rattle.domain_trail.proofs.Steps.{written, same_length, old_set}
use mir.Syntax.{w64}
use Rattle.fd_language.specs.Family.{has, IsSubset}
use Rattle.domain_ranges.specs.Narrowing.{between, AreEnds}
use Rattle.domain_trail.proofs.Cuts.{set_of_cell, interval_cut, set_in_place}
use Rattle.domain_trail.proofs.Trail.cut.Goals as goal

pub invariant_of-self : goal.invariant_of-self
invariant_of-self c =
    let t = c.self.inside in
    let cell : Cell = record { domain = members ((c.in-Within.low, c.in-Within.high) ∷ []); stamp = t.stamp } in
    let within : c.args.k < length t.cells.items = omega (arith, same_length t.cells.items c.args.self.now.current (ap (λ s. s.current) c.self.view_is), c.requires.var) in
    let fits : Fits w64 c.index-cell.result.now.stamp = search rules in
    let may : MayChange t.marks.items c.index-cell.result.now.stamp t.stamp = c.self.invariant.2 c.index-cell.result.now.stamp c.if-self-cell.true (omega (arith, fits.fits)) in (
      subst (λ (q : List Cell). IsTrail (reverse t.marks.items) t.saved.items q t.stamp) (sym c.set_interval.ensures)
          (written t.marks.items t.saved.items t.cells.items t.stamp c.args.k c.index-cell.result.now cell within c.index-cell.ensures may
          c.self.invariant.0).trail,
      subst (λ (q : List Cell). AreOld t.last t.marks.items t.saved.items q t.stamp) (sym c.set_interval.ensures)
          (old_set t.last t.marks.items t.saved.items t.cells.items t.stamp c.args.k cell refl c.self.invariant.1),
      c.self.invariant.2,
    )

pub returns-then-self-cell-clause-cut : goal.returns-then-self-cell-clause-cut
returns-then-self-cell-clause-cut c =
    let t = c.self.inside in
    let a : SFits w64 c.args.lo = c.ranges.lo in
    let b : SFits w64 c.args.hi = c.ranges.hi in
    let cell : Cell = record { domain = members ((c.in-Within.low, c.in-Within.high) ∷ []); stamp = t.stamp } in
    let within : c.args.k < length t.cells.items = omega (arith, same_length t.cells.items c.args.self.now.current (ap (λ s. s.current) c.self.view_is), c.requires.var) in
    let fits : Fits w64 c.index-cell.result.now.stamp = search rules in
    let may : MayChange t.marks.items c.index-cell.result.now.stamp t.stamp = c.self.invariant.2 c.index-cell.result.now.stamp c.if-self-cell.true (omega (arith, fits.fits)) in
    let p = simp to_z-of_z at c.in-Within.ensures in
    let is = set_of_cell t.cells.items c.args.self.now c.args.k c.index-cell.result.now (ap (λ s. s.current) c.self.view_is) c.requires.var c.index-cell.ensures in
    interval_cut (between c.args.lo c.args.hi) c.index-cell.result.now.domain c.args.k c.args.self.now _ c.in-Within.low c.in-Within.high c.ends-before.result is p
    (c.is_interval.ensures.0 c.if-not-is_interval.false)
    (set_in_place t.marks.items t.saved.items t.cells.items c.set_interval.new.cells.items t.stamp c.args.k c.index-cell.result.now cell c.args.self.now
    c.self.view_is within c.index-cell.ensures may c.self.invariant.0 c.set_interval.ensures)
    (subst (AreEnds c.ends-before.result) is c.ends-before.ensures)

pub returns-in_ok-save_and_narrow-in-Within-clause-cut : goal.returns-in_ok-save_and_narrow-in-Within-clause-cut
returns-in_ok-save_and_narrow-in-Within-clause-cut c =
    let t = c.self.inside in
    let a : SFits w64 c.args.lo = c.ranges.lo in
    let b : SFits w64 c.args.hi = c.ranges.hi in
    let p = simp to_z-of_z at c.in-Within.ensures in
    let is = set_of_cell t.cells.items c.args.self.now c.args.k c.index-cell.result.now (ap (λ s. s.current) c.self.view_is) c.requires.var c.index-cell.ensures in
    interval_cut (between c.args.lo c.args.hi) c.index-cell.result.now.domain c.args.k c.args.self.now _ c.in-Within.low c.in-Within.high c.ends-before.result is p
    (c.is_interval.ensures.0 c.if-not-is_interval.false)
    (c.in_ok-save_and_narrow-in-Within.ensures.changed ∙ ap (λ l. record c.args.self.now { current = slice_set c.args.self.now.current c.args.k l }) c.of_span.ensures)
    (subst (AreEnds c.ends-before.result) is c.ends-before.ensures)

pub returns-in-All-clause-cut : goal.returns-in-All-clause-cut
returns-in-All-clause-cut c =
    let t = c.self.inside in
    let a : SFits w64 c.args.lo = c.ranges.lo in
    let b : SFits w64 c.args.hi = c.ranges.hi in
    let p = simp to_z-of_z at c.in-All.ensures in
    let is = set_of_cell t.cells.items c.args.self.now c.args.k c.index-cell.result.now (ap (λ s. s.current) c.self.view_is) c.requires.var c.index-cell.ensures in
    (refl, subst (λ (l : List ℕ). IsSubset l (between c.args.lo c.args.hi)) is p)

pub returns-in-Nothing-clause-cut : goal.returns-in-Nothing-clause-cut
returns-in-Nothing-clause-cut c =
    let t = c.self.inside in
    let a : SFits w64 c.args.lo = c.ranges.lo in
    let b : SFits w64 c.args.hi = c.ranges.hi in
    let p = simp to_z-of_z at c.in-Nothing.ensures in
    let is = set_of_cell t.cells.items c.args.self.now c.args.k c.index-cell.result.now (ap (λ s. s.current) c.self.view_is) c.requires.var c.index-cell.ensures in
    (refl, subst (λ (l : List ℕ). filter (has (between c.args.lo c.args.hi)) l ≡ []) is p)

pub returns-then-not-is_interval-clause-cut : goal.returns-then-not-is_interval-clause-cut
returns-then-not-is_interval-clause-cut c =
    let a : SFits w64 c.args.lo = c.ranges.lo in
    let b : SFits w64 c.args.hi = c.ranges.hi in
    simp to_z-of_z at c.cut_apart.ensures.cut
