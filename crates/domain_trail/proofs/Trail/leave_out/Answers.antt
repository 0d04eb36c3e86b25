use mir.Syntax.{w64}
use Rattle.std.proofs.Common.{rules, Fits, ◌<◌, ℕ, List, pos, filter, length, set, refl, ap, sym, ◌∙◌, arith}
use Rattle.fd_language.specs.Family.{has}
use Rattle.fd_language.specs.Range.{is_none_left}
use Rattle.domain_ranges.specs.Narrowing.{all_but}
use Rattle.domain_trail.specs.Trails.{MayChange}
use Rattle.domain_trail.proofs.Steps.{written, same_length, old_set}
use Rattle.domain_trail.proofs.Cuts.{set_of_cell, set_in_place}
use Rattle.domain_trail.proofs.Trail.leave_out.Goals as goal

pub invariant_of-self-then-self-old : goal.invariant_of-self-then-self-old
invariant_of-self-then-self-old c =
    let t = c.self.inside in
    let within : c.args.k < length t.cells.items = omega (arith, same_length t.cells.items c.args.self.now.current (ap (λ s. s.current) c.self.view_is), c.requires.var) in
    let fits : Fits w64 c.index.result.now.stamp = search rules in
    let may : MayChange t.marks.items c.index.result.now.stamp t.stamp = c.self.invariant.2 c.index.result.now.stamp c.if-self-old.true (omega (arith, fits.fits)) in (
      (written t.marks.items t.saved.items t.cells.items t.stamp c.args.k c.index.result.now c.leave_out.new.self within c.index.ensures may c.self.invariant.0).trail,
      old_set t.last t.marks.items t.saved.items t.cells.items t.stamp c.args.k c.leave_out.new.self (ap (λ x. x.stamp) c.in_ok-leave_out.ensures.left) c.self.invariant.1,
      c.self.invariant.2,
    )

pub returns-then-self-old-clause-without :
    goal.returns-then-self-old-clause-without
returns-then-self-old-clause-without c =
    let t = c.self.inside in
    let within : c.args.k < length t.cells.items = omega (arith, same_length t.cells.items c.args.self.now.current (ap (λ s. s.current) c.self.view_is), c.requires.var) in
    let fits : Fits w64 c.index.result.now.stamp = search rules in
    let may : MayChange t.marks.items c.index.result.now.stamp t.stamp = c.self.invariant.2 c.index.result.now.stamp c.if-self-old.true (omega (arith, fits.fits)) in
    let is = set_of_cell t.cells.items c.args.self.now c.args.k c.index_mut.result.now (ap (λ s. s.current) c.self.view_is) c.requires.var c.index_mut.ensures.value in
    let left = ap (λ x. x.domain) c.in_ok-leave_out.ensures.left ∙ ap (filter (has (all_but (pos c.args.n)))) is in (
      set_in_place t.marks.items t.saved.items t.cells.items (set t.cells.items c.args.k c.leave_out.new.self) t.stamp c.args.k c.index.result.now
          c.leave_out.new.self c.args.self.now c.self.view_is within c.index.ensures may c.self.invariant.0 refl
          ∙ ap (λ (l : List ℕ). record c.args.self.now { current = set c.args.self.now.current c.args.k l }) left,
      ap is_none_left (sym left) ∙ c.in_ok-leave_out.ensures.some,
    )
