use Rattle.std.proofs.Common.{◌≡◌, ℕ, List, [], filter, refl, ap, ◌∙◌, subst, SFits, to_z-of_z}
use mir.Syntax.{w64}
use Rattle.fd_language.specs.Family.{has, IsSubset}
use Rattle.fd_language.specs.Range.{is_none_left}
use Rattle.domain_ranges.specs.Narrowing.{all_but, AreEnds}
use Rattle.domain_ranges.proofs.Lemmas.{keeps_all, none_but}
use Rattle.domain_trail.proofs.Cuts.{set_of_cell, set_there, number_cut}
use Rattle.domain_trail.proofs.Trail.cut_out.Goals as goal

pub ends-after-requires : goal.ends-after-requires
ends-after-requires c =
    let there = set_there c.args.self.now c.leave_out.new.self c.args.k _ c.in_ok-leave_out-in-Among.ensures.without.0 c.requires.var in
    let now = set_of_cell c.self-in-Among.inside.cells.items c.leave_out.new.self c.args.k c.index-in-Among.result.now (ap (λ s. s.current) c.self-in-Among.view_is) there.0 c.index-in-Among.ensures in
    ap is_none_left (now ∙ there.1) ∙ c.in_ok-leave_out-in-Among.ensures.without.1

pub returns-in-Outside-clause-cut : goal.returns-in-Outside-clause-cut
returns-in-Outside-clause-cut c =
    let a : SFits w64 c.args.number = c.ranges.number in
    let is = set_of_cell c.self.inside.cells.items c.args.self.now c.args.k c.index.result.now (ap (λ s. s.current) c.self.view_is) c.requires.var c.index.ensures in
    let m = simp to_z-of_z at c.in-Outside.ensures.membership in
    (refl, subst (λ (l : List ℕ). IsSubset l (all_but c.args.number)) is (keeps_all c.index.result.now.domain c.args.number c.in-Outside.ensures.rising m))

pub returns-in-Alone-clause-cut : goal.returns-in-Alone-clause-cut
returns-in-Alone-clause-cut c =
    let a : SFits w64 c.args.number = c.ranges.number in
    let is = set_of_cell c.self.inside.cells.items c.args.self.now c.args.k c.index.result.now (ap (λ s. s.current) c.self.view_is) c.requires.var c.index.ensures in
    let m = simp to_z-of_z at c.in-Alone.ensures.membership in
    (refl, subst (λ (l : List ℕ). filter (has (all_but c.args.number)) l ≡ []) is (none_but c.index.result.now.domain c.args.number m.0 m.1 m.2))

pub returns-in_ok-leave_out-in-Among-clause-cut : goal.returns-in_ok-leave_out-in-Among-clause-cut
returns-in_ok-leave_out-in-Among-clause-cut c =
    let a : SFits w64 c.args.number = c.ranges.number in
    let is = set_of_cell c.self.inside.cells.items c.args.self.now c.args.k c.index.result.now (ap (λ s. s.current) c.self.view_is) c.requires.var c.index.ensures in
    let there = set_there c.args.self.now c.leave_out.new.self c.args.k _ c.in_ok-leave_out-in-Among.ensures.without.0 c.requires.var in
    let now = set_of_cell c.self-in-Among.inside.cells.items c.leave_out.new.self c.args.k c.index-in-Among.result.now (ap (λ s. s.current) c.self-in-Among.view_is) there.0 c.index-in-Among.ensures in
    let m = simp to_z-of_z at c.in-Among.ensures.membership in
    number_cut c.index.result.now.domain c.args.number c.args.k c.in-Among.n c.args.self.now c.leave_out.new.self c.ends-before.result c.ends-after.result is m
    c.in-Among.ensures.rising c.in_ok-leave_out-in-Among.ensures.without.0
    (subst (AreEnds c.ends-before.result) is c.ends-before.ensures)
    (subst (AreEnds c.ends-after.result) (now ∙ there.1) c.ends-after.ensures)
