use Rattle.std.proofs.Common.{◌<◌, List, ◌∷◌, length, drop, sym, subst}
use Rattle.branch_state.specs.States as branch
use Rattle.code_areas.specs.Areas.{Point}
use Rattle.code_safety.specs.Choices.{point_of}
use Rattle.branch_state.specs.States.{IsSound, with_pair}
use Rattle.code_safety.specs.Safety.{IsSafe}
use Rattle.code_control.specs.RetriedChoices.{KeepsPoint, IsBackAt}
use Rattle.code_control.specs.ClauseSelection.{IsTried}
use Rattle.code_control.specs.declared.clause_selection.Tried.TheVariants.{Both, Last}
use Rattle.code_control.proofs.RetriedChoices.{point_within, other_again, last_again, other_safe, both_again, restored_whole, restored_gone}
use Rattle.code_control.proofs.Threads.{can_undo}
use Rattle.code_control.proofs.retries.try_again.Goals as goal

pub tried_at-requires : goal.tried_at-requires
tried_at-requires g c = point_within c.args.code.now c.args.branch.now c.args.areas.now c.requires.safe c.requires.some c.point_place.result c.point_place.ensures

pub undo_again-requires : goal.undo_again-requires
undo_again-requires g c = record { sound = c.requires.safe.sound; marked = can_undo c.args.code.now c.args.branch.now c.args.areas.now c.requires.safe c.requires.some }

pub keep_point-requires : goal.keep_point-requires
keep_point-requires g c =
    let u = c.undo_again.ensures in
    let r = c.restore_point.ensures in
    let n = c.restore_point.new.self in
    let gone : IsBackAt c.args.code.now c.args.branch.now c.args.areas.now u.back c.restore_point.result (record n { points = drop 1 n.points }) = restored_gone
    c.args.code.now c.args.branch.now c.args.areas.now c.requires.safe u.back u.undone u.sound n c.restore_point.result r.back r.same in
    let is = subst (λ k. IsTried c.args.code.now k (Both c.in-Both.to c.in-Both.other)) (c.point_place.ensures _ _ gone.points) c.in-Both.ensures in
    record {
      safe = subst (λ (b : branch.State). IsSafe c.args.code.now b c.in-Both.other 0 n) (sym u.pair)
          (subst (λ a. IsSafe c.args.code.now (with_pair u.back) c.in-Both.other 0 a)
          (sym (restored_whole c.args.code.now c.args.branch.now c.args.areas.now c.requires.safe u.back u.undone u.sound n c.restore_point.result
          r.back r.same))
          (other_safe c.args.code.now c.args.branch.now c.args.areas.now u.back c.restore_point.result (record n { points = drop 1 n.points }) gone c.in-Both.to
          c.in-Both.other is (subst IsSound u.pair u.kept)));
      some = subst (λ (ps : List Point). 0 < length ps) (sym r.same) c.requires.some;
    }

pub returns-in-Both : goal.returns-in-Both
returns-in-Both g c =
    let u = c.undo_again.ensures in
    let r = c.restore_point.ensures in
    let n = c.restore_point.new.self in
    let gone : IsBackAt c.args.code.now c.args.branch.now c.args.areas.now u.back c.restore_point.result (record n { points = drop 1 n.points }) = restored_gone
    c.args.code.now c.args.branch.now c.args.areas.now c.requires.safe u.back u.undone u.sound n c.restore_point.result r.back r.same in
    let is = subst (λ k. IsTried c.args.code.now k (Both c.in-Both.to c.in-Both.other)) (c.point_place.ensures _ _ gone.points) c.in-Both.ensures in
    both_again c.args.code.now c.args.branch.now c.args.areas.now u.back c.restore_point.result (record n { points = drop 1 n.points }) gone c.in-Both.to
    c.in-Both.other is (subst IsSound u.pair u.kept) c.keep_point.new.branch c.keep_point.new.areas
    (subst (λ (b : branch.State). KeepsPoint c.args.code.now b c.in-Both.other (record n { points = point_of n c.restore_point.result ∷ drop 1 n.points })
    c.keep_point.new.branch c.keep_point.new.areas) u.pair
    (subst (λ a. KeepsPoint c.args.code.now c.undo_again.new.branch c.in-Both.other a c.keep_point.new.branch c.keep_point.new.areas)
    (restored_whole c.args.code.now c.args.branch.now c.args.areas.now c.requires.safe u.back u.undone u.sound n c.restore_point.result r.back r.same)
    c.keep_point.ensures))

pub returns-in-Last : goal.returns-in-Last
returns-in-Last g c =
    let e = c.go_back.ensures in
    let n = c.go_back.new in
    let gone : IsBackAt c.args.code.now c.args.branch.now c.args.areas.now n.branch c.go_back.result n.areas = record { safe = e.safe; runs = e.runs; branch = e.branch; points = e.points } in
    last_again c.args.code.now c.args.branch.now c.args.areas.now n.branch c.go_back.result n.areas gone c.in-Last.to
    (subst (λ k. IsTried c.args.code.now k (Last c.in-Last.to)) (c.point_place.ensures _ _ e.points) c.in-Last.ensures)

pub returns-in-Other : goal.returns-in-Other
returns-in-Other g c =
    let e = c.go_back-in-Other.ensures in
    let n = c.go_back-in-Other.new in
    let gone : IsBackAt c.args.code.now c.args.branch.now c.args.areas.now n.branch c.go_back-in-Other.result n.areas = record { safe = e.safe; runs = e.runs; branch = e.branch; points = e.points } in
    other_again c.args.code.now c.args.branch.now c.args.areas.now n.branch c.go_back-in-Other.result n.areas gone
