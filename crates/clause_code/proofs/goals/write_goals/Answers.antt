use Rattle.std.proofs.Common.{rules, ◌≡◌, ◌+◌, [], List, ap, sym, length, refl, subst, ◌∙◌, arith}
use Rattle.clause_check.specs.declared.program.Part.{Part}
use Rattle.clause_code.specs.declared.open_sides.Side.{Side}
use Rattle.clause_code.specs.Predicates.{base_in}
use Rattle.clause_code.specs.Sides.{Level, Stands, Enters, sides_turns}
use Rattle.clause_code.specs.SimpleGoals.{AreMade, IsWritable}
use Rattle.clause_code.proofs.ProgramFunctors.{is_called}
use Rattle.clause_code.proofs.Sides.{stands_first, stands_last, stands_writable, place_there, left_behind, entered, entered_less, left_less}
use Rattle.clause_code.proofs.goals.write_goals.Goals as goal

pub loop-next-init : goal.loop-next-init
loop-next-init c =
    let p = c.args.program.now in
    let b = base_in p c.args.predicates.now in
    let first : Level = record { before = c.args.code.now.items; part = c.args.part; levels = c.args.levels } in
    record {
      stands = subst (λ (ss : List Side). Stands p b c.args.homes.now first ss c.args.code.now.items c.args.part c.args.levels) (sym c.new-sides.ensures.items)
          (stands_first p c.known.ensures b c.args.homes.now c.args.code.now.items c.args.part c.args.levels c.requires.free c.requires.within
          c.requires.below c.requires.codable c.requires.fits);
      same = refl;
      all = c.requires.made;
      long = c.requires.long;
      works = c.requires.works;
    }

pub write_goal-requires-clause-writable : goal.write_goal-requires-clause-writable
write_goal-requires-clause-writable c =
    let p = c.args.program.now in
    let b = base_in p c.args.predicates.now in
    let first : Level = record { before = c.args.code.now.items; part = c.args.part; levels = c.args.levels } in
    subst (IsWritable p (length c.args.homes.now)) (sym c.goal-goal.ensures.goal)
    (stands_writable p c.known.ensures b c.args.homes.now first c.loop-next.sides.items c.loop-next.code.items c.loop-next.next.part
    c.loop-next.next.levels c.loop-next.invariant.stands c.if-next.true).0

pub write_goal-requires-clause-called : goal.write_goal-requires-clause-called
write_goal-requires-clause-called c =
    let k = c.loop-next.invariant in
    let s = k.stands in
    let within = s.within in
    let low = c.if-next.true in
    is_called c.args.program.now c.args.predicates.now c.requires.predicates c.loop-next.next.part.from c.goal-goal.result (omega (arith, within, low))
    (sym c.goal-goal.ensures.goal)

pub loop-next-preserved-then-next : goal.loop-next-preserved-then-next
loop-next-preserved-then-next c =
    let p = c.args.program.now in
    let first : Level = record { before = c.args.code.now.items; part = c.args.part; levels = c.args.levels } in
    let rest : Part = record { from = c.loop-next.next.part.from + 1; to = c.loop-next.next.part.to } in
    let k = c.loop-next.invariant in
    let w = c.in_ok-write_goal.ensures in
    let at : c.len-at.result ≡ length c.loop-next.code.items = search rules in
    record {
      stands =
          entered p c.known.ensures c.args.predicates.now c.args.homes.now c.requires.homes c.loop-next.made.items k.all k.long first
          c.loop-next.sides.items c.enter.new.sides.items c.loop-next.code.items c.write_goal.new.code.items c.loop-next.next.part rest
          c.in_ok-next.next.part c.loop-next.next.levels c.in_ok-next.next.levels c.goal-goal.result k.stands
          c.if-next.true (sym c.goal-goal.ensures.goal) refl refl w.code
          (subst (λ n. Enters c.goal-goal.result n rest c.loop-next.next.levels c.loop-next.sides.items c.enter.new.sides.items c.in_ok-next.next.part
          c.in_ok-next.next.levels) at c.in_ok-next.ensures);
      same = w.made ∙ k.same;
      all = subst AreMade (sym w.made) k.all;
      long = ap length w.made ∙ k.long;
      works = w.works;
    }

pub loop-next-smaller-then-next : goal.loop-next-smaller-then-next
loop-next-smaller-then-next c =
    let p = c.args.program.now in
    let rest : Part = record { from = c.loop-next.next.part.from + 1; to = c.loop-next.next.part.to } in
    let k = c.loop-next.invariant in
    entered_less p c.known.ensures c.loop-next.next.part rest c.in_ok-next.next.part c.loop-next.next.levels c.in_ok-next.next.levels c.goal-goal.result
    c.len-at.result c.loop-next.sides.items c.enter.new.sides.items c.if-next.true (let s = k.stands in
    s.within) (sym c.goal-goal.ensures.goal) refl refl c.in_ok-next.ensures

pub leave-requires : goal.leave-requires
leave-requires c =
    let p = c.args.program.now in
    let b = base_in p c.args.predicates.now in
    let first : Level = record { before = c.args.code.now.items; part = c.args.part; levels = c.args.levels } in
    let k = c.loop-next.invariant in
    place_there p c.known.ensures b c.args.homes.now first c.pop.new.self.items c.loop-next.code.items c.loop-next.next.part c.loop-next.next.levels c.in-Some.side
    (subst (λ (ss : List Side). Stands p b c.args.homes.now first ss c.loop-next.code.items c.loop-next.next.part c.loop-next.next.levels) c.in-Some.ensures.items k.stands)

pub loop-next-preserved : goal.loop-next-preserved
loop-next-preserved c =
    let p = c.args.program.now in
    let b = base_in p c.args.predicates.now in
    let first : Level = record { before = c.args.code.now.items; part = c.args.part; levels = c.args.levels } in
    let k = c.loop-next.invariant in
    let l = c.if-next.false in
    record {
      stands =
          left_behind p c.known.ensures b c.args.homes.now c.requires.homes first c.pop.new.self.items c.leave.new.sides.items
          c.loop-next.code.items c.leave.new.code.items c.loop-next.next.part c.in_ok-next-2.next.part c.loop-next.next.levels c.in_ok-next-2.next.levels
          c.in-Some.side
          (subst (λ (ss : List Side). Stands p b c.args.homes.now first ss c.loop-next.code.items c.loop-next.next.part c.loop-next.next.levels)
          c.in-Some.ensures.items k.stands) (omega arith) c.in_ok-next-2.ensures;
      same = k.same;
      all = k.all;
      long = k.long;
      works = k.works;
    }

pub loop-next-smaller : goal.loop-next-smaller
loop-next-smaller c =
    let p = c.args.program.now in
    let less = left_less p c.pop.new.self.items c.leave.new.sides.items c.loop-next.code.items c.leave.new.code.items c.loop-next.next.part
    c.in_ok-next-2.next.part c.loop-next.next.levels c.in_ok-next-2.next.levels c.in-Some.side c.in_ok-next-2.ensures in
    let all = ap (sides_turns p) c.in-Some.ensures.items in
    omega (arith, less, all)

pub returns-in_default-clause-code : goal.returns-in_default-clause-code
returns-in_default-clause-code c =
    let p = c.args.program.now in
    let b = base_in p c.args.predicates.now in
    let first : Level = record { before = c.args.code.now.items; part = c.args.part; levels = c.args.levels } in
    let none : c.loop-next.sides.items ≡ [] = search rules in
    stands_last p c.known.ensures b c.args.homes.now first c.loop-next.code.items c.loop-next.next.part c.loop-next.next.levels
    (subst (λ (ss : List Side). Stands p b c.args.homes.now first ss c.loop-next.code.items c.loop-next.next.part c.loop-next.next.levels) none
    c.loop-next.invariant.stands) c.if-next.false
