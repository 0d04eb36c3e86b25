use Rattle.std.proofs.Common.{[], ◌∷◌, ◌++◌, ◌+◌, ◌-◌, true, ap, sym, subst, length, ◌∙◌, append_assoc, arith}
use Rattle.term_pool.specs.Contents.{Contents}
use Rattle.term_pool.specs.Terms.{term_of}
use Rattle.clause_check.specs.Programs.{clause_at, clause_in, goals_in}
use Rattle.wam_code.specs.declared.instruction.Code.TheVariants.{Deallocate, Proceed}
use Rattle.clause_code.specs.Bodies.{Levels, IsGoalsCode}
use Rattle.clause_code.specs.LevelSlots.{each_need}
use Rattle.clause_code.specs.Predicates.{Appends, IsCallOfOne, base_in}
use Rattle.clause_code.specs.SimpleGoals.{AreMade, IsOwn}
use Rattle.clause_code.specs.ClauseParts.{Executes}
use Rattle.clause_code.proofs.FramedClauses.{known_of, body_known, head_own, head_begun, body_fits, before_fits, body_free, before_last, in_order_slots}
use Rattle.clause_code.proofs.FramedClauses.{clause_proceeds, clause_executes}
use Rattle.clause_code.proofs.ProgramFunctors.{call_of_one}
use Rattle.clause_code.proofs.clause.write_clause.Goals as goal

pub write_head-requires-clause-own : goal.write_head-requires-clause-own
write_head-requires-clause-own c = head_own c.args.program.now c.known.ensures c.args.homes.now c.args.c c.requires.clause c.requires.homes
    c.pool-pool.result.now c.head.result c.pool-pool.ensures c.head.ensures.head c.head.ensures.own

pub write_goals-requires-clause-below : goal.write_goals-requires-clause-below
write_goals-requires-clause-below c =
    let k = body_known c.args.program.now c.known.ensures c.args.homes.now c.args.c c.requires.clause c.requires.homes c.body-body.result c.body-body.ensures.body in
    let w = c.body-body.ensures.within in
    (before_last c.args.program.now c.known.ensures (length c.args.homes.now) c.body-body.result.from c.body-body.result.to c.in-Some.t c.in-Some.ensures.some
    w.within c.in-Some.ensures.call k.0 k.1).below

pub write_goals-requires-clause-codable : goal.write_goals-requires-clause-codable
write_goals-requires-clause-codable c =
    let k = body_known c.args.program.now c.known.ensures c.args.homes.now c.args.c c.requires.clause c.requires.homes c.body-body.result c.body-body.ensures.body in
    let w = c.body-body.ensures.within in
    (before_last c.args.program.now c.known.ensures (length c.args.homes.now) c.body-body.result.from c.body-body.result.to c.in-Some.t c.in-Some.ensures.some
    w.within c.in-Some.ensures.call k.0 k.1).codable

pub write_goals-requires-clause-fits : goal.write_goals-requires-clause-fits
write_goals-requires-clause-fits c =
    let p = c.args.program.now in
    let w = c.body-body.ensures.within in
    before_fits p c.known.ensures c.args.levels c.body-body.result.from c.body-body.result.to c.in-Some.ensures.some w.within
    (body_fits p c.args.c c.args.levels c.requires.levels c.body-body.result c.body-body.ensures.body)

pub write_goals-requires-clause-free : goal.write_goals-requires-clause-free
write_goals-requires-clause-free c =
    let p = c.args.program.now in
    body_free p c.args.homes.now c.args.c (each_need (clause_in p (clause_at p c.args.c)).body) c.args.levels c.requires.homes c.requires.levels

pub write_goals-requires-clause-homes : goal.write_goals-requires-clause-homes
write_goals-requires-clause-homes c = in_order_slots c.args.homes.now _ c.requires.homes

pub execute-requires-clause-own : goal.execute-requires-clause-own
execute-requires-clause-own c =
    let k = body_known c.args.program.now c.known.ensures c.args.homes.now c.args.c c.requires.clause c.requires.homes c.body-body.result c.body-body.ensures.body in
    let w = c.body-body.ensures.within in
    let o = (before_last c.args.program.now c.known.ensures (length c.args.homes.now) c.body-body.result.from c.body-body.result.to c.in-Some.t
    c.in-Some.ensures.some w.within c.in-Some.ensures.call k.0 k.1).own in
    subst (λ (q : Contents). IsOwn q (length c.args.homes.now) c.in-Some.t) (sym c.pool-pool.ensures) o

pub execute-requires-clause-one : goal.execute-requires-clause-one
execute-requires-clause-one c =
    let ps = c.args.predicates.now in
    let t = c.in-Some.t in
    let last = c.in-Some.ensures.some in
    let part = c.body-body.ensures.within in
    let within = part.within in
    subst (λ (q : Contents). IsCallOfOne q ps (term_of q t)) (sym c.pool-pool.ensures)
    (call_of_one c.args.program.now ps c.requires.predicates (c.body-body.result.to - 1) t (omega (arith, last, within)) c.in-Some.ensures.call)

pub write_goals-requires-in-None-clause-below : goal.write_goals-requires-in-None-clause-below
write_goals-requires-in-None-clause-below c = (body_known c.args.program.now c.known.ensures c.args.homes.now c.args.c c.requires.clause c.requires.homes c.body-body.result c.body-body.ensures.body).0

pub write_goals-requires-in-None-clause-codable : goal.write_goals-requires-in-None-clause-codable
write_goals-requires-in-None-clause-codable c = (body_known c.args.program.now c.known.ensures c.args.homes.now c.args.c c.requires.clause c.requires.homes
    c.body-body.result c.body-body.ensures.body).1

pub write_goals-requires-in-None-clause-fits : goal.write_goals-requires-in-None-clause-fits
write_goals-requires-in-None-clause-fits c = body_fits c.args.program.now c.args.c c.args.levels c.requires.levels c.body-body.result c.body-body.ensures.body

pub write_goals-requires-in-None-clause-free : goal.write_goals-requires-in-None-clause-free
write_goals-requires-in-None-clause-free c =
    let p = c.args.program.now in
    body_free p c.args.homes.now c.args.c (each_need (clause_in p (clause_at p c.args.c)).body) c.args.levels c.requires.homes c.requires.levels

pub write_goals-requires-in-None-clause-homes : goal.write_goals-requires-in-None-clause-homes
write_goals-requires-in-None-clause-homes c = in_order_slots c.args.homes.now _ c.requires.homes

pub returns-in_ok-execute-in-Some : goal.returns-in_ok-execute-in-Some
returns-in_ok-execute-in-Some c =
    let p = c.args.program.now in
    let k = body_known p c.known.ensures c.args.homes.now c.args.c c.requires.clause c.requires.homes c.body-body.result c.body-body.ensures.body in
    let w = c.body-body.ensures.within in
    let o = (before_last p c.known.ensures (length c.args.homes.now) c.body-body.result.from c.body-body.result.to c.in-Some.t c.in-Some.ensures.some w.within c.in-Some.ensures.call k.0 k.1).own in
    let h = c.in_ok-write_head.ensures in
    let g = c.in_ok-write_goals-in-Some.ensures in
    let n = each_need (clause_in p (clause_at p c.args.c)).body in
    let head = c.write_head.new.code.items in
    let goals = c.write_goals.new.code.items in
    clause_executes p c.args.predicates.now c.args.homes.now n c.args.c c.requires.homes (known_of p c.known.ensures c.args.c c.requires.clause)
    c.args.code.now.items c.write_head.new.code.items c.write_goals.new.code.items c.execute.new.code.items
    c.body-body.result.from c.body-body.result.to c.in-Some.t c.write_goals.new.made.items c.known.ensures c.in-Some.ensures.some w.within c.in-Some.ensures.call o.1
    (subst AreMade (sym g.made) h.made) (ap length g.made ∙ h.long) (ap (goals_in p) c.body-body.ensures.body)
    (head_begun p c.args.homes.now c.args.c n c.args.slots c.args.levels c.requires.slots c.requires.levels c.pool-pool.result.now c.head.result
    c.pool-pool.ensures c.head.ensures.head c.args.code.now.items head h.code)
    (subst (λ (l : Levels). Appends head goals (λ js. IsGoalsCode (base_in p c.args.predicates.now) c.args.homes.now true l (length head) js
    (goals_in p (record { from = c.body-body.result.from; to = c.body-body.result.to - 1 })))) c.requires.levels g.code)
    (subst (λ (q : Contents). Executes q c.args.predicates.now c.args.homes.now c.write_goals.new.made.items c.in-Some.t c.write_goals.new.code.items
    c.execute.new.code.items) c.pool-pool.ensures c.in_ok-execute-in-Some.ensures)

pub returns-in_ok-push-in-None-2 : goal.returns-in_ok-push-in-None-2
returns-in_ok-push-in-None-2 c =
    let p = c.args.program.now in
    let h = c.in_ok-write_head.ensures in
    let g = c.in_ok-write_goals-in-None.ensures in
    let goals = c.write_goals-in-None.new.code.items in
    let n = each_need (clause_in p (clause_at p c.args.c)).body in
    let head = c.write_head.new.code.items in
    clause_proceeds p c.args.predicates.now c.args.homes.now n c.args.c c.requires.homes (known_of p c.known.ensures c.args.c c.requires.clause)
    c.args.code.now.items c.write_head.new.code.items goals c.push-in-None.new.self.items
    c.body-body.result.from c.body-body.result.to (ap (goals_in p) c.body-body.ensures.body)
    (head_begun p c.args.homes.now c.args.c n c.args.slots c.args.levels c.requires.slots c.requires.levels c.pool-pool.result.now c.head.result
    c.pool-pool.ensures c.head.ensures.head c.args.code.now.items head h.code)
    (subst (λ (l : Levels). Appends head goals (λ js. IsGoalsCode (base_in p c.args.predicates.now) c.args.homes.now true l (length head) js
    (goals_in p c.body-body.result))) c.requires.levels g.code)
    (c.in_ok-push-in-None-2.ensures.items ∙ ap (λ l. l ++ (Proceed ∷ [])) c.in_ok-push-in-None.ensures.items ∙ append_assoc goals (Deallocate ∷ []) (Proceed ∷ []))
