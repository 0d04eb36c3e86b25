use Rattle.std.proofs.Common.{◌+◌, ◌++◌, [], ◌∷◌, true, ap, sym, subst, length, ◌∙◌, append_assoc}
use Rattle.wam_code.specs.declared.instruction.Code.TheVariants.{Allocate}
use Rattle.fd_language.specs.Term.{no_terms}
use Rattle.fd_model.specs.RunnablePrograms.{EachBelow}
use Rattle.term_pool.specs.Contents.{Contents}
use Rattle.clause_check.specs.declared.program.Part.{Part}
use Rattle.clause_check.specs.Programs.{goals_in, query_at, query_in}
use Rattle.clause_code.specs.Bodies.{Levels, AreFree, IsGoalsCode}
use Rattle.clause_code.specs.CodablePrograms.{EachCodable}
use Rattle.clause_code.specs.LevelSlots.{EachFits, each_need}
use Rattle.clause_code.specs.Predicates.{Appends, base_in}
use Rattle.clause_code.specs.ClauseParts.{head_code, levels_behind, levels_code}
use Rattle.clause_code.proofs.QueryCode.{query_known, frame_slots, frame_free, query_written}
use Rattle.clause_code.proofs.LevelSlots.{behind_fits}
use Rattle.clause_code.proofs.query.write_query.Goals as goal

pub write_goals-requires-clause-below : goal.write_goals-requires-clause-below
write_goals-requires-clause-below c =
    let p = c.args.program.now in
    let k = query_known p c.known.ensures c.args.q c.requires.query in
    subst (λ (a : Part). EachBelow (length c.args.frame.homes.now) (goals_in p a)) (sym c.goals_of-goals.ensures.goals)
    (subst (λ v. EachBelow v (goals_in p (query_at p c.args.q).goals)) (sym c.requires.frame.long) k.below)

pub write_goals-requires-clause-codable : goal.write_goals-requires-clause-codable
write_goals-requires-clause-codable c =
    let p = c.args.program.now in
    let k = query_known p c.known.ensures c.args.q c.requires.query in
    subst (λ (a : Part). EachCodable (goals_in p a)) (sym c.goals_of-goals.ensures.goals) k.codable

pub write_goals-requires-clause-homes : goal.write_goals-requires-clause-homes
write_goals-requires-clause-homes c = let q = query_at c.args.program.now c.args.q in frame_slots q.variables q.shown c.args.frame.homes.now c.args.frame.slots c.requires.frame

pub write_goals-requires-clause-fits : goal.write_goals-requires-clause-fits
write_goals-requires-clause-fits c =
    let p = c.args.program.now in
    let slots = c.args.frame.slots in
    let gs = (query_in p (query_at p c.args.q)).goals in
    subst (λ (a : Part). EachFits c.in_ok-levels.levels (goals_in p a)) (sym c.goals_of-goals.ensures.goals)
    (subst (λ (l : Levels). EachFits l gs) (sym (c.in_ok-levels.ensures ∙ ap (levels_behind slots) c.requires.levels)) (behind_fits slots gs))

pub write_goals-requires-clause-free : goal.write_goals-requires-clause-free
write_goals-requires-clause-free c =
    let q = query_at c.args.program.now c.args.q in
    let slots = c.args.frame.slots in
    subst (AreFree c.args.frame.homes.now) (sym c.in_ok-levels.ensures) (frame_free q.variables q.shown c.args.frame.homes.now slots c.args.frame.levels c.requires.frame)

pub returns : goal.returns
returns c =
    let p = c.args.program.now in
    let ps = c.args.predicates.now in
    let homes = c.args.frame.homes.now in
    let slots = c.args.frame.slots in
    let n = each_need (query_in p (query_at p c.args.q)).goals in
    let levels = c.in_ok-levels.levels in
    let behind = c.in_ok-levels.ensures ∙ ap (levels_behind slots) c.requires.levels in
    let one = c.push.new.self.items in
    let head = c.write_levels.new.code.items in
    let goals = c.write_goals.new.code.items in
    let h = c.in_ok-read_arguments.ensures in
    let g = c.in_ok-write_goals.ensures in
    query_written p ps homes slots n c.args.q c.args.code.now.items one head goals c.push-2.new.self.items c.requires.frame
    (query_known p c.known.ensures c.args.q c.requires.query)
    (c.in_ok-push.ensures.items ∙ ap (λ k. c.args.code.now.items ++ (Allocate k ∷ [])) (c.in_ok-slots.ensures ∙ ap (λ k. slots + k) c.requires.levels))
    (c.in_ok-write_levels.ensures
    ∙ ap (λ is. is ++ levels_code levels) (h.code ∙ ap (λ (q : Contents). one ++ head_code q homes 1 no_terms) c.pool-pool.ensures)
    ∙ append_assoc one (head_code p.pool homes 1 no_terms) (levels_code levels)
    ∙ ap (λ (l : Levels). one ++ (head_code p.pool homes 1 no_terms ++ levels_code l)) behind)
    (subst (λ (l : Levels). Appends head goals (λ js. IsGoalsCode (base_in p ps) homes true l (length head) js (query_in p (query_at p c.args.q)).goals)) behind
    (subst (λ (gs : Part). Appends head goals (λ js. IsGoalsCode (base_in p ps) homes true levels (length head) js (goals_in p gs))) c.goals_of-goals.ensures.goals g.code))
    c.in_ok-push-2.ensures.items
