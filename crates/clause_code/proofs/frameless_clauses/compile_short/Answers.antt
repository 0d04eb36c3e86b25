use Rattle.std.proofs.Common.{◌≡◌, ◌≤◌, ◌<◌, ◌∙◌, IfSome, ap, length, sym, subst, arith}
use Rattle.fd_model.specs.ConstraintExpansion.{arguments}
use Rattle.term_pool.specs.declared.TermId.{TermId}
use Rattle.term_pool.specs.Contents.{Contents}
use Rattle.term_pool.specs.Terms.{term_of, terms_by}
use Rattle.clause_check.specs.Programs.{clause_at}
use Rattle.fd_language.specs.Term.{term_count}
use Rattle.clause_code.specs.FramelessClauses.{last_arguments, IsShort}
use Rattle.clause_code.specs.Predicates.{IsCallOfOne}
use Rattle.clause_code.specs.SimpleGoals.{IsOwn}
use Rattle.clause_code.specs.ArgumentHomes.{AreHomes}
use Rattle.clause_code.specs.Steps.{AllSuit}
use Rattle.clause_code.proofs.Rests.{count_terms}
use Rattle.clause_code.proofs.FramelessClauses.{short_housed, head_here, goals_here, goals_called, goal_suits, goal_fewer, few_arguments, short_written}
use Rattle.clause_code.proofs.SimpleGoals.{arguments_suit}
use Rattle.clause_code.proofs.frameless_clauses.compile_short.Goals as goal

pub find_homes-requires-clause-head_suits : goal.find_homes-requires-clause-head_suits
find_homes-requires-clause-head_suits c =
    let q = c.pool-pool.result.now in
    let n = c.variables_of_clause-variables.result in
    let own = head_here c.args.program.now c.known.ensures c.args.c c.requires.clause q c.pool-pool.ensures n c.variables_of_clause-variables.ensures c.head-head.result c.head-head.ensures.head in
    subst (AllSuit q n) (sym c.arguments_of-given.ensures.terms) (arguments_suit q n (term_of q c.head-head.result) own.1)

pub find_homes-requires-clause-head_few : goal.find_homes-requires-clause-head_few
find_homes-requires-clause-head_few c =
    let q = c.pool-pool.result.now in
    let n = c.variables_of_clause-variables.result in
    let own = head_here c.args.program.now c.known.ensures c.args.c c.requires.clause q c.pool-pool.ensures n c.variables_of_clause-variables.ensures c.head-head.result c.head-head.ensures.head in
    let few = few_arguments q n (term_of q c.head-head.result) own.1 in
    let long = count_terms (term_of q) c.arguments_of-given.result.now in
    let same = ap term_count c.arguments_of-given.ensures.terms in
    omega (arith, few, long, same)

pub find_homes-requires-clause-goal_suits : goal.find_homes-requires-clause-goal_suits
find_homes-requires-clause-goal_suits c =
    let q = c.pool-pool.result.now in
    let n = c.variables_of_clause-variables.result in
    let own = goals_here c.args.program.now c.known.ensures c.args.c c.requires.clause q c.pool-pool.ensures n c.variables_of_clause-variables.ensures c.args.goal c.requires.body in
    subst (AllSuit q n) (sym c.goal_arguments-wanted.ensures.terms) (goal_suits q n c.args.goal own)

pub write_short-requires-clause-own : goal.write_short-requires-clause-own
write_short-requires-clause-own c =
    let q = c.pool-pool.result.now in
    let n = c.variables_of_clause-variables.result in
    let own = head_here c.args.program.now c.known.ensures c.args.c c.requires.clause q c.pool-pool.ensures n c.variables_of_clause-variables.ensures c.head-head.result c.head-head.ensures.head in
    subst (λ m. IsOwn q m c.head-head.result) (sym (ap length c.deref.ensures.value ∙ c.in_ok-homes.ensures.long)) own

pub write_short-requires-clause-goal : goal.write_short-requires-clause-goal
write_short-requires-clause-goal c =
    let q = c.pool-pool.result.now in
    let n = c.variables_of_clause-variables.result in
    let own = goals_here c.args.program.now c.known.ensures c.args.c c.requires.clause q c.pool-pool.ensures n c.variables_of_clause-variables.ensures c.args.goal c.requires.body in
    subst (λ m. IfSome c.args.goal (IsOwn q m)) (sym (ap length c.deref.ensures.value ∙ c.in_ok-homes.ensures.long)) own

pub write_short-requires-clause-one : goal.write_short-requires-clause-one
write_short-requires-clause-one c =
    let p = c.args.program.now in
    let ps = c.args.predicates.now in
    subst (λ (q : Contents). IfSome c.args.goal (λ (t : TermId). IsCallOfOne q ps (term_of q t))) (sym c.pool-pool.ensures)
    (goals_called p c.known.ensures c.args.c c.requires.clause ps c.requires.predicates c.args.goal c.requires.body)

pub returns : goal.returns
returns c =
    let p = c.args.program.now in
    let ps = c.args.predicates.now in
    let q = c.pool-pool.result.now in
    let found = c.in_ok-homes.homes.items in
    let homes = c.deref.result.now in
    let free = c.in_ok-free.free in
    let k = c.max.result in
    let m = c.max.ensures in
    let old = c.args.code.now.items in
    let new = c.write_short.new.code.items in
    let head = c.arguments_of-given.result.now in
    let goal = c.goal_arguments-wanted.result.now in
    let ts = arguments (term_of p.pool (clause_at p c.args.c).head) in
    let us = last_arguments p.pool c.args.goal in
    let head_is : terms_by (term_of q) head ≡ ts =
    c.arguments_of-given.ensures.terms ∙ ap (λ (d : Contents). arguments (term_of d c.head-head.result)) c.pool-pool.ensures
    ∙ ap (λ (t : TermId). arguments (term_of p.pool t)) c.head-head.ensures.head in
    let goal_is : terms_by (term_of q) goal ≡ us = c.goal_arguments-wanted.ensures.terms ∙ ap (λ (d : Contents). last_arguments d c.args.goal) c.pool-pool.ensures in
    let all : AreHomes homes free ts us =
    subst (λ h. AreHomes h free ts us) (sym c.deref.ensures.value)
    (subst (λ x. AreHomes found free x us) head_is (subst (λ x. AreHomes found free (terms_by (term_of q) head) x) goal_is c.in_ok-homes.ensures.homes)) in
    let long : length homes ≡ (clause_at p c.args.c).variables = ap length c.deref.ensures.value ∙ c.in_ok-homes.ensures.long ∙ c.variables_of_clause-variables.ensures in
    let head_long = count_terms (term_of q) head in
    let head_same = ap term_count head_is in
    let few : term_count ts ≤ k = omega (arith, m, head_long, head_same) in
    let goal_long = count_terms (term_of q) goal in
    let goal_same = ap term_count goal_is in
    let fewer = goal_fewer p.pool k c.args.goal (omega (arith, m, goal_long, goal_same)) in
    let f = c.in_ok-free.ensures in
    let o = c.in_ok-first.ensures in
    let above : k < free = omega (arith, f, o) in
    let written =
    subst (λ (t : TermId). IsShort p.pool ps homes free t c.args.goal old new) c.head-head.ensures.head
    (subst (λ (d : Contents). IsShort d ps homes free c.head-head.result c.args.goal old new) c.pool-pool.ensures c.in_ok-write_short.ensures) in
    short_written p c.known.ensures ps homes c.args.c c.requires.clause long k free (short_housed homes k free ts us all above) few all.waits old
    new c.args.goal c.requires.body fewer all.lands written
