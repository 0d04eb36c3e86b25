use Rattle.std.proofs.Common.{sym, subst, arith}
use Rattle.term_pool.specs.Terms.{term_of, terms_by}
use Rattle.fd_language.specs.Term.{term_count}
use Rattle.clause_code.specs.ArgumentHomes.{AllWait, Stayed}
use Rattle.clause_code.proofs.ArgumentHomes.{homes_found}
use Rattle.clause_code.proofs.Rests.{count_terms}
use Rattle.clause_code.proofs.argument_homes.find_homes.Goals as goal

pub returns-clause-homes : goal.returns-clause-homes
returns-clause-homes c =
    let f = term_of c.args.pool.now in
    let head = c.args.head.now in
    let goal = c.args.goal.now in
    let ts = terms_by f head in
    let us = terms_by f goal in
    let nh = count_terms f head in
    let ng = count_terms f goal in
    let w = c.in_ok-wait_all.ensures in
    let waits : AllWait c.wait_all.new.homes.items 1 (term_count ts) ts = subst (λ n. AllWait c.wait_all.new.homes.items 1 n ts) (sym nh) w.waits in
    let second : Stayed c.stay_all.new.homes.items c.stay_all-2.new.homes.items ts (term_count us) = subst
    (λ n. Stayed c.stay_all.new.homes.items c.stay_all-2.new.homes.items ts n) (sym ng) c.stay_all-2.ensures in
    let lh = c.requires.head_behind in
    let lg = c.requires.goal_behind in
    homes_found c.in_ok-homes.homes.items c.stay_all.new.homes.items c.stay_all-2.new.homes.items c.wait_all.new.homes.items c.args.first c.args.free ts us
    c.in_ok-homes.ensures c.stay_all.ensures second w.back waits (omega (arith, ng, lg)) (omega (arith, nh, lh))
