use Rattle.std.proofs.Common.{◌≡◌, ◌<◌, ◌∷◌, sym, subst}
use Rattle.code_areas.specs.Areas.{Contents}
use Rattle.code_safety.specs.Safety.{IsSafe}
use Rattle.code_safety.specs.RemainingEvents.{KeepsRunning}
use Rattle.code_safety.specs.Work.{work_at}
use Rattle.code_control.proofs.Threads.{some_return, proceed_safe, ok_each}
use Rattle.code_control.proofs.Work.{returned_falls}
use Rattle.code_control.proofs.Stages.{proceed_runs}
use Rattle.code_safety.specs.Queries.{KeepsQuery}
use Rattle.code_control.proofs.Queries.{proceed_query}
use Rattle.code_control.proofs.calls.proceed.Goals as goal

pub proceed-requires : goal.proceed-requires
proceed-requires g c =
    some_return c.args.code.now c.args.branch.now c.args.at c.args.areas.now c.requires.safe c.requires.holds

pub returns-clause-safe : goal.returns-clause-safe
returns-clause-safe g c =
    ok_each c.proceed.result (λ to. c.args.areas.now.returns ≡ record { to = to; slots = c.proceed.new.self.slots } ∷ c.proceed.new.self.returns)
    (λ to. IsSafe c.args.code.now c.args.branch.now to 0 c.proceed.new.self)
    (λ to is. subst (λ (a : Contents). IsSafe c.args.code.now c.args.branch.now to 0 a) (sym c.proceed.ensures.same)
    (proceed_safe c.args.code.now c.args.branch.now c.args.at c.args.areas.now c.requires.safe c.requires.holds
    (record { to = to; slots = c.proceed.new.self.slots }) c.proceed.new.self.returns is)) c.proceed.ensures.returned

pub returns-clause-runs : goal.returns-clause-runs
returns-clause-runs g c =
    ok_each c.proceed.result (λ to. c.args.areas.now.returns ≡ record { to = to; slots = c.proceed.new.self.slots } ∷ c.proceed.new.self.returns)
    (λ to. KeepsRunning c.args.code.now c.args.branch.now c.args.at c.args.areas.now c.args.branch.now to c.proceed.new.self)
    (λ to is. subst (λ (a : Contents). KeepsRunning c.args.code.now c.args.branch.now c.args.at c.args.areas.now c.args.branch.now to a)
    (sym c.proceed.ensures.same) (proceed_runs c.args.code.now c.args.branch.now c.args.at c.args.areas.now c.requires.holds
    (record { to = to; slots = c.proceed.new.self.slots }) c.proceed.new.self.returns is)) c.proceed.ensures.returned

pub returns-clause-falls : goal.returns-clause-falls
returns-clause-falls g c =
    ok_each c.proceed.result (λ to. c.args.areas.now.returns ≡ record { to = to; slots = c.proceed.new.self.slots } ∷ c.proceed.new.self.returns)
    (λ to. work_at c.args.code.now to c.proceed.new.self < work_at c.args.code.now c.args.at c.args.areas.now)
    (λ to is. subst (λ (a : Contents). work_at c.args.code.now to a < work_at c.args.code.now c.args.at c.args.areas.now) (sym c.proceed.ensures.same)
    (returned_falls c.args.code.now c.requires.safe.states c.requires.safe.verified c.args.at c.args.areas.now
    (record { to = to; slots = c.proceed.new.self.slots }) c.proceed.new.self.returns is)) c.proceed.ensures.returned

pub returns-clause-query : goal.returns-clause-query
returns-clause-query g c =
    ok_each c.proceed.result (λ to. c.args.areas.now.returns ≡ record { to = to; slots = c.proceed.new.self.slots } ∷ c.proceed.new.self.returns)
    (λ to. KeepsQuery c.args.code.now c.args.at c.args.areas.now to c.proceed.new.self)
    (λ to is. subst (λ (a : Contents). KeepsQuery c.args.code.now c.args.at c.args.areas.now to a) (sym c.proceed.ensures.same)
    (proceed_query c.args.code.now c.args.at c.args.areas.now (record { to = to; slots = c.proceed.new.self.slots }) c.proceed.new.self.returns is))
    c.proceed.ensures.returned
