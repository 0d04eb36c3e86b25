use Rattle.std.proofs.Common.{◌≡◌, [], ◌∷◌, ◌++◌, refl}
use Rattle.fd_language.specs.declared.TheConstants.{INFINITY}
use Rattle.monotone_check.specs.declared.summary.TermCheck.{TermCheck}
use Rattle.monotone_check.specs.Summary.{IsOperated}
use Rattle.monotone_check.proofs.LastItems.{two_popped}
use Rattle.monotone_check.proofs.pending_checks.Pending.take_operator.Goals as goal

pub returns-in_ok-push : goal.returns-in_ok-push
returns-in_ok-push c =
    two_popped (λ l a b. (s : TermCheck) × (c.push.new.self.items ≡ l ++ s ∷ []) × (c.args.self.now.ranges.items ≡ c.args.self.now.ranges.items) × IsOperated INFINITY c.args.node a b c.args.place s)
    c.args.self.now.terms.items c.pop.new.self.items c.pop-in-Some.new.self.items c.in-Some-pop.a c.in-Some.b c.in-Some.ensures.items c.in-Some-pop.ensures.items
    (c.operate.result, c.in_ok-push.ensures.items, refl, c.operate.ensures)
