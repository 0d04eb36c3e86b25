use Rattle.std.proofs.Common.{arith, suc}
use Rattle.fd_language.specs.Term.{Var}
use Rattle.fd_model.specs.Linear.{collect_term}
use Rattle.linear_forms.specs.declared.walk.Made.{Made}
use Rattle.linear_forms.specs.Sums.{signed}
use Rattle.linear_forms.proofs.Stacks.{pushed}
use Rattle.linear_forms.proofs.walk.Made.push_variable.Goals as goal

pub returns : goal.returns
returns c =
    let new : Made = record { sums = c.push.new.self; met = c.in-Some.met } in
    pushed (signed c.args.negated (collect_term (Var c.args.variable))) c.args.self.now new c.in_ok-alone.alone (suc c.args.self.now.met) c.in_ok-alone.ensures
    c.in_ok-push.ensures.items (omega (arith, c.in-Some.ensures))
