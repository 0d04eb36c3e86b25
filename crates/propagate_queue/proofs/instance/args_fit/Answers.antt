use Rattle.std.proofs.Common.{None, refl, sym, arith}
use Rattle.std.proofs.lemmas.Bool.{true≢false}
use Rattle.range_code.specs.declared.frame.Arg.TheVariants.{Var}
use Rattle.propagate_queue.proofs.NewAgents.{args_more, args_length, arg_at}
use Rattle.propagate_queue.proofs.instance.args_fit.Goals as goal

pub fitting-preserved : goal.fitting-preserved
fitting-preserved c = record {
  within = omega arith;
  so_far = args_more c.args.vars c.fitting.i c.args.needs.now c.args.args.now None (Var 0) c.fitting-test.true c.if-needs-args.false c.fitting.invariant.so_far (c.if-not-arg_fits.ensures.0 refl);
}

pub returns-then-needs-args : goal.returns-then-needs-args
returns-then-needs-args c = ((λ h. absurd (true≢false (sym h))), λ a. absurd (c.if-needs-args.true (args_length c.args.vars c.args.needs.now c.args.args.now a)))

pub returns-then-not-arg_fits : goal.returns-then-not-arg_fits
returns-then-not-arg_fits c = (
  (λ h. absurd (true≢false (sym h))),
  λ a. c.if-not-arg_fits.ensures.1 (arg_at c.args.vars c.fitting.i c.args.needs.now c.args.args.now None (Var 0) a c.fitting-test.true),
)
