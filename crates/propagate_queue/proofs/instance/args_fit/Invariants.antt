use Rattle.std.proofs.Common.{◌≤◌, ◌-◌, length, take}
use Rattle.range_code.specs.Frames.{AreArgs}
use Rattle.propagate_queue.proofs.instance.args_fit.Given as goal

abbrev pub invariant-fitting : goal.invariant-fitting
invariant-fitting l = record {
  within : l.i ≤ length l.args;
  so_far : AreArgs l.vars (take l.i l.needs) (take l.i l.args);
}

abbrev pub decreases-fitting : goal.decreases-fitting
decreases-fitting l = length l.args - l.i
