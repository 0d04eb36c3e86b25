use Rattle.std.proofs.Common.{arith}
use Rattle.propagate_queue.specs.Queues.{flag_at}
use Rattle.propagate_queue.proofs.Queues.{four_chains, by_dom, by_min, by_max, by_val, all_put}
use Rattle.propagate_queue.proofs.propagation.wake.Goals as goal

pub wake_chain-requires-clause-known : goal.wake_chain-requires-clause-known
wake_chain-requires-clause-known g c a h = c.requires.known a
    (by_dom c.args.woken c.chains-dom.result.0 c.chains-dom.result.1 c.chains-dom.result.2 c.chains-dom.result.3
    (four_chains c.args.woken c.chains-dom.result.0 c.chains-dom.result.1 c.chains-dom.result.2 c.chains-dom.result.3 c.chains-dom.ensures) a h)

pub wake_chain-requires-2-clause-known : goal.wake_chain-requires-2-clause-known
wake_chain-requires-2-clause-known g c a h = omega (
  arith,
  c.requires.known a (by_min c.args.woken c.chains-dom.result.0 c.chains-dom.result.1 c.chains-dom.result.2 c.chains-dom.result.3
      (four_chains c.args.woken c.chains-dom.result.0 c.chains-dom.result.1 c.chains-dom.result.2 c.chains-dom.result.3 c.chains-dom.ensures) a h),
  c.wake_chain.auto.queued,
)

pub wake_chain-requires-3-clause-known : goal.wake_chain-requires-3-clause-known
wake_chain-requires-3-clause-known g c a h = omega (
  arith,
  c.requires.known a (by_max c.args.woken c.chains-dom.result.0 c.chains-dom.result.1 c.chains-dom.result.2 c.chains-dom.result.3
      (four_chains c.args.woken c.chains-dom.result.0 c.chains-dom.result.1 c.chains-dom.result.2 c.chains-dom.result.3 c.chains-dom.ensures) a h),
  c.wake_chain.auto.queued,
  c.wake_chain-2.auto.queued,
)

pub wake_chain-requires-4-clause-known : goal.wake_chain-requires-4-clause-known
wake_chain-requires-4-clause-known g c a h = omega (
  arith,
  c.requires.known a (by_val c.args.woken c.chains-dom.result.0 c.chains-dom.result.1 c.chains-dom.result.2 c.chains-dom.result.3
      (four_chains c.args.woken c.chains-dom.result.0 c.chains-dom.result.1 c.chains-dom.result.2 c.chains-dom.result.3 c.chains-dom.ensures) a h),
  c.wake_chain.auto.queued,
  c.wake_chain-2.auto.queued,
  c.wake_chain-3.auto.queued,
)

pub returns-clause-flags : goal.returns-clause-flags
returns-clause-flags g c a = all_put c.args.woken c.chains-dom.result.0 c.chains-dom.result.1 c.chains-dom.result.2 c.chains-dom.result.3
    (four_chains c.args.woken c.chains-dom.result.0 c.chains-dom.result.1 c.chains-dom.result.2 c.chains-dom.result.3 c.chains-dom.ensures) a
    (flag_at c.args.queued.now a) (flag_at c.wake_chain.new.queued a) (flag_at c.wake_chain-2.new.queued a) (flag_at c.wake_chain-3.new.queued a)
    (flag_at c.wake_chain-4.new.queued a) (c.wake_chain.ensures.flags a) (c.wake_chain-2.ensures.flags a) (c.wake_chain-3.ensures.flags a)
    (c.wake_chain-4.ensures.flags a)
