use Rattle.std.proofs.Common.{rules, refl, SFits, to_z-of_z}
use mir.Syntax.{w64}
use Rattle.domain_ranges.specs.Narrowing.{between, all_but}
use Rattle.range_code.specs.Frames.{family_of}
use Rattle.propagate_queue.specs.Postings.{posting_at, ranged}
use Rattle.propagate_queue.proofs.Cuts.{cut_done, all_left}
use Rattle.propagate_queue.proofs.activation.activate.Goals as goal

pub returns-in-All-clause-done : goal.returns-in-All-clause-done
returns-in-All-clause-done c = (
  refl,
  all_left (family_of c.args.trail.now.current (posting_at c.args.agents.now c.args.agent).target) _
      (c.requires.family.rising (posting_at c.args.agents.now c.args.agent).target) c.in-All.ensures,
)

pub returns-in_ok-cut-in-Between-clause-done : goal.returns-in_ok-cut-in-Between-clause-done
returns-in_ok-cut-in-Between-clause-done c =
    let a : SFits w64 c.in-Between.low = search rules in
    let b : SFits w64 c.in-Between.high = search rules in
    let n = simp to_z-of_z at c.in_ok-cut-in-Between.ensures.cut in
    cut_done (ranged (posting_at c.args.agents.now c.args.agent)) c.args.target (between c.in-Between.low c.in-Between.high) c.args.trail.now c.cut.new.self
    c.in_ok-cut-in-Between.cut c.requires.target c.in-Between.ensures n

pub returns-in_ok-cut-in-Except-clause-done : goal.returns-in_ok-cut-in-Except-clause-done
returns-in_ok-cut-in-Except-clause-done c =
    let a : SFits w64 c.in-Except.number = search rules in
    let n = simp to_z-of_z at c.in_ok-cut-in-Except.ensures.cut in
    cut_done (ranged (posting_at c.args.agents.now c.args.agent)) c.args.target (all_but c.in-Except.number) c.args.trail.now c.cut_out.new.self
    c.in_ok-cut-in-Except.cut c.requires.target c.in-Except.ensures n
