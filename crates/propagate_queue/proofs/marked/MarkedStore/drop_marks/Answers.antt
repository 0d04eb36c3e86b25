use Rattle.std.proofs.Common.{◌≡◌, ◌≤◌, ◌-◌, reverse, length, ap, arith}
use Rattle.std.proofs.lemmas.List.{length-reverse}
use Rattle.propagate_queue.specs.Postings.{ranges_of}
use Rattle.propagate_queue.proofs.StoreFields.{same_marks, length-levels, fewer_marks, without_marks, same_levels}
use Rattle.propagate_queue.proofs.marked.MarkedStore.drop_marks.Goals as goal

pub overflow_sub-left : goal.overflow_sub-left
overflow_sub-left g c =
    let t = c.self.inside in
    omega (
      arith,
      length-levels t.agents t.chains.reads (length t.agents) (length t.trail.current) (reverse t.marks.items) t.trail.below (ranges_of t.agents)
          c.self.invariant.below,
      length-reverse t.marks.items,
      ap (λ s. length s.below) c.self.view_is,
      c.requires,
      c.len.ensures,
    )

pub drop_marks-requires : goal.drop_marks-requires
drop_marks-requires g c =
    let t = c.self.inside in
    omega (
      arith,
      length-levels t.agents t.chains.reads (length t.agents) (length t.trail.current) (reverse t.marks.items) t.trail.below (ranges_of t.agents) c.self.invariant.below,
      same_marks t.agents t.chains.reads (length t.agents) (length t.trail.current) (reverse t.marks.items) t.trail.below c.self.invariant.below,
      ap (λ s. length s.below) c.self.view_is,
      c.requires,
    )

pub invariant_of-self : goal.invariant_of-self
invariant_of-self g c =
    let t = c.self.inside in
    let enough : c.args.n ≤ length t.marks.items = omega (
      arith,
      length-levels t.agents t.chains.reads (length t.agents) (length t.trail.current) (reverse t.marks.items) t.trail.below (ranges_of t.agents)
          c.self.invariant.below,
      length-reverse t.marks.items,
      ap (λ s. length s.below) c.self.view_is,
      c.requires,
    ) in
    let left : c.len.result - c.args.n ≡ length t.marks.items - c.args.n = omega (arith, c.len.ensures) in
    (without_marks c.args.n t.agents t.queued.items (g.A.Agenda.agents t.agenda) (g.A.Agenda.spare t.agenda) t.chains t.trail c.drop_marks.new.self
    (reverse t.marks.items) (reverse c.truncate.new.self.items) t.failed t.spent c.self.invariant
    (fewer_marks c.args.n (c.len.result - c.args.n) t.marks.items c.truncate.new.self.items enough left c.truncate.ensures.items) c.drop_marks.ensures).0

pub returns : goal.returns
returns g c =
    let t = c.self.inside in
    let enough : c.args.n ≤ length t.marks.items = omega (
      arith,
      length-levels t.agents t.chains.reads (length t.agents) (length t.trail.current) (reverse t.marks.items) t.trail.below (ranges_of t.agents)
          c.self.invariant.below,
      length-reverse t.marks.items,
      ap (λ s. length s.below) c.self.view_is,
      c.requires,
    ) in
    let left : c.len.result - c.args.n ≡ length t.marks.items - c.args.n = omega (arith, c.len.ensures) in
    let next = (without_marks c.args.n t.agents t.queued.items (g.A.Agenda.agents t.agenda) (g.A.Agenda.spare t.agenda) t.chains t.trail c.drop_marks.new.self
    (reverse t.marks.items) (reverse c.truncate.new.self.items) t.failed t.spent c.self.invariant
    (fewer_marks c.args.n (c.len.result - c.args.n) t.marks.items c.truncate.new.self.items enough left c.truncate.ensures.items) c.drop_marks.ensures).1 in
    let sets : c.drop_marks.new.self.current ≡ t.trail.current = ap (λ s. s.current) c.drop_marks.ensures in
    rw (← c.self.view_is) (same_levels sets next)
