use Rattle.std.proofs.Common.{rules, arith, inl, inr}
use Rattle.fd_language.specs.declared.TheConstants.{INFINITY}
use Rattle.domain_ranges.proofs.Inclusion.{other_passed, one_passed, none_there, one_missing}
use Rattle.domain_ranges.proofs.intervals.is_inside.Goals.{else-b-j-2-via-then-b-j-2+else-a-i, else-b-j-2-via-else-b-j-2}
use Rattle.domain_ranges.proofs.intervals.is_inside.Goals as goal

pub returns-then-j-b-clause-outside : goal.returns-then-j-b-clause-outside
returns-then-j-b-clause-outside c = λ _. none_there INFINITY c.args.a.now c.args.b.now c.comparing.i c.comparing.j c.requires.first c.requires.second
    c.comparing-test.true c.comparing.invariant.state c.if-j-b.true

pub comparing-preserved-then-b-j : goal.comparing-preserved-then-b-j
comparing-preserved-then-b-j c = record {
  first = search rules;
  second = omega arith;
  state = other_passed INFINITY c.args.a.now c.args.b.now c.comparing.i c.comparing.j c.requires.first c.requires.second c.comparing-test.true c.comparing.invariant.state c.if-j-b.false c.if-b-j.true;
}

pub comparing-preserved : goal.comparing-preserved
comparing-preserved c = record {
  first = omega arith;
  second = search rules;
  state = one_passed INFINITY c.args.a.now c.args.b.now c.comparing.i c.comparing.j c.requires.first c.requires.second c.comparing-test.true
      c.comparing.invariant.state c.if-j-b.false c.if-b-j-2.true c.if-a-i.true;
}

pub returns-else-b-j-2-clause-outside : goal.returns-else-b-j-2-clause-outside
returns-else-b-j-2-clause-outside c = λ _. one_missing INFINITY c.args.a.now c.args.b.now c.comparing.i c.comparing.j c.requires.first c.requires.second
    c.comparing-test.true c.comparing.invariant.state c.if-j-b.false c.if-b-j.false
    (elim c.else-b-j-2.branch [ else-b-j-2-via-then-b-j-2+else-a-i w ↦ inr w.if-a-i.false | else-b-j-2-via-else-b-j-2 w ↦ inl w.if-b-j-2.false ])
