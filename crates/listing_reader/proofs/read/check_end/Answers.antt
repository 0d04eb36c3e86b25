use Rattle.std.proofs.Common.{rules, false, ◌≡◌, inl, inr, arith}
use Rattle.listing_reader.specs.Lines.{GoesOn}
use Rattle.listing_reader.proofs.Loops.{from_not, some_bytes}
use Rattle.listing_reader.proofs.read.check_end.Goals as goal
use Rattle.listing_reader.proofs.read.check_end.Goals.{then-size-lines-via-then-size-lines, then-size-lines-via-else-size-lines+then-not-is_empty}

pub returns-then-size-lines-clause-fault : goal.returns-then-size-lines-clause-fault
returns-then-size-lines-clause-fault c =
    let more : GoesOn c.args.size c.args.lines.now c.args.rest.now = elim c.then-size-lines.branch [
      | then-size-lines-via-then-size-lines w ↦ inl (let h = w.if-size-lines.true in omega (arith, h))
      | then-size-lines-via-else-size-lines+then-not-is_empty w ↦ inr (let full : w.is_empty.result ≡ false = search (rules, from_not) in
          some_bytes c.args.rest.now w.is_empty.result w.is_empty.ensures full)
    ] in
    (more, search rules)
