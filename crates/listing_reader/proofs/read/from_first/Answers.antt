use Rattle.std.proofs.Common.{rules, Bor, List, ℕ, map, subst, sym}
use Rattle.listing_reader.specs.Lines.{IsLeft}
use Rattle.listing_reader.specs.Sections.{IsListing}
use Rattle.listing_reader.proofs.Loops.{match_none, match_some}
use Rattle.listing_reader.proofs.SectionLoops.{left_behind, left_head}
use Rattle.listing_reader.proofs.read.from_first.Goals as goal

abbrev now : Bor (List ℕ) → List ℕ
now w = w.now

pub returns-in_err-later-clause-fault : goal.returns-in_err-later-clause-fault
returns-in_err-later-clause-fault c =
    let f = c.in_err-later.ensures.fault in
    let none = match_none _ _ c.behind_first.result f.0 c.behind_first.ensures in
    let h = subst (IsLeft IsListing (map now c.args.lines.now) c.args.rest.now 0) (sym f.1) (left_head (map now c.args.lines.now) c.args.rest.now none) in
    search rules

pub returns-in_err-atoms-clause-fault : goal.returns-in_err-atoms-clause-fault
returns-in_err-atoms-clause-fault c =
    let is = match_some _ _ c.behind_first.result c.in_ok-later.later c.in_ok-later.ensures.found c.behind_first.ensures in
    let h = left_behind (map now c.args.lines.now) (map now c.in_ok-later.later.now) c.args.rest.now is c.in_err-atoms.field-0.0 c.in_err-atoms.ensures.fault in
    search rules

pub returns-clause-told : goal.returns-clause-told
returns-clause-told c =
    let is = match_some _ _ c.behind_first.result c.in_ok-later.later c.in_ok-later.ensures.found c.behind_first.ensures in
    let t = c.in_ok-atoms.ensures.told in
    (record { behind = map now c.in_ok-later.later.now; are = is; all = t.0 }, t.1)
