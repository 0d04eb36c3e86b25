use Rattle.std.proofs.Common.{rules, ◌∙◌, ◌∷◌, ◌-◌, Bor, IsTrue, List, ℕ, ap, drop, length, map, take}
use Rattle.listing_reader.specs.Sections.{first_line}
use Rattle.listing_reader.proofs.Loops.{front_is, none_is}
use Rattle.listing_reader.proofs.SectionLoops.{head_none, head_other}
use Rattle.listing_reader.proofs.read.behind_first.Goals as goal

abbrev now : Bor (List ℕ) → List ℕ
now w = w.now

pub returns-in_default : goal.returns-in_default
returns-in_default c = head_none first_line (map now c.args.lines.now) (none_is now c.args.lines.now c.in_default.len_below)

pub returns-else-is_first_line : goal.returns-else-is_first_line
returns-else-is_first_line c =
    let no_first : ¬ IsTrue c.is_first_line.result = search rules in
    head_other now first_line c.args.lines.now _ c.in-len1-up.len_at_least (λ e. no_first (c.is_first_line.ensures.1 e))

pub returns-then-is_first_line : goal.returns-then-is_first_line
returns-then-is_first_line c =
    let first : IsTrue c.is_first_line.result = search rules in
    let later = map now (take (length c.args.lines.now - 1) (drop 1 c.args.lines.now)) in
    front_is now c.args.lines.now _ c.in-len1-up.len_at_least ∙ ap (λ (l : List ℕ). l ∷ later) (c.is_first_line.ensures.0 first)
