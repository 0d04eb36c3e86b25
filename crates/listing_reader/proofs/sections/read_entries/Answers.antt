use Rattle.std.proofs.Common.{rules, ◌≡◌, ◌∙◌, ◌++◌, ◌+◌, ◌<◌, length, ◌∷◌, Bor, List, ℕ, ap, codes, map, refl, subst}
use Rattle.std.proofs.Common.{sym, arith}
use Rattle.code_listing.specs.Texts.{entry_text}
use Rattle.listing_reader.specs.NumberBounds.{IsSmallEntry}
use Rattle.listing_reader.specs.Lines.{IsStop, header}
use Rattle.listing_reader.specs.Sections.{IsEntries}
use Rattle.listing_reader.proofs.SectionLoops.{header_stops, no_line, section_step, section_stops, some_entry}
use Rattle.listing_reader.proofs.SectionLoops.{some_entry_fits, wrong_line}
use Rattle.listing_reader.proofs.Loops.{match_none, match_some, reads_none, reads_some}
use Rattle.listing_reader.proofs.sections.read_entries.Goals as goal

abbrev now : Bor (List ℕ) → List ℕ
now w = w.now

pub returns-in_err-count-clause-fault : goal.returns-in_err-count-clause-fault
returns-in_err-count-clause-fault c =
    let f = c.in_err-count.ensures.fault in
    let none = match_none _ _ c.announced.result f.0 c.announced.ensures in
    let h = subst (IsStop IsEntries (map now c.args.lines.now) c.args.at) (sym f.1) (header_stops (codes "entries") IsSmallEntry entry_text (map now c.args.lines.now) c.args.at none) in
    search rules

pub returns-in_err-line-clause-fault : goal.returns-in_err-line-clause-fault
returns-in_err-line-clause-fault c =
    let f = c.in_err-line.ensures.fault in
    let none = match_none _ _ c.next_line.result f.0 c.next_line.ensures in
    let small = (match_some _ _ c.announced.result (c.in_ok-count.count, c.in_ok-count.behind) c.in_ok-count.ensures.found c.announced.ensures).0 in
    let low : c.loop-index.index < c.in_ok-count.count = omega arith in
    let h = subst (IsStop IsEntries (map now c.args.lines.now) c.args.at) (sym f.1)
    (section_stops (λ xs. xs) (λ x. x) (λ xs x. refl) (λ xs. refl) (codes "entries") IsSmallEntry entry_text
    (map now c.args.lines.now) c.in_ok-count.count some_entry some_entry_fits c.loop-index.entries.items (map now c.loop-index.rest.now) c.loop-index.index c.args.at
    (c.args.at + c.loop-index.index + 2) small c.loop-index.invariant.size low refl c.loop-index.invariant.fit c.loop-index.invariant.told
    (no_line IsSmallEntry entry_text (map now c.loop-index.rest.now) none)) in
    search rules

pub returns-in_err-entry-clause-fault : goal.returns-in_err-entry-clause-fault
returns-in_err-entry-clause-fault c =
    let f = c.in_err-entry.ensures.fault in
    let first = match_some _ _ c.next_line.result (c.in_ok-line.line, c.in_ok-line.later) c.in_ok-line.ensures.found c.next_line.ensures in
    let small = (match_some _ _ c.announced.result (c.in_ok-count.count, c.in_ok-count.behind) c.in_ok-count.ensures.found c.announced.ensures).0 in
    let low : c.loop-index.index < c.in_ok-count.count = omega arith in
    let h = subst (IsStop IsEntries (map now c.args.lines.now) c.args.at) (sym f.1)
    (section_stops (λ xs. xs) (λ x. x) (λ xs x. refl) (λ xs. refl) (codes "entries") IsSmallEntry entry_text
    (map now c.args.lines.now) c.in_ok-count.count some_entry some_entry_fits c.loop-index.entries.items (map now c.loop-index.rest.now) c.loop-index.index c.args.at
    (c.args.at + c.loop-index.index + 2) small c.loop-index.invariant.size low refl c.loop-index.invariant.fit c.loop-index.invariant.told
    (wrong_line IsSmallEntry entry_text (map now c.loop-index.rest.now) (map now c.in_ok-line.later.now) c.in_ok-line.line.now first
    (reads_none (λ x. x) IsSmallEntry entry_text _ c.in_ok-read_entry.field-0 f.0 c.in_ok-read_entry.ensures))) in
    search rules

pub loop-index-preserved : goal.loop-index-preserved
loop-index-preserved c =
    let first = match_some _ _ c.next_line.result (c.in_ok-line.line, c.in_ok-line.later) c.in_ok-line.ensures.found c.next_line.ensures in
    let t = section_step (λ xs. xs) (λ x. x) (λ xs x. refl) (λ xs. refl) (codes "entries") IsSmallEntry entry_text
    (map now c.args.lines.now) c.in_ok-count.count c.loop-index.entries.items c.push.new.self.items c.in_ok-entry.entry c.in_ok-line.line.now
    (map now c.in_ok-line.later.now) c.in_ok-push.ensures.items c.loop-index.invariant.fit
    (c.loop-index.invariant.told ∙ ap (λ (l : List (List ℕ)). header (codes "entries") c.in_ok-count.count ∷ (map entry_text c.loop-index.entries.items ++ l)) first)
    (reads_some (λ x. x) IsSmallEntry entry_text _ c.in_ok-read_entry.field-0 c.in_ok-entry.entry c.in_ok-entry.ensures.found c.in_ok-read_entry.ensures) in
    let size : length c.push.new.self.items ≡ c.loop-index.index + 1 = search rules in
    record { fit = t.0; told = t.1; size = size }
