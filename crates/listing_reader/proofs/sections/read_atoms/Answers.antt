use Rattle.std.proofs.Common.{rules, ◌≡◌, ◌∙◌, ◌++◌, ◌+◌, ◌<◌, length, [], ◌∷◌, Bor, List, ℕ, ap, codes, map, refl, string_bytes, subst}
use Rattle.std.proofs.Common.{sym, arith}
use Rattle.std.specs.Str.{IsUtf8}
use Rattle.std.proofs.lemmas.List.{length-map}
use Rattle.fd_language.specs.TermTexts.{Quoted, atom_text}
use Rattle.listing_reader.specs.Lines.{IsStop, header}
use Rattle.listing_reader.specs.Sections.{IsAtoms}
use Rattle.listing_reader.proofs.LinePrefixes.{map_join}
use Rattle.listing_reader.proofs.SectionLoops.{header_stops, no_line, section_step, section_stops, some_atom, some_atom_fits}
use Rattle.listing_reader.proofs.SectionLoops.{wrong_line}
use Rattle.listing_reader.proofs.Loops.{match_none, match_some, reads_none, reads_some}
use Rattle.listing_reader.proofs.sections.read_atoms.Goals as goal

abbrev now : Bor (List ℕ) → List ℕ
now w = w.now

pub returns-in_err-count-clause-fault : goal.returns-in_err-count-clause-fault
returns-in_err-count-clause-fault c =
    let f = c.in_err-count.ensures.fault in
    let none = match_none _ _ c.announced.result f.0 c.announced.ensures in
    let h = subst (IsStop IsAtoms (map now c.args.lines.now) c.args.at) (sym f.1) (header_stops (codes "atoms") IsUtf8 (atom_text Quoted) (map now c.args.lines.now) c.args.at none) in
    search rules

pub returns-in_err-line-clause-fault : goal.returns-in_err-line-clause-fault
returns-in_err-line-clause-fault c =
    let f = c.in_err-line.ensures.fault in
    let none = match_none _ _ c.next_line.result f.0 c.next_line.ensures in
    let small = (match_some _ _ c.announced.result (c.in_ok-count.count, c.in_ok-count.behind) c.in_ok-count.ensures.found c.announced.ensures).0 in
    let low : c.loop-index.index < c.in_ok-count.count = omega arith in
    let h = subst (IsStop IsAtoms (map now c.args.lines.now) c.args.at) (sym f.1)
    (section_stops (map string_bytes) string_bytes (λ xs x. map_join string_bytes xs (x ∷ [])) (λ xs. length-map xs string_bytes) (codes "atoms") IsUtf8 (atom_text Quoted)
    (map now c.args.lines.now) c.in_ok-count.count some_atom some_atom_fits c.loop-index.names.items (map now c.loop-index.rest.now) c.loop-index.index c.args.at
    (c.args.at + c.loop-index.index + 2) small c.loop-index.invariant.size low refl c.loop-index.invariant.fit c.loop-index.invariant.told
    (no_line IsUtf8 (atom_text Quoted) (map now c.loop-index.rest.now) none)) in
    search rules

pub returns-in_err-name-clause-fault : goal.returns-in_err-name-clause-fault
returns-in_err-name-clause-fault c =
    let f = c.in_err-name.ensures.fault in
    let first = match_some _ _ c.next_line.result (c.in_ok-line.line, c.in_ok-line.later) c.in_ok-line.ensures.found c.next_line.ensures in
    let small = (match_some _ _ c.announced.result (c.in_ok-count.count, c.in_ok-count.behind) c.in_ok-count.ensures.found c.announced.ensures).0 in
    let low : c.loop-index.index < c.in_ok-count.count = omega arith in
    let h = subst (IsStop IsAtoms (map now c.args.lines.now) c.args.at) (sym f.1)
    (section_stops (map string_bytes) string_bytes (λ xs x. map_join string_bytes xs (x ∷ [])) (λ xs. length-map xs string_bytes) (codes "atoms") IsUtf8 (atom_text Quoted)
    (map now c.args.lines.now) c.in_ok-count.count some_atom some_atom_fits c.loop-index.names.items (map now c.loop-index.rest.now) c.loop-index.index c.args.at
    (c.args.at + c.loop-index.index + 2) small c.loop-index.invariant.size low refl c.loop-index.invariant.fit c.loop-index.invariant.told
    (wrong_line IsUtf8 (atom_text Quoted) (map now c.loop-index.rest.now) (map now c.in_ok-line.later.now) c.in_ok-line.line.now first
    (reads_none string_bytes IsUtf8 (atom_text Quoted) _ c.in_ok-read_atom.field-0 f.0 c.in_ok-read_atom.ensures))) in
    search rules

pub loop-index-preserved : goal.loop-index-preserved
loop-index-preserved c =
    let first = match_some _ _ c.next_line.result (c.in_ok-line.line, c.in_ok-line.later) c.in_ok-line.ensures.found c.next_line.ensures in
    let t = section_step (map string_bytes) string_bytes (λ xs x. map_join string_bytes xs (x ∷ [])) (λ xs. length-map xs string_bytes) (codes "atoms") IsUtf8 (atom_text Quoted)
    (map now c.args.lines.now) c.in_ok-count.count c.loop-index.names.items c.push.new.self.items c.in_ok-name.name c.in_ok-line.line.now
    (map now c.in_ok-line.later.now) c.in_ok-push.ensures.items c.loop-index.invariant.fit
    (c.loop-index.invariant.told ∙ ap (λ (l : List (List ℕ)). header (codes "atoms") c.in_ok-count.count ∷ (map (atom_text Quoted) (map string_bytes c.loop-index.names.items) ++ l)) first)
    (reads_some string_bytes IsUtf8 (atom_text Quoted) _ c.in_ok-read_atom.field-0 c.in_ok-name.name c.in_ok-name.ensures.found c.in_ok-read_atom.ensures) in
    let size : length c.push.new.self.items ≡ c.loop-index.index + 1 = search rules in
    record { fit = t.0; told = t.1; size = size }
