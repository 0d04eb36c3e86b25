use Rattle.std.proofs.Common.{rules, ◌≡◌, ◌++◌, ◌∙◌, ℕ, List, ap, ap₂, take, drop, codes}
use Rattle.clpwhere.specs.MarkedLines.{caret_lines, place_line, shown_lines}
use Rattle.clpwhere.specs.Places.{shown_before, shown_from}
use Rattle.clpwhere.proofs.ShownCharacters.{four_joined}
use Rattle.clpwhere.proofs.explanations.told_at.Goals as goal

pub returns : goal.returns
returns c =
    let text = c.args.text.now in
    let place = c.args.place in
    let words = c.args.words.now in
    let sentence = c.args.sentence.now in
    let line = c.args.line.now in
    let caret = λ (b f : List ℕ). caret_lines (shown_before b) (shown_from f) in
    let first : caret (take line.at line.characters.items) (drop line.at line.characters.items) ≡ shown_lines text.bytes place = ap₂ caret c.requires.before c.requires.rest in
    let parts : c.put_shown_lines.new.out.items ≡ place_line text place words ++ caret (take line.at line.characters.items) (drop line.at line.characters.items) = search rules in
    let shown : c.put_shown_lines.new.out.items ≡ place_line text place words ++ shown_lines text.bytes place = parts ∙ ap (λ (l : List ℕ). place_line text place words ++ l) first in
    let whole : c.extend_from_slice-2.new.self.items ≡ (c.put_shown_lines.new.out.items ++ sentence) ++ codes "\n" = search rules in
    whole ∙ ap (λ (l : List ℕ). (l ++ sentence) ++ codes "\n") shown ∙ four_joined (place_line text place words) (shown_lines text.bytes place) sentence (codes "\n")
