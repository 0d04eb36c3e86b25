use Rattle.std.proofs.Common.{rules, ◌≡◌, ℕ, ◌+◌, List, ◌++◌, ◌∙◌, sym, ap, codes, decimal, length, string_bytes, length-take-le}
use Rattle.clpwhere.specs.Places.{line_number, column_number}
use Rattle.clpwhere.proofs.ShownCharacters.{head_joined}
use Rattle.clpwhere.proofs.explanations.place_line.Goals as goal

abbrev shape : List ℕ → ℕ → ℕ → List ℕ
shape name line column = name ++ (codes ":" ++ (decimal line ++ (codes ":" ++ (decimal column ++ codes ": "))))

pub returns : goal.returns
returns c =
    let text = c.args.text.now in
    let place = c.args.place in
    let words = c.args.words.now in
    let line = c.args.line.now in
    let column : 1 + line.at ≡ column_number text.bytes place =
    ap (λ n. 1 + n) (sym (length-take-le line.at line.characters.items c.requires.within) ∙ ap length c.requires.before) in
    let h = c.in_ok-head.ensures.ok in
    let head : string_bytes c.in_ok-head.head ≡ text.name ++ (codes ":" ++ (decimal (line_number text.bytes place) ++ (codes ":" ++ (decimal (column_number text.bytes place) ++ codes ": ")))) =
    h ∙ ap (λ n. shape n line.number (1 + line.at)) c.name-name.ensures ∙ ap (λ l. shape text.name l (1 + line.at)) c.requires.number
    ∙ ap (λ k. shape text.name (line_number text.bytes place) k) column in
    let whole : c.extend_from_slice-2.new.self.items ≡ (string_bytes c.in_ok-head.head ++ words) ++ codes "\n" = search rules in
    whole ∙ ap (λ t. (t ++ words) ++ codes "\n") head ∙ head_joined text.name (decimal (line_number text.bytes place)) (decimal (column_number text.bytes place)) words (codes "\n")
