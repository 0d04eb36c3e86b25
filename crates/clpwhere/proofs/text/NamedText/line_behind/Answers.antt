use Rattle.std.proofs.Common.{◌≡◌, ◌+◌, ◌-◌, ℕ, List, take, drop, length, ap, ap₂, ◌∙◌, arith}
use Rattle.std.specs.Prelude.{count_by}
use Rattle.std.proofs.lemmas.List.{drop_min, take_all, length-drop}
use Rattle.byte_ports.specs.Lines.{is_newline}
use Rattle.clpwhere.proofs.LineNumbers.{lines_between}
use Rattle.clpwhere.proofs.text.NamedText.line_behind.Goals as goal

pub returns : goal.returns
returns c =
    let bytes = c.args.self.now.bytes in
    let before = c.before-before.result.now in
    let n : c.newlines.result ≡ count_by is_newline (drop c.args.from (take c.args.place bytes)) =
    c.newlines.ensures.value
    ∙ ap (count_by is_newline) (take_all (length before - c.min.result) (drop c.min.result before) (omega (arith, length-drop c.min.result before)))
    ∙ ap (λ (k : ℕ). count_by is_newline (drop k before)) c.min.ensures ∙ ap (count_by is_newline) (drop_min c.args.from before)
    ∙ ap (λ (l : List ℕ). count_by is_newline (drop c.args.from l)) c.before-before.ensures in
    ap₂ (λ (a b : ℕ). a + b) c.requires.line n ∙ lines_between bytes c.args.from c.args.place c.requires.order
