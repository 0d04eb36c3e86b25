use Rattle.std.proofs.Common.{rules, ◌≡◌, ◌∙◌, ◌<◌, ◌-◌, ◌++◌, ℕ, List, [], Option, Some, length, sym, ap, subst, arith, codes}
use Rattle.std.specs.Prelude.{IfOk}
use Rattle.std.specs.Option.{option_map_or}
use Rattle.clpwhere.specs.Parts.{TextParts}
use Rattle.clpwhere.specs.Files.{FilePlace, file_place, place_in_file}
use Rattle.clpwhere.specs.Cursors.{first_file}
use Rattle.clpwhere.specs.MarkedLines.{place_line}
use Rattle.clpwhere.proofs.warnings.refused_line.Goals as goal

pub returns : goal.returns
returns c =
    let files = c.args.files.now in
    let place = c.args.place in
    let rest = c.files_from-begin.result.0.now in
    let at = c.files_from-begin.result.1 in
    let words = codes "refused: " ++ c.args.reason.now in
    let behind = c.files_from-begin.ensures in
    let whole : place - 0 ≡ place = omega arith in
    let some : 0 < length rest = search rules in
    let own : c.in-Some.file.now ≡ first_file rest = search rules in
    let is : file_place files place ≡ Some (place_in_file (first_file rest) (place - at)) =
    ap (file_place files) (sym whole) ∙ behind.behind place behind.within ∙ behind.here some in
    let line : option_map_or (λ p. place_line p.file p.place words) (file_place files place) [] ≡ place_line (first_file rest) (place - at) words =
    ap (λ (o : Option FilePlace). option_map_or (λ p. place_line p.file p.place words) o []) is in
    let told : c.as_bytes.result.now ≡ words = search rules in
    subst (λ (l : List ℕ). IfOk c.place_line.result (λ out. out.items ≡ l))
    (ap (λ (l : List ℕ). place_line c.in-Some.file.now (place - at) l) told ∙ ap (λ (f : TextParts). place_line f (place - at) words) own ∙ sym line) c.place_line.ensures
