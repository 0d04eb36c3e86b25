use Rattle.std.proofs.Common.{◌≡◌, ◌∙◌, true, false, ◌&&◌, sym, ap}
use Rattle.std.specs.List.{list_all}
use Rattle.std.proofs.lemmas.Bool.{false_from_ne_true, true≢false}
use Rattle.listing_loader.specs.Marks as marks
use Rattle.listing_loader.proofs.Keys.{rises_is}
use Rattle.listing_loader.proofs.counts.Counts.has_table.Goals as goal

pub returns-then-rises : goal.returns-then-rises
returns-then-rises c =
    let rows = c.args.table.now in
    let rising : marks.rises rows ≡ true = (rises_is rows).1 (c.rises.ensures.0 c.if-rises.true) in
    c.has_rows.ensures ∙ sym (ap (λ b. b && list_all (marks.has_row c.args.self) rows) rising)

pub returns-else-rises : goal.returns-else-rises
returns-else-rises c =
    let rows = c.args.table.now in
    let falls : marks.rises rows ≡ false = false_from_ne_true (marks.rises rows) (λ e. true≢false (sym (c.rises.ensures.1 ((rises_is rows).0 e)) ∙ c.if-rises.false)) in
    c.if-rises.false ∙ sym (ap (λ b. b && list_all (marks.has_row c.args.self) rows) falls)
