use Rattle.std.proofs.Common.{◌≡◌, All, Bor, List, ℕ, map, refl}
use Rattle.code_listing.specs.Texts.{row_word}
use Rattle.listing_reader.specs.declared.forms.Operation.TheVariants as form
use Rattle.listing_reader.specs.Lists.{FitsRow, rows_words}
use Rattle.listing_reader.proofs.Instructions.{switch_none, switch_some}
use Rattle.listing_reader.proofs.Loops.{reads_none, reads_some}
use Rattle.listing_reader.proofs.read_lines.read_switch.Goals as goal

abbrev now : Bor (List ℕ) → List ℕ
now w = w.now

pub returns-in_default : goal.returns-in_default
returns-in_default c =
    switch_none (form.Switch c.args.kind) (map now c.args.operands.now) c.args.kind refl
    (reads_none (λ v. v.items) (All (FitsRow c.args.kind)) rows_words (map now c.args.operands.now) c.in_ok-rows.field-0 c.in_default.is c.in_ok-rows.ensures)

pub returns : goal.returns
returns c =
    switch_some (form.Switch c.args.kind) (map now c.args.operands.now) c.args.kind refl c.in-Some.rows.items c.switch_code.result c.switch_code.ensures
    (reads_some (λ v. v.items) (All (FitsRow c.args.kind)) rows_words (map now c.args.operands.now) c.in_ok-rows.field-0 c.in-Some.rows c.in-Some.is c.in_ok-rows.ensures)
