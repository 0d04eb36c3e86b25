use Rattle.std.proofs.Common.{inl, inr}
use Rattle.listing_reader.proofs.RowWords.{no_row}
use Rattle.listing_reader.proofs.read_rows.read_row.Goals as goal

pub returns-in_default-read_key : goal.returns-in_default-read_key
returns-in_default-read_key c = no_row c.args.kind c.args.word.now c.in-Some.text.now c.in-Some.digits.now c.in-Some.ensures (inl c.in_default-read_key.ensures)

pub returns-in_default-read_number : goal.returns-in_default-read_number
returns-in_default-read_number c = no_row c.args.kind c.args.word.now c.in-Some.text.now c.in-Some.digits.now c.in-Some.ensures (inr c.in_default-read_number.ensures)
