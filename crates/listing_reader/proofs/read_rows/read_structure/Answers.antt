use Rattle.std.proofs.Common.{inl, inr}
use Rattle.listing_reader.proofs.RowWords.{no_structure}
use Rattle.listing_reader.proofs.read_rows.read_structure.Goals as goal

pub returns-in_default-read_atom_number : goal.returns-in_default-read_atom_number
returns-in_default-read_atom_number c = no_structure c.args.text.now c.in-Some.name.now c.in-Some.digits.now c.in-Some.ensures (inl c.in_default-read_atom_number.ensures)

pub returns-in_default-read_arity : goal.returns-in_default-read_arity
returns-in_default-read_arity c = no_structure c.args.text.now c.in-Some.name.now c.in-Some.digits.now c.in-Some.ensures (inr c.in_default-read_arity.ensures)
