use Rattle.std.proofs.Common.{rules, ◌≡◌, false, string_bytes, subst}
use Rattle.std.specs.Str.{IsUtf8, bytes_eq}
use Rattle.fd_language.specs.TermTexts.{Quoted, atom_text}
use Rattle.listing_reader.specs.Atoms.{written_name}
use Rattle.listing_reader.proofs.AtomLines.{atom_none, text_utf8}
use Rattle.listing_reader.proofs.Loops.{match_none, match_some}
use Rattle.listing_reader.proofs.read_lines.read_atom.Goals as goal

pub returns-in_default : goal.returns-in_default
returns-in_default c =
    let h = match_none (¬ IsUtf8 c.args.line.now) (λ n. string_bytes n ≡ written_name c.args.line.now) c.in_ok-name.field-0 c.in_default.is c.in_ok-name.ensures in
    λ a u e. h (subst IsUtf8 e (text_utf8 a u))

pub returns : goal.returns
returns c =
    let h = match_some (¬ IsUtf8 c.args.line.now) (λ n. string_bytes n ≡ written_name c.args.line.now) c.in_ok-name.field-0 c.in-Some.name c.in-Some.is c.in_ok-name.ensures in
    let spelled = c.write_atom.new.out.items in
    let same : spelled ≡ atom_text Quoted (string_bytes c.in-Some.name) = search rules in
    let differs : bytes_eq spelled c.args.line.now ≡ false = search rules in
    atom_none c.quoted_is_read.ensures c.args.line.now spelled (string_bytes c.in-Some.name) h same differs
