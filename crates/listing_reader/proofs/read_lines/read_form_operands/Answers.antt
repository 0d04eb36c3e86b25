use Rattle.std.proofs.Common.{◌≡◌, Bor, List, ℕ, map}
use Rattle.listing_reader.proofs.Instructions.{plain_none, plain_some}
use Rattle.listing_reader.proofs.read_lines.read_form_operands.Goals as goal

abbrev now : Bor (List ℕ) → List ℕ
now w = w.now

pub returns-in_default-read_plain : goal.returns-in_default-read_plain
returns-in_default-read_plain c = plain_none c.args.form (map now c.args.operands.now) (λ k e. c.in_default.not-Switch k e) c.in_default-read_plain.ensures

pub returns : goal.returns
returns c = plain_some c.args.form (map now c.args.operands.now) (λ k e. c.in_default.not-Switch k e) c.in-Some.code c.in-Some.ensures c.new.result.items c.new.ensures.items
