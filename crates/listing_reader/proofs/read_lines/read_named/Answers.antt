use Rattle.std.proofs.Common.{◌≡◌, ◌∷◌, Bor, List, ℕ, ap, map, subst}
use Rattle.listing_reader.specs.Forms.{FitsInstruction, instruction_text}
use Rattle.listing_reader.specs.Reading.{ReadsAs}
use Rattle.listing_reader.proofs.Instructions.{no_form}
use Rattle.listing_reader.proofs.read_lines.read_named.Goals as goal

abbrev now : Bor (List ℕ) → List ℕ
now w = w.now

pub returns-in_default : goal.returns-in_default
returns-in_default c = no_form c.args.name.now (map now c.args.operands.now) (λ f. c.in_default.ensures f tt)

pub returns : goal.returns
returns c =
    subst (λ (n : List ℕ). ReadsAs (λ x. (x.0, x.1.items)) FitsInstruction instruction_text (n ∷ map now c.args.operands.now) c.in_ok-read.read) c.in-Some.ensures.1 c.in_ok-read.ensures
