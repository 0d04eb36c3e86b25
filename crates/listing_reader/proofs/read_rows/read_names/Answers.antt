use Rattle.std.proofs.Common.{◌≡◌, All, Bor, List, ℕ, arith}
use Rattle.code_listing.specs.Texts.{atom_number}
use Rattle.listing_reader.specs.Operands.{IsSmallAtom}
use Rattle.listing_reader.proofs.Loops.{each_done, each_step, each_stops}
use Rattle.listing_reader.proofs.read_rows.read_names.Goals as goal

pub returns-in_default : goal.returns-in_default
returns-in_default c = each_stops (IsSmallAtom) atom_number (λ (w : Bor (List ℕ)). w.now) c.args.words.now c.loop-word.word-index _ (omega arith) c.in_default.ensures

pub loop-word-preserved : goal.loop-word-preserved
loop-word-preserved c = each_step (IsSmallAtom) atom_number (λ (w : Bor (List ℕ)). w.now) c.loop-word.names.items c.push.new.self.items c.in-Some.name
    c.args.words.now c.loop-word.word-index _ c.in_ok-push.ensures.items (omega arith) c.loop-word.invariant c.in-Some.ensures

pub returns : goal.returns
returns c = each_done (IsSmallAtom) atom_number (λ (w : Bor (List ℕ)). w.now) c.loop-word.names.items c.args.words.now c.loop-word.word-index (omega arith) c.loop-word.invariant
