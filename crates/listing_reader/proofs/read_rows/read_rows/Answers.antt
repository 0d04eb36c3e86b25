use Rattle.std.proofs.Common.{◌≡◌, All, Bor, List, ℕ, arith}
use Rattle.code_listing.specs.Texts.{row_word}
use Rattle.listing_reader.specs.Lists.{FitsRow}
use Rattle.listing_reader.proofs.Loops.{each_done, each_step, each_stops}
use Rattle.listing_reader.proofs.read_rows.read_rows.Goals as goal

pub returns-in_default : goal.returns-in_default
returns-in_default c = each_stops (FitsRow c.args.kind) row_word (λ (w : Bor (List ℕ)). w.now) c.args.words.now c.loop-word.word-index _ (omega arith) c.in_default.ensures

pub loop-word-preserved : goal.loop-word-preserved
loop-word-preserved c = each_step (FitsRow c.args.kind) row_word (λ (w : Bor (List ℕ)). w.now) c.loop-word.rows.items c.push.new.self.items c.in-Some.row
    c.args.words.now c.loop-word.word-index _ c.in_ok-push.ensures.items (omega arith) c.loop-word.invariant c.in-Some.ensures

pub returns : goal.returns
returns c = each_done (FitsRow c.args.kind) row_word (λ (w : Bor (List ℕ)). w.now) c.loop-word.rows.items c.args.words.now c.loop-word.word-index (omega arith) c.loop-word.invariant
