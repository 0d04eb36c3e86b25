use Rattle.std.proofs.Common.{◌≡◌, All, Bor, List, ℕ, arith}
use Rattle.code_listing.specs.Texts.{argument_word}
use Rattle.listing_reader.specs.NumberBounds.{IsNumber}
use Rattle.listing_reader.proofs.Loops.{each_done, each_step, each_stops}
use Rattle.listing_reader.proofs.read_states.read_arguments.Goals as goal

pub returns-in_default : goal.returns-in_default
returns-in_default c = each_stops (IsNumber) argument_word (λ (w : Bor (List ℕ)). w.now) c.args.words.now c.loop-word.word-index _ (omega arith) c.in_default.ensures

pub loop-word-preserved : goal.loop-word-preserved
loop-word-preserved c = each_step (IsNumber) argument_word (λ (w : Bor (List ℕ)). w.now) c.loop-word.arguments.items c.push.new.self.items c.in-Some.argument
    c.args.words.now c.loop-word.word-index _ c.in_ok-push.ensures.items (omega arith) c.loop-word.invariant c.in-Some.ensures

pub returns : goal.returns
returns c = each_done (IsNumber) argument_word (λ (w : Bor (List ℕ)). w.now) c.loop-word.arguments.items c.args.words.now c.loop-word.word-index (omega arith) c.loop-word.invariant
