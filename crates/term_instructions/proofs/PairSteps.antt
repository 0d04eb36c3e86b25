-- A structure of two arguments that is there is read into registers.
use Rattle.std.proofs.Common.{◌≡◌, ℕ, suc, ◌-◌, List, [], ◌∷◌, length, drop, All, Bor, Ok, refl, subst, arith}
use Rattle.std.proofs.lemmas.List.Elements.{All-nil}
use Rattle.fd_language.specs.declared.NoMemory.{NoMemory}
use Rattle.term_pool.specs.declared.AtomId.{AtomId}
use Rattle.heap_cells.specs.declared.Cell.{Cell}
use Rattle.heap_cells.specs.declared.Seen.TheVariants as seen
use Rattle.branch_state.specs.States as branch
use Rattle.branch_state.specs.States.{IsCell}
use Rattle.branch_state.specs.Steps.{IsTouchBelow}
use Rattle.wam_code.specs.declared.instruction.Register.{Register}
use Rattle.wam_code.specs.Area.{Area}
use Rattle.code_areas.specs.Areas.{Contents}
use Rattle.code_meaning.specs.Registers.{IsWritten}
use Rattle.code_safety.specs.Machine.{registers_of, CanHold, IsSameBehind}
use Rattle.code_safety.specs.Safety.{IsSafe, FirstIsSeen}
use Rattle.code_safety.specs.declared.instruction_outcomes.Went.TheVariants.{On}
use Rattle.term_instructions.specs.Pairs.{IsPairAt, IsPairRead}
use Rattle.term_instructions.specs.ReadMode.{IsReadTo}
use Rattle.term_instructions.specs.declared.read_mode.ReadPosition.{ReadPosition}
use Rattle.term_instructions.proofs.Head.{args_own, get_started, get_read, looked_all}
use Rattle.term_instructions.proofs.ReadSteps.{reads_variable, read_both}
use Rattle.term_instructions.proofs.UnifyInstructions.{variable_needs}

module _ (area : Area) (s : branch.State) (at : ℕ) (c : Contents) (safe : IsSafe area s at 0 c) (f : AtomId) (args : Bor (List Cell))
    (sees : FirstIsSeen s c (seen.Struct f args)) (two : length args.now ≡ 2) (r q : Register) (p : IsPairAt area at f r q) where
  pub both_own : All (IsCell s) args.now
  both_own = let k = sees.2 in args_own area s at c safe f 2 1 p.asks sees.0 sees.1 f args.now k.0 k.1 k.2 k.3

  begun : IsSafe area s (suc at) (length args.now - 0) c
  begun = let many : 2 ≡ length args.now - 0 = omega (arith, two) in subst (λ k. IsSafe area s (suc at) k c) many (get_started area s at c safe f 2 1 p.asks)

  -- the first register may be written
  pub first_holds : CanHold c r
  first_holds = variable_needs area s (suc at) (length args.now - 0) c begun (omega (arith, two)) r p.first_is

  module _ (x : Cell) (x_is : drop 0 args.now ≡ x ∷ drop 1 args.now) (x_own : IsCell s x) (c1 : Contents)
      (w1 : IsWritten (registers_of c) r x (registers_of c1)) (same1 : IsSameBehind c c1) (slots1 : length c1.slots ≡ length c.slots) where
    abbrev start : ReadPosition
    start = record { at = suc at; next = 0 }

    abbrev middle : ReadPosition
    middle = record { at = suc (suc at); next = 1 }

    abbrev end : ReadPosition
    end = record { at = suc (suc (suc at)); next = 2 }

    one : IsReadTo area args.now s [] start c s [] middle c1
    one = reads_variable area args.now s [] (suc at) 0 c begun (omega (arith, two)) both_own (All-nil (IsTouchBelow _)) x x_is r p.first_is x_own c1 w1 same1 slots1 middle refl refl

    -- and the second one behind it
    pub second_holds : CanHold c1 q
    second_holds = variable_needs area s (suc (suc at)) (length args.now - 1) c1 one.safe (omega (arith, two)) q p.second_is

    -- Both are read.
    pub pair_read : (y : Cell) → drop 1 args.now ≡ y ∷ drop 2 args.now → IsCell s y → (c2 : Contents) → IsWritten (registers_of c1) q y (registers_of c2)
        → IsSameBehind c1 c2 → length c2.slots ≡ length c1.slots → IsPairRead area s at c c2 (suc (suc (suc at)))
    pair_read y y_is y_own c2 w2 same2 slots2 =
        let next : IsReadTo area args.now s [] middle c1 s [] end c2 = reads_variable area args.now s [] (suc (suc at)) 1 c1 one.safe (omega (arith, two))
        one.own (All-nil (IsTouchBelow _)) y y_is q p.second_is y_own c2 w2 same2 slots2 end refl refl in
        let all = read_both area args.now s [] start c s [] middle c1 one s [] end c2 next in
        let k = sees.2 in
        let g = get_read area s at c safe f 2 1 p.asks sees.0 sees.1 (suc at) refl s c2 f args.now k.0 k.1 k.2 k.3 refl two args.now refl [] refl {E = NoMemory} (Ok (On (suc (suc (suc at)))))
        (looked_all area args.now s start c end c2 all (omega (arith, two))) in
        record { name = f; asks = p.asks; safe = g.0; stands = g.1; leads = g.2; behind = g.3 }
