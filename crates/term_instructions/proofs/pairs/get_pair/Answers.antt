use Rattle.std.proofs.Common.{◌≡◌, ◌<◌, ℕ, suc, length, ap, sym, ◌∙◌, subst, arith}
use Rattle.std.proofs.Math.Seq.{drop-cons}
use Rattle.heap_cells.specs.declared.Seen.TheVariants as seen
use Rattle.wam_code.specs.declared.instruction.Code.TheVariants.{UnifyVariable}
use Rattle.code_safety.proofs.Lemmas.{place_within, within_code}
use Rattle.code_safety.specs.Safety.{FirstIsSeen}
use Rattle.term_instructions.specs.Pairs.{IsPairRead}
use Rattle.term_instructions.proofs.PairSteps.{both_own, second_holds, pair_read}
use Rattle.term_instructions.proofs.pairs.get_pair.Goals as goal

pub write-requires-2 : goal.write-requires-2
write-requires-2 g c =
    let sees : FirstIsSeen c.args.branch.now c.args.areas.now (seen.Struct c.in-Struct.name c.in-Struct.args) = subst (FirstIsSeen c.args.branch.now c.args.areas.now) c.in-Struct.is c.requires.seen in
    let two : length c.in-Struct.args.now ≡ 2 = c.if-args-ne2.false in
    let w = c.in_ok-write.ensures in
    second_holds c.args.code.now c.args.branch.now c.args.at c.args.areas.now c.requires.safe c.in-Struct.name c.in-Struct.args sees two c.in-Some.first c.in-Some.second c.in-Some.ensures
    _ (drop-cons c.in-Struct.args.now 0 _ (omega (arith, two)))
    (both_own c.args.code.now c.args.branch.now c.args.at c.args.areas.now c.requires.safe c.in-Struct.name c.in-Struct.args sees two c.in-Some.first
    c.in-Some.second c.in-Some.ensures 0 _ (omega (arith, two)))
    c.write.new.areas w.written w.same w.slots

pub behind-requires : goal.behind-requires
behind-requires g c = place_within c.args.code.now c.args.branch.now c.args.at 0 c.args.areas.now c.requires.safe

pub behind-last-requires : goal.behind-last-requires
behind-last-requires g c =
    subst (λ n. n < length c.args.code.now.code) (sym c.behind.ensures) (within_code c.args.code.now (suc c.args.at) (UnifyVariable c.in-Some.first) c.in-Some.ensures.first_is)

pub behind-requires-2 : goal.behind-requires-2
behind-requires-2 g c =
    subst (λ n. n < length c.args.code.now.code) (sym (c.behind-last.ensures ∙ ap suc c.behind.ensures))
    (within_code c.args.code.now (suc (suc c.args.at)) (UnifyVariable c.in-Some.second) c.in-Some.ensures.second_is)

pub returns : goal.returns
returns g c =
    let sees : FirstIsSeen c.args.branch.now c.args.areas.now (seen.Struct c.in-Struct.name c.in-Struct.args) = subst (FirstIsSeen c.args.branch.now c.args.areas.now) c.in-Struct.is c.requires.seen in
    let two : length c.in-Struct.args.now ≡ 2 = c.if-args-ne2.false in
    let w = c.in_ok-write.ensures in
    let v = c.in_ok-write-2.ensures in
    subst (IsPairRead c.args.code.now c.args.branch.now c.args.at c.args.areas.now c.write-2.new.areas)
    (sym (c.behind-2.ensures ∙ ap suc c.behind-last.ensures ∙ ap (λ (n : ℕ). suc (suc n)) c.behind.ensures))
    (pair_read c.args.code.now c.args.branch.now c.args.at c.args.areas.now c.requires.safe c.in-Struct.name c.in-Struct.args sees two c.in-Some.first c.in-Some.second c.in-Some.ensures
    _ (drop-cons c.in-Struct.args.now 0 _ (omega (arith, two)))
    (both_own c.args.code.now c.args.branch.now c.args.at c.args.areas.now c.requires.safe c.in-Struct.name c.in-Struct.args sees two c.in-Some.first
    c.in-Some.second c.in-Some.ensures 0 _ (omega (arith, two)))
    c.write.new.areas w.written w.same w.slots
    _ (drop-cons c.in-Struct.args.now 1 _ (omega (arith, two)))
    (both_own c.args.code.now c.args.branch.now c.args.at c.args.areas.now c.requires.safe c.in-Struct.name c.in-Struct.args sees two c.in-Some.first
    c.in-Some.second c.in-Some.ensures 1 _ (omega (arith, two)))
    c.write-2.new.areas v.written v.same v.slots)
