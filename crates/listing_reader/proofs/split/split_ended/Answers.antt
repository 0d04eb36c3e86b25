use Rattle.std.proofs.Common.{rules, ◌≡◌, ◌∙◌, ◌++◌, ◌-◌, ◌+◌, ◌≤◌, Bor, Fits, List, ℕ, ap, drop, length, map, refl, take, w64, arith}
use Rattle.listing_reader.proofs.Loops.{part_more, split_end, split_here, tail_short}
use Rattle.listing_reader.proofs.split.split_ended.Goals as goal

pub overflow_add-rest : goal.overflow_add-rest
overflow_add-rest c =
    let h = c.in-Some.ensures.0.high in
    let k = c.loop-at.invariant.shorter in
    let t : Fits w64 (length c.args.text.now) = search rules in
    omega (arith, h, k, t)

pub loop-at-preserved : goal.loop-at-preserved
loop-at-preserved c =
    let m = c.in-Some.ensures in
    let rest = c.loop-at.rest.now in
    let at = c.in-Some.at in
    record {
      parts = part_more (λ (w : Bor (List ℕ)). w.now) c.args.separator c.args.text.now rest (take (length rest - (at + 1)) (drop (at + 1) rest)) (take at rest)
          c.loop-at.found.items c.push.new.self.items _ c.in_ok-push.ensures.items refl
          (split_here c.args.separator rest at m.0.high m.0.before m.1) c.loop-at.invariant.parts;
      shorter = (let a = tail_short (length rest - (at + 1)) (at + 1) rest in let b = c.loop-at.invariant.shorter in omega (arith, a, b));
    }

pub returns : goal.returns
returns c = c.loop-at.invariant.parts ∙ ap (λ (l : List (List ℕ)). map (λ (w : Bor (List ℕ)). w.now) c.loop-at.found.items ++ l) (split_end c.args.separator c.loop-at.rest.now c.in_default.ensures)
