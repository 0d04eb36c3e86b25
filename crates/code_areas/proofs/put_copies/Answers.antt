use Rattle.std.proofs.Common.{◌++◌, ◌∷◌, [], ap, ◌∙◌, arith}
use Rattle.code_areas.proofs.CopiedPlaces.{copied_more}
use Rattle.code_areas.proofs.put_copies.Goals as goal

pub loop-at-preserved : goal.loop-at-preserved
loop-at-preserved c =
    let l = c.loop-at in
    let i = l.invariant in
    let more = copied_more c.args.places.now.items l.places.items c.args.start l.at c.index-place.result.now i.0 i.1 (omega (arith, c.requires.end, c.requires.order, i.2, c.loop-at-test.true)) in (
      c.push_reserved.ensures.items ∙ ap (λ x. l.places.items ++ x ∷ []) c.index-place.ensures ∙ more,
      (omega (arith, i.1)),
      (omega (arith, c.loop-at-test.true)),
      (let a = c.push_reserved.ensures.len in let b = c.push_reserved.ensures.capacity in let k = i.3 in
          let t = c.loop-at-test.true in omega (arith, a, b, k, t)),
      (let b = c.push_reserved.ensures.capacity in let k = i.4 in omega (arith, b, k)),
    )
