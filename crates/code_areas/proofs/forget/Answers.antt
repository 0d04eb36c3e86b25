use Rattle.std.proofs.Common.{◌≡◌, ℕ, ◌+◌, ◌-◌, [], ◌∷◌, ◌++◌, take, replicate, ap, ◌∙◌, arith}
use Rattle.std.proofs.lemmas.List.{take_more_set, append_assoc, replicate_more, length-set}
use Rattle.code_areas.specs.Areas.{Places, nothing_held}
use Rattle.code_areas.proofs.forget.Goals as goal

pub loop-at-preserved : goal.loop-at-preserved
loop-at-preserved c =
    let l = c.loop-at in
    let i = l.invariant in
    let t = c.loop-at-test.true in
    let low = i.1 in
    let long = i.3 in
    let there = c.requires.there in
    let front = take c.args.start c.args.places.now in
    let many : l.at - c.args.start + 1 ≡ l.at + 1 - c.args.start = omega (arith, low) in (
      take_more_set l.places l.at c.unset.result (omega (arith, t, long, there))
          ∙ ap (λ v. take l.at l.places ++ v ∷ []) c.unset.ensures
          ∙ ap (λ (xs : Places). xs ++ nothing_held ∷ []) i.0
          ∙ append_assoc front (replicate (l.at - c.args.start) nothing_held) (nothing_held ∷ [])
          ∙ ap (λ xs. front ++ xs) (replicate_more (l.at - c.args.start) nothing_held ∙ ap (λ (n : ℕ). replicate n nothing_held) many),
      (omega (arith, low)),
      (omega (arith, t)),
      length-set l.places l.at c.unset.result ∙ long,
    )
