use Rattle.std.proofs.Common.{◌≡◌, ◌↔◌, IsTrue, length, subst, arith}
use Rattle.fd_language.specs.Family.{has}
use Rattle.wam_code.specs.Area.{area_of}
use Rattle.code_text.specs.Predecessors.{IsNamedPlainly}
use Rattle.code_text.proofs.place_predecessors.plain_places.Goals as goal

pub returns : goal.returns
returns c =
    let a = area_of c.args.parts.now in
    let all : c.loop-at.at ≡ length a.code = omega (arith, c.loop-at-test.false) in
    λ p. subst (λ n. IsTrue (has c.loop-at.named.items p) ↔ IsNamedPlainly a n p) all (c.loop-at.invariant p)
