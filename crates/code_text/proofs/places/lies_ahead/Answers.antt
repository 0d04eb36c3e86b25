use Rattle.std.proofs.Common.{rules, ◌≡◌, ◌∙◌, ◌+◌, ◌<◌, suc, IsTrue, false, true, refl, sym, ap, length, arith}
use Rattle.std.proofs.lemmas.Option.{slice_get_read}
use Rattle.fd_language.specs.Family.{has}
use Rattle.wam_code.specs.Area.{Holds, area_of}
use Rattle.wam_code.specs.VerifiedCode.{named, goes_on}
use Rattle.code_text.specs.Places.{LiesAhead}
use Rattle.code_text.proofs.PlaceConditions.{ahead_is, ahead_named, ahead_next, not_so, failed}
use Rattle.code_text.proofs.places.lies_ahead.Goals as goal

pub returns-then-not-has_next : goal.returns-then-not-has_next
returns-then-not-has_next c =
    let a = area_of c.args.parts.now in
    let at = c.args.at in
    let i = c.index-code.result.now in
    let h : Holds a at i = slice_get_read a.code (length a.code) at i refl c.requires c.index-code.ensures in
    let f : c.has_next.result ≡ false = search rules in
    not_so (LiesAhead a at) (λ l. failed c.has_next.result (IsTrue (goes_on i) → at + 1 < length a.code) c.has_next.ensures f
    (λ t. (let z : suc at < length a.code = ahead_next a at i h l t in let w : at + 1 < length a.code = omega (arith, z) in w)))

pub returns : goal.returns
returns c =
    let a = area_of c.args.parts.now in
    let at = c.args.at in
    let i = c.index-code.result.now in
    let h : Holds a at i = slice_get_read a.code (length a.code) at i refl c.requires c.index-code.ensures in
    let t : c.has_next.result ≡ true = search rules in
    let size : c.len.result ≡ length a.code = search rules in
    let ns = c.deref.result.now in
    let is : ns ≡ named a i = c.deref.ensures.value ∙ c.in_ok-named.ensures in (
      λ b. ahead_is a at i h (λ g. (let z : at + 1 < length a.code = c.has_next.ensures.0 t g in let w : suc at < length a.code = omega (arith, z) in
          w)) (λ to x. (let g = c.are_ahead-is_ahead.ensures.0 b to (ap (λ l. has l to) is ∙ x) in let z : to < length a.code = omega (arith, g.1, size) in
          (g.0, z))),
      λ l. c.are_ahead-is_ahead.ensures.1 (λ to x. (let g = ahead_named a at i h l to (ap (λ l. has l to) (sym is) ∙ x) in let z : to < c.len.result = omega (arith, g.1, size) in (g.0, z))),
    )
