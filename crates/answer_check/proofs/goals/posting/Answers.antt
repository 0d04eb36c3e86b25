use Rattle.std.proofs.Common.{◌≡◌, ◌∙◌, sym, subst, refl, Some}
use Rattle.fd_language.specs.declared.TheConstants.{INFINITY}
use Rattle.fd_language.specs.Spelling.{read_range}
use Rattle.term_pool.specs.PlacedTerms.{placed_of}
use Rattle.term_pool.specs.Terms.{term_of}
use Rattle.answer_check.specs.FlatForm.{is_flat_range}
use Rattle.answer_check.specs.Goals.{KeepsRange}
use Rattle.answer_check.specs.Members.{member_in}
use Rattle.answer_check.proofs.Constraints.{post_test, post_says}
use Rattle.answer_check.proofs.goals.posting.Goals as goal

pub returns-in-Some-2 : goal.returns-in-Some-2
returns-in-Some-2 c =
    let x = placed_of c.args.pool.now c.args.range in
    let t = term_of c.args.pool.now c.args.target in
    let r = (read_range INFINITY x).tree in
    let k = subst (KeepsRange x) c.in-Some-2.is c.in_ok-range.ensures in
    let e : member_in t ≡ Some c.in-Some.target = sym c.member_of.ensures ∙ c.in-Some.is in
    (post_test t c.in-Some.target (is_flat_range INFINITY x r) e k.0, post_says x t c.in-Some.target r c.in-Some-2.range e k.1 refl k.0)
