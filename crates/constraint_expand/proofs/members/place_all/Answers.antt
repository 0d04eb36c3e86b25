use Rattle.std.proofs.Common.{◌+◌, List, map, drop, get_or, ap, sym, subst, ◌∙◌, arith}
use Rattle.std.proofs.lemmas.List.{drop_more}
use Rattle.fd_model.specs.Members as def
use Rattle.fd_model.specs.Members.{fresh_after}
use Rattle.constraint_expand.specs.declared.members.Member.TheVariants.{Open}
use Rattle.constraint_expand.specs.Lists.{member_of, Placing}
use Rattle.constraint_expand.proofs.MemberVariables.{place_fits, placing_turns}
use Rattle.constraint_expand.proofs.members.place_all.Goals as goal

pub place-requires : goal.place-requires
place-requires c =
    let ms = c.args.members.now in
    let i = c.loop-member.member-index in
    let next = ap (map member_of) (drop_more ms i (Open 0) c.loop-member-test.true) in
    let fits = place_fits c.loop-member.placed.fresh (fresh_after c.args.fresh (map member_of ms)) (member_of (get_or ms i (Open 0)))
    (map member_of (drop (i + 1) ms)) (ap (fresh_after c.loop-member.placed.fresh) (sym next) ∙ c.loop-member.invariant.fresh) in
    omega (arith, fits, c.requires)

pub loop-member-preserved : goal.loop-member-preserved
loop-member-preserved c =
    let ms = c.args.members.now in
    let i = c.loop-member.member-index in
    let next = ap (map member_of) (drop_more ms i (Open 0) c.loop-member-test.true) in
    placing_turns c.args.fresh (map member_of ms) c.loop-member.placed c.place.new.self (member_of (get_or ms i (Open 0))) (map member_of (drop (i + 1) ms))
    (subst (λ (ks : List def.Member). Placing c.args.fresh (map member_of ms) c.loop-member.placed ks) next c.loop-member.invariant) c.in_ok-place.ensures
