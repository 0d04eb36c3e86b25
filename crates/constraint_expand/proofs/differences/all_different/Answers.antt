use Rattle.std.proofs.Common.{◌≡◌, ℕ, ◌<◌, ◌^◌, ◌++◌, List, map, sym, subst, ◌∙◌}
use Rattle.fd_model.specs.ListRows.{different_ranges, pairwise}
use Rattle.fd_model.specs.Members.{fresh_after}
use Rattle.term_pool.specs.Terms.{term_of}
use Rattle.constraint_expand.specs.declared.members.Member.{Member}
use Rattle.constraint_expand.specs.Lists.{member_of, AllPlaced}
use Rattle.constraint_expand.specs.Posts.{indexicals}
use Rattle.constraint_expand.proofs.DifferentVariables.{different_expands, different_ends}
use Rattle.constraint_expand.proofs.differences.all_different.Goals as goal

pub place_all-requires : goal.place_all-requires
place_all-requires c =
    subst (λ (ms : List Member). fresh_after c.args.fresh (map member_of ms) < 2 ^ 64) (sym c.deref.ensures.value)
    (different_ends (term_of c.args.pool.now c.args.list) c.args.fresh (map member_of c.in_ok-members.members.items) c.in_ok-members.ensures c.requires.ends)

pub returns : goal.returns
returns c =
    different_expands (term_of c.args.pool.now c.args.list) c.args.fresh (map member_of c.in_ok-members.members.items) c.in_ok-placed.placed c.differing.result c.in_ok-members.ensures
    (subst (λ (ms : List Member). AllPlaced c.args.fresh (map member_of ms) c.in_ok-placed.placed) c.deref.ensures.value c.in_ok-placed.ensures)
    c.differing.ensures.equated
    (c.differing.ensures.ranges ∙ sym (subst (λ (xs : List ℕ). different_ranges xs ≡ pairwise xs ++ indexicals c.in_ok-rest.rest.items) c.deref-2.ensures.value c.in_ok-rest.ensures))
    c.differing.ensures.fresh
