use Rattle.std.proofs.Common.{◌≡◌, [], ◌∷◌, ◌++◌, pos, get_or, rules, sym, subst, FitsSigned}
use Rattle.std.specs.Prelude.{IsTrue, OnOk}
use Rattle.std.specs.Int.{w64}
use Rattle.std.proofs.lemmas.Int.{to_z-of_z}
use Rattle.fd_language.specs.Range.{Range}
use Rattle.fd_language.specs.RangeVerdict.{is_accepted}
use Rattle.fd_language.specs.declared.TheConstants.{INFINITY}
use Rattle.fd_model.specs.ListRows.{union_of}
use Rattle.constraint_expand.specs.Unions.{given_from}
use Rattle.constraint_expand.proofs.RowPosts.{spelled_back}
use Rattle.constraint_expand.proofs.Unions.{union_written}
use Rattle.constraint_expand.proofs.elements.post_union.Goals as goal

pub post-requires-clause-spelled : goal.post-requires-clause-spelled
post-requires-clause-spelled c =
    let zs = c.args.elements.now in
    let ns = c.in_ok-nodes-in-len1-up.nodes.items in
    let fits : FitsSigned w64 (get_or zs 0 (pos 0)) = search rules in
    (spelled_back ns (union_of (given_from c.args.direction c.args.variable 1 zs))
    (union_written c.args.direction c.args.variable zs ns _ c.in-len1-up.len_at_least (to_z-of_z w64 (get_or zs 0 (pos 0)) fits)
    c.in_ok-nodes-in-len1-up.ensures)).0

pub post-requires-clause-accepted : goal.post-requires-clause-accepted
post-requires-clause-accepted c =
    let zs = c.args.elements.now in
    let ns = c.in_ok-nodes-in-len1-up.nodes.items in
    let fits : FitsSigned w64 (get_or zs 0 (pos 0)) = search rules in
    let b = spelled_back ns (union_of (given_from c.args.direction c.args.variable 1 zs))
    (union_written c.args.direction c.args.variable zs ns _ c.in-len1-up.len_at_least (to_z-of_z w64 (get_or zs 0 (pos 0)) fits)
    c.in_ok-nodes-in-len1-up.ensures) in
    subst (λ (r : Range). IsTrue (is_accepted INFINITY r)) (sym b.1) c.requires.0

pub returns-in_ok-nodes-in-len1-up : goal.returns-in_ok-nodes-in-len1-up
returns-in_ok-nodes-in-len1-up c =
    let zs = c.args.elements.now in
    let ns = c.in_ok-nodes-in-len1-up.nodes.items in
    let fits : FitsSigned w64 (get_or zs 0 (pos 0)) = search rules in
    let b = spelled_back ns (union_of (given_from c.args.direction c.args.variable 1 zs))
    (union_written c.args.direction c.args.variable zs ns _ c.in-len1-up.len_at_least (to_z-of_z w64 (get_or zs 0 (pos 0)) fits)
    c.in_ok-nodes-in-len1-up.ensures) in
    subst (λ (r : Range). OnOk c.post.result (c.post.new.list.items ≡ c.args.list.now.items ++ (c.args.target, r) ∷ [])) b.1 c.post.ensures
