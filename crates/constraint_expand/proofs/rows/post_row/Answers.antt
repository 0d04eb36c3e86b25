use Rattle.std.proofs.Common.{◌≡◌, ℕ, ℤ, ap, rules, FitsSigned, ◌++◌, [], ◌∷◌, pos, sym, subst, ◌∙◌}
use Rattle.std.specs.Prelude.{IsTrue, OnOk}
use Rattle.std.specs.Int.{w64}
use Rattle.std.proofs.lemmas.List.{get_or_default}
use Rattle.fd_language.specs.Range.{Range}
use Rattle.fd_language.specs.RangeVerdict.{is_accepted}
use Rattle.fd_language.specs.declared.TheConstants.{INFINITY}
use Rattle.constraint_expand.specs.Nodes.{product_at, row_at}
use Rattle.constraint_expand.proofs.RowPosts.{spelled_back, has_straight, has_turned, straight_nodes, turned_nodes, sign_below, sign_above}
use Rattle.constraint_expand.proofs.rows.post_row.Goals as goal

pub row_nodes-requires-clause-lower : goal.row_nodes-requires-clause-lower
row_nodes-requires-clause-lower c =
    let s = c.args.straight.now in
    let i = c.args.index in
    let same : c.index.result.now ≡ product_at s i = c.index.ensures ∙ get_or_default s.terms.items i c.index.result.now (0, pos 0) c.requires.sides.within in
    let fits : FitsSigned w64 c.index.result.now.1 = search rules in
    let h = sign_below c.index.result.now.1 (product_at s i).1 fits c.if-coefficient-lt0.true (ap (λ (t : ℕ × ℤ). t.1) same) in
    (has_turned c.args.comparison s c.args.turned.now i c.requires.sides h).0

pub row_nodes-requires-clause-upper : goal.row_nodes-requires-clause-upper
row_nodes-requires-clause-upper c =
    let s = c.args.straight.now in
    let i = c.args.index in
    let same : c.index.result.now ≡ product_at s i = c.index.ensures ∙ get_or_default s.terms.items i c.index.result.now (0, pos 0) c.requires.sides.within in
    let fits : FitsSigned w64 c.index.result.now.1 = search rules in
    let h = sign_below c.index.result.now.1 (product_at s i).1 fits c.if-coefficient-lt0.true (ap (λ (t : ℕ × ℤ). t.1) same) in
    (has_turned c.args.comparison s c.args.turned.now i c.requires.sides h).1

pub post-requires-clause-spelled : goal.post-requires-clause-spelled
post-requires-clause-spelled c =
    let k = c.args.comparison in
    let s = c.args.straight.now in
    let i = c.args.index in
    let same : c.index.result.now ≡ product_at s i = c.index.ensures ∙ get_or_default s.terms.items i c.index.result.now (0, pos 0) c.requires.sides.within in
    let fits : FitsSigned w64 c.index.result.now.1 = search rules in
    let h = sign_below c.index.result.now.1 (product_at s i).1 fits c.if-coefficient-lt0.true (ap (λ (t : ℕ × ℤ). t.1) same) in
    (spelled_back c.in_ok-nodes.nodes.items (row_at k s i).range (c.in_ok-nodes.ensures ∙ turned_nodes k s c.args.turned.now i c.requires.sides h)).0

pub post-requires-clause-accepted : goal.post-requires-clause-accepted
post-requires-clause-accepted c =
    let k = c.args.comparison in
    let s = c.args.straight.now in
    let i = c.args.index in
    let same : c.index.result.now ≡ product_at s i = c.index.ensures ∙ get_or_default s.terms.items i c.index.result.now (0, pos 0) c.requires.sides.within in
    let fits : FitsSigned w64 c.index.result.now.1 = search rules in
    let h = sign_below c.index.result.now.1 (product_at s i).1 fits c.if-coefficient-lt0.true (ap (λ (t : ℕ × ℤ). t.1) same) in
    let b = spelled_back c.in_ok-nodes.nodes.items (row_at k s i).range (c.in_ok-nodes.ensures ∙ turned_nodes k s c.args.turned.now i c.requires.sides h) in
    subst (λ (r : Range). IsTrue (is_accepted INFINITY r)) (sym b.1) c.requires.accepted.0

pub returns-in_ok-nodes : goal.returns-in_ok-nodes
returns-in_ok-nodes c =
    let k = c.args.comparison in
    let s = c.args.straight.now in
    let i = c.args.index in
    let same : c.index.result.now ≡ product_at s i = c.index.ensures ∙ get_or_default s.terms.items i c.index.result.now (0, pos 0) c.requires.sides.within in
    let fits : FitsSigned w64 c.index.result.now.1 = search rules in
    let h = sign_below c.index.result.now.1 (product_at s i).1 fits c.if-coefficient-lt0.true (ap (λ (t : ℕ × ℤ). t.1) same) in
    let b = spelled_back c.in_ok-nodes.nodes.items (row_at k s i).range (c.in_ok-nodes.ensures ∙ turned_nodes k s c.args.turned.now i c.requires.sides h) in
    subst (λ (t : ℕ). OnOk c.post.result (c.post.new.list.items ≡ c.args.list.now.items ++ (t, (row_at k s i).range) ∷ [])) (ap (λ (t : ℕ × ℤ). t.0) same)
    (subst (λ (r : Range). OnOk c.post.result (c.post.new.list.items ≡ c.args.list.now.items ++ (c.index.result.now.0, r) ∷ [])) b.1 c.post.ensures)

pub row_nodes-requires-else-coefficient-lt0-clause-lower : goal.row_nodes-requires-else-coefficient-lt0-clause-lower
row_nodes-requires-else-coefficient-lt0-clause-lower c = (has_straight c.args.comparison c.args.straight.now c.args.turned.now c.args.index c.requires.sides).0

pub row_nodes-requires-else-coefficient-lt0-clause-upper : goal.row_nodes-requires-else-coefficient-lt0-clause-upper
row_nodes-requires-else-coefficient-lt0-clause-upper c = (has_straight c.args.comparison c.args.straight.now c.args.turned.now c.args.index c.requires.sides).1

pub post-requires-else-coefficient-lt0-clause-spelled : goal.post-requires-else-coefficient-lt0-clause-spelled
post-requires-else-coefficient-lt0-clause-spelled c =
    let k = c.args.comparison in
    let s = c.args.straight.now in
    let i = c.args.index in
    let same : c.index.result.now ≡ product_at s i = c.index.ensures ∙ get_or_default s.terms.items i c.index.result.now (0, pos 0) c.requires.sides.within in
    let fits : FitsSigned w64 c.index.result.now.1 = search rules in
    let h = sign_above c.index.result.now.1 (product_at s i).1 fits c.if-coefficient-lt0.false (ap (λ (t : ℕ × ℤ). t.1) same) in
    (spelled_back c.in_ok-nodes-2.nodes.items (row_at k s i).range (c.in_ok-nodes-2.ensures ∙ straight_nodes k s c.args.turned.now i c.requires.sides h)).0

pub post-requires-else-coefficient-lt0-clause-accepted : goal.post-requires-else-coefficient-lt0-clause-accepted
post-requires-else-coefficient-lt0-clause-accepted c =
    let k = c.args.comparison in
    let s = c.args.straight.now in
    let i = c.args.index in
    let same : c.index.result.now ≡ product_at s i = c.index.ensures ∙ get_or_default s.terms.items i c.index.result.now (0, pos 0) c.requires.sides.within in
    let fits : FitsSigned w64 c.index.result.now.1 = search rules in
    let h = sign_above c.index.result.now.1 (product_at s i).1 fits c.if-coefficient-lt0.false (ap (λ (t : ℕ × ℤ). t.1) same) in
    let b = spelled_back c.in_ok-nodes-2.nodes.items (row_at k s i).range (c.in_ok-nodes-2.ensures ∙ straight_nodes k s c.args.turned.now i c.requires.sides h) in
    subst (λ (r : Range). IsTrue (is_accepted INFINITY r)) (sym b.1) c.requires.accepted.0

pub returns-in_ok-nodes-2 : goal.returns-in_ok-nodes-2
returns-in_ok-nodes-2 c =
    let k = c.args.comparison in
    let s = c.args.straight.now in
    let i = c.args.index in
    let same : c.index.result.now ≡ product_at s i = c.index.ensures ∙ get_or_default s.terms.items i c.index.result.now (0, pos 0) c.requires.sides.within in
    let fits : FitsSigned w64 c.index.result.now.1 = search rules in
    let h = sign_above c.index.result.now.1 (product_at s i).1 fits c.if-coefficient-lt0.false (ap (λ (t : ℕ × ℤ). t.1) same) in
    let b = spelled_back c.in_ok-nodes-2.nodes.items (row_at k s i).range (c.in_ok-nodes-2.ensures ∙ straight_nodes k s c.args.turned.now i c.requires.sides h) in
    subst (λ (t : ℕ). OnOk c.post-else-coefficient-lt0.result (c.post-else-coefficient-lt0.new.list.items ≡ c.args.list.now.items ++ (t, (row_at k s i).range) ∷ [])) (ap (λ (t : ℕ × ℤ). t.0) same)
    (subst (λ (r : Range). OnOk c.post-else-coefficient-lt0.result (c.post-else-coefficient-lt0.new.list.items ≡ c.args.list.now.items
    ++ (c.index.result.now.0, r) ∷ [])) b.1 c.post-else-coefficient-lt0.ensures)
