use Rattle.std.proofs.Common.{List, [], ◌∷◌, ◌+◌, drop, get_or, ap, subst}
use Rattle.std.proofs.lemmas.List.{drop_more}
use Rattle.fd_language.specs.Range.{Indexical}
use Rattle.fd_model.specs.ListRows.{differs, against}
use Rattle.constraint_expand.proofs.DifferentVariables.{Posting, posting_turns}
use Rattle.constraint_expand.proofs.differences.post_against.Goals as goal

pub loop-other-preserved : goal.loop-other-preserved
loop-other-preserved c =
    let x = c.args.variable in
    let ys = c.args.others.now in
    let i = c.loop-other.other-index in
    let y = get_or ys i 0 in
    let rest = against x (drop (i + 1) ys) in
    let start = c.args.list.now.items in
    let next = ap (against x) (drop_more ys i 0 c.loop-other-test.true) in
    let here = subst (λ (ps : List Indexical). Posting (against x ys) start c.loop-other.list.items ps) next c.loop-other.invariant in
    posting_turns (against x ys) start c.post_differs.new.list.items c.post_differs-in-loop-other.new.list.items (differs y x ∷ []) rest
    (posting_turns (against x ys) start c.loop-other.list.items c.post_differs.new.list.items (differs x y ∷ []) (differs y x ∷ rest) here c.in_ok-post_differs.ensures) c.in_ok-post_differs-2.ensures
