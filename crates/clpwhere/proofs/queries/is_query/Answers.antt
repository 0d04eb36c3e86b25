use Rattle.std.proofs.Common.{◌≡◌, ◌∙◌, inl, inr, true, sym, ap, arith}
use Rattle.std.specs.Prelude.{codes}
use Rattle.std.specs.Str.{bytes_eq}
use Rattle.term_pool.specs.PoolInvariant.{shape_of}
use Rattle.clpwhere.proofs.QueryPlaces.{bare_seen, is_bare, more_seen, none_seen, one_seen}
use Rattle.clpwhere.proofs.queries.is_query.Goals as goal

pub returns-in-Var : goal.returns-in-Var
returns-in-Var c =
    let bare : is_bare (shape_of c.view.result) ≡ true = elim c.in-Var.is [
      | inl x ↦ ap (λ n. is_bare (shape_of n)) x.1
      | inr r ↦ elim r [ inl z ↦ ap (λ n. is_bare (shape_of n)) z.1 | inr a ↦ ap (λ n. is_bare (shape_of n)) a.1 ]
    ] in
    sym (bare_seen c.args.pool.now c.args.term (shape_of c.view.result) c.view.ensures.valid c.requires c.view.ensures.shape bare)

pub returns-in-Comp-default-len1 : goal.returns-in-Comp-default-len1
returns-in-Comp-default-len1 c =
    let arm = c.in-Comp-default-len1 in
    c.eq.ensures ∙ ap (λ l. bytes_eq l (codes "?-")) c.name_of.ensures.name
    ∙ sym (one_seen c.args.pool.now c.args.term arm.name arm.field-1.now arm.ensures.valid c.requires arm.ensures.shape (omega (arith, arm.len_at_least, arm.len_below)))

pub returns-in-Comp : goal.returns-in-Comp
returns-in-Comp c =
    let arm = c.in-Comp in
    sym (none_seen c.args.pool.now c.args.term arm.field-0 arm.field-1.now arm.ensures.valid c.requires arm.ensures.shape arm.len_below)

pub returns-in-Comp-2 : goal.returns-in-Comp-2
returns-in-Comp-2 c =
    let arm = c.in-Comp in
    sym (more_seen c.args.pool.now c.args.term arm.field-0 arm.field-1.now arm.ensures.valid c.requires arm.ensures.shape arm.len_at_least)
