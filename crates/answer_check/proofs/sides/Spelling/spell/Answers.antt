use Rattle.std.proofs.Common.{rules, ◌≡◌, ◌∙◌, ◌<◌, ◌≤◌, ℕ, pos, [], length, get_or, arith, ap, sym, refl, true, subst, codes, FitsSigned}
use Rattle.std.specs.Prelude.{nat_abs}
use Rattle.std.specs.Int.{w64}
use Rattle.std.proofs.lemmas.Int.{to_z-of_z}
use Rattle.fd_language.specs.Range.{Number, Val}
use Rattle.fd_language.specs.Term.{Var, Int, Comp}
use Rattle.term_pool.specs.declared.Node.{Node}
use Rattle.term_pool.specs.declared.TermId.{TermId}
use Rattle.term_pool.specs.Contents.{atom_name}
use Rattle.term_pool.specs.Terms.{term_of, terms_by, shape_term}
use Rattle.term_pool.specs.PoolInvariant.{IsStorable, shape_of}
use Rattle.term_pool.proofs.Lemmas.{one_part, two_parts, term_is_storable}
use Rattle.answer_check.specs.declared.sides.Task.TheVariants as task
use Rattle.answer_check.specs.declared.sides.Width.{Width}
use Rattle.answer_check.specs.Sides.{alone, operator_in, Applies, IsDone}
use Rattle.answer_check.proofs.SideTerms.{done_at_once, done_alone, many_not_flat, minus_done, none_done, operator_done, weaker}
use Rattle.answer_check.proofs.sides.Spelling.spell.Goals as goal

pub returns-in-Var : goal.returns-in-Var
returns-in-Var c =
    let pool = c.args.pool.now in
    let t = c.args.t in
    let old = c.args.self.now in
    let new = c.put_alone.new.self in
    let ahead = c.args.ahead.now.items in
    let e = Val c.in-Var.variable in
    weaker (Applies (alone e) old new) (IsDone pool (task.Spell t) old ahead new ahead) c.put_alone.result
    (λ b h. done_at_once pool (task.Spell t) old new ahead (alone e) b (done_alone pool t e (Var c.in-Var.variable) c.in-Var.ensures.term refl refl) h) (c.put_alone.ensures e refl refl)

pub returns-in-Int : goal.returns-in-Int
returns-in-Int c =
    let pool = c.args.pool.now in
    let t = c.args.t in
    let old = c.args.self.now in
    let new = c.put_alone-in-Int.new.self in
    let ahead = c.args.ahead.now.items in
    let z = c.in-Int.integer in
    let e = Number z in
    let fits : FitsSigned w64 z = subst IsStorable c.in-Int.ensures.term (term_is_storable pool c.in-Int.ensures.valid t c.requires) in
    let most : c.unsigned_abs.result ≡ nat_abs z = subst (λ y. c.unsigned_abs.result ≡ nat_abs y) (to_z-of_z w64 z fits) c.unsigned_abs.ensures.value in
    let put = simp to_z-of_z at c.put_alone-in-Int.ensures in
    weaker (Applies (alone e) old new) (IsDone pool (task.Spell t) old ahead new ahead) c.put_alone-in-Int.result
    (λ b h. done_at_once pool (task.Spell t) old new ahead (alone e) b (done_alone pool t e (Int z) c.in-Int.ensures.term refl refl) h)
    (put e refl (ap (λ (n : ℕ). let w : Width = record { most = n; is_ground = true } in w) (sym most)))

pub returns-in_ok-extend_from_slice-in-Comp-default-len1 : goal.returns-in_ok-extend_from_slice-in-Comp-default-len1
returns-in_ok-extend_from_slice-in-Comp-default-len1 c =
    let pool = c.args.pool.now in
    let t = c.args.t in
    let arm = c.in-Comp-default-len1 in
    let ids = arm.field-1.now in
    let old = c.args.self.now in
    let new = c.put_alone-in-Comp-default-len1.new.self in
    let ahead = c.args.ahead.now.items in
    let new_ahead = c.extend_from_slice.new.self.items in
    let f : atom_name pool arm.name ≡ codes "-" = search rules in
    let d : TermId = record { number = 0 } in
    let a = get_or ids 0 d in
    let l : a.number < t.number = arm.ensures.within.1 0 d arm.len_at_least in
    let one = one_part ids d arm.len_at_least arm.len_below in
    weaker (Applies (alone (Number (pos 0))) old new) (IsDone pool (task.Spell t) old ahead new new_ahead) c.put_alone-in-Comp-default-len1.result
    (minus_done pool t a (atom_name pool arm.name) old new ahead new_ahead (arm.ensures.term ∙ ap (λ ts. Comp (atom_name pool arm.name) (terms_by (term_of pool) ts)) one)
    (omega (arith, l, c.requires)) f c.in_ok-extend_from_slice-in-Comp-default-len1.ensures.items)
    (c.put_alone-in-Comp-default-len1.ensures (Number (pos 0)) refl refl)

pub returns-in_ok-extend_from_slice-in-Comp-default-len2 : goal.returns-in_ok-extend_from_slice-in-Comp-default-len2
returns-in_ok-extend_from_slice-in-Comp-default-len2 c =
    let pool = c.args.pool.now in
    let t = c.args.t in
    let arm = c.in-Comp-default-len2 in
    let ids = arm.field-1.now in
    let least : 2 ≤ length ids = search rules in
    let below : length ids < 3 = search rules in
    let d : TermId = record { number = 0 } in
    let a = get_or ids 0 d in
    let b = get_or ids 1 d in
    let two = two_parts ids d d least below in
    let la : a.number < t.number = arm.ensures.within.1 0 d (omega (arith, least)) in
    let lb : b.number < t.number = arm.ensures.within.1 1 d (omega (arith, least)) in
    let op = ap operator_in (sym c.name_of-in-Comp-default-len2.ensures.name) ∙ sym c.operator_named.ensures ∙ c.in-Some.is in
    operator_done pool t a b (atom_name pool arm.name) c.in-Some.node c.args.self.now c.args.ahead.now.items c.extend_from_slice-in-Comp-default-len2.new.self.items
    (arm.ensures.term ∙ ap (λ ts. Comp (atom_name pool arm.name) (terms_by (term_of pool) ts)) two)
    (omega (arith, la, c.requires)) (omega (arith, lb, c.requires)) op c.in_ok-extend_from_slice-in-Comp-default-len2.ensures.items

pub returns-in_default-3 : goal.returns-in_default-3
returns-in_default-3 c =
    let pool = c.args.pool.now in
    let len : 3 ≤ length c.in_default.field-1.now = search rules in
    let e = subst (λ (n : Node). term_of pool c.args.t ≡ shape_term pool (shape_of n)) c.in_default.is c.view.ensures.term in
    none_done pool c.args.t c.args.self.now c.args.self.now [] [] (many_not_flat (term_of pool c.args.t) (atom_name pool c.in_default.field-0) (term_of pool) c.in_default.field-1.now e len)
