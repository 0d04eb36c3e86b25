use Rattle.std.proofs.Common.{◌∙◌, sym, ap, Bool, cond, List, Option, Some, None, Vec, Global}
use Rattle.std.specs.Prelude.{option_map}
use Rattle.term_pool.specs.Terms.{term_of}
use Rattle.answer_check.specs.declared.members.Member.{Member}
use Rattle.answer_check.specs.Members.{is_nil, members_in, onto}
use Rattle.answer_check.proofs.MemberTerms.{behind_members, cell_members, last_members, more_before, none_onto, last_list, kept_items}
use Rattle.answer_check.proofs.members.members_of.Goals as goal

pub returns-in-None : goal.returns-in-None
returns-in-None c =
    let pool = c.args.pool.now in
    let cell = cell_members (term_of pool c.loop-head.rest) (term_of pool c.in-Some.head) (term_of pool c.in-Some.tail) c.in-Some.ensures.is in
    sym (none_onto c.loop-head.members.items (members_in (term_of pool c.in-Some.tail)))
    ∙ ap (λ o. behind_members c.loop-head.members.items (onto o (members_in (term_of pool c.in-Some.tail)))) (sym (sym c.member_of.ensures ∙ c.in-None.is))
    ∙ ap (behind_members c.loop-head.members.items) (sym cell) ∙ c.loop-head.invariant.members

pub loop-head-preserved : goal.loop-head-preserved
loop-head-preserved c =
    let pool = c.args.pool.now in
    let old = c.loop-head.members.items in
    let m = c.in-Some-member_of.member in
    let later = members_in (term_of pool c.in-Some.tail) in
    let cell = cell_members (term_of pool c.loop-head.rest) (term_of pool c.in-Some.head) (term_of pool c.in-Some.tail) c.in-Some.ensures.is in
    record {
      within = c.in-Some.ensures.tail;
      members = ap (λ ms. behind_members ms later) c.in_ok-push-in-Some-member_of.ensures.items ∙ sym (more_before old m later)
          ∙ ap (λ o. behind_members old (onto o later)) (sym c.in-Some-member_of.is ∙ c.member_of.ensures) ∙ ap (behind_members old) (sym cell) ∙ c.loop-head.invariant.members;
    }

pub returns : goal.returns
returns c =
    let pool = c.args.pool.now in
    let v = c.loop-head.members in
    let last = last_members (term_of pool c.loop-head.rest) c.in_default.ensures in
    ap (option_map (λ (w : Vec Member Global). w.items)) c.then_some.ensures ∙ kept_items v c.is_nil.result
    ∙ ap (λ (b : Bool). cond {A = Option (List Member)} b (Some v.items) None) c.is_nil.ensures ∙ sym (last_list v.items (is_nil (term_of pool c.loop-head.rest)))
    ∙ ap (behind_members v.items) (sym last) ∙ c.loop-head.invariant.members
