use Rattle.std.proofs.Common.{rules, ◌≡◌, ◌∙◌, ◌<◌, ◌+◌, None, true, false, sym, arith}
use Rattle.code_listing.specs.States.{state_of}
use Rattle.code_text.proofs.EntryStates.{first_is, first_not}
use Rattle.code_text.proofs.PlaceConditions.{failed}
use Rattle.code_text.proofs.entry_states.first_count.Goals as goal

pub returns-then-not-is_bare : goal.returns-then-not-is_bare
returns-then-not-is_bare c =
    let s = state_of c.args.state.now in
    let never : c.is_bare.result ≡ false = search rules in
    λ k l f. failed c.is_bare.result ((s.frame ≡ None) × (s.owed ≡ 0)) c.is_bare.ensures never (f.frame, f.owed)

pub returns-then-has_up_to : goal.returns-then-has_up_to
returns-then-has_up_to c =
    let s = state_of c.args.state.now in
    let yes : c.is_bare.result ≡ true = search rules in
    let bare = c.is_bare.ensures.0 yes in
    first_is s c.count_from_one-count.result (λ n a b. (sym (c.in_ok-set.ensures n) ∙ c.count_from_one-count.ensures.there n a b)) bare.0 bare.1 (c.has_up_to.ensures.0 c.if-has_up_to.true)

pub returns : goal.returns
returns c =
    let s = state_of c.args.state.now in
    let count = c.count_from_one-count.result in
    let small : count < 256 = omega arith in
    first_not s count (λ n a b. (sym (c.in_ok-set.ensures n) ∙ c.count_from_one-count.ensures.there n a b))
    (λ l e. c.count_from_one-count.ensures.next l (c.in_ok-set.ensures (count + 1) ∙ e)) small
    (failed c.has_up_to.result _ c.has_up_to.ensures c.if-has_up_to.false)
