use Rattle.std.proofs.Common.{◌≡◌, ◌<◌, ◌∙◌, ℕ, List, [], ◌∷◌, Option, Some, None, length, sym, ap, refl, arith}
use Rattle.std.specs.Option.{option_to_list}
use Rattle.wam_code.specs.declared.instruction.Code.{Code}
use Rattle.wam_code.specs.Area.{area_of}
use Rattle.code_listing.specs.Sheets.{switch_table}
use Rattle.state_search.proofs.TableOrder.{order_keep, order_more, order_miss}
use Rattle.state_search.proofs.place_states.are_in_order.Goals as goal

no_table : (o : Option ℕ) → ((t : ℕ) → o ≡ Some t → ⊥) → option_to_list o ≡ []
no_table None h = refl
no_table (Some t) h = absurd (h t refl)

pub loop-at-preserved-in_default : goal.loop-at-preserved-in_default
loop-at-preserved-in_default c =
    let is : List Code = (area_of c.args.parts.now).code in
    let i = c.index.result.now in
    let low : c.loop-at.at < length is = omega arith in
    let none : switch_table i ≡ [] = sym c.table_number.ensures ∙ no_table c.table_number.result c.in_default.not-Some in
    record {
      order = order_keep is c.loop-at.at i i low (sym c.index.ensures) c.loop-at.next none c.loop-at.invariant.order;
      small = omega (arith, c.loop-at.invariant.small);
    }

pub returns-then-table-next : goal.returns-then-table-next
returns-then-table-next c =
    let is : List Code = (area_of c.args.parts.now).code in
    let i = c.index.result.now in
    let low : c.loop-at.at < length is = omega arith in
    let one : switch_table i ≡ c.in-Some.table ∷ [] = sym c.table_number.ensures ∙ ap option_to_list c.in-Some.is in
    (λ h. absurd (cc (h)), λ w. absurd (order_miss is c.loop-at.at i i low (sym c.index.ensures) c.loop-at.next c.in-Some.table _ one c.if-table-next.true c.loop-at.invariant.order w))

pub loop-at-preserved : goal.loop-at-preserved
loop-at-preserved c =
    let is : List Code = (area_of c.args.parts.now).code in
    let i = c.index.result.now in
    let low : c.loop-at.at < length is = omega arith in
    let one : switch_table i ≡ c.loop-at.next ∷ [] = sym c.table_number.ensures ∙ ap option_to_list c.in-Some.is ∙ ap (λ (n : ℕ). n ∷ []) c.if-table-next.false in
    record {
      order = order_more is c.loop-at.at i i low (sym c.index.ensures) c.loop-at.next one c.loop-at.invariant.order;
      small = omega (arith, c.loop-at.invariant.small);
    }
