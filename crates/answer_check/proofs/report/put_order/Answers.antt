use Rattle.std.proofs.Common.{refl, sym, subst, Some}
use Rattle.fd_model.specs.declared.kinds.Order.{Order}
use Rattle.answer_check.specs.Judgement.{not_rising, IsOrderOf}
use Rattle.answer_check.specs.Reports.{IsFalling}
use Rattle.answer_check.proofs.AnswerReports.{falling_line}
use Rattle.answer_check.proofs.AnswerOrder.{rising_by}
use Rattle.answer_check.proofs.report.put_order.Goals as goal

pub returns-in_ok-extend_from_slice-in-Some-2 : goal.returns-in_ok-extend_from_slice-in-Some-2
returns-in_ok-extend_from_slice-in-Some-2 c = λ nss k.
    let xs = c.args.labelled.now in
    let falls = subst (IsFalling xs nss) c.in-Some.is (c.first_falling.ensures nss k) in (
      not_rising c.in-Some.number,
      subst (λ (o : Order). IsOrderOf o xs nss (not_rising c.in-Some.number)) (sym c.in-Leftmost.is) (rising_by xs nss (Some c.in-Some.number) falls),
      falling_line c.args.text.now.items c.extend_from_slice-in-Some.new.self.items c.put_number.new.text.items c.extend_from_slice-in-Some-2.new.self.items
          c.in-Some.number c.in_ok-extend_from_slice-in-Some.ensures.items c.in_ok-put_number-in-Some.ensures c.in_ok-extend_from_slice-in-Some-2.ensures.items,
      refl,
    )
