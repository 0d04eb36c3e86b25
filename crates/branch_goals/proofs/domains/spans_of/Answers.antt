use Rattle.std.proofs.Common.{Result, Ok, Err, IfOk, sym, subst}
use Rattle.branch_goals.specs.Domains.{AreSpans, AreSpansOf}
use Rattle.branch_goals.specs.Findings.{the_numbers}
use Rattle.branch_goals.proofs.DomainLists.{those_spans}
use Rattle.branch_goals.proofs.domains.spans_of.Goals as goal

if_ok : {A E : Type 0} (P Q : A → Type 0) → ((x : A) → P x → Q x) → (r : Result A E) → IfOk r P → IfOk r Q
if_ok P Q f (Ok x) p = f x p
if_ok P Q f (Err e) p = p

pub returns-in-Those : goal.returns-in-Those
returns-in-Those c =
    if_ok (λ v. AreSpansOf c.in-Those.domain.now v.items) (λ v. AreSpans (the_numbers c.args.numbers) v.items)
    (λ v a. subst (λ n. AreSpans (the_numbers n) v.items) (sym c.in-Those.is) (those_spans c.in-Those.domain.now v.items a))
    c.spans_in.result c.spans_in.ensures
