-- Exactly one extension fits where a constraint is satisfied, and none otherwise.
use Rattle.std.proofs.Common.{◌≡◌, ℕ, ◌≤◌, ◌<◌, Some, None, subst, inl, inr, Ok}
use Rattle.fd_model.specs.declared.kinds.ConstraintKind.{ConstraintKind}
use Rattle.fd_model.specs.declared.kinds.ConstraintKind.TheVariants.{Compare, AllDifferent, Element, Atmost, And, Or, Not, Reified}
use Rattle.fd_language.specs.Term.{Terms, no_terms, term}
use Rattle.fd_language.specs.Variables.{TermsBelow}
use Rattle.fd_model.specs.LinearRows.{Expansion}
use Rattle.fd_model.specs.ProductRows.{product_form}
use Rattle.fd_model.specs.Splitting.{Split, joined, split}
use Rattle.fd_model.specs.ConstraintExpansion.{basic}
use Rattle.fd_model.specs.Satisfaction.{Assignment}
use Rattle.fd_model.specs.ConstraintLaws.{IsRewritten, Rewriting}
use Rattle.fd_model.proofs.ComparisonRows.{compared}
use Rattle.fd_model.proofs.AllDifferentRows.{differing}
use Rattle.fd_model.proofs.ElementRows.{choosing}
use Rattle.fd_model.proofs.Counters.{at_most}
use Rattle.fd_model.proofs.Splits.{expand_ok, of_some, unsplit, product_ok}
use Rattle.fd_model.proofs.MemberRewriting.{product_rewritten, and_rewritten, or_rewritten, not_rewritten}
use Rattle.fd_model.proofs.ReifiedRewriting.{reified_rewritten}

basic_rewriting : (M N : ℕ) (kind : ConstraintKind) (ts : Terms) (n : ℕ) (x : Expansion) (a : Assignment) → 0 < N → N ≤ M → TermsBelow n ts → ((v : ℕ) → a v ≤ N)
    → split M kind ts n ≡ None → basic kind ts n ≡ Ok x → IsRewritten M N kind ts n x a
basic_rewriting M N (Compare r) (term s (term t no_terms)) n x a p up below small e h = compared M N up r s t n x a below.0 below.1.0 small (unsplit n _ e) h
basic_rewriting M N AllDifferent (term l no_terms) n x a p up below small e h = differing M N up l n x a below.0 small h
basic_rewriting M N Element (term i (term l (term v no_terms))) n x a p up below small e h = choosing M N up i l v n x a below.0 below.1.1.0 small h
basic_rewriting M N Atmost (term m (term l (term v no_terms))) n x a p up below small e h = at_most M N up m l v n x a p below.1.0 small h
basic_rewriting _ _ _ _ n x a p up below small e h = absurd (cc)

split_rewriting : (M N : ℕ) (kind : ConstraintKind) (ts : Terms) (n : ℕ) (s : Split) (a : Assignment) → 0 < N → N ≤ M → TermsBelow n ts → ((v : ℕ) → a v ≤ N)
    → split M kind ts n ≡ Some (Ok s) → IsRewritten M N kind ts n (joined s) a
split_rewriting M N (Compare r) (term t (term u no_terms)) n s a p up below small e =
    let k = product_ok n (product_form r t u) s e in
    subst (λ q. IsRewritten M N (Compare r) (term t (term u no_terms)) n (joined q) a) k.is (product_rewritten M N up n a small r t u k.product below.0 below.1.0 k.form)
split_rewriting M N And (term x (term y (term z no_terms))) n s a p up below small e = and_rewritten M N up n a small p x y z s below.0 below.1.0 below.1.1.0 (of_some _ s e)
split_rewriting M N Or (term x (term y (term z no_terms))) n s a p up below small e = or_rewritten M N up n a small p x y z s below.0 below.1.0 below.1.1.0 (of_some _ s e)
split_rewriting M N Not (term x (term y no_terms)) n s a p up below small e = not_rewritten M N up n a small x y s below.0 below.1.0 (of_some _ s e)
split_rewriting M N Reified (term b (term k no_terms)) n s a p up below small e = reified_rewritten M N up p n a small b k s below.0 below.1.0 (of_some _ s e)
split_rewriting _ _ _ _ n s a p up below small e = absurd (cc)

pub rewriting : Rewriting
rewriting M N kind ts n x a p up below small h = elim (expand_ok M kind ts n x h) [
  | inl k ↦ basic_rewriting M N kind ts n x a p up below small k.none k.basic_is
  | inr k ↦ subst (λ y. IsRewritten M N kind ts n y a) k.rows (split_rewriting M N kind ts n k.parts a p up below small k.split_is)
]
