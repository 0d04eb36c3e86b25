use Rattle.std.proofs.Common.{ℤ, refl, subst, Ok}
use Rattle.std.specs.Int.{w64}
use Rattle.std.proofs.lemmas.Int.{to_z-of_z}
use Rattle.std.proofs.lemmas.Result.{err_from_is_err_and}
use Rattle.fd_language.specs.Term.{Int}
use Rattle.fd_model.specs.Linear.{collect_term}
use Rattle.linear_forms.specs.declared.walk.Made.{Made}
use Rattle.linear_forms.specs.LinearForm.{IsFaultOf}
use Rattle.linear_forms.specs.Sums.{signed, Gives}
use Rattle.linear_forms.proofs.Stacks.{pushed, not_pushed}
use Rattle.linear_forms.proofs.walk.Made.push_constant.Goals as goal

pub returns-in_err-alone : goal.returns-in_err-alone
returns-in_err-alone c =
    let p = err_from_is_err_and c.from_residual.result c.from_residual.ensures.1 in
    let h : IsFaultOf (signed c.args.negated (collect_term (Int c.args.integer))) c.in_err-alone.field-0.0 =
    subst (λ (z : ℤ). IsFaultOf (signed c.args.negated (collect_term (Int z))) c.in_err-alone.field-0.0) (to_z-of_z w64 c.args.integer c.ranges.integer) (c.in_err-alone.ensures.sum 0) in
    rw (p.1, p.2) (λ ss m. not_pushed (signed c.args.negated (collect_term (Int c.args.integer))) _ h ss)

pub returns : goal.returns
returns c =
    let new : Made = record { sums = c.push.new.self; met = c.args.self.now.met } in
    let m = c.args.self.now.met in
    pushed (signed c.args.negated (collect_term (Int c.args.integer))) c.args.self.now new c.in_ok-alone.alone m
    (subst (λ (z : ℤ). Gives (signed c.args.negated (collect_term (Int z))) m m (Ok c.in_ok-alone.alone)) (to_z-of_z w64 c.args.integer c.ranges.integer)
    (c.in_ok-alone.ensures.sum m)) c.in_ok-push.ensures.items refl
