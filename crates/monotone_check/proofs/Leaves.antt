-- What is kept of a parameter and of a value.
use Rattle.std.proofs.Common.{◌≡◌, ℕ, Bool, true, false, None, sym, ◌∙◌}
use Rattle.fd_language.specs.Range.{Param, Val}
use Rattle.fd_language.specs.Check.{Wish}
use Rattle.fd_language.specs.declared.TheConstants.{INFINITY}
use Rattle.monotone_check.specs.declared.summary.TermCheck.{TermCheck}
use Rattle.monotone_check.specs.Wishes.{by_wish}
use Rattle.monotone_check.specs.Summary.{IsTerm, pick}

nowhere : (s : TermCheck) → ((w : Wish) → by_wish s.plain w ≡ None) → ((w : Wish) → by_wish s.natural w ≡ None) → (w : Wish) (natural : Bool) → by_wish (pick natural s) w ≡ None
nowhere s f g w true = g w
nowhere s f g w false = f w

pub param_is : (at : ℕ → ℕ) (n x place : ℕ) (s : TermCheck) → at n ≡ place → s.place ≡ place → s.bound ≡ 9223372036854775807 → s.wide ≡ None → s.literal ≡ None → s.parameter ≡ true →
    ((w : Wish) → by_wish s.plain w ≡ None) → ((w : Wish) → by_wish s.natural w ≡ None) → IsTerm INFINITY at n (Param x) s
param_is at n x place s e p b w l q f g = record { place = p ∙ sym e; size = b; wide = w; parameter = q; literal = λ h. l; offences = λ h. nowhere s f g }

pub val_is : (at : ℕ → ℕ) (n x place : ℕ) (s : TermCheck) → at n ≡ place → s.place ≡ place → s.bound ≡ 268435455 → s.wide ≡ None → s.literal ≡ None → s.parameter ≡ false →
    ((w : Wish) → by_wish s.plain w ≡ None) → ((w : Wish) → by_wish s.natural w ≡ None) → IsTerm INFINITY at n (Val x) s
val_is at n x place s e p b w l q f g = record { place = p ∙ sym e; size = b; wide = w; parameter = q; literal = λ h. l; offences = λ h. nowhere s f g }
