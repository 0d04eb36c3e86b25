-- What accepted words ask for.
use Rattle.std.proofs.Common.{◌≤◌, ℕ, Bool, true, false, cond, List, ◌∷◌, Option, Some, None, refl, sym, subst, arith}
use Rattle.std.specs.Prelude.{IfSome, zero, suc}
use Rattle.fd_model.specs.Output.{Options}
use Rattle.fd_model.specs.Run.{IsLimit}
use Rattle.command_words.specs.Words.{options_of, has_form, options_by, value_behind}
use Rattle.command_words.proofs.Lemmas.{answers_within, generate_within, asked_as_written}

-- a size of which there is a generated text
abbrev pub IsSize : ℕ → Type 0
IsSize n = (4 ≤ n) × (n ≤ 12)

-- at least one answer may be given, and there is a text of the size that is asked for
pub record IsAccepted (o : Options) : Type 0 where
  pub limit : IsLimit o.answers
  pub size : IfSome o.generate IsSize

-- a limit from 1 up
pub limit_from_one : (k : Option ℕ) → IfSome k (λ n. (1 ≤ n) × (n ≤ 1000000000000)) → IsLimit k
limit_from_one None h = tt
limit_from_one (Some zero) h = absurd (let l = h.0 in omega (arith, l))
limit_from_one (Some (suc j)) h = tt

-- of all that words ask for
pub accepted_words : (words : List (List ℕ)) → IfSome (options_of words) IsAccepted
accepted_words words = subst (λ (a : Option Options). IfSome a IsAccepted) (sym (asked_as_written words)) (go (has_form words))
  where
    given : List ℕ → Option (List ℕ)
    given = λ id. value_behind (45 ∷ 45 ∷ id) words

    go : (b : Bool) → IfSome (cond b (Some (options_by given)) None) IsAccepted
    go true = record { limit = limit_from_one _ (answers_within (options_by given) given refl); size = generate_within (options_by given) given refl }
    go false = tt
