-- Lists of clauses, one choice after the other.
use Rattle.std.proofs.Common.{ℕ, suc, List, [], ◌∷◌, refl}
use Rattle.fd_model.specs.Goal.{Clause}
use Rattle.wam_code.specs.declared.instruction.Code.TheVariants.{Jump, FailNow, Try, Retry, Trust}
use Rattle.wam_code.specs.Area.{Area}
use Rattle.wam_code.specs.Tries.{Shape, Tries}
use Rattle.wam_code.proofs.Lemmas.{try_from_rule}
use Rattle.clause_code.specs.Pieces.{Stand}
use Rattle.clause_code.specs.ClauseChoices.{EachTries, rest_of_list, list_of}

module _ (area : Area) (s : Shape) where
  rest_tries : (ls : List ℕ) (cs : List Clause) (at : ℕ) → EachTries area s ls cs → Stand area at (rest_of_list ls) → Tries area s at cs
  rest_tries [] [] at e h = try_from_rule area s FailNow at [] h.0 refl
  rest_tries [] (c ∷ cs) at e h = absurd e
  rest_tries (l ∷ ls) [] at e h = absurd e
  rest_tries (l ∷ []) (c ∷ []) at e h = try_from_rule area s (Trust l) at (c ∷ []) h.0 e.0
  rest_tries (l ∷ []) (c ∷ d ∷ cs) at e h = absurd e.1
  rest_tries (l ∷ k ∷ ls) (c ∷ []) at e h = absurd e.1
  rest_tries (l ∷ k ∷ ls) (c ∷ d ∷ cs) at e h = try_from_rule area s (Retry l) at (c ∷ d ∷ cs) h.0 (c ∷ [], d ∷ cs, refl, e.0, rest_tries (k ∷ ls) (d ∷ cs) (suc at) e.1 h.1)

  -- A list of places tries their clauses in order.
  pub list_tries : (ls : List ℕ) (cs : List Clause) (at : ℕ) → EachTries area s ls cs → Stand area at (list_of ls) → Tries area s at cs
  list_tries [] [] at e h = try_from_rule area s FailNow at [] h.0 refl
  list_tries [] (c ∷ cs) at e h = absurd e
  list_tries (l ∷ ls) [] at e h = absurd e
  list_tries (l ∷ []) (c ∷ []) at e h = try_from_rule area s (Jump l) at (c ∷ []) h.0 e.0
  list_tries (l ∷ []) (c ∷ d ∷ cs) at e h = absurd e.1
  list_tries (l ∷ k ∷ ls) (c ∷ []) at e h = absurd e.1
  list_tries (l ∷ k ∷ ls) (c ∷ d ∷ cs) at e h = try_from_rule area s (Try l) at (c ∷ d ∷ cs) h.0 (c ∷ [], d ∷ cs, refl, e.0, rest_tries (k ∷ ls) (d ∷ cs) (suc at) e.1 h.1)
