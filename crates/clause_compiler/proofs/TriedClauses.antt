-- What the choices of a predicate try.
use Rattle.std.proofs.Common.{◌≡◌, ℕ, suc, ◌+◌, Bool, true, false, cond, IsTrue, List, [], ◌∷◌, Some, map, filter, length, slice_get, refl, ap, sym, ◌∙◌, inl}
use Rattle.std.proofs.Common.{inr, arith}
use Rattle.std.specs.List.{range_with_len}
use Rattle.clause_compiler.proofs.Lists.{never}
use Rattle.fd_language.specs.Term.{Term}
use Rattle.fd_model.specs.Goal.{Clause}
use Rattle.fd_model.specs.Children.{fits_head}
use Rattle.wam_code.specs.declared.instruction.Code.{Code}
use Rattle.wam_code.specs.declared.instruction.Code.TheVariants.{Jump, FailNow, TryMeElse, RetryMeElse, TrustMe, Try, Retry, Trust, SwitchOnTerm}
use Rattle.wam_code.specs.declared.instruction.Code.TheVariants.{SwitchOnConstant, SwitchOnInteger, SwitchOnStructure}
use Rattle.wam_code.specs.Area.{Area, Holds}
use Rattle.wam_code.specs.Tries.{Shape, IsNeedless, Thinned, IsClause, TryRule, Tries}
use Rattle.wam_code.proofs.Lemmas.{try_from_rule}
use Rattle.clause_code.specs.ClauseChoices.{EachTries}
use Rattle.clause_code.specs.SafeCode.{may_enter}

-- ---- which clauses

-- A clause that needn't be tried may be left out.
pub leave_out : (s : Shape) (t : Term) (c : Clause) (cs ds : List Clause) → IsNeedless s t c → Thinned s t cs ds → Thinned s t (c ∷ cs) ds
leave_out s t c cs [] h r = (h, r)
leave_out s t c cs (d ∷ ds) h r = inr (h, r)

-- The clauses whose numbers pass a test, where those fit and the others needn't be tried.
pub thinned_by : (s : Shape) (t : Term) (test : ℕ → Bool) (clause : ℕ → Clause) (cs : List Clause) (n : ℕ)
    → ((k : ℕ) (c : Clause) → slice_get cs k ≡ Some c → clause (n + k) ≡ c)
    → ((k : ℕ) (c : Clause) → slice_get cs k ≡ Some c → test (n + k) ≡ true → fits_head t c.head ≡ true)
    → ((k : ℕ) (c : Clause) → slice_get cs k ≡ Some c → test (n + k) ≡ false → IsNeedless s t c)
    → Thinned s t cs (map clause (filter test (range_with_len n (length cs))))
thinned_by s t test clause [] n is fit needless = refl
thinned_by s t test clause (c ∷ cs) n is fit needless =
    by (test n) refl (thinned_by s t test clause cs (n + 1) (λ k d e. ap clause (shift k) ∙ is (suc k) d e)
    (λ k d e h. fit (suc k) d e (ap test (sym (shift k)) ∙ h)) (λ k d e h. needless (suc k) d e (ap test (sym (shift k)) ∙ h)))
  where
    shift : (k : ℕ) → (n + 1) + k ≡ n + suc k
    shift k = omega arith

    here : n + 0 ≡ n
    here = omega arith

    by : (b : Bool) → test n ≡ b → Thinned s t cs (map clause (filter test (range_with_len (n + 1) (length cs))))
        → Thinned s t (c ∷ cs) (map clause (cond b (n ∷ filter test (range_with_len (n + 1) (length cs))) (filter test (range_with_len (n + 1) (length cs)))))
    by true e r = inl (ap clause (sym here) ∙ is 0 c refl, fit 0 c refl (ap test here ∙ e), r)
    by false e r = leave_out s t c cs (map clause (filter test (range_with_len (n + 1) (length cs)))) (needless 0 c refl (ap test here ∙ e)) r

-- ---- a clause

-- the clause's code stands at the place
abbrev pub Enters : Area → ℕ → Clause → Type 0
Enters a at c = (i : Code) × Holds a at i × IsTrue (may_enter i) × IsClause a at c

module _ (a : Area) (s : Shape) where
  enter_rule : (i : Code) (at : ℕ) (c : Clause) → IsTrue (may_enter i) → IsClause a at c → TryRule a (Tries a s) s i at (c ∷ [])
  enter_rule (Jump to) at c h w = never h
  enter_rule FailNow at c h w = never h
  enter_rule (TryMeElse to) at c h w = never h
  enter_rule (RetryMeElse to) at c h w = never h
  enter_rule TrustMe at c h w = never h
  enter_rule (Try to) at c h w = never h
  enter_rule (Retry to) at c h w = never h
  enter_rule (Trust to) at c h w = never h
  enter_rule (SwitchOnTerm v k i u) at c h w = never h
  enter_rule (SwitchOnConstant t) at c h w = never h
  enter_rule (SwitchOnInteger t) at c h w = never h
  enter_rule (SwitchOnStructure t) at c h w = never h
  enter_rule _ at c h w = (c, w, refl)

  pub enters_tries : (at : ℕ) (c : Clause) → Enters a at c → Tries a s at (c ∷ [])
  enters_tries at c h = try_from_rule a s h.0 at (c ∷ []) h.1 (enter_rule h.0 at c h.2 h.3)

  -- Of a list of clauses' numbers each is tried at its place.
  pub each_tries : (place : ℕ → ℕ) (clause : ℕ → Clause) (ns : List ℕ) → ((n : ℕ) (k : ℕ) → slice_get ns k ≡ Some n → Enters a (place n) (clause n)) → EachTries a s (map place ns) (map clause ns)
  each_tries place clause [] h = tt
  each_tries place clause (n ∷ ns) h = (enters_tries (place n) (clause n) (h n 0 refl), each_tries place clause ns (λ m k. h m (suc k)))
