-- The variables that a head doesn't make.
use Rattle.std.proofs.Common.{◌≡◌, ℕ, zero, suc, ◌<◌, ◌≤◌, Bool, true, false, if◌then◌else◌, List, [], ◌∷◌, ◌++◌, length, slice_set, refl, sym, ◌∙◌, subst}
use Rattle.std.proofs.Common.{arith, inl, inr, length-set}
use Rattle.std.proofs.lemmas.Bool.{cases_eq, cases_Bool}
use Rattle.fd_language.specs.Unifier.{Equation}
use Rattle.wam_code.specs.declared.instruction.Register.{Register}
use Rattle.wam_code.specs.declared.instruction.Code.TheVariants.{PutVariable}
use Rattle.wam_code.specs.Area.{State}
use Rattle.wam_code.specs.Places.{Places}
use Rattle.clause_code.specs.Pieces.{Base, past}
use Rattle.clause_code.specs.Steps.{home, is_made, marked, filled, fills}
use Rattle.clause_code.proofs.FreshVariables.{made_here, made_still, Clear, AreApart}
use Rattle.clause_code.proofs.StepEffects.{At, Went, went_nothing, went_both}
use Rattle.clause_code.proofs.SingleSteps.{put_new_step}

-- ---- which are made

pub marked_long : (made : List Bool) (x : ℕ) → length (marked made x) ≡ length made
marked_long made x = by (is_made made x)
  where
    by : (c : Bool) → length (if c then made else slice_set made x true) ≡ length made
    by true = refl
    by false = length-set made x true

pub filled_long : (made : List Bool) (k : ℕ) → length (filled made k) ≡ length made
filled_long made zero = refl
filled_long made (suc k) = marked_long (filled made k) k ∙ filled_long made k

marked_here : (made : List Bool) (x : ℕ) → x < length made → is_made (marked made x) x ≡ true
marked_here made x l = by (is_made made x) refl
  where
    by : (c : Bool) → is_made made x ≡ c → is_made (if c then made else slice_set made x true) x ≡ true
    by true e = e
    by false e = made_here made x l

marked_still : (made : List Bool) (x y : ℕ) → x < length made → is_made made y ≡ true → is_made (marked made x) y ≡ true
marked_still made x y l h = by (is_made made x)
  where
    by : (c : Bool) → is_made (if c then made else slice_set made x true) y ≡ true
    by true = h
    by false = made_still made x y l h

-- Those below k are made.
pub filled_made : (made : List Bool) (k : ℕ) → k ≤ length made → (x : ℕ) → x < k → is_made (filled made k) x ≡ true
filled_made made zero l x m = absurd (omega (arith, m))
filled_made made (suc k) l x m =
    let long : length (filled made k) ≡ length made = filled_long made k in
    let kl : k < length (filled made k) = omega (arith, long, l) in
    elim (cases_eq x k) [
      | inl e ↦ subst (λ y. is_made (marked (filled made k) k) y ≡ true) (sym e) (marked_here (filled made k) k kl)
      | inr d ↦ marked_still (filled made k) k x kl (filled_made made k (omega (arith, l)) x (omega (arith, m, d)))
    ]

-- ---- their instructions

module _ (b : Base) (n : ℕ) (homes : List Register) (apart : AreApart homes) where
  pub fills_went : (made : List Bool) (at scratch free k : ℕ) (p : Places) (s : State) (es : List Equation) → At n homes made p s → s.owed ≡ 0 → k ≤ length homes → Clear homes scratch → free ≤ scratch
      → Went b n homes free free made at (fills homes scratch made k) p s es (filled made k) es
  fills_went made at scratch free zero p s es w o l c f = went_nothing b n homes free free made at p s es w o
  fills_went made at scratch free (suc k) p s es w o l c f =
      let a = fills_went made at scratch free k p s es w o (omega (arith, l)) c f in
      let from : ℕ = past at (fills homes scratch made k) in
      elim (cases_Bool (is_made (filled made k) k)) [
        | inl e ↦
            subst (λ d. Went b n homes free free made at (fills homes scratch made k ++ (if d then [] else PutVariable (home homes k) scratch ∷ [])) p s es
            (if d then filled made k else slice_set (filled made k) k true) es) (sym e)
            (went_both b n homes free free free free free free made (filled made k) (filled made k) at (fills homes scratch made k) [] p s es es es
            (omega arith) (inl refl) (omega arith) (inl refl) a (went_nothing b n homes free free (filled made k) from a.q a.t es a.there a.owed))
        | inr e ↦
            subst (λ d. Went b n homes free free made at (fills homes scratch made k ++ (if d then [] else PutVariable (home homes k) scratch ∷ [])) p s es
            (if d then filled made k else slice_set (filled made k) k true) es) (sym e)
            (went_both b n homes free free free free scratch free made (filled made k) (slice_set (filled made k) k true) at (fills homes scratch made k)
            (PutVariable (home homes k) scratch ∷ []) p s es es es (omega arith) (inl refl) (omega arith) (inr f) a
            (put_new_step b n homes apart (filled made k) from k scratch free a.q a.t es a.there a.owed (omega (arith, l)) e c).went)
      ]
