-- The instructions of the unify group, where arguments are owed.
use Rattle.std.proofs.Common.{◌≡◌, ℕ, zero, suc, ◌-◌, ◌<◌, ◌≤◌, nat_le, true, List, length, Some, None, refl, ap, sym, ◌∙◌, arith, ℤ}
use Rattle.std.proofs.lemmas.Option.{slice_get_within, none-some}
use Rattle.term_pool.proofs.Lemmas.{slice_get_found}
use Rattle.std.proofs.lemmas.Bool.Decides.{nat_tests}
use Rattle.term_pool.specs.declared.AtomId.{AtomId}
use Rattle.fd_language.specs.Term.{Terms, no_terms, term, term_count}
use Rattle.branch_state.specs.States as branch
use Rattle.wam_code.specs.Places.{Places as CodePlaces}
use Rattle.wam_code.specs.CodeMeaning.{Owed}
use Rattle.wam_code.proofs.Lemmas.{at_unify, same_code}
use Rattle.wam_code.specs.declared.instruction.Register.{Register}
use Rattle.wam_code.specs.declared.instruction.Code.{Code}
use Rattle.wam_code.specs.declared.instruction.Code.TheVariants.{UnifyVariable, UnifyValue, UnifyConstant, UnifyInteger, UnifyVoid}
use Rattle.wam_code.specs.declared.parts.Entry.{Entry}
use Rattle.wam_code.specs.Area.{State, Area, Holds}
use Rattle.wam_code.specs.Effect.{is_set, is_free, with_set, with_owed, unify_effect, effect_by}
use Rattle.code_areas.specs.Areas.{Places, Contents}
use Rattle.code_safety.specs.Machine.{HasCell, CanHold}
use Rattle.code_safety.specs.Safety.{Fits, IsSafe}
use Rattle.term_instructions.specs.declared.arguments.Argument.{Argument}
use Rattle.term_instructions.specs.declared.arguments.Argument.TheVariants as argument
use Rattle.term_instructions.specs.Arguments.{IsOne, IsUnifyAt}
use Rattle.code_safety.proofs.Lemmas.{Finds, found, when_parts, free_holds, set_holds}

pub fits_owed : (t : State) (n : ℕ) (registers slots : Places) → Fits t registers slots → Fits (with_owed t n) registers slots
fits_owed t n registers slots f = record { set = f.set; frame = f.frame }

pub effect_owed : (k : ℕ) (es : List Entry) (i : Code) (t u : State) → 0 < k → effect_by k es i t ≡ Some u → unify_effect i t ≡ Some u
effect_owed zero es i t u l e = absurd (omega (arith, l))
effect_owed (suc k) es i t u l e = e

module _ (area : Area) (s : branch.State) (at k : ℕ) (c : Contents) (safe : IsSafe area s at k c) where
  pub place_within : at < length area.code
  place_within =
      let r = safe.here.reached in
      let low = slice_get_within safe.states at r.state r.has in
      let same = safe.verified.states in
      omega (arith, low, same)

  pub unify_there : 0 < k → IsUnifyAt area at
  unify_there some =
      let i = slice_get_found area.code at place_within in
      let f = found area s at k c i.0 safe i.1 in
      (i.0, f.state, f.handed, i.1, effect_owed k area.entries i.0 f.state f.handed some f.effect_is)

  module _ (some : 0 < k) where
    unify_is : (i : Code) (holds : Holds area at i) → (f : Finds area safe.states at k c i) × (unify_effect i f.state ≡ Some f.handed)
    unify_is i holds = let f = found area s at k c i safe holds in (f, effect_owed k area.entries i f.state f.handed some f.effect_is)

    pub variable_needs : (r : Register) → Holds area at (UnifyVariable r) → CanHold c r
    variable_needs r holds =
        let f = unify_is (UnifyVariable r) holds in
        free_holds f.0.state c r f.0.fits (when_parts (is_free f.0.state r) (with_set (with_owed f.0.state (f.0.state.owed - 1)) r) f.0.handed f.1).0

    pub value_needs : (r : Register) → Holds area at (UnifyValue r) → HasCell c r
    value_needs r holds =
        let f = unify_is (UnifyValue r) holds in
        set_holds f.0.state c r f.0.fits (when_parts (is_set f.0.state r) (with_owed f.0.state (f.0.state.owed - 1)) f.0.handed f.1).0

    le_true : (n m : ℕ) → nat_le n m ≡ true → n ≤ m
    le_true n m e = grind (arith, nat_tests)

    pub void_needs : (n : ℕ) → Holds area at (UnifyVoid n) → n ≤ k
    void_needs n holds =
        let f = unify_is (UnifyVoid n) holds in
        let l = le_true n f.0.state.owed (when_parts (nat_le n f.0.state.owed) (with_owed f.0.state (f.0.state.owed - n)) f.0.handed f.1).0 in
        let owes = f.0.owes in
        omega (arith, l, owes)

-- an instruction that gives none stands for nothing
pub no_void : (area : Area) (at : ℕ) (p : CodePlaces) (ts : Terms) (next : ℕ) (q : CodePlaces) → 0 < term_count ts → Holds area at (UnifyVoid 0) → Owed area 0 at p ts next q → ⊥
no_void area at p no_terms next q some f o = absurd (omega (arith, some))
no_void area at p (term t ts) next q some f o = (at_unify area at p t ts next q (UnifyVoid 0) f o).2

-- ---- no other instruction is of the group

no_unify : (area : Area) (at : ℕ) (i : Code) → Holds area at i → ((s : State) → unify_effect i s ≡ None) → IsUnifyAt area at → ⊥
no_unify area at i f none u = none-some u.2 (sym (none u.1) ∙ ap (λ j. unify_effect j u.1) (same_code area at i u.0 f u.3) ∙ u.4)

pub only_unify : (area : Area) (at : ℕ) (i : Code) → Holds area at i → IsUnifyAt area at → ((r : Register) → i ≡ UnifyVariable r → ⊥)
    → ((r : Register) → i ≡ UnifyValue r → ⊥) → ((c : AtomId) → i ≡ UnifyConstant c → ⊥) → ((z : ℤ) → i ≡ UnifyInteger z → ⊥)
    → ((n : ℕ) → i ≡ UnifyVoid n → ⊥) → ⊥
only_unify area at (UnifyVariable r) h u no1 no2 no3 no4 no5 = no1 r refl
only_unify area at (UnifyValue r) h u no1 no2 no3 no4 no5 = no2 r refl
only_unify area at (UnifyConstant c) h u no1 no2 no3 no4 no5 = no3 c refl
only_unify area at (UnifyInteger z) h u no1 no2 no3 no4 no5 = no4 z refl
only_unify area at (UnifyVoid n) h u no1 no2 no3 no4 no5 = no5 n refl
only_unify area at i h u no1 no2 no3 no4 no5 = no_unify area at i h (λ s. refl) u

-- ---- an argument alone

pub one_unless : (a : Argument) → ((n : ℕ) → a ≡ argument.Void n → ⊥) → IsOne a
one_unless (argument.Variable r) none = tt
one_unless (argument.Value r) none = tt
one_unless (argument.Constant c) none = tt
one_unless (argument.Integer z) none = tt
one_unless (argument.Void n) none = absurd (none n refl)
