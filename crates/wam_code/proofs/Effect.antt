-- What a place needs is there, and what it hands on covers the next place's state.
use Rattle.std.proofs.Common.{◌≡◌, ℕ, zero, suc, ◌-◌, nat_le, Bool, true, false, ◌&&◌, ◌||◌, ◌==◌, IsTrue, List, ◌∷◌, Option, Some, None, option_map, slice_get}
use Rattle.std.proofs.Common.{refl, ap, sym, ◌∙◌, subst, arith}
use Rattle.std.proofs.lemmas.Bool.{true≢false}
use Rattle.fd_language.specs.Family.{has}
use Rattle.wam_code.specs.declared.instruction.Register.{Register}
use Rattle.wam_code.specs.declared.instruction.Register.TheVariants.{X, Y}
use Rattle.wam_code.specs.declared.instruction.Code.{Code}
use Rattle.wam_code.specs.declared.instruction.Code.TheVariants as code
use Rattle.wam_code.specs.declared.instruction.Code.TheVariants.{GetVariable, GetValue, GetConstant, GetInteger, GetStructure, UnifyVariable, UnifyValue}
use Rattle.wam_code.specs.declared.instruction.Code.TheVariants.{UnifyConstant, UnifyInteger, UnifyVoid, PutVariable, PutValue, PutConstant, PutInteger}
use Rattle.wam_code.specs.declared.instruction.Code.TheVariants.{PutStructure, Allocate, Deallocate, Call, Execute, Proceed, SwitchOnTerm, SwitchOnConstant}
use Rattle.wam_code.specs.declared.instruction.Code.TheVariants.{SwitchOnInteger, SwitchOnStructure, Builtin, Constrain, Label, Best, PostRange, TestOnly}
use Rattle.wam_code.specs.declared.instruction.Code.TheVariants.{EnterTest, CutTo}
use Rattle.wam_code.specs.declared.parts.Entry.{Entry}
use Rattle.wam_code.specs.Area.{State, Area, Holds, HasState}
use Rattle.fd_model.specs.Arities.{builtin_arity, constraint_arity}
use Rattle.wam_code.specs.Effect.{slot_at, is_unset, is_cell, is_level, may_be_level, with_cell, with_mark, is_set, is_free, with_set, with_level, with_owed}
use Rattle.wam_code.specs.Effect.{are_set, are_given, has_frame, no_frame, when, plain_effect, unify_effect, effect_by, effect}
use Rattle.wam_code.specs.VerifiedCode.{named, goes_on, Covers, HandedTo, Leads, IsVerifiedBy}

-- Each need that the smaller state meets the larger one meets, and the results cover one another.
abbrev pub Kept : Option State → Option State → Type 0
Kept None more = Unit {0}
Kept (Some s) None = ⊥
Kept (Some s) (Some t) = Covers t s

when_kept : (a b : Bool) (s t : State) → (a ≡ true → b ≡ true) → Covers t s → Kept (when a s) (when b t)
when_kept true true s t h c = c
when_kept true false s t h c = absurd (true≢false (sym (h refl)))
when_kept false b s t h c = tt

both_kept : (a b c d : Bool) → (a ≡ true → c ≡ true) → (b ≡ true → d ≡ true) → a && b ≡ true → c && d ≡ true
both_kept true true c d f g e = ap (λ x. x && d) (f refl) ∙ g refl
both_kept true false c d f g e = absurd (true≢false (sym e))
both_kept false b c d f g e = absurd (true≢false (sym e))

module _ (s t : State) (c : Covers t s) where
  set_kept : (r : Register) → is_set s r ≡ true → is_set t r ≡ true
  set_kept (X n) e = c.regs n e
  set_kept (Y n) e = ap (λ f. is_cell (slot_at f n)) c.frame ∙ e

  free_kept : (r : Register) → is_free s r ≡ true → is_free t r ≡ true
  free_kept (X n) e = refl
  free_kept (Y n) e = ap (λ f. is_unset (slot_at f n)) c.frame ∙ e

  level_kept : (n : ℕ) → is_level (slot_at s.frame n) ≡ true → is_level (slot_at t.frame n) ≡ true
  level_kept n e = ap (λ f. is_level (slot_at f n)) c.frame ∙ e

  leveled_kept : (n : ℕ) → may_be_level (slot_at s.frame n) ≡ true → may_be_level (slot_at t.frame n) ≡ true
  leveled_kept n e = ap (λ f. may_be_level (slot_at f n)) c.frame ∙ e

  mark_kept : (n : ℕ) → Covers (with_level t n) (with_level s n)
  mark_kept n = record { frame = ap (option_map (with_mark n)) c.frame; owed = c.owed; regs = c.regs }

  all_kept : (k : ℕ) → are_set s.regs k ≡ true → are_set t.regs k ≡ true
  all_kept zero e = refl
  all_kept (suc k) e = both_kept (has s.regs (suc k)) (are_set s.regs k) (has t.regs (suc k)) (are_set t.regs k) (c.regs (suc k)) (all_kept k) e

  given_kept : (e : Option Entry) → are_given s e ≡ true → are_given t e ≡ true
  given_kept None h = h
  given_kept (Some e) h = all_kept e.arity h

  owed_kept : (n : ℕ) → Covers (with_owed t n) (with_owed s n)
  owed_kept n = record { frame = c.frame; owed = refl; regs = c.regs }

owed_less : (s t : State) → Covers t s → (n : ℕ) → Covers (with_owed t (t.owed - n)) (with_owed s (s.owed - n))
owed_less s t c n = record { frame = c.frame; owed = ap (λ k. k - n) c.owed; regs = c.regs }

more_regs : (n : ℕ) (ss ts : List ℕ) → ((m : ℕ) → has ss m ≡ true → has ts m ≡ true) → (m : ℕ) → has (n ∷ ss) m ≡ true → has (n ∷ ts) m ≡ true
more_regs n ss ts h m e = step (n == m) e
  where
    step : (b : Bool) → b || has ss m ≡ true → b || has ts m ≡ true
    step true e = refl
    step false e = h m e

make_kept : (s t : State) → Covers t s → (r : Register) → Covers (with_set t r) (with_set s r)
make_kept s t c (X n) = record { frame = c.frame; owed = c.owed; regs = more_regs n s.regs t.regs c.regs }
make_kept s t c (Y n) = record { frame = ap (option_map (with_cell n)) c.frame; owed = c.owed; regs = c.regs }

plain_kept : (es : List Entry) (i : Code) (s t : State) → Covers t s → Kept (plain_effect es i s) (plain_effect es i t)
plain_kept es (GetVariable r a) s t c = when_kept _ _ (with_set s r) (with_set t r)
    (both_kept (has s.regs a) (is_free s r) (has t.regs a) (is_free t r) (c.regs a) (free_kept s t c r)) (make_kept s t c r)
plain_kept es (GetValue r a) s t c = when_kept _ _ s t (both_kept (has s.regs a) (is_set s r) (has t.regs a) (is_set t r) (c.regs a) (set_kept s t c r)) c
plain_kept es (GetConstant k a) s t c = when_kept _ _ s t (c.regs a) c
plain_kept es (GetInteger z a) s t c = when_kept _ _ s t (c.regs a) c
plain_kept es (GetStructure f n a) s t c = when_kept _ _ (with_owed s n) (with_owed t n) (c.regs a) (owed_kept s t c n)
plain_kept es (PutVariable r a) s t c = when_kept _ _ (with_set (with_set s r) (X a)) (with_set (with_set t r) (X a)) (free_kept s t c r)
    (make_kept (with_set s r) (with_set t r) (make_kept s t c r) (X a))
plain_kept es (PutValue r a) s t c = when_kept _ _ (with_set s (X a)) (with_set t (X a)) (set_kept s t c r) (make_kept s t c (X a))
plain_kept es (PutConstant k a) s t c = make_kept s t c (X a)
plain_kept es (PutInteger z a) s t c = make_kept s t c (X a)
plain_kept es (PutStructure f n a) s t c = owed_kept (with_set s (X a)) (with_set t (X a)) (make_kept s t c (X a)) n
plain_kept es (Allocate n) s t c = when_kept _ _ _ _ (λ e. ap no_frame c.frame ∙ e) (record { frame = refl; owed = c.owed; regs = c.regs })
plain_kept es Deallocate s t c = when_kept _ _ _ _ (λ e. ap has_frame c.frame ∙ e) (record { frame = refl; owed = c.owed; regs = c.regs })
plain_kept es (Call k) s t c = when_kept _ _ _ _ (both_kept (has_frame s.frame) (are_given s (slice_get es k)) (has_frame t.frame)
    (are_given t (slice_get es k)) (λ e. ap has_frame c.frame ∙ e) (given_kept s t c (slice_get es k)))
    (record { frame = c.frame; owed = c.owed; regs = λ n e. e })
plain_kept es (Execute k) s t c = when_kept _ _ s t (both_kept (no_frame s.frame) (are_given s (slice_get es k)) (no_frame t.frame)
    (are_given t (slice_get es k)) (λ e. ap no_frame c.frame ∙ e) (given_kept s t c (slice_get es k))) c
plain_kept es Proceed s t c = when_kept _ _ s t (λ e. ap no_frame c.frame ∙ e) c
plain_kept es (SwitchOnTerm v k i u) s t c = when_kept _ _ s t (c.regs 1) c
plain_kept es (SwitchOnConstant u) s t c = when_kept _ _ s t (c.regs 1) c
plain_kept es (SwitchOnInteger u) s t c = when_kept _ _ s t (c.regs 1) c
plain_kept es (SwitchOnStructure u) s t c = when_kept _ _ s t (c.regs 1) c
plain_kept es (UnifyVariable r) s t c = tt
plain_kept es (UnifyValue r) s t c = tt
plain_kept es (UnifyConstant k) s t c = tt
plain_kept es (UnifyInteger z) s t c = tt
plain_kept es (UnifyVoid n) s t c = tt
plain_kept es (Builtin k) s t c = when_kept _ _ s t (all_kept s t c (builtin_arity k)) c
plain_kept es (Constrain k) s t c = when_kept _ _ s t (all_kept s t c (constraint_arity k)) c
plain_kept es (Label o) s t c = when_kept _ _ s t (all_kept s t c 1) c
plain_kept es (PostRange r n) s t c = when_kept _ _ s t (all_kept s t c n) c
plain_kept es (Best o least) s t c = when_kept _ _ s t (all_kept s t c 2) c
plain_kept es (code.Level n) s t c = when_kept _ _ (with_level s n) (with_level t n) (leveled_kept s t c n) (mark_kept s t c n)
plain_kept es (TestOnly n) s t c = when_kept _ _ (with_level s n) (with_level t n) (leveled_kept s t c n) (mark_kept s t c n)
plain_kept es (EnterTest n m to) s t c =
    when_kept _ _ (with_level (with_level s n) m) (with_level (with_level t n) m)
    (both_kept (may_be_level (slot_at s.frame n)) (may_be_level (slot_at s.frame m)) (may_be_level (slot_at t.frame n)) (may_be_level (slot_at t.frame m))
    (leveled_kept s t c n) (leveled_kept s t c m))
    (mark_kept (with_level s n) (with_level t n) (mark_kept s t c n) m)
plain_kept es (CutTo n) s t c = when_kept _ _ s t (level_kept s t c n) c
plain_kept es _ s t c = c

unify_kept : (i : Code) (s t : State) → Covers t s → Kept (unify_effect i s) (unify_effect i t)
unify_kept (UnifyVariable r) s t c = when_kept _ _ _ _ (free_kept s t c r) (make_kept (with_owed s (s.owed - 1)) (with_owed t (t.owed - 1)) (owed_less s t c 1) r)
unify_kept (UnifyValue r) s t c = when_kept _ _ _ _ (set_kept s t c r) (owed_less s t c 1)
unify_kept (UnifyConstant k) s t c = owed_less s t c 1
unify_kept (UnifyInteger z) s t c = owed_less s t c 1
unify_kept (UnifyVoid n) s t c = when_kept _ _ _ _ (λ e. ap (nat_le n) c.owed ∙ e) (owed_less s t c n)
unify_kept _ s t c = tt

-- An instruction that finds what it needs finds it in each state that covers this one, and the results cover one another.
pub effect_kept : (es : List Entry) (i : Code) (s t : State) → Covers t s → Kept (effect es i s) (effect es i t)
effect_kept es i s t c = by s.owed t.owed c.owed
  where
    by : (n m : ℕ) → m ≡ n → Kept (effect_by n es i s) (effect_by m es i t)
    by zero zero e = plain_kept es i s t c
    by zero (suc m) e = absurd (omega arith)
    by (suc n) zero e = absurd (omega arith)
    by (suc n) (suc m) e = unify_kept i s t c

-- Covering is transitive.
pub covers_both : (r s t : State) → Covers t s → Covers s r → Covers t r
covers_both r s t c d = record { frame = c.frame ∙ d.frame; owed = c.owed ∙ d.owed; regs = λ n e. c.regs n (d.regs n e) }

-- Each state covers itself.
pub covers_self : (s : State) → Covers s s
covers_self s = record { frame = refl; owed = refl; regs = λ n e. e }

-- One step of verified code: what is there is what the place needs, and what is there after it covers the states of all places that come next.
pub step_safe : (a : Area) (ss : List State) → IsVerifiedBy a ss → (at : ℕ) (i : Code) (s actual : State) → Holds a at i → HasState ss at s → Covers actual s → Leads a ss at i actual
step_safe a ss v at i s actual f g c =
    let w = v.leads at i s f g in
    go (effect a.entries i actual) (subst (λ o. Kept o (effect a.entries i actual)) w.1 (effect_kept a.entries i s actual c)) w.2 w.3 refl
  where
    handed : (t u : State) (to : ℕ) → Covers u t → HandedTo ss t to → HandedTo ss u to
    handed t u to c h = (h.0, h.1, covers_both h.0 t u c h.2)

    go : (o : Option State) → Kept (Some (v.leads at i s f g).0) o → ((to : ℕ) → IsTrue (has (named a i) to) → HandedTo ss (v.leads at i s f g).0 to)
        → (IsTrue (goes_on i) → HandedTo ss (v.leads at i s f g).0 (suc at)) → effect a.entries i actual ≡ o
        → Leads a ss at i actual
    go None k n h e = absurd k
    go (Some u) k n h e = (u, e, λ to m. handed (v.leads at i s f g).0 u to k (n to m), λ y. handed (v.leads at i s f g).0 u (suc at) k (h y))
