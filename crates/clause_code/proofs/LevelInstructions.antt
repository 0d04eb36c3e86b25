-- The level slots of a frame: what the instructions that set them do.
use Rattle.std.proofs.Common.{◌≡◌, ◌⊎◌, ℕ, zero, suc, ◌+◌, ◌-◌, ◌<◌, ◌≤◌, true, List, [], ◌∷◌, ◌++◌, Option, Some, None, option_map, slice_get, slice_set, refl}
use Rattle.std.proofs.Common.{ap, sym, ◌∙◌, inl, inr, arith, append_assoc, append-nil}
use Rattle.std.proofs.lemmas.Bool.{cases_eq, cases_lt, true≢false}
use Rattle.std.proofs.lemmas.Option.{slice_get_within}
use Rattle.fd_language.specs.Unifier.{Equation}
use Rattle.fd_model.specs.Goal.{Goal}
use Rattle.wam_code.specs.declared.instruction.Code.{Code}
use Rattle.wam_code.specs.declared.instruction.Code.TheVariants as code
use Rattle.wam_code.specs.Area.{Slot, Level, State}
use Rattle.wam_code.specs.Effect.{slot_at, is_level, may_be_level, with_mark, with_level, has_frame}
use Rattle.wam_code.specs.Places.{Depth, Places, put_level}
use Rattle.wam_code.proofs.Lemmas.{put_here, put_else}
use Rattle.clause_code.specs.Pieces.{Base, Does}
use Rattle.clause_code.specs.StateFlow.{Runs}
use Rattle.clause_code.specs.ClauseParts.{level_codes}
use Rattle.clause_code.proofs.Pieces.{does_both, does_level, does_nothing}
use Rattle.clause_code.proofs.FreshVariables.{drop_else, get_set_same, get_set_else}
use Rattle.clause_code.proofs.StepEffects.{when_true, plain_of}

-- one more slot
pub codes_more : (n k : ℕ) → level_codes (suc n) k ≡ level_codes n k ++ (code.Level (k + n) ∷ [])
codes_more zero k = let e : k ≡ k + 0 = omega arith in ap (λ i. code.Level i ∷ []) e
codes_more (suc n) k = let e : suc k + n ≡ k + suc n = omega arith in ap (λ is. code.Level k ∷ is) (codes_more n (suc k) ∙ ap (λ i. level_codes n (suc k) ++ (code.Level i ∷ [])) e)

-- the slots before k are written, and k
pub levels_next : (first k : ℕ) (old now new : List Code) → first ≤ k → now ≡ old ++ level_codes (k - first) first → new ≡ now ++ (code.Level k ∷ []) → new ≡ old ++ level_codes (k + 1 - first) first
levels_next first k old now new l e f =
    let up : k + 1 - first ≡ suc (k - first) = omega (arith, l) in
    let same : first + (k - first) ≡ k = omega (arith, l) in
    f
    ∙ ap (λ is. is ++ (code.Level k ∷ [])) e
    ∙ append_assoc old (level_codes (k - first) first) (code.Level k ∷ [])
    ∙ ap (λ i. old ++ (level_codes (k - first) first ++ (code.Level i ∷ []))) (sym same)
    ∙ ap (λ is. old ++ is) (sym (codes_more (k - first) first))
    ∙ ap (λ n. old ++ level_codes n first) (sym up)

pub levels_none : (first : ℕ) (old : List Code) → old ≡ old ++ level_codes (first - first) first
levels_none first old = let none : 0 ≡ first - first = omega arith in sym (append-nil old) ∙ ap (λ n. old ++ level_codes n first) none

-- all of them are, where the slots from `first` on are written before k, and k is not before `end`
pub levels_all : (first end k : ℕ) → first ≤ k → (first ≤ end → k ≤ end) → end ≤ k → (end ≤ first → k ≡ first) → k - first ≡ end - first
levels_all first end k low high past early = elim (cases_lt first end) [
  | inl m ↦ let h = high (omega (arith, m)) in omega (arith, h, past)
  | inr m ↦ let e = early m in omega (arith, e, m)
]

-- ---- what they do

-- So many slots from k on hold the depth; all else is as it was.
pub record LevelsDone (b : Base) (at count k : ℕ) (d : Depth) (p : Places) : Type 0 where
  pub q : Places
  pub does : (es : List Equation) (gs : List Goal) → Does b at (level_codes count k) p es gs q es gs
  pub here : (j : ℕ) → k ≤ j → j < k + count → q.levels j ≡ Some d
  pub before : (j : ℕ) → j < k → q.levels j ≡ p.levels j
  pub xs : q.x ≡ p.x
  pub ys : (j : ℕ) → (j < k) ⊎ (k + count ≤ j) → q.y j ≡ p.y j
  pub noted : q.noted ≡ p.noted
  pub known : q.known ≡ p.known
  pub own : q.own ≡ p.own
  pub top : q.top ≡ p.top

pub levels_done : (b : Base) (at count k : ℕ) (d : Depth) (p : Places) → p.noted ≡ Some d → LevelsDone b at count k d p
levels_done b at zero k d p n = record {
  q = p;
  does = λ es gs. does_nothing b at p es gs;
  here = λ j l m. absurd (omega (arith, l, m));
  before = λ j l. refl;
  xs = refl;
  ys = λ j o. refl;
  noted = refl;
  known = refl;
  own = refl;
  top = refl;
}
levels_done b at (suc count) k d p n =
    let r = levels_done b (suc at) count (suc k) d (put_level p k d) n in
    record {
      q = r.q;
      does = λ es gs. does_both b at (code.Level k ∷ []) (level_codes count (suc k)) p (put_level p k d) r.q es es es gs gs gs (does_level b at k d p es gs n) (r.does es gs);
      here = λ j l m. elim (cases_eq j k) [
        | inl e ↦ r.before j (omega (arith, e)) ∙ ap (put_level p k d).levels e ∙ put_here k d p.levels
        | inr o ↦ r.here j (omega (arith, l, o)) (omega (arith, m))
      ];
      before = λ j l. r.before j (omega (arith, l)) ∙ put_else k d p.levels j (λ e. omega (arith, e, l));
      xs = r.xs;
      ys = λ j o. elim o [
        | inl l ↦ r.ys j (inl (omega (arith, l))) ∙ drop_else k p.y j (λ e. omega (arith, e, l))
        | inr l ↦ r.ys j (inr (omega (arith, l))) ∙ drop_else k p.y j (λ e. omega (arith, e, l))
      ];
      noted = r.noted;
      known = r.known;
      own = r.own;
      top = r.top;
    }

-- ---- how states go through them

level_here : (o : Option (List Slot)) (n : ℕ) → may_be_level (slot_at o n) ≡ true → is_level (slot_at (option_map (with_mark n) o) n) ≡ true
level_here None n h = absurd (true≢false (sym h))
level_here (Some ss) zero h = absurd (true≢false (sym h))
level_here (Some ss) (suc n) h = by (slice_get ss n) refl h
  where
    by : (o : Option Slot) → slice_get ss n ≡ o → may_be_level o ≡ true → is_level (slice_get (slice_set ss n Level) n) ≡ true
    by None e h = absurd (true≢false (sym h))
    by (Some x) e h = ap is_level (get_set_same ss n Level (slice_get_within ss n x e))

level_else : (o : Option (List Slot)) (n m : ℕ) → (m ≡ n → ⊥) → slot_at (option_map (with_mark n) o) m ≡ slot_at o m
level_else None n m h = refl
level_else (Some ss) n zero h = refl
level_else (Some ss) zero (suc m) h = refl
level_else (Some ss) (suc n) (suc m) h = get_set_else ss n m Level (λ e. h (ap suc e))

frame_stays : (o : Option (List Slot)) (n : ℕ) → has_frame (option_map (with_mark n) o) ≡ has_frame o
frame_stays None n = refl
frame_stays (Some ss) n = refl

pub record LevelsRun (b : Base) (count k : ℕ) (s : State) : Type 0 where
  pub t : State
  pub runs : Runs b s (level_codes count k) t
  pub here : (j : ℕ) → k ≤ j → j < k + count → is_level (slot_at t.frame j) ≡ true
  pub others : (j : ℕ) → (j < k) ⊎ (k + count ≤ j) → slot_at t.frame j ≡ slot_at s.frame j
  pub regs : t.regs ≡ s.regs
  pub owed : t.owed ≡ s.owed
  pub shape : has_frame t.frame ≡ has_frame s.frame

pub levels_run : (b : Base) (count k : ℕ) (s : State) → s.owed ≡ 0 → ((j : ℕ) → k ≤ j → j < k + count → may_be_level (slot_at s.frame j) ≡ true) → LevelsRun b count k s
levels_run b zero k s o free = record { t = s; runs = refl; here = λ j l m. absurd (omega (arith, l, m)); others = λ j h. refl; regs = refl; owed = refl; shape = refl }
levels_run b (suc count) k s o free =
    let u : State = with_level s k in
    let r = levels_run b count (suc k) u o (λ j l m. ap may_be_level (level_else s.frame k j (λ e. omega (arith, e, l))) ∙ free j (omega (arith, l)) (omega (arith, m))) in
    record {
      t = r.t;
      runs = (u, plain_of b (code.Level k) s o ∙ when_true _ u (free k (omega arith) (omega arith)), refl, tt, r.runs);
      here = λ j l m. elim (cases_eq j k) [
        | inl e ↦ ap is_level (r.others j (inl (omega (arith, e)))) ∙ ap (λ i. is_level (slot_at u.frame i)) e ∙ level_here s.frame k (free k (omega arith) (omega arith))
        | inr d ↦ r.here j (omega (arith, l, d)) (omega (arith, m))
      ];
      others = λ j h. elim h [
        | inl l ↦ r.others j (inl (omega (arith, l))) ∙ level_else s.frame k j (λ e. omega (arith, e, l))
        | inr l ↦ r.others j (inr (omega (arith, l))) ∙ level_else s.frame k j (λ e. omega (arith, e, l))
      ];
      regs = r.regs;
      owed = r.owed;
      shape = r.shape ∙ frame_stays s.frame k;
    }
