-- Code that is verified and stands for no program: a query that switches on a register into which it has just put an integer.
use Rattle.std.proofs.Common.{◌≡◌, ℕ, zero, suc, pos, ◌<◌, Bool, true, false, ◌==◌, ◌||◌, IsTrue, List, [], ◌∷◌, Option, Some, None, slice_get, All, refl, sym}
use Rattle.std.proofs.Common.{◌∙◌, subst, inl, inr, arith}
use Rattle.std.proofs.lemmas.Bool.{true≢false}
use Rattle.std.proofs.lemmas.Bool.Decides.{nat_tests}
use Rattle.fd_language.specs.Family.{has}
use Rattle.term_pool.specs.Contents.{Contents}
use Rattle.wam_code.specs.declared.instruction.Code.TheVariants.{PutInteger, Allocate, Execute, Proceed, AnswerNow, TryMeElse, RetryMeElse, SwitchOnTerm}
use Rattle.wam_code.specs.Area.{Slot, State, Span, Area, Holds, HasState, HasQuery}
use Rattle.wam_code.specs.VerifiedCode.{named, goes_on, Names, Falls, Covers, Leads, BeginsWith, IsQuery, is_other, is_before, is_behind, NamesOther, HoldsOne}
use Rattle.wam_code.specs.VerifiedCode.{AreChoices, IsAtom, IsThere, IsVerifiedBy, IsVerified}
use Rattle.wam_code.proofs.Lemmas.{covers_self}

abbrev at_state : List ℕ → Option (List Slot) → State
at_state regs frame = record { regs = regs; frame = frame; owed = 0 }

abbrev whole_span : Span
whole_span = record { at = 0; end = 4; names = [] }

abbrev pub unmeant : Contents → Area
unmeant c = record { pool = c; code = Allocate 0 ∷ PutInteger (pos 1) 1 ∷ SwitchOnTerm 3 3 3 3 ∷ AnswerNow ∷ []; tables = []; ranges = []; entries = []; queries = whole_span ∷ [] }

abbrev its_states : List State
its_states = at_state [] None ∷ at_state [] (Some []) ∷ at_state (1 ∷ []) (Some []) ∷ at_state (1 ∷ []) (Some []) ∷ []

-- ---- facts on each place of a list

abbrev AllAt : {X : Type 0} → (ℕ → X → Type 0) → List X → Type 0
AllAt P [] = Unit {0}
AllAt P (x ∷ xs) = P 0 x × AllAt (λ k. P (suc k)) xs

all_at : {X : Type 0} (P : ℕ → X → Type 0) (xs : List X) → AllAt P xs → (at : ℕ) (x : X) → slice_get xs at ≡ Some x → P at x
all_at P [] h at x e = absurd (cc)
all_at P (y ∷ ys) h zero x e = let same : y ≡ x = cc in subst (P 0) same h.0
all_at P (y ∷ ys) h (suc at) x e = all_at (λ k. P (suc k)) ys h.1 at x e

on_one : {X : Type 0} (P : X → Type 0) (x : X) → P x → (y : X) → Some x ≡ Some y → P y
on_one P x h y e = let same : x ≡ y = cc in subst P same h

none_named : {A : Type 0} (to : ℕ) → IsTrue (has [] to) → A
none_named to h = absurd (true≢false (sym h))

no_bool : {A : Type 0} → false ≡ true → A
no_bool h = absurd (true≢false (sym h))

first_named : (n : ℕ) (rest : List ℕ) (to : ℕ) → IsTrue (has (n ∷ rest) to) → (IsTrue (has rest to) → to ≡ n) → to ≡ n
first_named n rest to h more = by (n == to) refl h
  where
    by : (b : Bool) → n == to ≡ b → b || has rest to ≡ true → to ≡ n
    by true e g = grind (arith, nat_tests)
    by false e g = more g

threes : (to : ℕ) → IsTrue (has (3 ∷ 3 ∷ 3 ∷ 3 ∷ []) to) → to ≡ 3
threes to h = first_named 3 (3 ∷ 3 ∷ 3 ∷ []) to h (λ g. first_named 3 (3 ∷ 3 ∷ []) to g (λ i. first_named 3 (3 ∷ []) to i (λ j. first_named 3 [] to j (none_named to))))

module _ (c : Contents) where
  abbrev a : Area
  a = unmeant c

  names_only : (at to : ℕ) → Names a at to → (at ≡ 2) × (to ≡ 3)
  names_only at to h = all_at (λ k i. IsTrue (has (named a i) to) → (k ≡ 2) × (to ≡ 3)) a.code (none_named to, (none_named to, ((λ g. (refl, threes to g)), (none_named to, tt)))) at h.0 h.1 h.2

  falls_only : (at to : ℕ) → Falls a at to → (to ≡ suc at) × (at < 2)
  falls_only at to h = (h.3, all_at (λ k i. IsTrue (goes_on i) → k < 2) a.code ((λ g. omega arith), ((λ g. omega arith), (no_bool, (no_bool, tt)))) at h.0 h.1 h.2)

  no_other : {A : Type 0} (to : ℕ) → HoldsOne a is_other to → A
  no_other to h = absurd (all_at (λ k i. IsTrue (is_other i) → ⊥) a.code (no_bool, (no_bool, (no_bool, (no_bool, tt)))) to h.0 h.1 h.2)

  no_before : {A : Type 0} (to : ℕ) → HoldsOne a is_before to → A
  no_before to h = absurd (all_at (λ k i. IsTrue (is_before i) → ⊥) a.code (no_bool, (no_bool, (no_bool, (no_bool, tt)))) to h.0 h.1 h.2)

  no_behind : {A : Type 0} (to : ℕ) → HoldsOne a is_behind to → A
  no_behind to h = absurd (all_at (λ k i. IsTrue (is_behind i) → ⊥) a.code (no_bool, (no_bool, (no_bool, (no_bool, tt)))) to h.0 h.1 h.2)

  no_choice : {A : Type 0} (at to : ℕ) → NamesOther a at to → A
  no_choice at to (inl h) = absurd (all_at (λ k i. i ≡ TryMeElse to → ⊥) a.code ((λ g. cc), ((λ g. cc), ((λ g. cc), ((λ g. cc), tt)))) at (TryMeElse to) h refl)
  no_choice at to (inr h) = absurd (all_at (λ k i. i ≡ RetryMeElse to → ⊥) a.code ((λ g. cc), ((λ g. cc), ((λ g. cc), ((λ g. cc), tt)))) at (RetryMeElse to) h refl)

  one_query : (n : ℕ) (q : Span) → HasQuery a n q → (n ≡ 0) × (q ≡ whole_span)
  one_query n q h = all_at (λ k x. (k ≡ 0) × (x ≡ whole_span)) a.queries ((refl, refl), tt) n q h

  answers_last : (at : ℕ) → Holds a at AnswerNow → at ≡ 3
  answers_last at h = all_at (λ k i. i ≡ AnswerNow → k ≡ 3) a.code ((λ g. absurd (cc)), ((λ g. absurd (cc)), ((λ g. absurd (cc)), ((λ g. refl), tt)))) at AnswerNow h refl

  its_query : IsQuery a its_states whole_span
  its_query = record {
    some = omega arith;
    within = omega arith;
    last = λ at e. let n : at ≡ 3 = omega (arith, e) in subst (λ k. Holds a k AnswerNow) (sym n) refl;
    shown = λ at s e h k low high. absurd (omega (arith, low, high));
    no_proceed = λ at b h. all_at (λ k i. i ≡ Proceed → ⊥) a.code ((λ g. cc), ((λ g. cc), ((λ g. cc), ((λ g. cc), tt)))) at Proceed h refl;
    no_execute = λ at e b h. all_at (λ k i. i ≡ Execute e → ⊥) a.code ((λ g. cc), ((λ g. cc), ((λ g. cc), ((λ g. cc), tt)))) at (Execute e) h refl;
    no_entry = λ n e h b. cc;
    stays = λ at to b h. let w = names_only at to h in let e = w.1 in (omega (arith, e), omega (arith, e));
    not_named = λ at to b h i. let w = names_only at to h in let e = w.0 in b (omega (arith, e), omega (arith, e));
    not_fallen = λ at to b h i. let w = falls_only at to h in let l = w.1 in b (omega (arith, l), omega (arith, l));
  }

  choices : AreChoices a
  choices = record {
    others = λ at to h. no_choice at to h;
    named_once = λ to h. no_other to h;
    named_alone = λ at to h g. no_other to h;
    not_fallen = λ at to h g. no_other to h;
    no_start = λ to h. no_other to h;
    behind = λ at h. no_before at h;
    before = λ to h. no_behind to h;
    not_named = λ at to h g. no_behind to h;
    no_start_behind = λ to h. no_behind to h;
  }

  leads_all : AllAt (λ k i. (s : State) → HasState its_states k s → Leads a its_states k i s) a.code
  leads_all = (
    on_one (Leads a its_states 0 (Allocate 0)) (at_state [] None) (at_state [] (Some []), refl, (λ to h. none_named to h), λ g. (at_state [] (Some []), refl, covers_self _)),
    (
      on_one (Leads a its_states 1 (PutInteger (pos 1) 1)) (at_state [] (Some [])) (
        at_state (1 ∷ []) (Some []),
        refl,
        (λ to h. none_named to h),
        λ g. (at_state (1 ∷ []) (Some []), refl, covers_self _),
      ),
      (
        on_one (Leads a its_states 2 (SwitchOnTerm 3 3 3 3)) (at_state (1 ∷ []) (Some [])) (
          at_state (1 ∷ []) (Some []),
          refl,
          (λ to h. subst (λ n. (t : State) × HasState its_states n t × Covers (at_state (1 ∷ []) (Some [])) t)
              (sym (threes to h)) (at_state (1 ∷ []) (Some []), refl, covers_self _)),
          λ g. no_bool g,
        ),
        (on_one (Leads a its_states 3 AnswerNow) (at_state (1 ∷ []) (Some [])) (at_state (1 ∷ []) (Some []), refl, (λ to h. none_named to h), λ g. no_bool g), tt),
      ),
    ),
  )

  names_there : All (λ q. All (λ x. IsAtom a x) q.names) a.queries
  names_there zero d l i x m = absurd (omega (arith, m))
  names_there (suc k) d l i x m = absurd (omega (arith, l))

  by_states : IsVerifiedBy a its_states
  by_states = record {
    states = refl;
    leads = λ at i s f g. all_at (λ k i. (s : State) → HasState its_states k s → Leads a its_states k i s) a.code leads_all at i f s g;
    ahead = λ at to h. let w = names_only at to h in (omega (arith, w.0, w.1), omega (arith, w.1));
    next = λ at to h. let w = falls_only at to h in omega (arith, w.0, w.1);
    entries = λ n e h. absurd (cc);
    firsts = λ n q h. subst (λ x. BeginsWith its_states x.at 0) (sym (one_query n q h).1) (
      at_state [] None,
      refl,
      record { regs = λ m. ((λ g. none_named m g), λ g. absurd (omega (arith, g.0, g.1))); frame = refl; owed = refl },
    );
    queries = λ n q h. subst (IsQuery a its_states) (sym (one_query n q h).1) its_query;
    apart = λ n m at q r h g b d. (one_query n q h).0 ∙ sym (one_query m r g).0;
    answers = λ at h. (0, whole_span, refl, (let n = answers_last at h in let e : suc at ≡ 4 = omega (arith, n) in e));
    choices = choices;
    there = λ at i h. all_at (λ k i. IsThere a i) a.code (tt, (tt, (tt, (tt, tt)))) at i h;
    keys = λ k d l. absurd (omega (arith, l));
    predicate_names = λ k d l. absurd (omega (arith, l));
    query_names = names_there;
  }

  pub unmeant_verified : IsVerified a
  unmeant_verified = (its_states, by_states)
