-- The conditions of places.
use Rattle.std.proofs.Common.{◌≡◌, ◌⊎◌, ◌↔◌, ℕ, zero, suc, ◌+◌, ◌-◌, ◌<◌, ◌≤◌, Bool, true, false, ◌&&◌, not, IsTrue, List, map, length, get_or, Option, Some}
use Rattle.std.proofs.Common.{None, option_map, refl, sym, ap, ◌∙◌, subst, inl, inr, arith, All}
use Rattle.std.proofs.lemmas.Bool.{and_parts, and_from, cases_Bool}
use Rattle.std.proofs.lemmas.List.{length-map, get_or-map}
use Rattle.std.proofs.lemmas.Option.{slice_get-map, slice_get_read, slice_get_within}
use Rattle.fd_language.specs.Family.{has}
use Rattle.fd_language.specs.Range.{Range}
use Rattle.fd_language.specs.Spelling.{empty_range}
use Rattle.wam_code.specs.declared.instruction.Code.{Code}
use Rattle.wam_code.specs.declared.instruction.Code.TheVariants.{TryMeElse, RetryMeElse, TrustMe, AnswerNow}
use Rattle.wam_code.specs.Area.{Slot, State, Span, Area, Holds, HasState}
use Rattle.wam_code.specs.Effect.{is_cell, slot_at}
use Rattle.wam_code.specs.VerifiedCode.{named, goes_on, Names, Falls, is_other, NamesOther, is_before, is_behind, HoldsOne, IsNoStart, IsThere, IsKey, IsAtom}
use Rattle.wam_code.specs.VerifiedCode.{BeginsWith}
use Rattle.code_text.specs.declared.place_predecessors.Namers.{Namers}
use Rattle.code_text.specs.declared.place_predecessors.Namers.TheVariants.{Nobody, One, More}
use Rattle.code_text.specs.declared.place_predecessors.Reach.{Reach}
use Rattle.code_listing.specs.declared.states.PlaceState.{PlaceState}
use Rattle.code_listing.specs.Listing.{table_of}
use Rattle.code_listing.specs.States.{state_of, states_of}
use Rattle.code_flow.specs.Successors.{LeadsOn}
use Rattle.code_flow.specs.PlaceConditions.{FitsInstruction, FitsBefore, IsLast, AreShown, ShowsAt}
use Rattle.code_text.specs.LocalConditions.{AreCells, FitsAlone, IsAnswerTold}
use Rattle.code_text.specs.FaultPlaces.{IsTold}
use Rattle.code_text.specs.Places.{FitsPlace, LiesAhead, HasChoices, FitsOther, FitsBehind}
use Rattle.code_text.specs.Predecessors.{IsReach, IsNamedPlainly, AreNamers, namers_at, other_of}
use Rattle.code_text.proofs.Predecessors.{names_cases, other_is_named, other_names, other_from, start_or_not}

-- ---- tests

-- the first of two conditions that both hold, and the other
pub both_hold : (b c : Bool) (P Q : Type 0) → (IsTrue b ↔ P) → (IsTrue c ↔ Q) → IsTrue (b && c) ↔ P × Q
both_hold b c P Q f g = (λ t. (let h = and_parts b c t in (f.0 h.0, g.0 h.1)), λ x. and_from b c (f.1 x.0) (g.1 x.1))

pub not_holds : (b : Bool) (P : Type 0) → (IsTrue b ↔ P) → IsTrue (not b) ↔ ¬ P
not_holds b P f = (λ t x. (let h : not true ≡ true = sym (ap not (f.1 x)) ∙ t in cc (h)), λ never. go (cases_Bool b) never)
  where
    go : (b ≡ true) ⊎ (b ≡ false) → ¬ P → not b ≡ true
    go (inl e) never = absurd (never (f.0 e))
    go (inr e) never = ap not e

pub same_test : (b : Bool) (P Q : Type 0) → (IsTrue b ↔ P) → (P → Q) → (Q → P) → IsTrue b ↔ Q
same_test b P Q f there back = (λ t. there (f.0 t), λ q. f.1 (back q))

-- of a place whose instruction is known
pub holds_one : (a : Area) (at : ℕ) (i : Code) (test : Code → Bool) → Holds a at i → IsTrue (test i) ↔ HoldsOne a test at
holds_one a at i test h = (λ t. (i, h, t), λ (j, g, t). (let e : Some j ≡ Some i = sym g ∙ h in let z : j ≡ i = cc (e) in subst (λ c. test c ≡ true) z t))

pub holds_by : (a : Area) (at : ℕ) (i : Code) (test : Code → Bool) (b : Bool) → Holds a at i → b ≡ test i → IsTrue b ↔ HoldsOne a test at
holds_by a at i test b h e = (λ t. (holds_one a at i test h).0 (sym e ∙ t), λ x. e ∙ (holds_one a at i test h).1 x)

pub holds_past : (a : Area) (at : ℕ) (test : Code → Bool) → length a.code ≤ at → IsTrue false ↔ HoldsOne a test at
holds_past a at test l = (λ e. absurd (cc (e)), λ (i, h, t). absurd (let w = slice_get_within a.code at i h in let z : ⊥ = omega (arith, l, w) in z))

pub holds_none : (a : Area) (at : ℕ) (test : Code → Bool) → length a.code ≤ at → ¬ HoldsOne a test at
holds_none a at test l (i, h, t) = omega (arith, l, slice_get_within a.code at i h)

-- ---- what lies ahead

module _ (a : Area) (at : ℕ) (i : Code) (h : Holds a at i) where
  is_code : (j : Code) → Holds a at j → j ≡ i
  is_code j g = let e : Some j ≡ Some i = sym g ∙ h in cc (e)

  pub ahead_is : (goes_on i ≡ true → suc at < length a.code) → ((to : ℕ) → IsTrue (has (named a i) to) → (at < to) × (to < length a.code)) → LiesAhead a at
  ahead_is next ahead = record {
    ahead = λ to (j, g, t). ahead to (subst (λ c. has (named a c) to ≡ true) (is_code j g) t);
    next = λ to (j, g, t, e). (let l = next (subst (λ c. goes_on c ≡ true) (is_code j g) t) in let r : to < length a.code = omega (arith, l, e) in r);
  }

  pub ahead_named : LiesAhead a at → (to : ℕ) → IsTrue (has (named a i) to) → (at < to) × (to < length a.code)
  ahead_named l to t = l.ahead to (i, h, t)

  pub ahead_next : LiesAhead a at → goes_on i ≡ true → suc at < length a.code
  ahead_next l t = l.next (suc at) (i, h, t, refl)

  -- ---- the instruction's own conditions

  pub instruction_fits : IsThere a i → All (λ row. IsKey a row.0) (table_of a.tables i) → HasChoices a at → LiesAhead a at → (ss : List State)
      → ((j : Code) (s : State) → Holds a at j → HasState ss at s → LeadsOn a ss at j s) → (j : Code) → Holds a at j → FitsInstruction a ss at j
  instruction_fits there keys c l ss leads j g = record {
    leads = λ s x. leads j s g x;
    ahead = l.ahead;
    next = l.next;
    there = subst (IsThere a) (sym (is_code j g)) there;
    keys = subst (λ x. All (λ row. IsKey a row.0) (table_of a.tables x)) (sym (is_code j g)) keys;
    others = c.others;
    behind = λ t. c.behind (j, g, t);
  }

  module _ (ss : List State) (f : (j : Code) → Holds a at j → FitsInstruction a ss at j) where
    pub fits_there : IsThere a i
    fits_there = (f i h).there

    pub fits_keys : All (λ row. IsKey a row.0) (table_of a.tables i)
    fits_keys = (f i h).keys

    pub fits_choices : HasChoices a at
    fits_choices = record { others = (f i h).others; behind = λ (j, g, t). (f j g).behind t }

    pub fits_ahead : LiesAhead a at
    fits_ahead = record { ahead = (f i h).ahead; next = (f i h).next }

    pub fits_leads : (j : Code) (s : State) → Holds a at j → HasState ss at s → LeadsOn a ss at j s
    fits_leads j s g x = (f j g).leads s x

-- ---- what stands before

-- the place before
pub before_is : (a : Area) (at : ℕ) (test : Code → Bool) (b : Bool) → 0 < at → (IsTrue b ↔ HoldsOne a test (at - 1)) → IsTrue b ↔ ((from : ℕ) × (at ≡ suc from) × HoldsOne a test from)
before_is a at test b pos f =
    (λ t. (at - 1, (let e : at ≡ suc (at - 1) = omega (arith, pos) in e), f.0 t), λ (from, e, x). f.1 (subst (HoldsOne a test) (let z : from ≡ at - 1 = omega (arith, e) in z) x))

pub before_first : (a : Area) (at : ℕ) (test : Code → Bool) → at ≤ 0 → IsTrue false ↔ ((from : ℕ) × (at ≡ suc from) × HoldsOne a test from)
before_first a at test h = (λ e. absurd (cc (e)), λ (from, e, x). absurd (let z : ⊥ = omega (arith, h, e) in z))

pub falls_none : (a : Area) (at : ℕ) → at ≤ 0 → IsTrue false ↔ ((from : ℕ) × Falls a from at)
falls_none a at h = (λ e. absurd (cc (e)), λ (from, (i, g, t, e)). absurd (let z : ⊥ = omega (arith, h, e) in z))

-- what isn't so
pub not_so : (P : Type 0) → ¬ P → IsTrue false ↔ P
not_so P never = (λ e. absurd (cc (e)), λ x. absurd (never x))

-- a test that failed
pub failed : (b : Bool) (P : Type 0) → (IsTrue b ↔ P) → b ≡ false → ¬ P
failed b P f e x = let t : false ≡ true = sym e ∙ f.1 x in cc (t)

pub falls_is : (a : Area) (at : ℕ) (b : Bool) → (IsTrue b ↔ ((from : ℕ) × (at ≡ suc from) × HoldsOne a goes_on from)) → IsTrue b ↔ ((from : ℕ) × Falls a from at)
falls_is a at b f = (λ t. (let g = f.0 t in (g.0, (g.2.0, g.2.1, g.2.2, g.1))), λ (from, (i, h, t, e)). f.1 (from, e, (i, h, t)))

module _ (a : Area) (at : ℕ) (low : at < length a.code) (r : Reach) (reach : IsReach a r) where
  namers : AreNamers a (length a.code) at (namers_at r.namers.items at)
  namers = reach.namers at low

  low_namer : (n : ℕ) → NamesOther a n at → n < length a.code
  low_namer n (inl h) = slice_get_within a.code n (TryMeElse at) h
  low_namer n (inr h) = slice_get_within a.code n (RetryMeElse at) h

  one_is : namers_at r.namers.items at ≡ One → (from : ℕ) × NamesOther a from at × ((n : ℕ) → NamesOther a n at → n ≡ from)
  one_is e = let g = subst (AreNamers a (length a.code) at) e namers in (g.0, g.2, λ n x. g.3 n (low_namer n x) x)

  none_is : namers_at r.namers.items at ≡ Nobody → (n : ℕ) → ¬ NamesOther a n at
  none_is e n x = let g = subst (AreNamers a (length a.code) at) e namers in g n (low_namer n x) x

  one_from : (x : Namers) → AreNamers a (length a.code) at x → (from : ℕ) × NamesOther a from at × ((n : ℕ) → NamesOther a n at → n ≡ from) → x ≡ One
  one_from Nobody never (n, x, u) = absurd (never n (low_namer n x) x)
  one_from One f g = refl
  one_from More (n, m, l, x, y) (k, z, u) = absurd (let e = u n x in let f = u m y in let w : ⊥ = omega (arith, l, e, f) in w)

  none_from : (x : Namers) → AreNamers a (length a.code) at x → ((n : ℕ) → ¬ NamesOther a n at) → x ≡ Nobody
  none_from Nobody f g = refl
  none_from One (n, l, x, u) g = absurd (g n x)
  none_from More (n, m, l, x, y) g = absurd (g n x)

  no_start : ¬ (has r.starts.keys at ≡ true) → IsNoStart a at
  no_start never = start_or_not a at (λ x. never ((reach.starts at).1 x))

  alone : ¬ (has r.plain.keys at ≡ true) → (from : ℕ) → Names a from at → NamesOther a from at
  alone never from x = go (names_cases a from at x)
    where
      go : NamesOther a from at ⊎ IsNamedPlainly a (length a.code) at → NamesOther a from at
      go (inl y) = y
      go (inr y) = absurd (never ((reach.plain at).1 y))

  pub other_fits : (namers_at r.namers.items at ≡ One) × (¬ (has r.plain.keys at ≡ true) × (¬ ((from : ℕ) × Falls a from at) × IsNoStart a at)) → FitsOther a at
  other_fits (e, (p, (f, s))) = record { named_once = one_is e; named_alone = alone p; not_fallen = λ from x. f (from, x); no_start = s }

  pub other_back : FitsOther a at → (namers_at r.namers.items at ≡ One) × (¬ (has r.plain.keys at ≡ true) × (¬ ((from : ℕ) × Falls a from at) × IsNoStart a at))
  other_back f = (one_from (namers_at r.namers.items at) namers f.named_once, (λ t. (let g = (reach.plain at).0 t in g.3 (f.named_alone g.0 g.2)), (λ x. f.not_fallen x.0 x.1, f.no_start)))

  pub behind_fits : ((from : ℕ) × (at ≡ suc from) × HoldsOne a is_before from) × ((namers_at r.namers.items at ≡ Nobody) × (¬ (has r.plain.keys at ≡ true) × IsNoStart a at)) → FitsBehind a at
  behind_fits (b, (e, (p, s))) = record { before = b; not_named = λ from x. none_is e from (alone p from x); no_start = s }

  pub behind_back : FitsBehind a at → ((from : ℕ) × (at ≡ suc from) × HoldsOne a is_before from) × ((namers_at r.namers.items at ≡ Nobody) × (¬ (has r.plain.keys at ≡ true) × IsNoStart a at))
  behind_back f = (
    f.before,
    (
      none_from (namers_at r.namers.items at) namers (λ n x. f.not_named n (other_is_named a n at x)),
      (λ t. (let g = (reach.plain at).0 t in f.not_named g.0 g.2), f.no_start),
    ),
  )

-- ---- all that stands before

-- a place holds no other part of both kinds
not_both : (a : Area) (at : ℕ) → HoldsOne a is_other at → ¬ HoldsOne a is_behind at
not_both a at (i, h, t) (j, g, u) =
    let e : Some j ≡ Some i = sym g ∙ h in
    let z : j ≡ i = cc (e) in
    go i t (subst (λ c. is_behind c ≡ true) z u)
  where
    go : (i : Code) → is_other i ≡ true → is_behind i ≡ true → ⊥
    go (RetryMeElse to) t u = cc (u)
    go TrustMe t u = cc (u)
    go i t u = cc (t)

pub before_other : (a : Area) (at : ℕ) → HoldsOne a is_other at → FitsOther a at → FitsBefore a at
before_other a at o f = record {
  named_once = λ x. f.named_once;
  named_alone = λ from x. f.named_alone from;
  not_fallen = λ from x. f.not_fallen from;
  no_start = λ x. f.no_start;
  before = λ x. absurd (not_both a at o x);
  not_named = λ from x. absurd (not_both a at o x);
  no_start_behind = λ x. absurd (not_both a at o x);
}

pub before_behind : (a : Area) (at : ℕ) → HoldsOne a is_behind at → FitsBehind a at → FitsBefore a at
before_behind a at b f = record {
  named_once = λ x. absurd (not_both a at x b);
  named_alone = λ from x. absurd (not_both a at x b);
  not_fallen = λ from x. absurd (not_both a at x b);
  no_start = λ x. absurd (not_both a at x b);
  before = λ x. f.before;
  not_named = λ from x. f.not_named from;
  no_start_behind = λ x. f.no_start;
}

pub before_none : (a : Area) (at : ℕ) → ¬ HoldsOne a is_other at → ¬ HoldsOne a is_behind at → FitsBefore a at
before_none a at o b = record {
  named_once = λ x. absurd (o x);
  named_alone = λ from x. absurd (o x);
  not_fallen = λ from x. absurd (o x);
  no_start = λ x. absurd (o x);
  before = λ x. absurd (b x);
  not_named = λ from x. absurd (b x);
  no_start_behind = λ x. absurd (b x);
}

pub other_of_before : (a : Area) (at : ℕ) → HoldsOne a is_other at → FitsBefore a at → FitsOther a at
other_of_before a at o f = record { named_once = f.named_once o; named_alone = λ from. f.named_alone from o; not_fallen = λ from. f.not_fallen from o; no_start = f.no_start o }

pub behind_of_before : (a : Area) (at : ℕ) → HoldsOne a is_behind at → FitsBefore a at → FitsBehind a at
behind_of_before a at b f = record { before = f.before b; not_named = λ from. f.not_named from b; no_start = f.no_start_behind b }

-- behind the code
pub place_past : (a : Area) (ss : List State) (at : ℕ) → length a.code ≤ at → FitsPlace a ss at
place_past a ss at l = record {
  instruction = λ i h. absurd (let w = slice_get_within a.code at i h in let z : ⊥ = omega (arith, l, w) in z);
  before = before_none a at (holds_none a at is_other l) (holds_none a at is_behind l);
  answers = λ h. absurd (let w = slice_get_within a.code at AnswerNow h in let z : ⊥ = omega (arith, l, w) in z);
}

-- ---- by an instruction that is known

module _ (a : Area) (at : ℕ) (i : Code) (h : Holds a at i) where
  pub others_of : ((to : ℕ) → other_of i ≡ Some to → HoldsOne a is_other to) → (HoldsOne a is_before at → HoldsOne a is_behind (at + 1)) → HasChoices a at
  others_of f g = record { others = λ to n. f to (other_from a at i h to n); behind = λ x. subst (HoldsOne a is_behind) (let z : at + 1 ≡ suc at = omega arith in z) (g x) }

  pub has_others : HasChoices a at → (to : ℕ) → other_of i ≡ Some to → HoldsOne a is_other to
  has_others c to e = c.others to (other_names a at i h to e)

  pub has_next : HasChoices a at → HoldsOne a is_before at → HoldsOne a is_behind (at + 1)
  has_next c x = subst (HoldsOne a is_behind) (let z : suc at ≡ at + 1 = omega arith in z) (c.behind x)

  pub answer_last : (b : Bool) (L : Type 0) → i ≡ AnswerNow → (IsTrue b ↔ L) → IsTrue b ↔ (Holds a at AnswerNow → L)
  answer_last b L e f = (λ t g. f.0 t, λ g. f.1 (g (subst (Holds a at) e h)))

  pub answer_not : (L : Type 0) → ¬ (i ≡ AnswerNow) → IsTrue true ↔ (Holds a at AnswerNow → L)
  answer_not L never = (λ t g. absurd (never (let e : Some i ≡ Some AnswerNow = sym h ∙ g in cc (e))), λ f. refl)

-- a query that ends behind a place
pub last_is : (a : Area) (keys : List ℕ) (at : ℕ) (b : Bool) → b ≡ has keys (at + 1) → (IsTrue (has keys (suc at)) ↔ IsLast a at) → IsTrue b ↔ IsLast a at
last_is a keys at b e f = (λ t. f.0 (sym same ∙ t), λ l. same ∙ f.1 l)
  where
    same : b ≡ has keys (suc at)
    same = e ∙ ap (has keys) (let z : at + 1 ≡ suc at = omega arith in z)

-- ---- what an answer shows

pub shown_none : (s : State) (count : ℕ) → s.frame ≡ None → (count ≡ 0) ↔ AreShown count s
shown_none s count e = (λ z n low high. absurd (let w : ⊥ = omega (arith, z, low, high) in w), λ f. back count f)
  where
    back : (c : ℕ) → AreShown c s → c ≡ 0
    back zero f = refl
    back (suc c) f = let z : false ≡ true = sym (ap (λ o. is_cell (slot_at o 1)) e) ∙ f 1 (omega arith) (omega arith) in cc (z)

pub shown_some : (s : State) (ss : List Slot) (count : ℕ) → s.frame ≡ Some ss → AreCells count ss ↔ AreShown count s
shown_some s ss count e = (there, λ g n l. sym (ap (λ o. is_cell (slot_at o (suc n))) e) ∙ g (suc n) (omega arith) (omega (arith, l)))
  where
    there : AreCells count ss → AreShown count s
    there f zero low high = absurd (let w : ⊥ = omega (arith, low) in w)
    there f (suc n) low high = ap (λ o. is_cell (slot_at o (suc n))) e ∙ f n (omega (arith, high))

module _ (a : Area) (ss : List State) (q : Span) (some : q.at < q.end) where
  answers_at : (at : ℕ) → suc at ≡ q.end → at ≡ q.end - 1
  answers_at at e = omega (arith, e)

  pub alone_is : q.end ≤ length a.code → Holds a (q.end - 1) AnswerNow → BeginsWith ss q.at 0 → All (λ c. IsAtom a c) q.names → FitsAlone a ss q
  alone_is within x begins names = record {
    some = some;
    within = within;
    last = λ at e. subst (λ k. Holds a k AnswerNow) (sym (answers_at at e)) x;
    begins = begins;
    names = names;
  }

  pub alone_answers : FitsAlone a ss q → Holds a (q.end - 1) AnswerNow
  alone_answers f = f.last (q.end - 1) (omega (arith, some))

  -- ---- what is told of its answer

  pub answer_missing : (told : Option ℕ) → ¬ Holds a (q.end - 1) AnswerNow → IsAnswerTold a ss told q
  answer_missing told never at x l = absurd (never (subst (λ k. Holds a k AnswerNow) (answers_at at l.1) x))

  pub answer_shown : (told : Option ℕ) → ShowsAt ss (q.end - 1) (length q.names) → IsAnswerTold a ss told q
  answer_shown told f at x l = inl (subst (λ k. ShowsAt ss k (length q.names)) (sym (answers_at at l.1)) f)

  pub answer_told : (told : Option ℕ) → IsTold told (q.end - 1) → IsAnswerTold a ss told q
  answer_told told t at x l = inr (subst (IsTold told) (sym (answers_at at l.1)) t)

pub answer_nowhere : (a : Area) (ss : List State) (q : Span) (told : Option ℕ) → q.end ≤ q.at → IsAnswerTold a ss told q
answer_nowhere a ss q told h at x l = absurd (let z : ⊥ = omega (arith, h, l.0.0, l.0.1) in z)

module _ (ss : List PlaceState) (at count : ℕ) where
  pub shows_past : length ss ≤ at → IsTrue true ↔ ShowsAt (states_of ss) at count
  shows_past l = (λ t s g. absurd (let w = slice_get_within (states_of ss) at s g in let z : ⊥ = omega (arith, l, w, length-map ss state_of) in z), λ x. refl)

  pub shows_from : (p : PlaceState) → at < length ss → p ≡ get_or ss at p → (b : Bool) → (IsTrue b ↔ AreShown count (state_of p)) → IsTrue b ↔ ShowsAt (states_of ss) at count
  shows_from p low is b f = (λ t s g. subst (AreShown count) (same s g) (f.0 t), λ x. f.1 (x (state_of p) there))
    where
      there : HasState (states_of ss) at (state_of p)
      there = slice_get-map state_of ss at ∙ ap (option_map state_of) (slice_get_read ss (length ss) at p refl low is)

      same : (s : State) → HasState (states_of ss) at s → state_of p ≡ s
      same s g = let z : Some (state_of p) ≡ Some s = sym there ∙ g in cc (z)

-- the instruction of a place is an answer
pub answers_is : (a : Area) (at : ℕ) (i : Code) (b : Bool) → Holds a at i → (IsTrue b ↔ (i ≡ AnswerNow)) → IsTrue b ↔ Holds a at AnswerNow
answers_is a at i b h f = (λ t. subst (Holds a at) (f.0 t) h, λ x. f.1 (let e : Some i ≡ Some AnswerNow = sym h ∙ x in cc (e)))

pub answers_past : (a : Area) (at : ℕ) → length a.code ≤ at → ¬ Holds a at AnswerNow
answers_past a at l h = omega (arith, l, slice_get_within a.code at AnswerNow h)

-- a test of two numbers
pub test_is : (b : Bool) (P Q : Type 0) → (IsTrue b ↔ P) → (P ↔ Q) → IsTrue b ↔ Q
test_is b P Q f g = (λ t. g.0 (f.0 t), λ q. f.1 (g.1 q))

-- what stands at a place of what is seen of a list
pub range_read : {A : Type 0} (f : A → Range) (xs : List A) (i : ℕ) (x : A) → i < length xs → x ≡ get_or xs i x → get_or (map f xs) i empty_range ≡ f x
range_read f xs i x l e = get_or-map f xs i x empty_range l ∙ ap f (sym e)
