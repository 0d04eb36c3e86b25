-- The code of a small program is verified, and stands for the program: p(p). p(1). ?- p(X).
use Rattle.std.proofs.Common.{◌≡◌, ◌≢◌, ℕ, zero, suc, ◌<◌, Bool, true, false, ◌==◌, ◌&&◌, ◌||◌, IsTrue, pos, List, [], ◌∷◌, if◌then◌else◌, Option, Some, None}
use Rattle.std.proofs.Common.{length, slice_get, All, refl, ap, sym, ◌∙◌, subst, inl, inr, arith}
use Rattle.std.proofs.lemmas.Bool.{true≢false}
use Rattle.std.proofs.lemmas.Bool.Decides.{nat_tests}
use Rattle.fd_language.specs.Family.{has}
use Rattle.fd_language.specs.Term.{Name, Term, Terms, Var, Int, Atom, Comp, no_terms, term, term_count}
use Rattle.fd_model.specs.Goal as goal
use Rattle.fd_model.specs.Goal.{Goal, Clause, Query, Program}
use Rattle.fd_model.specs.Children.{paired, fits_head}
use Rattle.std.proofs.lemmas.Slice.Eq.{bytes_eq-Decides}
use Rattle.term_pool.specs.declared.AtomId.{AtomId}
use Rattle.term_pool.specs.Contents.{Contents, atom_name}
use Rattle.wam_code.specs.declared.instruction.Register.TheVariants.{X, Y}
use Rattle.wam_code.specs.declared.instruction.Code.TheVariants.{GetConstant, GetInteger, PutVariable, Allocate, Call, Execute, Proceed, AnswerNow, TryMeElse}
use Rattle.wam_code.specs.declared.instruction.Code.TheVariants.{RetryMeElse, TrustMe}
use Rattle.wam_code.specs.declared.parts.Entry.{Entry}
use Rattle.wam_code.specs.Area.{Slot, Unset, Cell, State, Span, Area, Holds, HasState, HasEntry, HasQuery}
use Rattle.wam_code.specs.Effect.{slot_at, is_cell}
use Rattle.wam_code.specs.VerifiedCode.{named, goes_on, Names, Falls, Covers, Leads, BeginsWith, IsQuery, is_other, is_before, is_behind, NamesOther, HoldsOne}
use Rattle.wam_code.specs.VerifiedCode.{AreChoices, IsAtom, IsThere, IsVerifiedBy, IsVerified}
use Rattle.branch_meaning.specs.Heap.{Below}
use Rattle.wam_code.specs.Places.{Places, put_at, write, learn, no_registers, no_slots, IsWhole, IsSettled, Hold, made}
use Rattle.wam_code.specs.CodeMeaning.{Caller, Means}
use Rattle.wam_code.specs.Tries.{Shape, IsBefore, IsClause, Tries, IsPredicate, StandsForProgram}
use Rattle.wam_code.proofs.Effect.{covers_self}
use Rattle.wam_code.proofs.Steps.{from_rule}

abbrev at_state : List ℕ → Option (List Slot) → State
at_state regs frame = record { regs = regs; frame = frame; owed = 0 }

-- its code, with the atom p of a pool
abbrev pub example : Contents → AtomId → Area
example c p = record {
  pool = c;
  code = TryMeElse 3 ∷ GetConstant p 1 ∷ Proceed ∷ TrustMe ∷ GetInteger (pos 1) 1 ∷ Proceed ∷ Allocate 1 ∷ PutVariable (Y 1) 1 ∷ Call 0 ∷ AnswerNow ∷ [];
  tables = [];
  ranges = [];
  entries = record { name = p; arity = 1; at = 0 } ∷ [];
  queries = record { at = 6; end = 10; names = p ∷ [] } ∷ [];
}

-- what is known at its places
abbrev its_states : List State
its_states =
    at_state (1 ∷ []) None ∷ at_state (1 ∷ []) None ∷ at_state (1 ∷ []) None ∷ at_state (1 ∷ []) None ∷ at_state (1 ∷ []) None ∷ at_state (1 ∷ []) None
    ∷ at_state [] None ∷ at_state [] (Some (Unset ∷ [])) ∷ at_state (1 ∷ []) (Some (Cell ∷ [])) ∷ at_state [] (Some (Cell ∷ [])) ∷ []

-- ---- facts on each place of a list

abbrev AllAt : {X : Type 0} → (ℕ → X → Type 0) → List X → Type 0
AllAt P [] = Unit {0}
AllAt P (x ∷ xs) = P 0 x × AllAt (λ k. P (suc k)) xs

all_at : {X : Type 0} (P : ℕ → X → Type 0) (xs : List X) → AllAt P xs → (at : ℕ) (x : X) → slice_get xs at ≡ Some x → P at x
all_at P [] h at x e = absurd (cc)
all_at P (y ∷ ys) h zero x e = let same : y ≡ x = cc in subst (P 0) same h.0
all_at P (y ∷ ys) h (suc at) x e = all_at (λ k. P (suc k)) ys h.1 at x e

on_one : {X : Type 0} (P : X → Type 0) (x : X) → P x → (y : X) → Some x ≡ Some y → P y
on_one P x h y e = let same : x ≡ y = cc in subst P same h

one_all : {X : Type 0} (P : X → Type 0) (x : X) → P x → All P (x ∷ [])
one_all P x h zero d l = h
one_all P x h (suc k) d l = absurd (omega (arith, l))

none_named : {A : Type 0} (to : ℕ) → IsTrue (has [] to) → A
none_named to h = absurd (true≢false (sym h))

no_bool : {A : Type 0} → false ≡ true → A
no_bool h = absurd (true≢false (sym h))

one_named : (n to : ℕ) → IsTrue (has (n ∷ []) to) → to ≡ n
one_named n to h = by (n == to) refl h
  where
    by : (b : Bool) → n == to ≡ b → b || false ≡ true → to ≡ n
    by true e g = grind (arith, nat_tests)
    by false e g = absurd (true≢false (sym g))

self_named : (n : ℕ) → IsTrue (has (n ∷ []) n)
self_named n = by (n == n) refl
  where
    by : (b : Bool) → n == n ≡ b → b || false ≡ true
    by true e = refl
    by false e = absurd (let no : n ≢ n = grind (arith, nat_tests) in no refl)

module _ (c : Contents) (p : AtomId) (own : p.number < length c.names) where
  abbrev a : Area
  a = example c p

  names_only : (at to : ℕ) → Names a at to → (at ≡ 0) × (to ≡ 3)
  names_only at to h =
      all_at (λ k i. IsTrue (has (named a i) to) → (k ≡ 0) × (to ≡ 3)) a.code
      ((λ g. (refl, one_named 3 to g)), (none_named to, (none_named to, (none_named to, (none_named to, (none_named to, (none_named to, (none_named to, (none_named to, (none_named to, tt))))))))))
      at h.0 h.1 h.2

  falls_only : (at to : ℕ) → Falls a at to → (to ≡ suc at) × ((at < 9) × (at ≢ 2) × (at ≢ 5))
  falls_only at to h = (
    h.3,
    all_at (λ k i. IsTrue (goes_on i) → (k < 9) × (k ≢ 2) × (k ≢ 5)) a.code (
      (λ g. (omega arith, omega arith, omega arith)),
      (
        (λ g. (omega arith, omega arith, omega arith)),
        (
          no_bool,
          (
            (λ g. (omega arith, omega arith, omega arith)),
            (
              (λ g. (omega arith, omega arith, omega arith)),
              (
                no_bool,
                (
                  (λ g. (omega arith, omega arith, omega arith)),
                  ((λ g. (omega arith, omega arith, omega arith)), ((λ g. (omega arith, omega arith, omega arith)), (no_bool, tt))),
                ),
              ),
            ),
          ),
        ),
      ),
    )
        at h.0 h.1 h.2,
  )

  other_only : (to : ℕ) → HoldsOne a is_other to → to ≡ 3
  other_only to h =
      all_at (λ k i. IsTrue (is_other i) → k ≡ 3) a.code
      (no_bool, (no_bool, (no_bool, ((λ g. refl), (no_bool, (no_bool, (no_bool, (no_bool, (no_bool, (no_bool, tt))))))))))
      to h.0 h.1 h.2

  none_before : (to : ℕ) → HoldsOne a is_before to → ⊥
  none_before to h =
      all_at (λ k i. IsTrue (is_before i) → ⊥) a.code
      (no_bool, (no_bool, (no_bool, (no_bool, (no_bool, (no_bool, (no_bool, (no_bool, (no_bool, (no_bool, tt))))))))))
      to h.0 h.1 h.2

  none_behind : (to : ℕ) → HoldsOne a is_behind to → ⊥
  none_behind to h =
      all_at (λ k i. IsTrue (is_behind i) → ⊥) a.code
      (no_bool, (no_bool, (no_bool, (no_bool, (no_bool, (no_bool, (no_bool, (no_bool, (no_bool, (no_bool, tt))))))))))
      to h.0 h.1 h.2

  choice_names : (at to : ℕ) → NamesOther a at to → Names a at to
  choice_names at to (inl h) = (TryMeElse to, h, self_named to)
  choice_names at to (inr h) = (RetryMeElse to, h, self_named to)

  one_entry : (n : ℕ) (e : Entry) → HasEntry a n e → (n ≡ 0) × (e ≡ record { name = p; arity = 1; at = 0 })
  one_entry n e h = all_at (λ k x. (k ≡ 0) × (x ≡ record { name = p; arity = 1; at = 0 })) a.entries ((refl, refl), tt) n e h

  one_query : (n : ℕ) (q : Span) → HasQuery a n q → (n ≡ 0) × (q ≡ record { at = 6; end = 10; names = p ∷ [] })
  one_query n q h = all_at (λ k x. (k ≡ 0) × (x ≡ record { at = 6; end = 10; names = p ∷ [] })) a.queries ((refl, refl), tt) n q h

  choices : AreChoices a
  choices = record {
    others = λ at to h. subst (HoldsOne a is_other) (sym (names_only at to (choice_names at to h)).1) (TrustMe, refl, refl);
    named_once = λ to h. (0, inl (subst (λ n. Holds a 0 (TryMeElse n)) (sym (other_only to h)) refl), λ n g. (names_only n to (choice_names n to g)).0);
    named_alone = λ at to h g. let w = names_only at to g in inl (subst (λ n. Holds a n (TryMeElse to)) (sym w.0) (subst (λ n. Holds a 0 (TryMeElse n)) (sym w.1) refl));
    not_fallen = λ at to h g. let w = falls_only at to g in let o = other_only to h in absurd (omega (arith, w.0, w.1.1, o));
    no_start = λ to h. record {
      entries = λ n e g s. let w = other_only to h in let z : e.at ≡ 0 = ap (λ x. x.at) (one_entry n e g).1 in absurd (omega (arith, w, z, s));
      queries = λ n q g s. let w = other_only to h in let z : q.at ≡ 6 = ap (λ x. x.at) (one_query n q g).1 in absurd (omega (arith, w, z, s));
    };
    behind = λ at h. absurd (none_before at h);
    before = λ to h. absurd (none_behind to h);
    not_named = λ at to h g. absurd (none_behind to h);
    no_start_behind = λ to h. absurd (none_behind to h);
  }

  leads_all : AllAt (λ k i. (s : State) → HasState its_states k s → Leads a its_states k i s) a.code
  leads_all = (
    on_one (Leads a its_states 0 (TryMeElse 3)) (at_state (1 ∷ []) None) (
      at_state (1 ∷ []) None,
      refl,
      (λ to h. subst (λ n. (t : State) × HasState its_states n t × Covers (at_state (1 ∷ []) None) t) (sym (one_named 3 to h)) (
        at_state (1 ∷ []) None,
        refl,
        covers_self _,
      )),
      λ g. (at_state (1 ∷ []) None, refl, covers_self _),
    ),
    (
      on_one (Leads a its_states 1 (GetConstant p 1)) (at_state (1 ∷ []) None) (at_state (1 ∷ []) None, refl, (λ to h. none_named to h), λ g. (at_state (1 ∷ []) None, refl, covers_self _)),
      (
        on_one (Leads a its_states 2 Proceed) (at_state (1 ∷ []) None) (at_state (1 ∷ []) None, refl, (λ to h. none_named to h), λ g. no_bool g),
        (
          on_one (Leads a its_states 3 TrustMe) (at_state (1 ∷ []) None) (at_state (1 ∷ []) None, refl, (λ to h. none_named to h), λ g. (at_state (1 ∷ []) None, refl, covers_self _)),
          (
            on_one (Leads a its_states 4 (GetInteger (pos 1) 1)) (at_state (1 ∷ []) None) (at_state (1 ∷ []) None, refl, (λ to h. none_named to h), λ g. (at_state (1 ∷ []) None, refl, covers_self _)),
            (
              on_one (Leads a its_states 5 Proceed) (at_state (1 ∷ []) None) (at_state (1 ∷ []) None, refl, (λ to h. none_named to h), λ g. no_bool g),
              (
                on_one (Leads a its_states 6 (Allocate 1)) (at_state [] None) (
                  at_state [] (Some (Unset ∷ [])),
                  refl,
                  (λ to h. none_named to h),
                  λ g. (at_state [] (Some (Unset ∷ [])), refl, covers_self _),
                ),
                (
                  on_one (Leads a its_states 7 (PutVariable (Y 1) 1)) (at_state [] (Some (Unset ∷ []))) (
                    at_state (1 ∷ []) (Some (Cell ∷ [])),
                    refl,
                    (λ to h. none_named to h),
                    λ g. (at_state (1 ∷ []) (Some (Cell ∷ [])), refl, covers_self _),
                  ),
                  (
                    on_one (Leads a its_states 8 (Call 0)) (at_state (1 ∷ []) (Some (Cell ∷ []))) (
                      at_state [] (Some (Cell ∷ [])),
                      refl,
                      (λ to h. none_named to h),
                      λ g. (at_state [] (Some (Cell ∷ [])), refl, covers_self _),
                    ),
                    (
                      on_one (Leads a its_states 9 AnswerNow) (at_state [] (Some (Cell ∷ []))) (at_state [] (Some (Cell ∷ [])), refl, (λ to h. none_named to h), λ g. no_bool g),
                      tt,
                    ),
                  ),
                ),
              ),
            ),
          ),
        ),
      ),
    ),
  )

  proceeds_early : (at : ℕ) → Holds a at Proceed → at < 6
  proceeds_early at h =
      all_at (λ k i. i ≡ Proceed → k < 6) a.code (
        (λ g. omega arith),
        (
          (λ g. omega arith),
          (
            (λ g. omega arith),
            (
              (λ g. omega arith),
              (
                (λ g. omega arith),
                (
                  (λ g. omega arith),
                  ((λ g. absurd (cc)), ((λ g. absurd (cc)), ((λ g. absurd (cc)), ((λ g. absurd (cc)), tt)))),
                ),
              ),
            ),
          ),
        ),
      )
      at Proceed h refl

  executes_never : (at e : ℕ) → Holds a at (Execute e) → ⊥
  executes_never at e h =
      all_at (λ k i. i ≡ Execute e → ⊥) a.code
      ((λ g. (cc)), ((λ g. (cc)), ((λ g. (cc)), ((λ g. (cc)), ((λ g. (cc)), ((λ g. (cc)), ((λ g. (cc)), ((λ g. (cc)), ((λ g. (cc)), ((λ g. (cc)), tt))))))))))
      at (Execute e) h refl

  answers_last : (at : ℕ) → Holds a at AnswerNow → at ≡ 9
  answers_last at h =
      all_at (λ k i. i ≡ AnswerNow → k ≡ 9) a.code (
        (λ g. absurd (cc)),
        (
          (λ g. absurd (cc)),
          (
            (λ g. absurd (cc)),
            (
              (λ g. absurd (cc)),
              (
                (λ g. absurd (cc)),
                (
                  (λ g. absurd (cc)),
                  ((λ g. absurd (cc)), ((λ g. absurd (cc)), ((λ g. absurd (cc)), ((λ g. refl), tt)))),
                ),
              ),
            ),
          ),
        ),
      )
      at AnswerNow h refl

  abbrev its_span : Span
  its_span = record { at = 6; end = 10; names = p ∷ [] }

  its_query : IsQuery a its_states its_span
  its_query = record {
    some = omega arith;
    within = omega arith;
    last = λ at e. let n : at ≡ 9 = omega (arith, e) in subst (λ k. Holds a k AnswerNow) (sym n) refl;
    shown = λ at s e h k low high.
        let n : at ≡ 9 = omega (arith, e) in
        let one : k ≡ 1 = omega (arith, low, high) in
        let f : HasState its_states 9 s = subst (λ m. HasState its_states m s) n h in
        on_one (λ t. IsTrue (is_cell (slot_at t.frame k))) (at_state [] (Some (Cell ∷ []))) (subst (λ m. IsTrue (is_cell (slot_at (Some (Cell ∷ [])) m))) (sym one) refl) s f;
    no_proceed = λ at b h. let l = proceeds_early at h in omega (arith, b.0, l);
    no_execute = λ at e b h. executes_never at e h;
    no_entry = λ n e h b. let z : e.at ≡ 0 = ap (λ x. x.at) (one_entry n e h).1 in omega (arith, b.0, z);
    stays = λ at to b h. let w = names_only at to h in absurd (omega (arith, b.0, w.0));
    not_named = λ at to b h i. let w = names_only at to h in omega (arith, i.0, w.1);
    not_fallen = λ at to b h i. let w = falls_only at to h in b (omega (arith, w.0, w.1.2, i.0), omega (arith, w.0, w.1.0, i.1));
  }

  there_all : AllAt (λ k i. IsThere a i) a.code
  there_all = (tt, (own, (tt, (tt, (tt, (tt, (tt, (tt, (omega arith, (tt, tt))))))))))

  -- Each condition holds of this code.
  by_states : IsVerifiedBy a its_states
  by_states = record {
    states = refl;
    leads = λ at i s f g. all_at (λ k i. (s : State) → HasState its_states k s → Leads a its_states k i s) a.code leads_all at i f s g;
    ahead = λ at to h. let w = names_only at to h in (omega (arith, w.0, w.1), omega (arith, w.1));
    next = λ at to h. let w = falls_only at to h in omega (arith, w.0, w.1.0);
    entries = λ n e h. subst (λ x. BeginsWith its_states x.at x.arity) (sym (one_entry n e h).1) (
      at_state (1 ∷ []) None,
      refl,
      record {
        regs = λ m. (
          (λ g. let w = one_named 1 m g in (omega (arith, w), omega (arith, w))),
          λ g. let w : m ≡ 1 = omega (arith, g.0, g.1) in
              subst (λ k. IsTrue (has (1 ∷ []) k)) (sym w) refl,
        );
        frame = refl;
        owed = refl;
      },
    );
    firsts = λ n q h. subst (λ x. BeginsWith its_states x.at 0) (sym (one_query n q h).1) (
      at_state [] None,
      refl,
      record { regs = λ m. ((λ g. none_named m g), λ g. absurd (omega (arith, g.0, g.1))); frame = refl; owed = refl },
    );
    queries = λ n q h. subst (IsQuery a its_states) (sym (one_query n q h).1) its_query;
    apart = λ n m at q r h g b d. (one_query n q h).0 ∙ sym (one_query m r g).0;
    answers = λ at h. (0, its_span, refl, (let n = answers_last at h in let e : suc at ≡ 10 = omega (arith, n) in e));
    choices = choices;
    there = λ at i h. all_at (λ k i. IsThere a i) a.code there_all at i h;
    keys = λ k d l. absurd (omega (arith, l));
    predicate_names = one_all (λ e. IsAtom a e.name) _ own;
    query_names = one_all (λ q. All (λ x. IsAtom a x) q.names) its_span (one_all (λ x. IsAtom a x) p own);
  }

  pub verified : IsVerified a
  verified = (its_states, by_states)

  -- ---- what it stands for

  abbrev name : Name
  name = atom_name c p

  abbrev fact : Term → Clause
  fact t = record { variables = 0; head = Comp name (term t no_terms); body = [] }

  abbrev query : Query
  query = record { variables = 1; names = name ∷ []; shown = 0 ∷ []; goals = goal.Call (Comp name (term (Var 0) no_terms)) ∷ [] }

  abbrev pub program : Program
  program = record { clauses = fact (Atom name) ∷ fact (Int (pos 1)) ∷ []; queries = query ∷ [] }

  all_made : (n : ℕ) (q : Places) → IsBefore q n 0 → IsWhole q
  all_made n q before v l = let t = before.top in before.known v (omega (arith, l, t))

  first_clause : IsClause a 1 (fact (Atom name))
  first_clause = λ n as' d after shown q size below hold noted before. by n as' after shown q size hold before
    where
      by : (n : ℕ) (as' : Terms) (after : List Goal) (shown : List ℕ) (q : Places) → term_count as' ≡ 1 → Hold q 1 as' → IsBefore q n 0
          → Means a (record { goals = after; shown = shown }) 1 q (paired as' (term (Atom name) no_terms)) after
      by n no_terms after shown q size hold before = absurd (omega (arith, size))
      by n (term s no_terms) after shown q size hold before =
          from_rule a (record { goals = after; shown = shown }) 1 q _ after (GetConstant p 1) refl
          (s, [], hold.0, refl, from_rule a (record { goals = after; shown = shown }) 2 q [] after Proceed refl (all_made n q before, refl, refl))
      by n (term s (term u us)) after shown q size hold before = absurd (omega (arith, size))

  second_clause : IsClause a 4 (fact (Int (pos 1)))
  second_clause = λ n as' d after shown q size below hold noted before. by n as' after shown q size hold before
    where
      by : (n : ℕ) (as' : Terms) (after : List Goal) (shown : List ℕ) (q : Places) → term_count as' ≡ 1 → Hold q 1 as' → IsBefore q n 0
          → Means a (record { goals = after; shown = shown }) 4 q (paired as' (term (Int (pos 1)) no_terms)) after
      by n no_terms after shown q size hold before = absurd (omega (arith, size))
      by n (term s no_terms) after shown q size hold before =
          from_rule a (record { goals = after; shown = shown }) 4 q _ after (GetInteger (pos 1) 1) refl
          (s, [], hold.0, refl, from_rule a (record { goals = after; shown = shown }) 5 q [] after Proceed refl (all_made n q before, refl, refl))
      by n (term s (term u us)) after shown q size hold before = absurd (omega (arith, size))

  both_tried : (s : Shape) → Tries a s 0 program.clauses
  both_tried s = (
    suc (suc (suc zero)),
    (
      TryMeElse 3,
      refl,
      (
        fact (Atom name) ∷ [],
        fact (Int (pos 1)) ∷ [],
        refl,
        (GetConstant p 1, refl, (fact (Atom name), first_clause, refl)),
        (TrustMe, refl, (GetInteger (pos 1) 1, refl, (fact (Int (pos 1)), second_clause, refl))),
      ),
    ),
  )

  abbrev asked : Caller
  asked = record { goals = []; shown = 0 ∷ [] }

  abbrev slots : ℕ → Option Term
  slots n = put_at 1 (Var 0) (λ m. None) n

  only_slot : (n : ℕ) (t : Term) → slots n ≡ Some t → t ≡ Var 0
  only_slot n t e = by (n == 1) e
    where
      by : (b : Bool) → (if b then Some (Var 0) else None) ≡ Some t → t ≡ Var 0
      by true e = cc
      by false e = absurd (cc)

  module _ (q : Places) (before : IsBefore q 0 1) where
    -- with the variable in its slot, and in the first register
    abbrev held : Places
    held = write (write (learn (no_slots q) 0) (Y 1) (Var 0)) (X 1) (Var 0)

    abbrev left : Places
    left = record { x = λ n. None; y = slots; levels = λ n. None; noted = None; known = λ v. true; own = q.own; top = 0 }

    held_known : (v : ℕ) → v < q.top → held.known v ≡ true
    held_known v l = let one : v ≡ 0 = omega (arith, before.top, l) in subst (λ n. held.known n ≡ true) (sym one) refl

    left_settled : IsSettled (no_registers held) left
    left_settled = record {
      whole = held_known;
      xs = λ n t e. absurd (cc);
      ys = λ n t e. (e, subst (Below q.own) (sym (only_slot n t e)) (omega (arith, before.own)));
      levels = λ n d e. absurd (cc);
      noted = λ d e. absurd (cc);
      known = λ v. refl;
      own = refl;
      top = refl;
    }

    query_means : Means a asked 6 q [] query.goals
    query_means =
        from_rule a asked 6 q [] query.goals (Allocate 1) refl
        (from_rule a asked 7 (no_slots q) [] query.goals (PutVariable (Y 1) 1) refl (
          0,
          (before.fresh 0 (omega arith), omega (arith, before.top)),
          from_rule a asked 8 held [] query.goals (Call 0) refl (
            goal.Call (Comp name (term (Var 0) no_terms)),
            [],
            left,
            (record { name = p; arity = 1; at = 0 }, term (Var 0) no_terms, refl, refl, (refl, tt), refl),
            left_settled,
            refl,
            refl,
            from_rule a asked 9 left [] [] AnswerNow refl ((λ v l. absurd (omega (arith, l))), (refl, tt), refl, refl),
          ),
        ))

  -- a goal of one argument fits the head of each clause
  fits : (ts : Terms) → term_count ts ≡ 1 → (t : Term) → fits_head (made name ts) (Comp name (term t no_terms)) ≡ true
  fits no_terms size t = absurd (omega (arith, size))
  fits (term s no_terms) size t = ap (λ b. b && true) ((bytes_eq-Decides name name).1 refl)
  fits (term s (term u us)) size t = absurd (omega (arith, size))

  -- The code stands for the program.
  pub stands : StandsForProgram a program
  stands = record {
    predicates = λ n e h. subst (IsPredicate a program) (sym (one_entry n e h).1) (λ ts s size. (program.clauses, inl (refl, fits ts size _, inl (refl, fits ts size _, refl)), both_tried s));
    queries = (record { names = refl; shown = refl; means = λ p noted before. query_means p before }, tt);
  }
