-- Where code is reached from: queries keep to themselves, and places lie ahead.
use Rattle.std.proofs.Common.{◌≡◌, ℕ, zero, suc, ◌<◌, ◌≤◌, Bool, true, false, ◌&&◌, ◌==◌, ◌≢◌, IsTrue, List, [], Some, length, get_or, refl, sym, ◌∙◌, subst}
use Rattle.std.proofs.Common.{arith}
use Rattle.std.proofs.lemmas.Bool.{true≢false}
use Rattle.std.proofs.lemmas.Bool.Decides.{nat_tests}
use Rattle.std.proofs.lemmas.Option.{slice_get_within, slice_get-get_or}
use Rattle.fd_language.specs.Family.{has}
use Rattle.wam_code.specs.declared.instruction.Code.{Code}
use Rattle.wam_code.specs.declared.instruction.Code.TheVariants.{Execute, Proceed, AnswerNow}
use Rattle.wam_code.specs.declared.parts.Entry.{Entry}
use Rattle.wam_code.specs.Area.{State, Span, Area, Holds, HasState, HasEntry, HasQuery}
use Rattle.wam_code.specs.Effect.{are_set, slot_at, is_cell}
use Rattle.wam_code.specs.VerifiedCode.{Names, Falls, Covers, HandedTo, IsIn, IsQuery, IsVerifiedBy, goes_on}
use Rattle.wam_code.specs.CodeRegions.{IsOutside, distance, begun}

pub same_code : (a : Area) (at : ℕ) (i j : Code) → Holds a at i → Holds a at j → i ≡ j
same_code a at i j f g = let e : Some i ≡ Some j = sym f ∙ g in cc

-- ---- queries

not_last : (a : Area) (ss : List State) (q : Span) → IsQuery a ss q → (at to : ℕ) → Falls a at to → suc at ≡ q.end → ⊥
not_last a ss q h at to f e = true≢false (sym (subst (λ i. IsTrue (goes_on i)) (same_code a at f.0 AnswerNow f.1 (h.last at e)) f.2))

-- What a place of a query falls into is one of the query's.
pub falls_inside : (a : Area) (ss : List State) (q : Span) → IsQuery a ss q → (at to : ℕ) → IsIn q at → Falls a at to → IsIn q to
falls_inside a ss q h at to b f = let no = not_last a ss q h at to f in omega (arith, f.3)

-- What a place outside of all queries names or falls into is outside too.
pub names_outside : (a : Area) (ss : List State) → IsVerifiedBy a ss → (at to : ℕ) → IsOutside a at → Names a at to → IsOutside a to
names_outside a ss v at to o h = λ n q g. (v.queries n q g).not_named at to (o n q g) h

pub falls_outside : (a : Area) (ss : List State) → IsVerifiedBy a ss → (at to : ℕ) → IsOutside a at → Falls a at to → IsOutside a to
falls_outside a ss v at to o h = λ n q g. (v.queries n q g).not_fallen at to (o n q g) h

-- Predicates begin outside.
pub entry_outside : (a : Area) (ss : List State) → IsVerifiedBy a ss → (n : ℕ) (e : Entry) → HasEntry a n e → IsOutside a e.at
entry_outside a ss v n e h = λ m q g. (v.queries m q g).no_entry n e h

-- A place of a query doesn't return.
pub returns_outside : (a : Area) (ss : List State) → IsVerifiedBy a ss → (at : ℕ) → Holds a at Proceed → IsOutside a at
returns_outside a ss v at h = λ n q g b. (v.queries n q g).no_proceed at b h

pub executes_outside : (a : Area) (ss : List State) → IsVerifiedBy a ss → (at e : ℕ) → Holds a at (Execute e) → IsOutside a at
executes_outside a ss v at e h = λ n q g b. (v.queries n q g).no_execute at e b h

-- Of the places of a query the last one answers, and no other place does.
pub answers_inside : (a : Area) (ss : List State) → IsVerifiedBy a ss → (n at : ℕ) (q : Span) → HasQuery a n q → IsIn q at → Holds a at AnswerNow → suc at ≡ q.end
answers_inside a ss v n at q h b f =
    let r = v.answers at f in
    let s = v.queries r.0 r.1 r.2 in
    let inside : IsIn r.1 at = (omega (arith, s.some, r.3), omega (arith, r.3)) in
    let same : r.0 ≡ n = v.apart r.0 n at r.1 q r.2 h inside b in
    let one : Some r.1 ≡ Some q = sym r.2 ∙ subst (λ m. HasQuery a m q) (sym same) h in
    let query : r.1 ≡ q = cc in
    subst (λ p. suc at ≡ p.end) query r.3

pub no_answer_outside : (a : Area) (ss : List State) → IsVerifiedBy a ss → (at : ℕ) → IsOutside a at → Holds a at AnswerNow → ⊥
no_answer_outside a ss v at o f =
    let r = v.answers at f in
    let s = v.queries r.0 r.1 r.2 in
    o r.0 r.1 r.2 (omega (arith, s.some, r.3), omega (arith, r.3))

-- Where a query answers, its names have cells in the first slots.
pub shown_are_cells : (a : Area) (ss : List State) → IsVerifiedBy a ss → (n at : ℕ) (q : Span) → HasQuery a n q → IsIn q at → Holds a at AnswerNow
    → (s actual : State) → HasState ss at s → Covers actual s → (k : ℕ) → 1 ≤ k → k ≤ length q.names → IsTrue (is_cell (slot_at actual.frame k))
shown_are_cells a ss v n at q h b f s actual g c k low high =
    subst (λ o. IsTrue (is_cell (slot_at o k))) (sym c.frame) ((v.queries n q h).shown at s (answers_inside a ss v n at q h b f) g k low high)

-- ---- the first states

pub set_below : (rs : List ℕ) (k n : ℕ) → are_set rs k ≡ true → 1 ≤ n → n ≤ k → has rs n ≡ true
set_below rs zero n h low high = absurd (omega (arith, low, high))
set_below rs (suc k) n h low high = by (has rs (suc k)) refl h (λ g l. set_below rs k n g low l)
  where
    by : (b : Bool) → has rs (suc k) ≡ b → b && are_set rs k ≡ true → (are_set rs k ≡ true → n ≤ k → has rs n ≡ true) → has rs n ≡ true
    by false e g smaller = absurd (true≢false (sym g))
    by true e g smaller = split (n == suc k) refl
      where
        split : (c : Bool) → n == suc k ≡ c → has rs n ≡ true
        split true i = let same : n ≡ suc k = grind (arith, nat_tests) in subst (λ m. has rs m ≡ true) (sym same) e
        split false i = let no : n ≢ suc k = grind (arith, nat_tests) in smaller g (omega (arith, no, high))

-- With its arguments in the first registers, a predicate's first place has its state.
pub entry_covered : (a : Area) (ss : List State) → IsVerifiedBy a ss → (n : ℕ) (e : Entry) → HasEntry a n e → (regs : List ℕ) → are_set regs e.arity ≡ true → HandedTo ss (begun regs) e.at
entry_covered a ss v n e h regs g =
    let b = v.entries n e h in
    (b.0, b.1, record { frame = sym b.2.frame; owed = sym b.2.owed; regs = λ m i. let w = (b.2.regs m).0 (i) in set_below regs e.arity m g w.0 w.1 })

-- And a query's first place without any.
pub query_covered : (a : Area) (ss : List State) → IsVerifiedBy a ss → (n : ℕ) (q : Span) → HasQuery a n q → HandedTo ss (begun []) q.at
query_covered a ss v n q h =
    let b = v.firsts n q h in
    (b.0, b.1, record { frame = sym b.2.frame; owed = sym b.2.owed; regs = λ m i. let w = (b.2.regs m).0 (i) in absurd (omega (arith, w.0, w.1)) })

-- Each place of the code has a state.
pub has_state : (a : Area) (ss : List State) → IsVerifiedBy a ss → (at : ℕ) (i : Code) → Holds a at i → (s : State) × HasState ss at s
has_state a ss v at i h = let l = slice_get_within a.code at i h in (get_or ss at (begun []), slice_get-get_or ss at (begun []) (omega (arith, l, v.states)))

-- ---- the end

-- A place that is named is nearer to the end, and so is one that is fallen into.
pub names_nearer : (a : Area) (ss : List State) → IsVerifiedBy a ss → (at to : ℕ) → Names a at to → distance a to < distance a at
names_nearer a ss v at to h = let w = v.ahead at to h in omega (arith, w.0, w.1)

pub falls_nearer : (a : Area) (ss : List State) → IsVerifiedBy a ss → (at to : ℕ) → Falls a at to → distance a to < distance a at
falls_nearer a ss v at to h = let w = v.next at to h in omega (arith, w, h.3)
