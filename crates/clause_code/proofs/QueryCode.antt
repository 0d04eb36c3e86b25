-- The slots of a query's variables, and its code once all its parts are written.
use Rattle.std.proofs.Common.{◌≡◌, ◌≢◌, ℕ, zero, suc, ◌+◌, ◌-◌, ◌<◌, ◌≤◌, true, List, [], ◌∷◌, ◌++◌, map, Some, length, get_or, set, All, ap, sym, ◌∙◌, subst}
use Rattle.std.proofs.Common.{arith, inl, inr, append_assoc, length-set, get_or-set_same, get_or-set_other}
use Rattle.std.proofs.lemmas.Bool.{cases_eq, true≢false}
use Rattle.std.proofs.lemmas.List.{get_or-map, length-map}
use Rattle.std.proofs.lemmas.Option.{slice_get-get_or}
use Rattle.fd_language.specs.Term.{no_terms}
use Rattle.fd_model.specs.Goal as model
use Rattle.fd_model.specs.RunnablePrograms.{EachBelow, QueriesScoped}
use Rattle.clause_check.specs.Programs.{FlatProgram, query_at, query_in, no_query, program_in, IsProgram}
use Rattle.wam_code.specs.declared.instruction.Register.{Register}
use Rattle.wam_code.specs.declared.instruction.Register.TheVariants.{X, Y}
use Rattle.wam_code.specs.declared.instruction.Code.{Code}
use Rattle.wam_code.specs.declared.instruction.Code.TheVariants.{Allocate, AnswerNow}
use Rattle.clause_code.specs.Pieces.{Base, Predicate}
use Rattle.clause_code.specs.CodablePrograms.{AreOnce, EachCodable, QueriesCodable}
use Rattle.clause_code.specs.Predicates.{Appends, base_in}
use Rattle.clause_code.specs.SafeCode.{IsQueryPiece}
use Rattle.clause_code.specs.Slots.{slot, AreGiven, AreShown, AreAll, IsQueryFrame}
use Rattle.clause_code.specs.Steps.{home}
use Rattle.clause_code.specs.Bodies.{Levels, AreFree, IsGoalsCode}
use Rattle.clause_code.specs.ClauseParts.{front, head_code, IsHoused, AreSlots, levels_code, levels_behind}
use Rattle.clause_code.proofs.Clauses.{InSlots, start_framed, whole_query}
use Rattle.clause_code.proofs.FramedClauses.{place_behind}

-- ---- what is known of a query

scoped_at : (qs : List model.Query) → QueriesScoped qs → (i : ℕ) (d : model.Query) → i < length qs → EachBelow (get_or qs i d).variables (get_or qs i d).goals
scoped_at [] s i d l = absurd (omega (arith, l))
scoped_at (q ∷ qs) s zero d l = s.0.1
scoped_at (q ∷ qs) s (suc i) d l = scoped_at qs s.1 i d (omega (arith, l))

codable_at : (qs : List model.Query) → QueriesCodable qs → (i : ℕ) (d : model.Query) → i < length qs → AreOnce (get_or qs i d).shown × EachCodable (get_or qs i d).goals
codable_at [] s i d l = absurd (omega (arith, l))
codable_at (q ∷ qs) s zero d l = s.0
codable_at (q ∷ qs) s (suc i) d l = codable_at qs s.1 i d (omega (arith, l))

-- its goals are scoped and codable, and it shows no variable twice
pub record Asked (p : FlatProgram) (q : ℕ) : Type 0 where
  pub below : EachBelow (query_at p q).variables (query_in p (query_at p q)).goals
  pub codable : EachCodable (query_in p (query_at p q)).goals
  pub once : AreOnce (query_at p q).shown
  pub own : All (λ x. x < (query_at p q).variables) (query_at p q).shown

pub query_known : (p : FlatProgram) → IsProgram p → (q : ℕ) → q < length p.queries → Asked p q
query_known p known q low =
    let none : model.Query = record { variables = 0; names = []; shown = []; goals = [] } in
    let long = length-map p.queries (query_in p) in
    let there : get_or (map (query_in p) p.queries) q none ≡ query_in p (query_at p q) = get_or-map (query_in p) p.queries q no_query none low in
    let d = subst (λ (k : model.Query). AreOnce k.shown × EachCodable k.goals) there (codable_at (program_in p).queries known.codable.queries q none (omega (arith, long, low))) in
    record {
      below = subst (λ (k : model.Query). EachBelow k.variables k.goals) there (scoped_at (program_in p).queries known.scoped.queries q none (omega (arith, long, low)));
      codable = d.1;
      once = d.0;
      own = (known.queries q no_query low).shown;
    }

-- ---- slots

-- one more slot
pub given_next : (v next x : ℕ) (slots new : List ℕ) → AreGiven v next slots → x < v → new ≡ set slots x next → AreGiven v (next + 1) new
given_next v next x slots new g low e =
    let long : length new ≡ v = ap length e ∙ length-set slots x next ∙ g.long in
    let n = g.long in
    let here : slot new x ≡ next = ap (λ s. slot s x) e ∙ get_or-set_same slots x next 0 (omega (arith, n, low)) in
    let other : (y : ℕ) → y ≢ x → slot new y ≡ slot slots y = λ y d. ap (λ s. slot s y) e ∙ get_or-set_other slots x y next 0 d in
    record {
      long = long;
      some = omega arith;
      below = λ y l. elim (cases_eq y x) [
        | inl s ↦ let z : slot new y ≡ next = ap (slot new) s ∙ here in omega (arith, z)
        | inr d ↦ let z = other y d in let b = g.below y l in omega (arith, z, b)
      ];
      apart = λ y z l m h s. elim (cases_eq y x) [
        | inl i ↦ elim (cases_eq z x) [
          | inl j ↦ i ∙ sym j
          | inr d ↦ let a : slot new y ≡ next = ap (slot new) i ∙ here in let o = other z d in let b = g.below z m in absurd (omega (arith, s, a, o, b))
        ]
        | inr c ↦ elim (cases_eq z x) [
          | inl j ↦ let a : slot new z ≡ next = ap (slot new) j ∙ here in let o = other y c in let b = g.below y l in absurd (omega (arith, s, a, o, b))
          | inr d ↦ let a = other y c in let o = other z d in g.apart y z l m (omega (arith, a, h)) (sym a ∙ s ∙ o)
        ]
      ];
    }

-- one more shown variable
pub shown_next : (v k : ℕ) (shown slots new : List ℕ) → AreOnce shown → k < length shown → length slots ≡ v → get_or shown k 0 < v → AreShown shown k slots
    → new ≡ set slots (get_or shown k 0) (k + 1) → AreShown shown (k + 1) new
shown_next v k shown slots new once low long own w e j l = elim (cases_eq j k) [
  | inl s ↦ ap (λ i. slot new (get_or shown i 0)) s ∙ ap (λ a. slot a (get_or shown k 0)) e
      ∙ get_or-set_same slots (get_or shown k 0) (k + 1) 0 (omega (arith, long, own)) ∙ (let z : k + 1 ≡ suc j = omega (arith, s) in z)
  | inr d ↦
      let apart : get_or shown j 0 ≢ get_or shown k 0 = λ s.
      d (once j k (get_or shown k 0) (slice_get-get_or shown j 0 (omega (arith, l, low)) ∙ ap (λ y. Some y) s) (slice_get-get_or shown k 0 low)) in
      ap (λ a. slot a (get_or shown j 0)) e ∙ get_or-set_other slots (get_or shown k 0) (get_or shown j 0) (k + 1) 0 apart ∙ w j (omega (arith, l, d))
]

pub frame_made : (v behind : ℕ) (shown slots : List ℕ) (homes : List Register) → AreGiven v behind slots → AreAll v slots → AreShown shown (length shown) slots
    → All (λ x. x < v) shown → homes ≡ map Y slots → IsQueryFrame v shown homes (behind - 1)
frame_made v behind shown slots homes g all first own e =
    let n = g.long in
    let at : (x : ℕ) → x < v → home homes x ≡ Y (slot slots x) = λ x l. ap (λ h. home h x) e ∙ get_or-map Y slots x 0 (X 0) (omega (arith, n, l)) in
    record {
      long = ap length e ∙ length-map slots Y ∙ n;
      apart = λ x y l m s. let r : Y (slot slots x) ≡ Y (slot slots y) = sym (at x l) ∙ s ∙ at y m in let same : slot slots x ≡ slot slots y = cc in g.apart x y l m (all x l) same;
      in_frame = λ x l. let a = all x l in let b = g.below x l in let up : slot slots x ≡ suc (slot slots x - 1) = omega (arith, a) in (slot slots x - 1, at x l ∙ ap Y up, omega (arith, a, b));
      first = λ j l. at (get_or shown j 0) (own j 0 l) ∙ ap Y (first j l);
    }

-- ---- a query

pub frame_slots : (v : ℕ) (shown : List ℕ) (homes : List Register) (slots : ℕ) → IsQueryFrame v shown homes slots → AreSlots homes
frame_slots v shown homes slots f =
    let n = f.long in record {
      apart = λ x y l m e. f.apart x y (omega (arith, l, n)) (omega (arith, m, n)) e;
      slots = λ x l. let w = f.in_frame x (omega (arith, l, n)) in (w.0, w.1);
    }

frame_housed : (v : ℕ) (shown : List ℕ) (homes : List Register) (slots size : ℕ) → slots ≤ size → IsQueryFrame v shown homes slots → IsHoused homes true size 0 1
frame_housed v shown homes slots size room f =
    let n = f.long in record {
      apart = λ x y l m e. f.apart x y (omega (arith, l, n)) (omega (arith, m, n)) e;
      in_frame = λ e x l. let w = f.in_frame x (omega (arith, l, n)) in let m = w.2 in (w.0, w.1, omega (arith, m, room));
      in_registers = λ e. absurd (true≢false e);
      clear = λ i h x l e. let w = f.in_frame x (omega (arith, l, n)) in let y : home homes x ≡ Y (suc w.0) = w.1 in absurd (cc);
      above = omega arith;
    }

in_slots : (homes : List Register) (k : ℕ) (shown : List ℕ) → ((j : ℕ) → j < length shown → get_or shown j 0 < length homes)
    → ((j : ℕ) → j < length shown → home homes (get_or shown j 0) ≡ Y (k + j)) → InSlots homes k shown
in_slots homes k [] own first = tt
in_slots homes k (x ∷ shown) own first =
    let z : k + 0 ≡ k = omega arith in (
      own 0 (omega arith),
      first 0 (omega arith) ∙ ap Y z,
      in_slots homes (suc k) shown (λ j l. own (suc j) (omega (arith, l))) (λ j l. let up : k + suc j ≡ suc k + j = omega arith in first (suc j) (omega (arith, l)) ∙ ap Y up),
    )

-- the level slots are behind those of the variables
pub frame_free : (v : ℕ) (shown : List ℕ) (homes : List Register) (slots count : ℕ) → IsQueryFrame v shown homes slots → AreFree homes (levels_behind slots count)
frame_free v shown homes slots count f = record { clear = λ k a z x l e. by count k a x l e; within = inside count }
  where
    by : (n k : ℕ) → (levels_behind slots n).first ≤ k → (x : ℕ) → x < length homes → home homes x ≡ Y k → ⊥
    by zero k a x l e = let n = f.long in let w = f.in_frame x (omega (arith, l, n)) in let m = w.2 in let same : Y (suc w.0) ≡ Y k = sym w.1 ∙ e in
        let is : suc w.0 ≡ k = cc in omega (arith, is, a, m)
    by (suc j) k a x l e = let n = f.long in let w = f.in_frame x (omega (arith, l, n)) in let m = w.2 in let same : Y (suc w.0) ≡ Y k = sym w.1 ∙ e in
        let is : suc w.0 ≡ k = cc in omega (arith, is, a, m)

    inside : (n : ℕ) → (levels_behind slots n).next ≤ (levels_behind slots n).end
    inside zero = omega arith
    inside (suc n) = omega arith

pub query_written : (p : FlatProgram) (ps : List Predicate) (homes : List Register) (slots count q : ℕ) (old one head goals new : List Code)
    → IsQueryFrame (query_at p q).variables (query_at p q).shown homes slots → Asked p q
    → one ≡ old ++ (Allocate (slots + count) ∷ []) → head ≡ one ++ (head_code p.pool homes 1 no_terms ++ levels_code (levels_behind slots count))
    → Appends head goals (λ js. IsGoalsCode (base_in p ps) homes true (levels_behind slots count) (length head) js (query_in p (query_at p q)).goals) → new ≡ goals ++ (AnswerNow ∷ [])
    → Appends old new (λ is. IsQueryPiece (base_in p ps) (length old) is (query_in p (query_at p q)))
query_written p ps homes slots count q old one head goals new frame asked d e f g =
    let b : Base = base_in p ps in
    let at : ℕ = length old in
    let l : Levels = levels_behind slots count in
    let hs : List Code = head_code p.pool homes 1 no_terms ++ levels_code l in
    let is : List Code = front true (slots + count) ++ hs in
    let stands : head ≡ old ++ is = e ∙ ap (λ x. x ++ hs) d ∙ append_assoc old (Allocate (slots + count) ∷ []) hs in
    let w = subst (λ k. Appends head goals (λ js. IsGoalsCode b homes true l k js (query_in p (query_at p q)).goals)) (place_behind old is head stands) f in
    let n = frame.long in
    let shown : List ℕ = (query_at p q).shown in
    let placed = in_slots homes 1 shown (λ j m. let o = asked.own j 0 m in omega (arith, o, n)) (λ j m. let up : suc j ≡ 1 + j = omega arith in frame.first j m ∙ ap Y up) in (
      (is ++ w.0) ++ (AnswerNow ∷ []),
      g
          ∙ ap (λ x. x ++ (AnswerNow ∷ [])) (w.1 ∙ ap (λ x. x ++ w.0) stands ∙ append_assoc old is w.0)
          ∙ append_assoc old (is ++ w.0) (AnswerNow ∷ []),
      whole_query b homes l at (query_in p (query_at p q)) is w.0 (sym frame.long) placed
          (start_framed b homes (slots + count) 0 1 at no_terms (frame_housed (query_at p q).variables shown homes slots (slots + count) (omega arith) frame) tt
          (omega arith) tt slots count (frame_free (query_at p q).variables shown homes slots count frame) (omega arith)) w.2,
    )
