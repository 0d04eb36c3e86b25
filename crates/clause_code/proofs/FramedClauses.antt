-- The code of a clause, once all its parts are written.
use Rattle.std.proofs.Common.{◌≡◌, ℕ, suc, ◌+◌, ◌-◌, ◌<◌, ◌≤◌, Bool, true, false, List, [], ◌∷◌, ◌++◌, length, refl, ap, sym, ◌∙◌, subst, arith, inl, inr}
use Rattle.std.proofs.Common.{append_assoc, append-nil}
use Rattle.std.proofs.lemmas.Bool.{cases_lt}
use Rattle.std.proofs.lemmas.List.{get_or_past, length-append, length-replicate}
use Rattle.std.proofs.lemmas.Option.{slice_get_within}
use Rattle.fd_language.specs.Term.{Term, Terms, term_count}
use Rattle.fd_model.specs.Goal as model
use Rattle.fd_model.specs.ConstraintExpansion.{arguments}
use Rattle.fd_model.specs.RunnablePrograms.{EachBelow}
use Rattle.term_pool.specs.declared.TermId.{TermId}
use Rattle.term_pool.specs.Contents.{Contents, atom_name}
use Rattle.term_pool.specs.Terms.{term_of, terms_by}
use Rattle.clause_check.specs.declared.program.Part.{Part}
use Rattle.clause_check.specs.declared.program.FlatGoal.TheVariants as flat
use Rattle.clause_check.specs.Programs.{FlatProgram, clause_at, clause_in, goal_at, goal_in, goals_in, goals_between, no_clause, IsProgram}
use Rattle.clause_check.proofs.Lemmas.{between_none}
use Rattle.wam_code.specs.declared.instruction.Register.{Register}
use Rattle.wam_code.specs.declared.instruction.Register.TheVariants.{Y}
use Rattle.wam_code.specs.declared.instruction.Code.{Code}
use Rattle.wam_code.specs.declared.instruction.Code.TheVariants.{Deallocate, Execute, Proceed}
use Rattle.wam_code.specs.Places.{made}
use Rattle.clause_code.specs.Pieces.{Base, Predicate, past}
use Rattle.clause_code.specs.CodablePrograms.{EachCodable}
use Rattle.clause_code.proofs.GoalKinds.{OnlySlots}
use Rattle.clause_code.specs.Predicates.{Appends, base_in}
use Rattle.clause_code.specs.SafeCode.{IsClauseCode}
use Rattle.clause_code.specs.Steps.{home, Suits, filled, code_of, puts, gets, fills, marked_by_all}
use Rattle.clause_code.specs.Bodies.{Levels, AreFree, IsGoalsCode}
use Rattle.clause_code.specs.LevelSlots.{EachFits, each_need}
use Rattle.clause_code.specs.Sides.{Written}
use Rattle.clause_code.specs.SimpleGoals.{AreMade, IsOwn, IsWritable}
use Rattle.clause_code.specs.ClauseParts.{back, unmade, head_code, levels_behind, begin_code, InOrder, AreSlots, Executes}
use Rattle.clause_code.specs.BuildStack.{Writes}
use Rattle.clause_code.proofs.UnmadeVariables.{filled_long, filled_made}
use Rattle.clause_code.proofs.FreshVariables.{AreApart}
use Rattle.clause_code.proofs.Bodies.{Fine}
use Rattle.clause_code.proofs.Clauses.{Tail, tail_proceed, tail_execute}
use Rattle.clause_code.proofs.LevelSlots.{behind_fits, fits_split}
use Rattle.clause_code.proofs.CodePlaces.{past_is}
use Rattle.clause_code.proofs.ClauseAssembly.{Known, clause_known, last_goal, in_order_only, in_order_free, in_order_housed, assembled}
use Rattle.clause_code.proofs.SimpleGoals.{arguments_suit, is_writable}
use Rattle.clause_code.proofs.PreservedRegisters.{slots_land}

-- ---- which are made

pub all_made : (made : List Bool) → AreMade (filled made (length made))
all_made made x = elim (cases_lt x (length made)) [
  | inl l ↦ filled_made made (length made) (omega arith) x l
  | inr h ↦ let n = filled_long made (length made) in get_or_past (filled made (length made)) x true (omega (arith, n, h))
]

-- ---- a head

pub headed : (c : Contents) (homes : List Register) (code mid new : List Code) (now later : List Bool) (ids : List TermId) (n : ℕ) → now ≡ unmade homes
    → Writes homes code now (gets c 1 n (terms_by (term_of c) ids)) mid later
    → new ≡ mid ++ fills homes n later (length homes) → new ≡ code ++ head_code c homes n (terms_by (term_of c) ids)
headed c homes code mid new now later ids n none w f =
    let ts : Terms = terms_by (term_of c) ids in
    let marks : later ≡ marked_by_all (unmade homes) (gets c 1 n ts) = w.marks ∙ ap (λ l. marked_by_all l (gets c 1 n ts)) none in
    let codes : mid ≡ code ++ code_of homes (unmade homes) (gets c 1 n ts) = w.codes ∙ ap (λ l. code ++ code_of homes l (gets c 1 n ts)) none in
    f
    ∙ ap (λ l. mid ++ fills homes n l (length homes)) marks
    ∙ ap (λ l. l ++ fills homes n (marked_by_all (unmade homes) (gets c 1 n ts)) (length homes)) codes
    ∙ append_assoc code (code_of homes (unmade homes) (gets c 1 n ts)) (fills homes n (marked_by_all (unmade homes) (gets c 1 n ts)) (length homes))

pub unmade_long : (homes : List Register) (made : List Bool) → made ≡ unmade homes → length made ≡ length homes
unmade_long homes made e = ap length e ∙ length-replicate (length homes) false

pub filled_all : (homes : List Register) (now later : List Bool) → length now ≡ length homes → later ≡ filled now (length homes) → AreMade later × (length later ≡ length homes)
filled_all homes now later n e =
    let same : later ≡ filled now (length now) = e ∙ ap (filled now) (sym n) in
    (subst AreMade (sym same) (all_made now), ap length e ∙ filled_long now (length homes) ∙ n)

-- ---- the goals before the last one

pub each_below_split : (v : ℕ) (gs hs : List model.Goal) → EachBelow v (gs ++ hs) → EachBelow v gs × EachBelow v hs
each_below_split v [] hs h = (tt, h)
each_below_split v (g ∷ gs) hs h = let w = each_below_split v gs hs h.1 in ((h.0, w.0), w.1)

pub each_codable_split : (gs hs : List model.Goal) → EachCodable (gs ++ hs) → EachCodable gs × EachCodable hs
each_codable_split [] hs h = (tt, h)
each_codable_split (g ∷ gs) hs h = let w = each_codable_split gs hs h.1 in ((h.0, w.0), w.1)

-- what is known of the goals before a last user goal, and of that goal
pub record BeforeLast (p : FlatProgram) (v from to : ℕ) (u : TermId) : Type 0 where
  pub below : EachBelow v (goals_between p from (to - 1))
  pub codable : EachCodable (goals_between p from (to - 1))
  pub own : IsOwn p.pool v u

pub before_last : (p : FlatProgram) → IsProgram p → (v from to : ℕ) (u : TermId) → from < to → to ≤ length p.goals → goal_at p (to - 1) ≡ flat.Call u
    → EachBelow v (goals_between p from to) → EachCodable (goals_between p from to) → BeforeLast p v from to u
before_last p known v from to u l m last below codable =
    let e = last_goal p known from to l m in
    let b = each_below_split v (goals_between p from (to - 1)) (goal_in p (goal_at p (to - 1)) ∷ []) (subst (EachBelow v) e below) in
    let d = each_codable_split (goals_between p from (to - 1)) (goal_in p (goal_at p (to - 1)) ∷ []) (subst EachCodable e codable) in
    let own = known.goals (to - 1) (omega (arith, l, m)) in
    let w = is_writable p known.pool v (to - 1) (goal_at p (to - 1)) own b.1.0 d.1.0 in
    record { below = b.0; codable = d.0; own = subst (IsWritable p v) last w }

pub known_of : (p : FlatProgram) → IsProgram p → (c : ℕ) → c < length p.clauses → Known p c
known_of p h c l = clause_known p h h.codable c l (h.clauses c no_clause l).head

pub slots_only : (homes : List Register) → AreSlots homes → OnlySlots homes
slots_only homes s x l i e = let w = s.slots x l in let y : home homes x ≡ Y (suc w.0) = w.1 in absurd (cc)

pub in_order_slots : (homes : List Register) (v : ℕ) → InOrder homes v → AreSlots homes
in_order_slots homes v o = let h = in_order_housed homes v v 0 (omega arith) o in record { apart = h.apart; slots = λ x l. let w = h.in_frame refl x l in (w.0, w.1) }

pub all_written : (p : FlatProgram) (b : Base) (homes : List Register) (l : Levels) (at : ℕ) (old now : List Code) (from i to : ℕ) → to ≤ i
    → Written p b homes l at old now from i to → Appends old now (λ is. IsGoalsCode b homes true l at is (goals_between p from to))
all_written p b homes l at old now from i to high w =
    let e : w.done ≡ goals_between p from to = sym (append-nil w.done) ∙ ap (λ gs. w.done ++ gs) (sym (between_none p i to high)) ∙ sym w.whole in
    (w.js, w.code, subst (IsGoalsCode b homes true l at w.js) e w.goals)

-- ---- a clause

-- the place behind what is appended
pub place_behind : (old is new : List Code) → new ≡ old ++ is → length new ≡ past (length old) is
place_behind old is new e = let a = ap length e in let c = length-append old is in let d = past_is (length old) is in omega (arith, a, c, d)

-- what is known of its body
pub body_known : (p : FlatProgram) → IsProgram p → (homes : List Register) (c : ℕ) → c < length p.clauses → InOrder homes (clause_at p c).variables
    → (body : Part) → body ≡ (clause_at p c).body → EachBelow (length homes) (goals_in p body) × EachCodable (goals_in p body)
body_known p valid homes c l order body e =
    let k = known_of p valid c l in
    let below : EachBelow (length homes) (goals_in p (clause_at p c).body) = subst (λ v. EachBelow v (goals_in p (clause_at p c).body)) (sym order.long) k.below in
    (subst (λ (a : Part). EachBelow (length homes) (goals_in p a)) (sym e) below, subst (λ (a : Part). EachCodable (goals_in p a)) (sym e) k.codable)

pub head_own : (p : FlatProgram) → IsProgram p → (homes : List Register) (c : ℕ) → c < length p.clauses → InOrder homes (clause_at p c).variables
    → (q : Contents) (h : TermId) → q ≡ p.pool → h ≡ (clause_at p c).head → h.number < length p.pool.entries → IsOwn q (length homes) h
head_own p valid homes c l order q h e f own =
    let k = known_of p valid c l in
    let suits : Suits p.pool (length homes) (term_of p.pool (clause_at p c).head) = subst (λ v. Suits p.pool v (term_of p.pool (clause_at p c).head)) (sym order.long) k.suits in
    let there : IsOwn p.pool (length homes) h = (own, subst (λ (t : TermId). Suits p.pool (length homes) (term_of p.pool t)) (sym f) suits) in
    subst (λ (c : Contents). IsOwn c (length homes) h) (sym e) there

pub head_begun : (p : FlatProgram) (homes : List Register) (c count slots : ℕ) (l : Levels) → slots ≡ (clause_at p c).variables + count
    → l ≡ levels_behind (clause_at p c).variables count → (q : Contents) (h : TermId) → q ≡ p.pool → h ≡ (clause_at p c).head → (old new : List Code)
    → new ≡ old ++ begin_code q homes slots l (term_of q h)
    → new ≡ old ++ begin_code p.pool homes ((clause_at p c).variables + count) (levels_behind (clause_at p c).variables count) (term_of p.pool (clause_at p c).head)
head_begun p homes c count slots l i j q h e f old new w =
    w
    ∙ ap (λ n. old ++ begin_code q homes n l (term_of q h)) i
    ∙ ap (λ (k : Levels). old ++ begin_code q homes ((clause_at p c).variables + count) k (term_of q h)) j
    ∙ ap (λ (d : Contents). old ++ begin_code d homes ((clause_at p c).variables + count) (levels_behind (clause_at p c).variables count) (term_of d h)) e
    ∙ ap (λ (t : TermId). old ++ begin_code p.pool homes ((clause_at p c).variables + count) (levels_behind (clause_at p c).variables count) (term_of p.pool t)) f

-- There are as many level slots as its goals need.
pub body_fits : (p : FlatProgram) (c : ℕ) (l : Levels) → l ≡ levels_behind (clause_at p c).variables (each_need (clause_in p (clause_at p c)).body)
    → (body : Part) → body ≡ (clause_at p c).body → EachFits l (goals_in p body)
body_fits p c l e body f =
    subst (λ (k : Levels). EachFits k (goals_in p body)) (sym e)
    (subst (λ (a : Part). EachFits (levels_behind (clause_at p c).variables (each_need (clause_in p (clause_at p c)).body)) (goals_in p a)) (sym f)
    (behind_fits (clause_at p c).variables (clause_in p (clause_at p c)).body))

pub before_fits : (p : FlatProgram) → IsProgram p → (l : Levels) (from to : ℕ) → from < to → to ≤ length p.goals → EachFits l (goals_between p from to) → EachFits l (goals_between p from (to - 1))
before_fits p known l from to low m h = (fits_split l (goals_between p from (to - 1)) (goal_in p (goal_at p (to - 1)) ∷ []) (subst (EachFits l) (last_goal p known from to low m) h)).0

-- and they are behind those of its variables
pub body_free : (p : FlatProgram) (homes : List Register) (c count : ℕ) (l : Levels) → InOrder homes (clause_at p c).variables → l ≡ levels_behind (clause_at p c).variables count → AreFree homes l
body_free p homes c count l order e = subst (AreFree homes) (sym e) (in_order_free homes (clause_at p c).variables count order)

module _ (p : FlatProgram) (ps : List Predicate) (homes : List Register) (count c : ℕ) (order : InOrder homes (clause_at p c).variables) (known : Known p c)
    (old head goals new : List Code) where
  abbrev t : Term
  t = term_of p.pool (clause_at p c).head

  abbrev l : Levels
  l = levels_behind (clause_at p c).variables count

  abbrev begun : List Code
  begun = begin_code p.pool homes ((clause_at p c).variables + count) l t

  abbrev Goals : ℕ → ℕ → Type 0
  Goals from to = Appends head goals (λ js. IsGoalsCode (base_in p ps) homes true l (length head) js (goals_between p from to))

  placed : (from to : ℕ) → head ≡ old ++ begun → Goals from to → Appends head goals (λ js. IsGoalsCode (base_in p ps) homes true l (past (length old) begun) js (goals_between p from to))
  placed from to e f = subst (λ k. Appends head goals (λ js. IsGoalsCode (base_in p ps) homes true l k js (goals_between p from to))) (place_behind old begun head e) f

  joined : (js ks : List Code) (i : Code) → head ≡ old ++ begun → goals ≡ head ++ js → new ≡ goals ++ (ks ++ (i ∷ [])) → new ≡ old ++ ((begun ++ js) ++ (ks ++ (i ∷ [])))
  joined js ks i e f g =
      g
      ∙ ap (λ l. l ++ (ks ++ (i ∷ []))) (f ∙ ap (λ l. l ++ js) e ∙ append_assoc old begun js)
      ∙ append_assoc old (begun ++ js) (ks ++ (i ∷ []))

  pub clause_proceeds : (from to : ℕ) → goals_between p from to ≡ (clause_in p (clause_at p c)).body → head ≡ old ++ begun → Goals from to → new ≡ goals ++ (Deallocate ∷ Proceed ∷ [])
      → Appends old new (λ is. IsClauseCode (base_in p ps) (length old) is (clause_in p (clause_at p c)))
  clause_proceeds from to body e f g =
      let at : ℕ = length old in
      let w = placed from to e f in
      let b : Base = base_in p ps in (
        (begun ++ w.0) ++ (back true ++ (Proceed ∷ [])),
        joined w.0 (back true) Proceed e w.1 g,
        assembled p ps homes count at c w.0 (back true) Proceed (goals_between p from to) [] order known (sym body ∙ sym (append-nil (goals_between p from to)))
            w.2 (tail_proceed b homes true l (past at (begun ++ w.0))),
      )

  pub clause_executes : (from to : ℕ) (u : TermId) (made_now : List Bool) → IsProgram p → from < to → to ≤ length p.goals → goal_at p (to - 1) ≡ flat.Call u
      → Suits p.pool (length homes) (term_of p.pool u) → AreMade made_now → length made_now ≡ length homes
      → goals_between p from to ≡ (clause_in p (clause_at p c)).body → head ≡ old ++ begun → Goals from (to - 1) → Executes p.pool ps homes made_now u goals new
      → Appends old new (λ is. IsClauseCode (base_in p ps) (length old) is (clause_in p (clause_at p c)))
  clause_executes from to u made_now valid low m last suits all long body e f x =
      let at : ℕ = length old in
      let w = placed from (to - 1) e f in
      let b : Base = base_in p ps in
      let us : Terms = arguments (term_of p.pool u) in
      let s : Predicate = x.of.0 in
      let only = in_order_only homes (clause_at p c).variables order in
      let fine : Fine b homes (suc (term_count us)) us = record {
        suit = arguments_suit p.pool (length homes) (term_of p.pool u) suits;
        below = omega arith;
        lands = slots_land homes only 1 us;
        clear = λ j z y k i. only y k j i;
      } in
      let apart : AreApart homes = (in_order_housed homes (clause_at p c).variables (clause_at p c).variables 0 (omega arith) order).apart in
      let ks : List Code = code_of homes made_now (puts p.pool 1 (suc (term_count us)) us) ++ back true in
      let tail : Tail b homes true l (past at (begun ++ w.0)) ks (Execute x.number) (model.Call (made (atom_name p.pool s.name) us) ∷ []) =
      tail_execute b homes apart l (in_order_free homes (clause_at p c).variables count order) true made_now (suc (term_count us)) (past at (begun ++ w.0))
      (λ y k. all y) long x.number s us x.of.1 x.of.2.arity (slice_get_within ps x.number s x.of.1) fine in
      let same : goal_in p (goal_at p (to - 1)) ≡ model.Call (made (atom_name p.pool s.name) us) = ap (goal_in p) last ∙ ap (λ v. model.Call v) x.of.2.name in (
        (begun ++ w.0) ++ (ks ++ (Execute x.number ∷ [])),
        joined w.0 ks (Execute x.number) e w.1 x.code,
        assembled p ps homes count at c w.0 ks (Execute x.number) (goals_between p from (to - 1)) (model.Call (made (atom_name p.pool s.name) us) ∷ []) order known
            (sym body ∙ last_goal p valid from to low m ∙ ap (λ g. goals_between p from (to - 1) ++ (g ∷ [])) same) w.2 tail,
      )
