-- Goals that need no more level slots than there are.
use Rattle.std.proofs.Common.{◌≡◌, ℕ, zero, suc, ◌+◌, ◌-◌, ◌<◌, ◌≤◌, max, List, [], ◌∷◌, ◌++◌, Option, Some, None, length, get_or, refl, ap, sym, ◌∙◌, inl, inr}
use Rattle.std.proofs.Common.{arith, add-one}
use Rattle.std.proofs.lemmas.Bool.{cases_eq}
use Rattle.std.proofs.lemmas.List.{get_or_append_left, get_or_push, length-append}
use Rattle.fd_model.specs.Goal as model
use Rattle.fd_model.specs.Goal.{Goal, Goals, no_goals, goal}
use Rattle.clause_check.specs.declared.program.Part.{Part}
use Rattle.clause_check.specs.declared.program.FlatGoal.TheVariants as flat
use Rattle.clause_check.specs.Programs.{FlatProgram, unlisted, goal_at, goal_in, goals_in, goals_between, IsProgram}
use Rattle.clause_check.proofs.Lemmas.{between_none}
use Rattle.clause_code.specs.Bodies.{Levels, HasCut, in_test}
use Rattle.clause_code.specs.LevelSlots.{HasRoom, FitsGoal, AllFit, EachFits, need, needs, each_need, AreNeeds}
use Rattle.clause_code.specs.ClauseParts.{levels_behind}
use Rattle.clause_code.proofs.ClauseAssembly.{last_goal}

-- so many slots are enough
record Enough (l : Levels) (n : ℕ) : Type 0 where
  few : n ≤ suc (l.end - l.next)
  cut : 1 ≤ n → HasCut l
  within : l.next ≤ l.end

enough_less : (l : Levels) (n m : ℕ) → m ≤ n → Enough l n → Enough l m
enough_less l n m h e = record { few = let f = e.few in omega (arith, f, h); cut = λ o. e.cut (omega (arith, o, h)); within = e.within }

-- for a test there are two, and the others are enough for its goals
room_of : (l : Levels) (n : ℕ) → Enough l (3 + (n - 1)) → HasRoom l
room_of l n e = (e.cut (omega arith), (let f = e.few in let w = e.within in omega (arith, f, w)))

enough_inside : (l : Levels) (n cut : ℕ) → l.next ≤ cut → cut < suc (suc l.next) → Enough l (3 + (n - 1)) → Enough (in_test l cut) n
enough_inside l n cut low high e =
    let f = e.few in
    let w = e.within in
    let c = e.cut (omega arith) in
    let a = c.0 in
    let z = c.1 in
    record { few = omega (arith, f, w); cut = λ o. (omega (arith, a, z, low), high); within = omega (arith, f, w) }

max_left : (a b : ℕ) → a ≤ max a b
max_left a b = omega arith

max_right : (a b : ℕ) → b ≤ max a b
max_right a b = omega arith

mutual
  fits_goal : (g : Goal) (l : Levels) → Enough l (need g) → FitsGoal l g
  fits_goal (model.Either g h) l e = (fits_goals g l (enough_less l _ (needs g) (max_left (needs g) (needs h)) e), fits_goals h l (enough_less l _ (needs h) (max_right (needs g) (needs h)) e))
  fits_goal (model.Cut c) l e = e.cut (omega arith)
  fits_goal (model.If t h) l e =
      let a = enough_less l _ (3 + (needs t - 1)) (max_left (3 + (needs t - 1)) (needs h)) e in (
        room_of l (needs t) a,
        fits_goals t (in_test l l.next) (enough_inside l (needs t) l.next (omega arith) (omega arith) a),
        fits_goals h l (enough_less l _ (needs h) (max_right (3 + (needs t - 1)) (needs h)) e),
      )
  fits_goal (model.IfElse t h o) l e =
      let a = enough_less l _ (3 + (needs t - 1)) (max_left (3 + (needs t - 1)) (max (needs h) (needs o))) e in
      let c = enough_less l _ (max (needs h) (needs o)) (max_right (3 + (needs t - 1)) (max (needs h) (needs o))) e in (
        room_of l (needs t) a,
        fits_goals t (in_test l (suc l.next)) (enough_inside l (needs t) (suc l.next) (omega arith) (omega arith) a),
        fits_goals h l (enough_less l _ (needs h) (max_left (needs h) (needs o)) c),
        fits_goals o l (enough_less l _ (needs o) (max_right (needs h) (needs o)) c),
      )
  fits_goal (model.Not t) l e = (room_of l (needs t) e, fits_goals t (in_test l (suc l.next)) (enough_inside l (needs t) (suc l.next) (omega arith) (omega arith) e))
  fits_goal model.True l e = tt
  fits_goal model.Fail l e = tt
  fits_goal (model.Unify s t) l e = tt
  fits_goal (model.Post t r) l e = tt
  fits_goal (model.Constrain c t) l e = tt
  fits_goal (model.Label o t) l e = tt
  fits_goal (model.Call t) l e = tt
  fits_goal (model.Builtin k t) l e = tt
  fits_goal (model.Best o least t c) l e = tt

  fits_goals : (gs : Goals) (l : Levels) → Enough l (needs gs) → AllFit l gs
  fits_goals no_goals l e = tt
  fits_goals (goal g gs) l e = (fits_goal g l (enough_less l _ (need g) (max_left (need g) (needs gs)) e), fits_goals gs l (enough_less l _ (needs gs) (max_right (need g) (needs gs)) e))

each_fits : (gs : List Goal) (l : Levels) → Enough l (each_need gs) → EachFits l gs
each_fits [] l e = tt
each_fits (g ∷ gs) l e = (fits_goal g l (enough_less l _ (need g) (max_left (need g) (each_need gs)) e), each_fits gs l (enough_less l _ (each_need gs) (max_right (need g) (each_need gs)) e))

-- So many level slots as the goals need fit them.
pub behind_fits : (v : ℕ) (gs : List Goal) → EachFits (levels_behind v (each_need gs)) gs
behind_fits v gs = each_fits gs (levels_behind v (each_need gs)) (by (each_need gs))
  where
    by : (n : ℕ) → Enough (levels_behind v n) n
    by zero = record { few = omega arith; cut = λ o. absurd (omega (arith, o)); within = omega arith }
    by (suc n) = record { few = omega arith; cut = λ o. (omega arith, omega arith); within = omega arith }

-- the goals before the last one, and the last one
pub fits_split : (l : Levels) (gs hs : List Goal) → EachFits l (gs ++ hs) → EachFits l gs × EachFits l hs
fits_split l [] hs h = (tt, h)
fits_split l (g ∷ gs) hs h = let w = fits_split l gs hs h.1 in ((h.0, w.0), w.1)

-- ---- counting

need_more : (gs : List Goal) (g : Goal) → each_need (gs ++ (g ∷ [])) ≡ max (each_need gs) (need g)
need_more [] g = omega arith
need_more (h ∷ gs) g = let e = need_more gs g in omega (arith, e)

-- one more goal of a part
pub need_next : (p : FlatProgram) → IsProgram p → (from i : ℕ) → from ≤ i → i < length p.goals
    → each_need (goals_between p from (suc i)) ≡ max (each_need (goals_between p from i)) (need (goal_in p (goal_at p i)))
need_next p h from i l m =
    let down : suc i - 1 ≡ i = omega arith in
    ap each_need (last_goal p h from (suc i) (omega (arith, l)) (omega (arith, m)) ∙ ap (λ k. goals_between p from k ++ (goal_in p (goal_at p k) ∷ [])) down)
    ∙ need_more (goals_between p from i) (goal_in p (goal_at p i))

pub need_none : (p : FlatProgram) (from i : ℕ) → i ≤ from → each_need (goals_between p from i) ≡ 0
need_none p from i l = ap each_need (between_none p from i l)

-- as the definition has them
pub needs_unlisted : (gs : List Goal) → needs (unlisted gs) ≡ each_need gs
needs_unlisted [] = refl
needs_unlisted (g ∷ gs) = ap (λ n. max (need g) n) (needs_unlisted gs)

pub need_step : (p : FlatProgram) → IsProgram p → (count : ℕ) (ns : List ℕ) → AreNeeds p count ns → (from i most new : ℕ) → from ≤ i → i < count
    → count ≤ length p.goals → most ≡ each_need (goals_between p from i) → new ≡ max most (get_or ns i 0) → new ≡ each_need (goals_between p from (i + 1))
need_step p h count ns k from i most new low l m e f =
    f
    ∙ ap (λ x. max x (get_or ns i 0)) e
    ∙ ap (λ x. max (each_need (goals_between p from i)) x) (k.each i l)
    ∙ sym (need_next p h from i low (omega (arith, l, m)))
    ∙ ap (λ x. each_need (goals_between p from x)) (sym (add-one i))

-- one more goal
pub needs_push : (p : FlatProgram) (i n : ℕ) (ns new : List ℕ) → AreNeeds p i ns → n ≡ need (goal_in p (goal_at p i)) → new ≡ ns ++ (n ∷ []) → AreNeeds p (i + 1) new
needs_push p i n ns new k e f =
    let long = k.long in record {
      long = (let a = ap length f in let c = length-append ns (n ∷ []) in omega (arith, a, c, long));
      each = λ j l. elim (cases_eq j i) [
        | inl s ↦ ap (λ x. get_or x j 0) f ∙ get_or_push ns n 0 j (omega (arith, s, long)) ∙ e ∙ ap (λ x. need (goal_in p (goal_at p x))) (sym s)
        | inr d ↦ let m : j < i = omega (arith, l, d) in ap (λ x. get_or x j 0) f ∙ get_or_append_left ns (n ∷ []) 0 j (omega (arith, m, long)) ∙ k.each j m
      ];
    }

-- what a goal with parts needs
pub need_either : (p : FlatProgram) (a c : Part) → max (each_need (goals_in p a)) (each_need (goals_in p c)) ≡ need (goal_in p (flat.Either a c))
need_either p a c = ap (λ x. max x (each_need (goals_in p c))) (sym (needs_unlisted (goals_in p a))) ∙ ap (λ x. max (needs (unlisted (goals_in p a))) x) (sym (needs_unlisted (goals_in p c)))

abbrev pub other_need : FlatProgram → Option Part → ℕ
other_need p None = 0
other_need p (Some d) = each_need (goals_in p d)

pub need_if : (p : FlatProgram) (a c : Part) (o : Option Part) (third : ℕ) → third ≡ other_need p o
    → max (3 + (each_need (goals_in p a) - 1)) (max (each_need (goals_in p c)) third) ≡ need (goal_in p (flat.If a c o))
need_if p a c None third e =
    let x = needs_unlisted (goals_in p a) in
    let y = needs_unlisted (goals_in p c) in
    omega (arith, e, x, y)
need_if p a c (Some d) third e =
    let x = needs_unlisted (goals_in p a) in
    let y = needs_unlisted (goals_in p c) in
    let z = needs_unlisted (goals_in p d) in
    omega (arith, e, x, y, z)

pub need_not : (p : FlatProgram) (a : Part) → 3 + (each_need (goals_in p a) - 1) ≡ need (goal_in p (flat.Not a))
need_not p a = let x = needs_unlisted (goals_in p a) in omega (arith, x)
