-- What a place of the code, with its registers and its frame, stands for: the equations still to be made and the goals still to be taken.
use Rattle.std.specs.Prelude.{◌≡◌, ◌⊎◌, ℕ, zero, suc, ◌<◌, ◌≤◌, Bool, true, false, List, [], ◌∷◌, ◌++◌, Option, Some, None}
use Rattle.fd_language.specs.Term.{Name, Term, Terms, Var, Int, Atom, Comp, no_terms, term, term_count}
use Rattle.fd_language.specs.Unifier.{Equation}
use Rattle.fd_language.specs.RangeRenaming.{rename_range}
use Rattle.fd_model.specs.declared.kinds.ConstraintKind.{ConstraintKind}
use Rattle.fd_model.specs.declared.kinds.BuiltinKind.{BuiltinKind}
use Rattle.fd_model.specs.declared.kinds.BuiltinKind.TheVariants as kind
use Rattle.fd_model.specs.declared.kinds.Order.{Order}
use Rattle.fd_model.specs.Goal.{Goal, Goals, listed, True, Fail, Unify, Post, Constrain, Label, Call, Either, Builtin, Cut, If, IfElse, Not, Best, marked_all}
use Rattle.branch_meaning.specs.Heap.{EquationsOf}
use Rattle.branch_meaning.specs.EquivalentEquations.{SaysSame}
use Rattle.range_code.specs.Slots.{slots_of}
use Rattle.wam_code.specs.declared.instruction.Register.TheVariants.{X}
use Rattle.wam_code.specs.declared.instruction.Code.{Code}
use Rattle.wam_code.specs.declared.instruction.Code.TheVariants as code
use Rattle.wam_code.specs.declared.parts.Entry.{Entry}
use Rattle.fd_model.specs.Arities.{constraint_arity, builtin_arity}
use Rattle.wam_code.specs.Area.{Area, Holds, HasEntry, name_of, range_at}
use Rattle.wam_code.specs.Places.{Depth, deeper, one_deeper, Places, read, write, without, learn, put_level, drop_level, no_registers, no_slots, IsFresh, Has}
use Rattle.wam_code.specs.Places.{IsWhole, IsSettled, AreWithin, IsDeepest, Hold, made}

-- what later places stand for
abbrev pub Rest : Type 1
Rest = ℕ → Places → List Equation → List Goal → Type 0

-- the same behind a test, by how much deeper it is there than what is kept
abbrev pub Rests : Type 1
Rests = Depth → Rest

-- the goals that come behind the clause, and the variables that answers show
pub record Caller : Type 0 where
  pub goals : List Goal
  pub shown : List ℕ

-- ---- the arguments of a structure

-- A unify instruction's first argument, how many variables it gives beside, and the places then.
abbrev pub UnifyRule : Area → Code → Places → Term → ℕ → Places → Type 0
UnifyRule area (code.UnifyVariable r) p t voids q = (v : ℕ) × IsFresh p v × (t ≡ Var v) × (voids ≡ 0) × (q ≡ write (learn p v) r (Var v))
UnifyRule area (code.UnifyValue r) p t voids q = (read p r ≡ Some t) × (voids ≡ 0) × (q ≡ p)
UnifyRule area (code.UnifyConstant c) p t voids q = (t ≡ Atom (name_of area c)) × (voids ≡ 0) × (q ≡ p)
UnifyRule area (code.UnifyInteger z) p t voids q = (t ≡ Int z) × (voids ≡ 0) × (q ≡ p)
UnifyRule area (code.UnifyVoid (suc n)) p t voids q = (v : ℕ) × IsFresh p v × (t ≡ Var v) × (voids ≡ n) × (q ≡ learn p v)
UnifyRule area _ p t voids q = ⊥

-- The unify instructions from a place on give these terms, and then the code goes on at the place next. The number is how many variables the instruction before
-- still gives.
abbrev pub Owed : Area → ℕ → ℕ → Places → Terms → ℕ → Places → Type 0
Owed area voids at p no_terms next q = (voids ≡ 0) × (next ≡ at) × (q ≡ p)
Owed area zero at p (term t ts) next q = (i : Code) × (voids : ℕ) × (mid : Places) × Holds area at i × UnifyRule area i p t voids mid × Owed area voids (suc at) mid ts next q
Owed area (suc n) at p (term t ts) next q = (v : ℕ) × IsFresh p v × (t ≡ Var v) × Owed area n at (learn p v) ts next q

-- the terms, n of them, that the unify instructions behind a place give
abbrev pub Gives : Area → ℕ → ℕ → Places → Terms → ℕ → Places → Type 0
Gives area n at p ts next q = (term_count ts ≡ n) × Owed area 0 (suc at) p ts next q

-- ---- goals

-- the goal that a predicate is called for
abbrev pub CallRule : Area → ℕ → Places → Goal → Type 0
CallRule area e p g = (entry : Entry) × (ts : Terms) × HasEntry area e entry × (term_count ts ≡ entry.arity) × Hold p 1 ts × (g ≡ Call (made (name_of area entry.name) ts))

-- a goal of the language with its arguments in the first registers, whatever its name is
abbrev pub NamedRule : ℕ → (Term → Goal) → Places → Goal → Type 0
NamedRule arity goal p g = (f : Name) × (ts : Terms) × (term_count ts ≡ arity) × Hold p 1 ts × (g ≡ goal (made f ts))

abbrev pub BuiltinRule : BuiltinKind → Places → Goal → Type 0
BuiltinRule kind.True p g = g ≡ True
BuiltinRule kind.Fail p g = g ≡ Fail
BuiltinRule kind.False p g = g ≡ Fail
BuiltinRule kind.Unify p g = (s : Term) × (t : Term) × (p.x 1 ≡ Some s) × (p.x 2 ≡ Some t) × (g ≡ Unify s t)
BuiltinRule k p g = NamedRule (builtin_arity k) (Builtin k) p g

abbrev pub ConstrainRule : ConstraintKind → Places → Goal → Type 0
ConstrainRule k p g = NamedRule (constraint_arity k) (Constrain k) p g

abbrev pub LabelRule : Order → Places → Goal → Type 0
LabelRule o p g = (t : Term) × (p.x 1 ≡ Some t) × (g ≡ Label o t)

-- the best leaf of a labelling, by its list and its cost
abbrev pub BestRule : Order → Bool → Places → Goal → Type 0
BestRule o least p g = (t : Term) × (c : Term) × (p.x 1 ≡ Some t) × (p.x 2 ≡ Some c) × (g ≡ Best o least t c)

-- the argument registers from i on hold the variables that f gives these
abbrev pub HoldVars : Places → ℕ → (ℕ → ℕ) → List ℕ → Type 0
HoldVars p i f [] = Unit {0}
HoldVars p i f (y ∷ ys) = (p.x i ≡ Some (Var (f y))) × HoldVars p (suc i) f ys

-- The target is in the first register, and the range's variables are in those behind it, each of which is a variable of its own.
abbrev pub PostRule : Area → ℕ → Places → Goal → Type 0
PostRule area r p g = (t : Term) × (f : ℕ → ℕ) × ((x y : ℕ) → f x ≡ f y → x ≡ y) × (p.x 1 ≡ Some t) × HoldVars p 2 f (slots_of (range_at area r)) × (g ≡ Post t (rename_range f (range_at area r)))

-- A goal is taken, where no equation is left to be made, and then the code goes on at the next place.
abbrev pub Takes : (Goal → Type 0) → Rest → ℕ → Places → List Equation → List Goal → Type 0
Takes taken rest at p es gs = (g : Goal) × (later : List Goal) × (q : Places) × taken g × IsSettled p q × (es ≡ []) × (gs ≡ g ∷ later) × rest (suc at) q [] later

-- ---- tests

-- The goals of a test whose own cuts keep k branches, then the cut that keeps m, and what follows.
abbrev pub tested : ℕ → ℕ → Goals → List Goal → List Goal
tested k m test gs = marked_all k (listed test) ++ Cut (Some m) ∷ gs

-- The goal has this test, these goals behind a test that holds, and those of the other way.
abbrev pub HasTest : Goal → Goals → List Goal → List Goal → Type 0
HasTest (IfElse t hs os) test holds other = (t ≡ test) × (holds ≡ listed hs) × (other ≡ listed os)
HasTest (Not t) test holds other = (t ≡ test) × (holds ≡ Fail ∷ []) × (other ≡ [])
HasTest _ test holds other = ⊥

-- the slots from i on hold the variables of an answer
abbrev pub Shows : Places → ℕ → List ℕ → Type 0
Shows p i [] = Unit {0}
Shows p i (v ∷ vs) = (p.y i ≡ Some (Var v)) × Shows p (suc i) vs

-- ---- one rule for each instruction

-- An equation is made of what a register holds with another term, and then the code goes on.
abbrev pub Equates : Places → ℕ → Term → List Equation → (List Equation → Type 0) → Type 0
Equates p a s es then' = (t : Term) × (later : List Equation) × (p.x a ≡ Some t) × (es ≡ record { left = t; right = s } ∷ later) × then' later

-- tests is what the places behind a test stand for, and rest what all other places do.
abbrev pub RuleWith : Area → Caller → Rest → Rests → Code → ℕ → Places → List Equation → List Goal → Type 0
RuleWith area w rest tests (code.GetVariable r a) at p es gs = (v : ℕ) × IsFresh p v × Equates p a (Var v) es (λ later. rest (suc at) (write (learn p v) r (Var v)) later gs)
RuleWith area w rest tests (code.GetValue r a) at p es gs = (s : Term) × (read p r ≡ Some s) × Equates p a s es (λ later. rest (suc at) p later gs)
RuleWith area w rest tests (code.GetConstant c a) at p es gs = Equates p a (Atom (name_of area c)) es (λ later. rest (suc at) p later gs)
RuleWith area w rest tests (code.GetInteger z a) at p es gs = Equates p a (Int z) es (λ later. rest (suc at) p later gs)
RuleWith area w rest tests (code.GetStructure f n a) at p es gs =
    (us : Terms) × (next : ℕ) × (q : Places) × Gives area n at p us next q × Equates p a (Comp (name_of area f) us) es (λ later. rest next q later gs)
RuleWith area w rest tests (code.PutVariable r a) at p es gs = (v : ℕ) × IsFresh p v × rest (suc at) (write (write (learn p v) r (Var v)) (X a) (Var v)) es gs
RuleWith area w rest tests (code.PutValue r a) at p es gs = (t : Term) × (read p r ≡ Some t) × rest (suc at) (write p (X a) t) es gs
RuleWith area w rest tests (code.PutConstant c a) at p es gs = rest (suc at) (write p (X a) (Atom (name_of area c))) es gs
RuleWith area w rest tests (code.PutInteger z a) at p es gs = rest (suc at) (write p (X a) (Int z)) es gs
RuleWith area w rest tests (code.PutStructure f n a) at p es gs =
    (us : Terms) × (next : ℕ) × (q : Places) × Gives area n at (without p a) us next q × rest next (write q (X a) (Comp (name_of area f) us)) es gs
RuleWith area w rest tests (code.Allocate n) at p es gs = rest (suc at) (no_slots p) es gs
RuleWith area w rest tests code.Deallocate at p es gs = rest (suc at) (no_slots p) es gs
RuleWith area w rest tests (code.Call e) at p es gs = Takes (CallRule area e p) rest at (no_registers p) es gs
-- The last goal and the end of a clause leave what its caller goes on with.
RuleWith area w rest tests (code.Execute e) at p es gs = (g : Goal) × CallRule area e p g × IsWhole p × (es ≡ []) × (gs ≡ g ∷ w.goals)
RuleWith area w rest tests code.Proceed at p es gs = IsWhole p × (es ≡ []) × (gs ≡ w.goals)
RuleWith area w rest tests (code.Jump to) at p es gs = rest to p es gs
RuleWith area w rest tests code.AnswerNow at p es gs = IsWhole p × Shows p 1 w.shown × (es ≡ []) × (gs ≡ [])
-- Both ways of A ; B go on with the goals behind it.
RuleWith area w rest tests (code.Either to) at p es gs =
    (a : Goals) × (b : Goals) × (later : List Goal) × (q : Places) × IsSettled p q × (es ≡ []) × (gs ≡ Either a b ∷ later) × rest (suc at) q [] (listed a ++ later) × rest to q [] (listed b ++ later)
RuleWith area w rest tests (code.Builtin k) at p es gs = Takes (BuiltinRule k p) rest at p es gs
RuleWith area w rest tests (code.Constrain k) at p es gs = Takes (ConstrainRule k p) rest at p es gs
RuleWith area w rest tests (code.Label o) at p es gs = Takes (LabelRule o p) rest at p es gs
RuleWith area w rest tests (code.PostRange r n) at p es gs = Takes (PostRule area r p) rest at p es gs
RuleWith area w rest tests (code.Best o least) at p es gs = Takes (BestRule o least p) rest at p es gs
-- The slot takes the depth that was noted.
RuleWith area w rest tests (code.Level n) at p es gs = (d : Depth) × (p.noted ≡ Some d) × rest (suc at) (put_level p n d) es gs
-- The slot takes the depth that is found: the deepest one that is kept, or any deeper one.
RuleWith area w rest tests (code.TestOnly n) at p es gs =
    (test : Goals) × (holds : Goals) × (later : List Goal) × (q : Places) × (kept : Depth) × IsSettled p q × IsDeepest q kept × (es ≡ []) × (gs ≡ If test holds ∷ later)
    × ((more : Depth) → (let d = deeper kept more in tests more (suc at) (put_level q n d) [] (tested d.branches d.branches test (listed holds ++ later))))
-- And the other one takes that with the new choice point, which is there on the way of the test alone.
RuleWith area w rest tests (code.EnterTest n m to) at p es gs =
    (g : Goal) × (test : Goals) × (holds : List Goal) × (other : List Goal) × (later : List Goal) × (q : Places) × (kept : Depth) × IsSettled p q
    × IsDeepest q kept × (es ≡ []) × (gs ≡ g ∷ later) × HasTest g test holds other
    × ((more : Depth) → (let d = deeper kept more in
    tests more (suc at) (put_level (put_level q n d) m (one_deeper d)) [] (tested (suc d.branches) d.branches test (holds ++ later))
    × tests more to (drop_level (put_level q n d) m) [] (other ++ later)))
-- Depths above the slot's are given up.
RuleWith area w rest tests (code.CutTo n) at p es gs =
    (d : Depth) × (later : List Goal) × (q : Places) × (p.levels n ≡ Some d) × IsSettled p q × AreWithin q d × (es ≡ []) × (gs ≡ Cut (Some d.branches) ∷ later) × rest (suc at) q [] later
-- choices and switches stand before a clause
RuleWith area w rest tests _ at p es gs = ⊥

abbrev pub Rule : Area → Caller → Rest → Code → ℕ → Places → List Equation → List Goal → Type 0
Rule area w rest i at p es gs = RuleWith area w rest (λ more. rest) i at p es gs

-- ---- steps that no instruction takes

abbrev pub Later : Type 1
Later = Places → List Equation → Type 0

-- A variable that stands first as an argument of the head may be taken to be what the register holds, which stays there.
abbrev pub Learns : Later → Places → List Equation → Type 0
Learns rest p es = (a : ℕ) × (v : ℕ) × IsFresh p v × Equates p a (Var v) es (λ later. rest (write (learn p v) (X a) (Var v)) later)

-- The equations may be restated, with more variables of the code's own: parts of a structure apart, or in another order.
abbrev pub Restates : Later → Places → List Equation → Type 0
Restates rest p es =
    (top : ℕ) × (ds : List Equation) × (p.top ≤ top) × ((v : ℕ) → p.top ≤ v → v < top → p.known v ≡ false) × EquationsOf (Has (record p { top = top })) ds
    × SaysSame (Has p) ds es × rest (record p { top = top }) ds

-- what holds after some of these steps
abbrev pub Quietly : ℕ → Later → Later
Quietly zero G p es = G p es
Quietly (suc m) G p es = Learns (Quietly m G) p es ⊎ Restates (Quietly m G) p es

-- ---- all of a clause

-- a bound on the steps up to the end of the clause: behind a test it may depend on the depth
pub data Steps : Type 0 where
  no_steps : Steps
  more_steps : Steps → (Depth → Steps) → Steps

abbrev pub Within : Area → Caller → Steps → Rest
Within area w no_steps at p es gs = ⊥
Within area w (more_steps n f) at p es gs =
    ((i : Code) × Holds area at i × RuleWith area w (Within area w n) (λ more. Within area w (f more)) i at p es gs)
    ⊎ (Learns (λ q ds. Within area w n at q ds gs) p es ⊎ Restates (λ q ds. Within area w n at q ds gs) p es)

-- The place stands for these equations and goals, before the goals of the caller.
abbrev pub Means : Area → Caller → Rest
Means area w at p es gs = (n : Steps) × Within area w n at p es gs

-- a continuation: where to go on, with which slots, on which variables
pub record Return : Type 0 where
  pub to : ℕ
  pub slots : ℕ → Option Term
  pub levels : ℕ → Option Depth
  pub own : ℕ

-- the registers and slots with which it goes on
abbrev pub returned : Return → Places
returned r = record { x = λ n. None; y = r.slots; levels = r.levels; noted = None; known = λ v. true; own = r.own; top = 0 }

-- The continuations, the newest first, stand for these goals.
abbrev pub Continues : Area → List ℕ → List Return → List Goal → Type 0
Continues area shown [] gs = gs ≡ []
Continues area shown (r ∷ rs) gs = (after : List Goal) × Continues area shown rs after × Means area (record { goals = after; shown = shown }) r.to (returned r) [] gs
