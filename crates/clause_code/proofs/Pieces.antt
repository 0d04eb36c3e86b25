-- What pieces of code do, one instruction after the other.
use Rattle.std.proofs.Common.{◌≡◌, ℕ, suc, ℤ, List, [], ◌∷◌, ◌++◌, Some, slice_get, slice_index_or, option_map, refl, ap, sym, ◌∙◌, subst, Option, None, Bool}
use Rattle.std.proofs.lemmas.Option.{slice_get-map}
use Rattle.fd_language.specs.Term.{Term, Terms, Var, Int, Atom, Comp, no_terms, term, term_count}
use Rattle.fd_language.specs.Unifier.{Equation}
use Rattle.fd_language.specs.Range.{Range}
use Rattle.fd_language.specs.RangeRenaming.{rename_range}
use Rattle.fd_language.specs.Spelling.{empty_range}
use Rattle.fd_model.specs.declared.kinds.ConstraintKind.{ConstraintKind}
use Rattle.fd_model.specs.declared.kinds.BuiltinKind.{BuiltinKind}
use Rattle.fd_model.specs.declared.kinds.Order.{Order}
use Rattle.fd_model.specs.Goal as goal
use Rattle.fd_model.specs.Goal.{Goal, Goals, listed}
use Rattle.range_code.specs.Slots.{slots_of}
use Rattle.term_pool.specs.declared.AtomId.{AtomId}
use Rattle.term_pool.specs.Contents.{atom_name}
use Rattle.wam_code.specs.declared.instruction.Register.{Register}
use Rattle.wam_code.specs.declared.instruction.Register.TheVariants.{X}
use Rattle.wam_code.specs.declared.instruction.Code.{Code}
use Rattle.wam_code.specs.declared.instruction.Code.TheVariants.{GetVariable, GetValue, GetConstant, GetInteger, GetStructure, UnifyVariable, UnifyValue}
use Rattle.wam_code.specs.declared.instruction.Code.TheVariants.{UnifyConstant, UnifyInteger, UnifyVoid, PutVariable, PutValue, PutConstant, PutInteger}
use Rattle.wam_code.specs.declared.instruction.Code.TheVariants.{PutStructure, Allocate, Deallocate, Call, Execute, Proceed, Jump, AnswerNow, Either, Builtin}
use Rattle.wam_code.specs.declared.instruction.Code.TheVariants.{Constrain, Label, Best, PostRange, Level, TestOnly, EnterTest, CutTo}
use Rattle.wam_code.specs.declared.parts.Entry.{Entry}
use Rattle.wam_code.specs.Area.{Area, HasEntry, name_of, range_at}
use Rattle.wam_code.specs.Places.{Depth, deeper, one_deeper, Places, read, write, learn, without, put_level, drop_level, no_registers, no_slots, IsFresh}
use Rattle.wam_code.specs.Places.{IsWhole, IsSettled, AreWithin, IsDeepest, Hold, made}
use Rattle.wam_code.specs.CodeMeaning.{Caller, UnifyRule, BuiltinRule, ConstrainRule, LabelRule, BestRule, CallRule, tested, HasTest, HoldVars, Shows, Rule}
use Rattle.wam_code.specs.CodeMeaning.{Restates, Means}
use Rattle.wam_code.proofs.Lemmas.{from_rule, from_learning, from_restating}
use Rattle.clause_code.specs.Pieces.{Predicate, predicate_of, Base, base_of, Stand, past, Does, Parts, Ends}

-- ---- one behind the other

pub stand_first : (area : Area) (at : ℕ) (is js : List Code) → Stand area at (is ++ js) → Stand area at is
stand_first area at [] js h = tt
stand_first area at (i ∷ is) js h = (h.0, stand_first area (suc at) is js h.1)

pub stand_rest : (area : Area) (at : ℕ) (is js : List Code) → Stand area at (is ++ js) → Stand area (past at is) js
stand_rest area at [] js h = h
stand_rest area at (i ∷ is) js h = stand_rest area (suc at) is js h.1

pub past_both : (at : ℕ) (is js : List Code) → past at (is ++ js) ≡ past (past at is) js
past_both at [] js = refl
past_both at (i ∷ is) js = past_both (suc at) is js

-- No instruction leaves all as it is.
pub does_nothing : (b : Base) (at : ℕ) (p : Places) (es : List Equation) (gs : List Goal) → Does b at [] p es gs p es gs
does_nothing b at p es gs = λ area w e s m. m

-- Two pieces, one behind the other.
pub does_both : (b : Base) (at : ℕ) (is js : List Code) (p q r : Places) (es ds cs : List Equation) (gs hs ks : List Goal)
    → Does b at is p es gs q ds hs → Does b (past at is) js q ds hs r cs ks → Does b at (is ++ js) p es gs r cs ks
does_both b at is js p q r es ds cs gs hs ks f g = λ area w e s m.
    f area w e (stand_first area at is js s)
    (g area w e (stand_rest area at is js s) (subst (λ n. Means area w n r cs ks) (past_both at is js) m))

-- A piece in front of one that ends.
pub ends_behind : (b : Base) (w : Caller) (at : ℕ) (is js : List Code) (p q : Places) (es ds : List Equation) (gs hs : List Goal)
    → Does b at is p es gs q ds hs → Ends b w (past at is) js q ds hs → Ends b w at (is ++ js) p es gs
ends_behind b w at is js p q es ds gs hs f g = λ area e s. f area w e (stand_first area at is js s) (g area e (stand_rest area at is js s))

one : (b : Base) (at : ℕ) (i : Code) (p q : Places) (es ds : List Equation) (gs hs : List Goal)
    → ((area : Area) (w : Caller) → base_of area ≡ b → Means area w (suc at) q ds hs → Rule area w (Means area w) i at p es gs) → Does b at (i ∷ []) p es gs q ds hs
one b at i p q es ds gs hs k = λ area w e s m. from_rule area w at p es gs i s.0 (k area w e m)

named : (b : Base) (area : Area) (c : AtomId) → base_of area ≡ b → atom_name b.pool c ≡ name_of area c
named b area c e = sym (ap (λ x. atom_name x.pool c) e)

-- ---- the head

abbrev pub equation : Term → Term → Equation
equation l r = record { left = l; right = r }

pub does_get_variable : (b : Base) (at : ℕ) (r : Register) (a v : ℕ) (t : Term) (p : Places) (es : List Equation) (gs : List Goal) → IsFresh p v → p.x a ≡ Some t
    → Does b at (GetVariable r a ∷ []) p (equation t (Var v) ∷ es) gs (write (learn p v) r (Var v)) es gs
does_get_variable b at r a v t p es gs f h = one b at (GetVariable r a) p _ _ es gs gs (λ area w e m. (v, f, (t, es, h, refl, m)))

pub does_get_value : (b : Base) (at : ℕ) (r : Register) (a : ℕ) (s t : Term) (p : Places) (es : List Equation) (gs : List Goal) → read p r ≡ Some s → p.x a ≡ Some t
    → Does b at (GetValue r a ∷ []) p (equation t s ∷ es) gs p es gs
does_get_value b at r a s t p es gs f h = one b at (GetValue r a) p _ _ es gs gs (λ area w e m. (s, f, (t, es, h, refl, m)))

pub does_get_constant : (b : Base) (at : ℕ) (c : AtomId) (a : ℕ) (t : Term) (p : Places) (es : List Equation) (gs : List Goal) → p.x a ≡ Some t
    → Does b at (GetConstant c a ∷ []) p (equation t (Atom (atom_name b.pool c)) ∷ es) gs p es gs
does_get_constant b at c a t p es gs h = one b at (GetConstant c a) p _ _ es gs gs (λ area w e m. (t, es, h, ap (λ n. equation t (Atom n) ∷ es) (named b area c e), m))

pub does_get_integer : (b : Base) (at : ℕ) (z : ℤ) (a : ℕ) (t : Term) (p : Places) (es : List Equation) (gs : List Goal) → p.x a ≡ Some t
    → Does b at (GetInteger z a ∷ []) p (equation t (Int z) ∷ es) gs p es gs
does_get_integer b at z a t p es gs h = one b at (GetInteger z a) p _ _ es gs gs (λ area w e m. (t, es, h, refl, m))

-- ---- the arguments of a structure

pub no_parts : (b : Base) (at : ℕ) (p : Places) → Parts b at [] p no_terms p
no_parts b at p = λ area e s. (refl, refl, refl)

part_by : (b : Base) (at : ℕ) (i : Code) (is : List Code) (t : Term) (ts : Terms) (p mid q : Places)
    → ((area : Area) → base_of area ≡ b → UnifyRule area i p t 0 mid) → Parts b (suc at) is mid ts q → Parts b at (i ∷ is) p (term t ts) q
part_by b at i is t ts p mid q k f = λ area e s. (i, 0, mid, s.0, k area e, f area e s.1)

pub part_variable : (b : Base) (at : ℕ) (r : Register) (v : ℕ) (is : List Code) (ts : Terms) (p q : Places) → IsFresh p v
    → Parts b (suc at) is (write (learn p v) r (Var v)) ts q → Parts b at (UnifyVariable r ∷ is) p (term (Var v) ts) q
part_variable b at r v is ts p q f g = part_by b at (UnifyVariable r) is (Var v) ts p _ q (λ area e. (v, f, refl, refl, refl)) g

pub part_value : (b : Base) (at : ℕ) (r : Register) (t : Term) (is : List Code) (ts : Terms) (p q : Places) → read p r ≡ Some t → Parts b (suc at) is p ts q
    → Parts b at (UnifyValue r ∷ is) p (term t ts) q
part_value b at r t is ts p q h g = part_by b at (UnifyValue r) is t ts p p q (λ area e. (h, refl, refl)) g

pub part_constant : (b : Base) (at : ℕ) (c : AtomId) (is : List Code) (ts : Terms) (p q : Places) → Parts b (suc at) is p ts q
    → Parts b at (UnifyConstant c ∷ is) p (term (Atom (atom_name b.pool c)) ts) q
part_constant b at c is ts p q g = part_by b at (UnifyConstant c) is _ ts p p q (λ area e. (ap Atom (named b area c e), refl, refl)) g

pub part_integer : (b : Base) (at : ℕ) (z : ℤ) (is : List Code) (ts : Terms) (p q : Places) → Parts b (suc at) is p ts q → Parts b at (UnifyInteger z ∷ is) p (term (Int z) ts) q
part_integer b at z is ts p q g = part_by b at (UnifyInteger z) is (Int z) ts p p q (λ area e. (refl, refl, refl)) g

pub part_void : (b : Base) (at v : ℕ) (is : List Code) (ts : Terms) (p q : Places) → IsFresh p v → Parts b (suc at) is (learn p v) ts q → Parts b at (UnifyVoid 1 ∷ is) p (term (Var v) ts) q
part_void b at v is ts p q f g = part_by b at (UnifyVoid 1) is (Var v) ts p _ q (λ area e. (v, f, refl, refl, refl)) g

-- The structure is equated with what a register holds.
pub does_get_structure : (b : Base) (at : ℕ) (c : AtomId) (n a : ℕ) (is : List Code) (t : Term) (us : Terms) (p q : Places) (es : List Equation)
    (gs : List Goal) → p.x a ≡ Some t → term_count us ≡ n → Parts b (suc at) is p us q
    → Does b at (GetStructure c n a ∷ is) p (equation t (Comp (atom_name b.pool c) us) ∷ es) gs q es gs
does_get_structure b at c n a is t us p q es gs h k f = λ area w e s m.
    from_rule area w at p _ gs (GetStructure c n a) s.0 (us, past (suc at) is, q, (k, f area e s.1), (t, es, h, ap (λ x. equation t (Comp x us) ∷ es) (named b area c e), m))

-- ---- the arguments of goals

pub does_put_variable : (b : Base) (at : ℕ) (r : Register) (a v : ℕ) (p : Places) (es : List Equation) (gs : List Goal) → IsFresh p v
    → Does b at (PutVariable r a ∷ []) p es gs (write (write (learn p v) r (Var v)) (X a) (Var v)) es gs
does_put_variable b at r a v p es gs f = one b at (PutVariable r a) p _ es es gs gs (λ area w e m. (v, f, m))

pub does_put_value : (b : Base) (at : ℕ) (r : Register) (a : ℕ) (t : Term) (p : Places) (es : List Equation) (gs : List Goal) → read p r ≡ Some t
    → Does b at (PutValue r a ∷ []) p es gs (write p (X a) t) es gs
does_put_value b at r a t p es gs h = one b at (PutValue r a) p _ es es gs gs (λ area w e m. (t, h, m))

pub does_put_constant : (b : Base) (at : ℕ) (c : AtomId) (a : ℕ) (p : Places) (es : List Equation) (gs : List Goal)
    → Does b at (PutConstant c a ∷ []) p es gs (write p (X a) (Atom (atom_name b.pool c))) es gs
does_put_constant b at c a p es gs = one b at (PutConstant c a) p _ es es gs gs (λ area w e m. subst (λ x. Means area w (suc at) (write p (X a) (Atom x)) es gs) (named b area c e) m)

pub does_put_integer : (b : Base) (at : ℕ) (z : ℤ) (a : ℕ) (p : Places) (es : List Equation) (gs : List Goal) → Does b at (PutInteger z a ∷ []) p es gs (write p (X a) (Int z)) es gs
does_put_integer b at z a p es gs = one b at (PutInteger z a) p _ es es gs gs (λ area w e m. m)

pub does_put_structure : (b : Base) (at : ℕ) (c : AtomId) (n a : ℕ) (is : List Code) (us : Terms) (p q : Places) (es : List Equation) (gs : List Goal)
    → term_count us ≡ n → Parts b (suc at) is (without p a) us q
    → Does b at (PutStructure c n a ∷ is) p es gs (write q (X a) (Comp (atom_name b.pool c) us)) es gs
does_put_structure b at c n a is us p q es gs k f = λ area w e s m.
    from_rule area w at p es gs (PutStructure c n a) s.0 (
      us,
      past (suc at) is,
      q,
      (k, f area e s.1),
      subst (λ x. Means area w (past (suc at) is) (write q (X a) (Comp x us)) es gs) (named b area c e) m,
    )

-- ---- frames

pub does_allocate : (b : Base) (at n : ℕ) (p : Places) (es : List Equation) (gs : List Goal) → Does b at (Allocate n ∷ []) p es gs (no_slots p) es gs
does_allocate b at n p es gs = one b at (Allocate n) p _ es es gs gs (λ area w e m. m)

pub does_deallocate : (b : Base) (at : ℕ) (p : Places) (es : List Equation) (gs : List Goal) → Does b at (Deallocate ∷ []) p es gs (no_slots p) es gs
does_deallocate b at p es gs = one b at Deallocate p _ es es gs gs (λ area w e m. m)

-- ---- steps that no instruction takes

-- A variable of the head is what a register holds.
pub does_learn : (b : Base) (at a v : ℕ) (t : Term) (p : Places) (es : List Equation) (gs : List Goal) → IsFresh p v → p.x a ≡ Some t
    → Does b at [] p (equation t (Var v) ∷ es) gs (write (learn p v) (X a) (Var v)) es gs
does_learn b at a v t p es gs f h = λ area w e s m. from_learning area w at p _ gs (a, v, f, (t, es, h, refl, m))

-- The equations are restated.
pub does_restate : (b : Base) (at : ℕ) (p q : Places) (es ds : List Equation) (gs : List Goal) → Restates (λ r cs. (r ≡ q) × (cs ≡ ds)) p es → Does b at [] p es gs q ds gs
does_restate b at p q es ds gs h = λ area w e s m.
    from_restating area w at p es gs (h.0, h.1, h.2, h.3, h.4, h.5, subst (λ r. Means area w at r h.1 gs) (sym h.6.0) (subst (λ cs. Means area w at q cs gs) (sym h.6.1) m))

-- ---- goals

pub does_builtin : (b : Base) (at : ℕ) (k : BuiltinKind) (g : Goal) (p q : Places) (gs : List Goal) → BuiltinRule k p g → IsSettled p q → Does b at (Builtin k ∷ []) p [] (g ∷ gs) q [] gs
does_builtin b at k g p q gs h f = one b at (Builtin k) p q [] [] (g ∷ gs) gs (λ area w e m. (g, gs, q, h, f, refl, refl, m))

pub does_constrain : (b : Base) (at : ℕ) (k : ConstraintKind) (g : Goal) (p q : Places) (gs : List Goal) → ConstrainRule k p g → IsSettled p q → Does b at (Constrain k ∷ []) p [] (g ∷ gs) q [] gs
does_constrain b at k g p q gs h f = one b at (Constrain k) p q [] [] (g ∷ gs) gs (λ area w e m. (g, gs, q, h, f, refl, refl, m))

pub does_label : (b : Base) (at : ℕ) (o : Order) (g : Goal) (p q : Places) (gs : List Goal) → LabelRule o p g → IsSettled p q → Does b at (Label o ∷ []) p [] (g ∷ gs) q [] gs
does_label b at o g p q gs h f = one b at (Label o) p q [] [] (g ∷ gs) gs (λ area w e m. (g, gs, q, h, f, refl, refl, m))

pub does_best : (b : Base) (at : ℕ) (o : Order) (least : Bool) (g : Goal) (p q : Places) (gs : List Goal) → BestRule o least p g → IsSettled p q → Does b at (Best o least ∷ []) p [] (g ∷ gs) q [] gs
does_best b at o least g p q gs h f = one b at (Best o least) p q [] [] (g ∷ gs) gs (λ area w e m. (g, gs, q, h, f, refl, refl, m))

found : (es : List Entry) (n : ℕ) (o : Option Entry) (s : Predicate) → slice_get es n ≡ o → option_map predicate_of o ≡ Some s → (e : Entry) × (slice_get es n ≡ Some e) × (predicate_of e ≡ s)
found es n None s f h = absurd (cc)
found es n (Some e) s f h = (e, f, (let same : predicate_of e ≡ s = cc in same))

entry_there : (b : Base) (area : Area) (n : ℕ) (s : Predicate) → base_of area ≡ b → slice_get b.predicates n ≡ Some s → (e : Entry) × HasEntry area n e × (predicate_of e ≡ s)
entry_there b area n s e h = found area.entries n (slice_get area.entries n) s refl (sym (slice_get-map predicate_of area.entries n) ∙ ap (λ x. slice_get x.predicates n) e ∙ h)

-- the goal of a predicate with these arguments
abbrev pub call_of : Base → Predicate → Terms → Goal
call_of b s ts = goal.Call (made (atom_name b.pool s.name) ts)

call_rule : (b : Base) (area : Area) (n : ℕ) (s : Predicate) (ts : Terms) (p : Places) → base_of area ≡ b → slice_get b.predicates n ≡ Some s
    → term_count ts ≡ s.arity → Hold p 1 ts → CallRule area n p (call_of b s ts)
call_rule b area n s ts p e h k l =
    let w = entry_there b area n s e h in
    (w.0, ts, w.1, k ∙ sym (ap (λ x. x.arity) w.2), l, ap (λ x. goal.Call (made x ts)) (ap (λ c. atom_name b.pool c) (sym (ap (λ x. x.name) w.2)) ∙ named b area w.0.name e))

pub does_call : (b : Base) (at n : ℕ) (s : Predicate) (ts : Terms) (p q : Places) (gs : List Goal) → slice_get b.predicates n ≡ Some s → term_count ts ≡ s.arity
    → Hold p 1 ts → IsSettled (no_registers p) q
    → Does b at (Call n ∷ []) p [] (call_of b s ts ∷ gs) q [] gs
does_call b at n s ts p q gs h k l f = one b at (Call n) p q [] [] (call_of b s ts ∷ gs) gs (λ area w e m. (call_of b s ts, gs, q, call_rule b area n s ts p e h k l, f, refl, refl, m))

abbrev pub range_in : Base → ℕ → Range
range_in b r = slice_index_or b.ranges r empty_range

pub does_post : (b : Base) (at r n : ℕ) (t : Term) (f : ℕ → ℕ) (p q : Places) (gs : List Goal) → ((x y : ℕ) → f x ≡ f y → x ≡ y) → p.x 1 ≡ Some t
    → HoldVars p 2 f (slots_of (range_in b r)) → IsSettled p q
    → Does b at (PostRange r n ∷ []) p [] (goal.Post t (rename_range f (range_in b r)) ∷ gs) q [] gs
does_post b at r n t f p q gs apart h k l = one b at (PostRange r n) p q [] [] _ gs (λ area w e m.
    let same : range_in b r ≡ range_at area r = sym (ap (λ x. slice_index_or x.ranges r empty_range) e) in
    (goal.Post t (rename_range f (range_in b r)), gs, q, (t, f, apart, h, subst (λ x. HoldVars p 2 f (slots_of x)) same k, ap (λ x. goal.Post t (rename_range f x)) same), l, refl, refl, m))

-- ---- ends

pub ends_execute : (b : Base) (w : Caller) (at n : ℕ) (s : Predicate) (ts : Terms) (p : Places) → slice_get b.predicates n ≡ Some s → term_count ts ≡ s.arity → Hold p 1 ts → IsWhole p
    → Ends b w at (Execute n ∷ []) p [] (call_of b s ts ∷ w.goals)
ends_execute b w at n s ts p h k l f = λ area e stand. from_rule area w at p [] _ (Execute n) stand.0 (call_of b s ts, call_rule b area n s ts p e h k l, f, refl, refl)

pub ends_proceed : (b : Base) (w : Caller) (at : ℕ) (p : Places) → IsWhole p → Ends b w at (Proceed ∷ []) p [] w.goals
ends_proceed b w at p f = λ area e s. from_rule area w at p [] w.goals Proceed s.0 (f, refl, refl)

pub ends_answer : (b : Base) (w : Caller) (at : ℕ) (p : Places) → IsWhole p → Shows p 1 w.shown → Ends b w at (AnswerNow ∷ []) p [] []
ends_answer b w at p f g = λ area e s. from_rule area w at p [] [] AnswerNow s.0 (f, g, refl, refl)

-- ---- cuts

-- A slot takes the depth that the call has noted.
pub does_level : (b : Base) (at n : ℕ) (d : Depth) (p : Places) (es : List Equation) (gs : List Goal) → p.noted ≡ Some d → Does b at (Level n ∷ []) p es gs (put_level p n d) es gs
does_level b at n d p es gs h = one b at (Level n) p _ es es gs gs (λ area w e m. (d, h, m))

-- A cut to a slot's depth.
pub does_cut : (b : Base) (at n : ℕ) (d : Depth) (p q : Places) (gs : List Goal) → p.levels n ≡ Some d → IsSettled p q → AreWithin q d
    → Does b at (CutTo n ∷ []) p [] (goal.Cut (Some d.branches) ∷ gs) q [] gs
does_cut b at n d p q gs h f g = one b at (CutTo n) p q [] [] _ gs (λ area w e m. (d, gs, q, h, f, g, refl, refl, m))

-- ---- tests

-- A test, and what follows where it holds: the code behind the instruction does both, whatever the depth is.
pub does_test_only : (b : Base) (at n : ℕ) (is : List Code) (test holds : Goals) (p q r : Places) (kept : Depth) (gs : List Goal) → IsSettled p q → IsDeepest q kept
    → ((more : Depth) → Does b (suc at) is (put_level q n (deeper kept more)) [] (tested (deeper kept more).branches (deeper kept more).branches test (listed holds ++ gs)) r [] gs)
    → Does b at (TestOnly n ∷ is) p [] (goal.If test holds ∷ gs) r [] gs
does_test_only b at n is test holds p q r kept gs f k h = λ area w e s m. from_rule area w at p [] _ (TestOnly n) s.0 (test, holds, gs, q, kept, f, k, refl, refl, λ more. h more area w e s.1 m)

-- A test with another way, which is behind the code of the first one.
pub does_enter_test : (b : Base) (at n m to : ℕ) (is : List Code) (g : Goal) (test : Goals) (holds other : List Goal) (p q r : Places) (kept : Depth)
    (gs : List Goal) → IsSettled p q → IsDeepest q kept → HasTest g test holds other
    → ((more : Depth) → Does b (suc at) is (put_level (put_level q n (deeper kept more)) m (one_deeper (deeper kept more))) []
    (tested (suc (deeper kept more).branches) (deeper kept more).branches test (holds ++ gs)) r [] gs)
    → ((more : Depth) → (area : Area) (w : Caller) → base_of area ≡ b → Stand area (suc at) is → Means area w (past (suc at) is) r [] gs
    → Means area w to (drop_level (put_level q n (deeper kept more)) m) [] (other ++ gs))
    → Does b at (EnterTest n m to ∷ is) p [] (g ∷ gs) r [] gs
does_enter_test b at n m to is g test holds other p q r kept gs f k t h o = λ area w e s x.
    from_rule area w at p [] (g ∷ gs) (EnterTest n m to) s.0 (g, test, holds, other, gs, q, kept, f, k, refl, refl, t, λ more. (h more area w e s.1 x, o more area w e s.1 x))

-- ---- both ways of A ; B

-- The first of two codes jumps behind the second.
pub does_ways : (b : Base) (at : ℕ) (is js : List Code) (p r : Places) (gs ks : List Goal) → Does b at is p [] gs r [] ks → Does b at (is ++ (Jump (past (suc (past at is)) js) ∷ js)) p [] gs r [] ks
does_ways b at is js p r gs ks f = λ area w e s m.
    let mid : ℕ = past at is in
    let last : past at (is ++ (Jump (past (suc mid) js) ∷ js)) ≡ past (suc mid) js = past_both at is (Jump (past (suc mid) js) ∷ js) in
    let rest : Stand area mid (Jump (past (suc mid) js) ∷ js) = stand_rest area at is (Jump (past (suc mid) js) ∷ js) s in
    f area w e (stand_first area at is (Jump (past (suc mid) js) ∷ js) s) (from_rule area w mid r [] ks (Jump (past (suc mid) js)) rest.0 (subst (λ n. Means area w n r [] ks) last m))

-- And the second stands behind the jump.
pub other_way : (b : Base) (at : ℕ) (is js : List Code) (q r : Places) (hs ks : List Goal) → Does b (suc (past at is)) js q [] hs r [] ks
    → (area : Area) (w : Caller) → base_of area ≡ b → Stand area at (is ++ (Jump (past (suc (past at is)) js) ∷ js))
    → Means area w (past at (is ++ (Jump (past (suc (past at is)) js) ∷ js))) r [] ks → Means area w (suc (past at is)) q [] hs
other_way b at is js q r hs ks g = λ area w e s m.
    let mid : ℕ = past at is in
    let last : past at (is ++ (Jump (past (suc mid) js) ∷ js)) ≡ past (suc mid) js = past_both at is (Jump (past (suc mid) js) ∷ js) in
    let rest : Stand area mid (Jump (past (suc mid) js) ∷ js) = stand_rest area at is (Jump (past (suc mid) js) ∷ js) s in
    g area w e rest.1 (subst (λ n. Means area w n r [] ks) last m)

-- The code of A jumps to the place behind that of B.
pub does_either : (b : Base) (at : ℕ) (is js : List Code) (x y : Goals) (p q r : Places) (gs : List Goal) → IsSettled p q
    → Does b (suc at) is q [] (listed x ++ gs) r [] gs
    → Does b (past (suc at) (is ++ (Jump (past (suc (past (suc at) is)) js) ∷ []))) js q [] (listed y ++ gs) r [] gs
    → Does b at (Either (past (suc at) (is ++ (Jump (past (suc (past (suc at) is)) js) ∷ []))) ∷ (is ++ (Jump (past (suc (past (suc at) is)) js) ∷ js))) p [] (goal.Either x y ∷ gs) r [] gs
does_either b at is js x y p q r gs f g h = λ area w e s m.
    let jump : List Code = Jump (past (suc (past (suc at) is)) js) ∷ [] in
    let mid : ℕ = past (suc at) is in
    let behind : past (suc at) (is ++ jump) ≡ suc mid = past_both (suc at) is jump in
    let last : past (suc at) (is ++ (Jump (past (suc mid) js) ∷ js)) ≡ past (suc mid) js = past_both (suc at) is (Jump (past (suc mid) js) ∷ js) in
    let end : Means area w (past (suc mid) js) r [] gs = subst (λ n. Means area w n r [] gs) last m in
    let rest : Stand area mid (Jump (past (suc mid) js) ∷ js) = stand_rest area (suc at) is (Jump (past (suc mid) js) ∷ js) s.1 in
    let first : Means area w (suc at) q [] (listed x ++ gs) =
    g area w e (stand_first area (suc at) is (Jump (past (suc mid) js) ∷ js) s.1) (from_rule area w mid r [] gs (Jump (past (suc mid) js)) rest.0 end) in
    let there : Stand area (past (suc at) (is ++ jump)) js = subst (λ n. Stand area n js) (sym behind) rest.1 in
    let other : Means area w (past (suc at) (is ++ jump)) q [] (listed y ++ gs) =
    h area w e there (subst (λ n. Means area w (past n js) r [] gs) (sym behind) end) in
    from_rule area w at p [] (goal.Either x y ∷ gs) (Either (past (suc at) (is ++ jump))) s.0 (x, y, gs, q, f, refl, refl, first, other)
