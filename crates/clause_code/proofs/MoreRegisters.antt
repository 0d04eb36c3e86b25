-- A place stands for the same with more registers.
use Rattle.std.proofs.Common.{◌≡◌, ℕ, zero, suc, ◌<◌, ◌≤◌, Bool, true, false, ◌==◌, if◌then◌else◌, List, [], ◌∷◌, Option, Some, None, refl, ap, sym, ◌∙◌, subst}
use Rattle.std.proofs.Common.{inl, inr}
use Rattle.fd_language.specs.Term.{Term, Terms, Var, no_terms, term}
use Rattle.fd_language.specs.Unifier.{Equation}
use Rattle.fd_model.specs.Goal.{Goal}
use Rattle.branch_meaning.specs.Heap.{Below}
use Rattle.branch_meaning.specs.EquivalentEquations.{SaysSame}
use Rattle.branch_meaning.proofs.Lemmas.{more_each}
use Rattle.wam_code.specs.declared.instruction.Register.{Register}
use Rattle.wam_code.specs.declared.instruction.Register.TheVariants.{X, Y}
use Rattle.wam_code.specs.declared.instruction.Code.{Code}
use Rattle.wam_code.specs.declared.instruction.Code.TheVariants.{GetVariable, GetValue, GetConstant, GetInteger, GetStructure, UnifyVariable, UnifyValue}
use Rattle.wam_code.specs.declared.instruction.Code.TheVariants.{UnifyConstant, UnifyInteger, UnifyVoid, PutVariable, PutValue, PutConstant, PutInteger}
use Rattle.wam_code.specs.declared.instruction.Code.TheVariants.{PutStructure, Allocate, Deallocate, Call, Execute, Proceed, Jump, AnswerNow, Either, Builtin}
use Rattle.wam_code.specs.declared.instruction.Code.TheVariants.{Constrain, Label, Best, PostRange, Level, TestOnly, EnterTest, CutTo}
use Rattle.fd_model.specs.declared.kinds.BuiltinKind.{BuiltinKind}
use Rattle.fd_model.specs.declared.kinds.BuiltinKind.TheVariants as kind
use Rattle.wam_code.specs.Area.{Area}
use Rattle.wam_code.specs.Places.{Depth, Places, put_at, drop_at, read, write, learn, without, put_level, no_registers, no_slots, IsFresh, Has, IsWhole}
use Rattle.wam_code.specs.Places.{IsSettled, Hold}
use Rattle.wam_code.specs.CodeMeaning.{Rest, Rests, Caller, Owed, UnifyRule, BuiltinRule, HoldVars, Shows, Takes, Equates, RuleWith, Steps, no_steps}
use Rattle.wam_code.specs.CodeMeaning.{more_steps, Within, Means}
use Rattle.clause_code.specs.MoreRegisters.{HasMore}

fresh_more : (p q : Places) → HasMore p q → (v : ℕ) → IsFresh q v → IsFresh p v
fresh_more p q m v f = (ap (λ k. k v) m.known ∙ f.0, subst (λ n. v < n) (sym m.top) f.1)

whole_more : (p q : Places) → HasMore p q → IsWhole q → IsWhole p
whole_more p q m f = λ v l. ap (λ k. k v) m.known ∙ f v (subst (λ n. v < n) m.top l)

read_more : (p q : Places) → HasMore p q → (r : Register) (t : Term) → read q r ≡ Some t → read p r ≡ Some t
read_more p q m (X n) t h = m.xs n t h
read_more p q m (Y n) t h = m.ys n t h

put_more : {A : Type 0} → (f g : ℕ → Option A) → ((n : ℕ) (t : A) → g n ≡ Some t → f n ≡ Some t) → (i : ℕ) (s : A) (n : ℕ) (t : A) → put_at i s g n ≡ Some t → put_at i s f n ≡ Some t
put_more f g k i s n t h = by (n == i) h
  where
    by : (b : Bool) → (if b then Some s else g n) ≡ Some t → (if b then Some s else f n) ≡ Some t
    by true e = e
    by false e = k n t e

drop_more : {A : Type 0} → (f g : ℕ → Option A) → ((n : ℕ) (t : A) → g n ≡ Some t → f n ≡ Some t) → (i : ℕ) (n : ℕ) (t : A) → drop_at i g n ≡ Some t → drop_at i f n ≡ Some t
drop_more f g k i n t h = by (n == i) h
  where
    by : (b : Bool) → (if b then None else g n) ≡ Some t → (if b then None else f n) ≡ Some t
    by true e = e
    by false e = k n t e

write_more : (p q : Places) → HasMore p q → (r : Register) (s : Term) → HasMore (write p r s) (write q r s)
write_more p q m (X i) s = record { xs = put_more p.x q.x m.xs i s; ys = m.ys; levels = m.levels; noted = m.noted; known = m.known; own = m.own; top = m.top }
write_more p q m (Y i) s = record { xs = m.xs; ys = put_more p.y q.y m.ys i s; levels = drop_more p.levels q.levels m.levels i; noted = m.noted; known = m.known; own = m.own; top = m.top }

learn_more : (p q : Places) → HasMore p q → (v : ℕ) → HasMore (learn p v) (learn q v)
learn_more p q m v = record { xs = m.xs; ys = m.ys; levels = m.levels; noted = m.noted; known = ap (λ k. (learn (record p { known = k }) v).known) m.known; own = m.own; top = m.top }

without_more : (p q : Places) → HasMore p q → (i : ℕ) → HasMore (without p i) (without q i)
without_more p q m i = record { xs = drop_more p.x q.x m.xs i; ys = m.ys; levels = m.levels; noted = m.noted; known = m.known; own = m.own; top = m.top }

registers_more : (p q : Places) → HasMore p q → HasMore (no_registers p) (no_registers q)
registers_more p q m = record { xs = λ n t h. h; ys = m.ys; levels = m.levels; noted = λ d h. h; known = m.known; own = m.own; top = m.top }

slots_more : (p q : Places) → HasMore p q → HasMore (no_slots p) (no_slots q)
slots_more p q m = record { xs = m.xs; ys = λ n t h. h; levels = λ n d h. h; noted = m.noted; known = m.known; own = m.own; top = m.top }

level_more : (p q : Places) → HasMore p q → (i : ℕ) (d : Depth) → HasMore (put_level p i d) (put_level q i d)
level_more p q m i d = record { xs = m.xs; ys = drop_more p.y q.y m.ys i; levels = put_more p.levels q.levels m.levels i d; noted = m.noted; known = m.known; own = m.own; top = m.top }

top_more : (p q : Places) → HasMore p q → (n : ℕ) → HasMore (record p { top = n }) (record q { top = n })
top_more p q m n = record { xs = m.xs; ys = m.ys; levels = m.levels; noted = m.noted; known = m.known; own = m.own; top = refl }

hold_more : (p q : Places) → HasMore p q → (i : ℕ) (ts : Terms) → Hold q i ts → Hold p i ts
hold_more p q m i no_terms h = tt
hold_more p q m i (term t ts) h = (m.xs i t h.0, hold_more p q m (suc i) ts h.1)

vars_more : (p q : Places) → HasMore p q → (i : ℕ) (f : ℕ → ℕ) (ys : List ℕ) → HoldVars q i f ys → HoldVars p i f ys
vars_more p q m i f [] h = tt
vars_more p q m i f (y ∷ ys) h = (m.xs i (Var (f y)) h.0, vars_more p q m (suc i) f ys h.1)

shows_more : (p q : Places) → HasMore p q → (i : ℕ) (vs : List ℕ) → Shows q i vs → Shows p i vs
shows_more p q m i [] h = tt
shows_more p q m i (v ∷ vs) h = (m.ys i (Var v) h.0, shows_more p q m (suc i) vs h.1)

settled_more : (p q r : Places) → HasMore p q → IsSettled q r → IsSettled p r
settled_more p q r m s = record {
  whole = whole_more p q m s.whole;
  xs = λ n t h. let w = s.xs n t h in (m.xs n t w.0, subst (λ k. Below k t) (sym m.own) w.1);
  ys = λ n t h. let w = s.ys n t h in (m.ys n t w.0, subst (λ k. Below k t) (sym m.own) w.1);
  levels = λ n d h. m.levels n d (s.levels n d h);
  noted = λ d h. m.noted d (s.noted d h);
  known = s.known;
  own = s.own ∙ sym m.own;
  top = s.top;
}

builtin_more : (p q : Places) → HasMore p q → (k : BuiltinKind) (g : Goal) → BuiltinRule k q g → BuiltinRule k p g
builtin_more p q m kind.True g h = h
builtin_more p q m kind.Fail g h = h
builtin_more p q m kind.False g h = h
builtin_more p q m kind.Unify g h = (h.0, h.1, m.xs 1 h.0 h.2, m.xs 2 h.1 h.3, h.4)
builtin_more p q m _ g h = (h.0, h.1, h.2, hold_more p q m 1 h.1 h.3, h.4)

-- a unify instruction gives the same
unify_more : (area : Area) (i : Code) (p q : Places) (t : Term) (voids : ℕ) (r : Places) → HasMore p q → UnifyRule area i q t voids r → (s : Places) × HasMore s r × UnifyRule area i p t voids s
unify_more area (UnifyVariable g) p q t voids r m h = (
  write (learn p h.0) g (Var h.0),
  subst (HasMore (write (learn p h.0) g (Var h.0))) (sym h.4) (write_more (learn p h.0) (learn q h.0) (learn_more p q m h.0) g (Var h.0)),
  (h.0, fresh_more p q m h.0 h.1, h.2, h.3, refl),
)
unify_more area (UnifyValue g) p q t voids r m h = (p, subst (HasMore p) (sym h.2) m, (read_more p q m g t h.0, h.1, refl))
unify_more area (UnifyConstant c) p q t voids r m h = (p, subst (HasMore p) (sym h.2) m, (h.0, h.1, refl))
unify_more area (UnifyInteger z) p q t voids r m h = (p, subst (HasMore p) (sym h.2) m, (h.0, h.1, refl))
unify_more area (UnifyVoid zero) p q t voids r m h = absurd h
unify_more area (UnifyVoid (suc n)) p q t voids r m h = (learn p h.0, subst (HasMore (learn p h.0)) (sym h.4) (learn_more p q m h.0), (h.0, fresh_more p q m h.0 h.1, h.2, h.3, refl))
unify_more area _ p q t voids r m h = absurd h

owed_more : (area : Area) (voids at : ℕ) (p q : Places) (ts : Terms) (next : ℕ) (r : Places) → HasMore p q → Owed area voids at q ts next r
    → (s : Places) × HasMore s r × Owed area voids at p ts next s
owed_more area voids at p q no_terms next r m h = (p, subst (HasMore p) (sym h.2) m, (h.0, h.1, refl))
owed_more area zero at p q (term t ts) next r m h =
    let u = unify_more area h.0 p q t h.1 h.2 m h.4 in
    let w = owed_more area h.1 (suc at) u.0 h.2 ts next r u.1 h.5 in
    (w.0, w.1, (h.0, h.1, u.0, h.3, u.2, w.2))
owed_more area (suc n) at p q (term t ts) next r m h =
    let w = owed_more area n at (learn p h.0) (learn q h.0) ts next r (learn_more p q m h.0) h.3 in
    (w.0, w.1, (h.0, fresh_more p q m h.0 h.1, h.2, w.2))

has_more : (p q : Places) → HasMore p q → (v : ℕ) → Has q v → Has p v
has_more p q m v (inl h) = inl (ap (λ k. k v) m.known ∙ h)
has_more p q m v (inr h) = inr (subst (λ n. v < n) (sym m.top) h)

has_back : (p q : Places) → HasMore p q → (v : ℕ) → Has p v → Has q v
has_back p q m v (inl h) = inl (sym (ap (λ k. k v) m.known) ∙ h)
has_back p q m v (inr h) = inr (subst (λ n. v < n) m.top h)

says_more : (p q : Places) → HasMore p q → (ds es : List Equation) → SaysSame (Has q) ds es → SaysSame (Has p) ds es
says_more p q m ds es s = record { there = s.there; back = λ u h. let w = s.back u h in (w.0, w.1, λ x g. w.2 x (has_back p q m x g)) }

-- what a relation says of places with more registers too
abbrev Widens : Rest → Type 0
Widens R = (at : ℕ) (p q : Places) (es : List Equation) (gs : List Goal) → HasMore p q → R at q es gs → R at p es gs

equates_more : (p q : Places) → HasMore p q → (a : ℕ) (s : Term) (es : List Equation) (F G : List Equation → Type 0) → ((ds : List Equation) → F ds → G ds) → Equates q a s es F → Equates p a s es G
equates_more p q m a s es F G k h = (h.0, h.1, m.xs a h.0 h.2, h.3, k h.1 h.4)

takes_more : (R : Rest) (f g : Goal → Type 0) (at : ℕ) (p q : Places) (es : List Equation) (gs : List Goal) → ((x : Goal) → f x → g x) → HasMore p q → Takes f R at q es gs → Takes g R at p es gs
takes_more R f g at p q es gs k m h = (h.0, h.1, h.2, k h.0 h.3, settled_more p q h.2 m h.4, h.5, h.6, h.7)

rule_more : (area : Area) (w : Caller) (R : Rest) (T : Rests) → Widens R → (i : Code) → Widens (λ at p es gs. RuleWith area w R T i at p es gs)
rule_more area w R T k (GetVariable r a) at p q es gs m h = (
  h.0,
  fresh_more p q m h.0 h.1,
  equates_more p q m a (Var h.0) es _ _ (λ ds. k _ _ _ ds gs (write_more _ _ (learn_more p q m h.0) r (Var h.0))) h.2,
)
rule_more area w R T k (GetValue r a) at p q es gs m h = (h.0, read_more p q m r h.0 h.1, equates_more p q m a h.0 es _ _ (λ ds. k _ _ _ ds gs m) h.2)
rule_more area w R T k (GetConstant c a) at p q es gs m h = equates_more p q m a _ es _ _ (λ ds. k _ _ _ ds gs m) h
rule_more area w R T k (GetInteger z a) at p q es gs m h = equates_more p q m a _ es _ _ (λ ds. k _ _ _ ds gs m) h
rule_more area w R T k (GetStructure f n a) at p q es gs m h =
    let o = owed_more area 0 (suc at) p q h.0 h.1 h.2 m h.3.1 in
    (h.0, h.1, o.0, (h.3.0, o.2), equates_more p q m a _ es _ _ (λ ds. k _ _ _ ds gs o.1) h.4)
rule_more area w R T k (PutVariable r a) at p q es gs m h = (h.0, fresh_more p q m h.0 h.1, k _ _ _ es gs (write_more _ _ (write_more _ _ (learn_more p q m h.0) r (Var h.0)) (X a) (Var h.0)) h.2)
rule_more area w R T k (PutValue r a) at p q es gs m h = (h.0, read_more p q m r h.0 h.1, k _ _ _ es gs (write_more p q m (X a) h.0) h.2)
rule_more area w R T k (PutConstant c a) at p q es gs m h = k _ _ _ es gs (write_more p q m (X a) _) h
rule_more area w R T k (PutInteger z a) at p q es gs m h = k _ _ _ es gs (write_more p q m (X a) _) h
rule_more area w R T k (PutStructure f n a) at p q es gs m h =
    let o = owed_more area 0 (suc at) (without p a) (without q a) h.0 h.1 h.2 (without_more p q m a) h.3.1 in
    (h.0, h.1, o.0, (h.3.0, o.2), k _ _ _ es gs (write_more o.0 h.2 o.1 (X a) _) h.4)
rule_more area w R T k (Allocate n) at p q es gs m h = k _ _ _ es gs (slots_more p q m) h
rule_more area w R T k Deallocate at p q es gs m h = k _ _ _ es gs (slots_more p q m) h
rule_more area w R T k (Call e) at p q es gs m h = takes_more R _ _ at (no_registers p) (no_registers q) es gs (λ x g. (g.0, g.1, g.2, g.3, hold_more p q m 1 g.1 g.4, g.5)) (registers_more p q m) h
rule_more area w R T k (Execute e) at p q es gs m h = (h.0, (h.1.0, h.1.1, h.1.2, h.1.3, hold_more p q m 1 h.1.1 h.1.4, h.1.5), whole_more p q m h.2, h.3, h.4)
rule_more area w R T k Proceed at p q es gs m h = (whole_more p q m h.0, h.1, h.2)
rule_more area w R T k (Jump to) at p q es gs m h = k to p q es gs m h
rule_more area w R T k AnswerNow at p q es gs m h = (whole_more p q m h.0, shows_more p q m 1 w.shown h.1, h.2, h.3)
rule_more area w R T k (Either to) at p q es gs m h = (h.0, h.1, h.2, h.3, settled_more p q h.3 m h.4, h.5, h.6, h.7, h.8)
rule_more area w R T k (Builtin b) at p q es gs m h = takes_more R _ _ at p q es gs (builtin_more p q m b) m h
rule_more area w R T k (Constrain c) at p q es gs m h = takes_more R _ _ at p q es gs (λ x g. (g.0, g.1, g.2, hold_more p q m 1 g.1 g.3, g.4)) m h
rule_more area w R T k (Label o) at p q es gs m h = takes_more R _ _ at p q es gs (λ x g. (g.0, m.xs 1 g.0 g.1, g.2)) m h
rule_more area w R T k (PostRange r n) at p q es gs m h = takes_more R _ _ at p q es gs (λ x g. (g.0, g.1, g.2, m.xs 1 g.0 g.3, vars_more p q m 2 g.1 _ g.4, g.5)) m h
rule_more area w R T k (Best o least) at p q es gs m h = takes_more R _ _ at p q es gs (λ x g. (g.0, g.1, m.xs 1 g.0 g.2, m.xs 2 g.1 g.3, g.4)) m h
rule_more area w R T k (Level n) at p q es gs m h = (h.0, m.noted h.0 h.1, k _ _ _ es gs (level_more p q m n h.0) h.2)
rule_more area w R T k (TestOnly n) at p q es gs m h = (h.0, h.1, h.2, h.3, h.4, settled_more p q h.3 m h.5, h.6, h.7, h.8, h.9)
rule_more area w R T k (EnterTest n o to) at p q es gs m h = (h.0, h.1, h.2, h.3, h.4, h.5, h.6, settled_more p q h.5 m h.7, h.8, h.9, h.10, h.11, h.12)
rule_more area w R T k (CutTo n) at p q es gs m h = (h.0, h.1, h.2, m.levels n h.0 h.3, settled_more p q h.2 m h.4, h.5, h.6, h.7, h.8)
rule_more area w R T k _ at p q es gs m h = absurd h

within_more : (area : Area) (w : Caller) (n : Steps) → Widens (Within area w n)
within_more area w no_steps at p q es gs m h = absurd h
within_more area w (more_steps n f) at p q es gs m (inl h) = inl (h.0, h.1, rule_more area w (Within area w n) (λ d. Within area w (f d)) (within_more area w n) h.0 at p q es gs m h.2)
within_more area w (more_steps n f) at p q es gs m (inr (inl h)) =
    inr (inl (h.0, h.1, fresh_more p q m h.1 h.2, equates_more p q m h.0 (Var h.1) es _ _ (λ ds. within_more area w n at _ _ ds gs (write_more _ _ (learn_more p q m h.1) (X h.0) (Var h.1))) h.3))
within_more area w (more_steps n f) at p q es gs m (inr (inr h)) =
    inr (inr (
      h.0,
      h.1,
      subst (λ k. k ≤ h.0) (sym m.top) h.2,
      (λ v l u. ap (λ k. k v) m.known ∙ h.3 v (subst (λ k. k ≤ v) m.top l) u),
      more_each (Has (record q { top = h.0 })) (Has (record p { top = h.0 })) (has_more _ _ (top_more p q m h.0)) h.1 h.4,
      says_more p q m h.1 es h.5,
      within_more area w n at _ _ h.1 gs (top_more p q m h.0) h.6,
    ))

-- What a place stands for, it stands for with more registers too.
pub means_more : (area : Area) (w : Caller) (at : ℕ) (p q : Places) (es : List Equation) (gs : List Goal) → HasMore p q → Means area w at q es gs → Means area w at p es gs
means_more area w at p q es gs m h = (h.0, within_more area w h.0 at p q es gs m h.1)
