-- The goals of the language, one kind after the other.
use Rattle.std.proofs.Common.{◌≡◌, ℕ, zero, suc, ◌+◌, ◌<◌, ◌≤◌, Bool, true, IsTrue, List, [], ◌∷◌, ◌++◌, Option, Some, option_map, length, slice_get, refl, ap}
use Rattle.std.proofs.Common.{sym, ◌∙◌, subst, arith}
use Rattle.std.proofs.lemmas.Bool.{true≢false}
use Rattle.std.proofs.lemmas.Option.{slice_get-map}
use Rattle.fd_language.specs.Family.{has}
use Rattle.fd_language.specs.Term.{Name, Term, Terms, Var, no_terms, term, term_count}
use Rattle.fd_model.specs.declared.kinds.ConstraintKind.{ConstraintKind}
use Rattle.fd_model.specs.declared.kinds.BuiltinKind.{BuiltinKind}
use Rattle.fd_model.specs.declared.kinds.BuiltinKind.TheVariants as kind
use Rattle.fd_model.specs.declared.kinds.Order.{Order}
use Rattle.fd_model.specs.Goal as goal
use Rattle.fd_model.specs.Goal.{Goal}
use Rattle.term_pool.specs.Contents.{atom_name}
use Rattle.range_code.specs.Slots.{slots_of}
use Rattle.wam_code.specs.declared.instruction.Register.{Register}
use Rattle.wam_code.specs.declared.instruction.Register.TheVariants.{X, Y}
use Rattle.wam_code.specs.declared.instruction.Code.{Code}
use Rattle.wam_code.specs.declared.instruction.Code.TheVariants.{Call, Builtin, Constrain, Label, PostRange, Best}
use Rattle.wam_code.specs.declared.parts.Entry.{Entry}
use Rattle.wam_code.specs.Area.{State}
use Rattle.fd_model.specs.Arities.{constraint_arity, builtin_arity}
use Rattle.wam_code.specs.Effect.{are_set, are_given, has_frame}
use Rattle.wam_code.specs.VerifiedCode.{Covers}
use Rattle.wam_code.specs.Places.{Depth, Places, read, no_registers, Hold, made}
use Rattle.wam_code.specs.CodeMeaning.{NamedRule, BuiltinRule, HoldVars}
use Rattle.clause_code.specs.Pieces.{Base, Predicate, Does}
use Rattle.clause_code.specs.CodablePrograms.{is_named}
use Rattle.clause_code.specs.SafeCode.{unplaced}
use Rattle.clause_code.specs.Steps.{home, code_of, puts}
use Rattle.clause_code.specs.Bodies.{Levels, AreFree, between_goals, InBody, IsRest, IsGoalsCode}
use Rattle.clause_code.specs.SimpleGoals.{variables}
use Rattle.clause_code.proofs.Pieces.{range_in, does_builtin, does_constrain, does_label, does_call, does_post, does_best}
use Rattle.clause_code.proofs.FreshVariables.{AreApart}
use Rattle.clause_code.proofs.StepEffects.{when_true, both, plain_of, moved, moved_all, count_moved, AllMade}
use Rattle.clause_code.proofs.Bodies.{between_settled, Fine, Loaded, one_goal}

-- ---- what the instructions need

pub cells_set : (rs : List ℕ) (k : ℕ) → ((j : ℕ) → 1 ≤ j → j ≤ k → has rs j ≡ true) → are_set rs k ≡ true
cells_set rs zero h = refl
cells_set rs (suc k) h = both (has rs (suc k)) (are_set rs k) (h (suc k) (omega arith) (omega arith)) (cells_set rs k (λ j l m. h j l (omega (arith, m))))

loaded_covers : (homes : List Register) (framed : Bool) (l : Levels) (s t : State) (k : ℕ) → IsRest homes framed l s → Loaded s t k → Covers t s
loaded_covers homes framed l s t k r w = record { frame = w.frame; owed = w.owed ∙ sym r.owed; regs = λ j e. w.regs j e }

pub moved_made : (n : ℕ) (f : Name) (us : Terms) → moved n (made f us) ≡ made f (moved_all n us)
moved_made n f no_terms = refl
moved_made n f (term u us) = refl

named_rule : (k : BuiltinKind) → IsTrue (is_named k) → (p : Places) (g : Goal) → NamedRule (builtin_arity k) (goal.Builtin k) p g → BuiltinRule k p g
named_rule kind.True h p g r = absurd (true≢false (sym h))
named_rule kind.Fail h p g r = absurd (true≢false (sym h))
named_rule kind.False h p g r = absurd (true≢false (sym h))
named_rule kind.Unify h p g r = absurd (true≢false (sym h))
named_rule _ h p g r = r

pub count_variables : (ys : List ℕ) → term_count (variables ys) ≡ length ys
count_variables [] = refl
count_variables (y ∷ ys) = let e = count_variables ys in omega (arith, e)

hold_variables : (n : ℕ) (p : Places) (i : ℕ) (ys : List ℕ) → Hold p i (moved_all n (variables ys)) → HoldVars p i (λ x. n + x) ys
hold_variables n p i [] h = tt
hold_variables n p i (y ∷ ys) h = (h.0, hold_variables n p (suc i) ys h.1)

-- with a frame, all variables have slots
abbrev pub OnlySlots : List Register → Type 0
OnlySlots homes = (x : ℕ) → x < length homes → (i : ℕ) → home homes x ≡ X i → ⊥

without_registers : (n : ℕ) (homes : List Register) (depths : ℕ → Option Depth) (p : Places) → OnlySlots homes → InBody n homes depths p → InBody n homes depths (no_registers p)
without_registers n homes depths p only b = record { held = λ x l. by x l (home homes x) refl (b.held x l); levels = b.levels; whole = b.whole; own = b.own }
  where
    by : (x : ℕ) → x < length homes → (r : Register) → home homes x ≡ r → read p r ≡ Some (Var (n + x)) → read (no_registers p) r ≡ Some (Var (n + x))
    by x l (X i) e h = absurd (only x l i e)
    by x l (Y i) e h = h

-- ---- the goals

module _ (b : Base) (homes : List Register) (apart : AreApart homes) (l : Levels) (fits : AreFree homes l) (framed : Bool) (made_now : List Bool) (free at : ℕ)
    (all : AllMade homes made_now) (long : length made_now ≡ length homes) where
  -- the arguments, and one instruction behind them
  abbrev pub Loads : Terms → Code → List Code
  Loads ts i = code_of homes made_now (puts b.pool 1 free ts) ++ (i ∷ [])

  pub goal_true : Fine b homes free no_terms → IsGoalsCode b homes framed l at (Builtin kind.True ∷ []) (goal.True ∷ [])
  goal_true f =
      one_goal b homes apart l fits framed made_now free at no_terms (Builtin kind.True) goal.True all long f refl tt
      (λ n at depths d later q h hold. does_builtin b at kind.True goal.True q (between_goals n homes depths) later refl (between_settled n homes depths apart q h))
      (λ s t r w. (t, plain_of b (Builtin kind.True) t w.owed, loaded_covers homes framed l s t 0 r w))

  pub goal_fail : Fine b homes free no_terms → IsGoalsCode b homes framed l at (Builtin kind.Fail ∷ []) (goal.Fail ∷ [])
  goal_fail f =
      one_goal b homes apart l fits framed made_now free at no_terms (Builtin kind.Fail) goal.Fail all long f refl tt
      (λ n at depths d later q h hold. does_builtin b at kind.Fail goal.Fail q (between_goals n homes depths) later refl (between_settled n homes depths apart q h))
      (λ s t r w. (t, plain_of b (Builtin kind.Fail) t w.owed, loaded_covers homes framed l s t 0 r w))

  pub goal_unify : (x y : Term) → Fine b homes free (term x (term y no_terms)) → IsGoalsCode b homes framed l at (Loads (term x (term y no_terms)) (Builtin kind.Unify)) (goal.Unify x y ∷ [])
  goal_unify x y f =
      one_goal b homes apart l fits framed made_now free at (term x (term y no_terms)) (Builtin kind.Unify) (goal.Unify x y) all long f refl tt
      (λ n at depths d later q h hold. does_builtin b at kind.Unify (goal.Unify (moved n x) (moved n y)) q (between_goals n homes depths) later (
        moved n x,
        moved n y,
        hold.0,
        hold.1.0,
        refl,
      ) (between_settled n homes depths apart q h))
      (λ s t r w. (t, plain_of b (Builtin kind.Unify) t w.owed ∙ when_true _ t (cells_set t.regs 2 w.set), loaded_covers homes framed l s t 2 r w))

  pub goal_builtin : (k : BuiltinKind) (f : Name) (us : Terms) → IsTrue (is_named k) → term_count us ≡ builtin_arity k → Fine b homes free us
      → IsGoalsCode b homes framed l at (Loads us (Builtin k)) (goal.Builtin k (made f us) ∷ [])
  goal_builtin k f us named ar fine =
      one_goal b homes apart l fits framed made_now free at us (Builtin k) (goal.Builtin k (made f us)) all long fine refl tt
      (λ n at depths d later q h hold.
      does_builtin b at k (goal.Builtin k (moved n (made f us))) q (between_goals n homes depths) later
      (named_rule k named q (goal.Builtin k (moved n (made f us))) (f, moved_all n us, count_moved n us ∙ ar, hold, ap (goal.Builtin k) (moved_made n f us)))
      (between_settled n homes depths apart q h))
      (λ s t r w. (
        t,
        plain_of b (Builtin k) t w.owed ∙ when_true _ t (subst (λ m. are_set t.regs m ≡ true) ar (cells_set t.regs (term_count us) w.set)),
        loaded_covers homes framed l s t (term_count us) r w,
      ))

  pub goal_constrain : (k : ConstraintKind) (f : Name) (us : Terms) → term_count us ≡ constraint_arity k → Fine b homes free us
      → IsGoalsCode b homes framed l at (Loads us (Constrain k)) (goal.Constrain k (made f us) ∷ [])
  goal_constrain k f us ar fine =
      one_goal b homes apart l fits framed made_now free at us (Constrain k) (goal.Constrain k (made f us)) all long fine refl tt
      (λ n at depths d later q h hold.
      does_constrain b at k (goal.Constrain k (moved n (made f us))) q (between_goals n homes depths) later
      (f, moved_all n us, count_moved n us ∙ ar, hold, ap (goal.Constrain k) (moved_made n f us)) (between_settled n homes depths apart q h))
      (λ s t r w. (
        t,
        plain_of b (Constrain k) t w.owed ∙ when_true _ t (subst (λ m. are_set t.regs m ≡ true) ar (cells_set t.regs (term_count us) w.set)),
        loaded_covers homes framed l s t (term_count us) r w,
      ))

  pub goal_label : (o : Order) (x : Term) → Fine b homes free (term x no_terms) → IsGoalsCode b homes framed l at (Loads (term x no_terms) (Label o)) (goal.Label o x ∷ [])
  goal_label o x f =
      one_goal b homes apart l fits framed made_now free at (term x no_terms) (Label o) (goal.Label o x) all long f refl tt
      (λ n at depths d later q h hold. does_label b at o (goal.Label o (moved n x)) q (between_goals n homes depths) later (moved n x, hold.0, refl) (between_settled n homes depths apart q h))
      (λ s t r w. (t, plain_of b (Label o) t w.owed ∙ when_true _ t (cells_set t.regs 1 w.set), loaded_covers homes framed l s t 1 r w))

  pub goal_post : (x : Term) (r : ℕ) → r < length b.ranges → Fine b homes free (term x (variables (slots_of (range_in b r))))
      → IsGoalsCode b homes framed l at (Loads (term x (variables (slots_of (range_in b r)))) (PostRange r (suc (length (slots_of (range_in b r)))))) (goal.Post x (range_in b r) ∷ [])
  goal_post x r low f =
      let ys : List ℕ = slots_of (range_in b r) in
      let k : ℕ = suc (length ys) in
      let c : term_count (term x (variables ys)) ≡ k = let e = count_variables ys in omega (arith, e) in
      one_goal b homes apart l fits framed made_now free at (term x (variables ys)) (PostRange r k) (goal.Post x (range_in b r)) all long f refl (low, refl)
      (λ n at depths d later q h hold. does_post b at r k (moved n x) (λ z. n + z) q (between_goals n homes depths) later (λ z y e. omega (arith, e)) hold.0
      (hold_variables n q 2 ys hold.1) (between_settled n homes depths apart q h))
      (λ s t z w. (
        t,
        plain_of b (PostRange r k) t w.owed
            ∙ when_true _ t (subst (λ m. are_set t.regs m ≡ true) c (cells_set t.regs (term_count (term x (variables ys))) w.set)),
        loaded_covers homes framed l s t (term_count (term x (variables ys))) z w,
      ))

  pub goal_best : (o : Order) (least : Bool) (x y : Term) → Fine b homes free (term x (term y no_terms))
      → IsGoalsCode b homes framed l at (Loads (term x (term y no_terms)) (Best o least)) (goal.Best o least x y ∷ [])
  goal_best o least x y f =
      one_goal b homes apart l fits framed made_now free at (term x (term y no_terms)) (Best o least) (goal.Best o least x y) all long f refl tt
      (λ n at depths d later q h hold. does_best b at o least (goal.Best o least (moved n x) (moved n y)) q (between_goals n homes depths) later (
        moved n x,
        moved n y,
        hold.0,
        hold.1.0,
        refl,
      ) (between_settled n homes depths apart q h))
      (λ s t r w. (t, plain_of b (Best o least) t w.owed ∙ when_true _ t (cells_set t.regs 2 w.set), loaded_covers homes framed l s t 2 r w))

-- the entry of a predicate before it has its place
pub entry_of : (b : Base) (n : ℕ) (s : Predicate) → slice_get b.predicates n ≡ Some s → (e : Entry) × (slice_get (unplaced b) n ≡ Some e) × (e.arity ≡ s.arity)
entry_of b n s h = (
  record { name = s.name; arity = s.arity; at = 0 },
  slice_get-map (λ s. record { name = s.name; arity = s.arity; at = 0 }) b.predicates n
      ∙ ap (option_map (λ s. record { name = s.name; arity = s.arity; at = 0 })) h,
  refl,
)

pub given_cells : (b : Base) (n : ℕ) (s : Predicate) (t : State) → slice_get b.predicates n ≡ Some s → ((j : ℕ) → 1 ≤ j → j ≤ s.arity → has t.regs j ≡ true)
    → are_given t (slice_get (unplaced b) n) ≡ true
given_cells b n s t h set =
    let e = entry_of b n s h in
    subst (λ o. are_given t o ≡ true) (sym e.1) (subst (λ m. are_set t.regs m ≡ true) (sym e.2) (cells_set t.regs s.arity set))

-- A user goal that isn't the last one, with a frame.
pub goal_call : (b : Base) (homes : List Register) (apart : AreApart homes) (l : Levels) → AreFree homes l → (made_now : List Bool) (free at : ℕ)
    → AllMade homes made_now → length made_now ≡ length homes → OnlySlots homes → (e : ℕ) (s : Predicate) (us : Terms)
    → slice_get b.predicates e ≡ Some s → term_count us ≡ s.arity → e < length b.predicates → Fine b homes free us
    → IsGoalsCode b homes true l at (code_of homes made_now (puts b.pool 1 free us) ++ (Call e ∷ [])) (goal.Call (made (atom_name b.pool s.name) us) ∷ [])
goal_call b homes apart l fits made_now free at all long only e s us h ar le fine =
    one_goal b homes apart l fits true made_now free at us (Call e) (goal.Call (made (atom_name b.pool s.name) us)) all long fine refl le
    (λ n at depths d later q body hold.
    subst (λ t. Does b at (Call e ∷ []) q [] (goal.Call t ∷ later) (between_goals n homes depths) [] later) (sym (moved_made n (atom_name b.pool s.name) us))
    (does_call b at e s (moved_all n us) q (between_goals n homes depths) later h (count_moved n us ∙ ar) hold
    (between_settled n homes depths apart (no_registers q) (without_registers n homes depths q only body))))
    (λ r t c w. (
      record t { regs = [] },
      plain_of b (Call e) t w.owed
          ∙ when_true _ (record t { regs = [] }) (both (has_frame t.frame) (are_given t (slice_get (unplaced b) e)) (ap has_frame w.frame ∙ c.frame)
          (given_cells b e s t h (λ j x y. w.set j x (omega (arith, y, ar))))),
      record { frame = w.frame; owed = w.owed ∙ sym c.owed; regs = λ j x. let never : has [] j ≡ true = subst (λ rs. has rs j ≡ true) (c.regs refl) x in absurd (true≢false (sym never)) },
    ))
