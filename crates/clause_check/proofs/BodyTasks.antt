-- The tasks of a body, as they are taken.
use Rattle.std.proofs.Common.{◌≡◌, ℕ, ◌+◌, ◌<◌, ◌≤◌, List, [], ◌∷◌, ◌++◌, length, map, take, drop, Option, None, refl, sym, ap, ◌∙◌, subst, arith}
use Rattle.std.proofs.Common.{length-append, append-nil}
use Rattle.std.specs.Prelude.{All}
use Rattle.std.proofs.lemmas.List.{append_assoc, map-append, length-map, length-take-le}
use Rattle.std.proofs.lemmas.List.Elements.{All-nil, All-cons, All-push}
use Rattle.std.proofs.Math.Seq.{take-append_seam, drop-append_seam}
use Rattle.term_pool.proofs.Lemmas.{size_above_zero}
use Rattle.fd_language.specs.Range.{Range}
use Rattle.fd_language.specs.declared.TheConstants.{INFINITY}
use Rattle.fd_language.proofs.Lemmas.{two}
use Rattle.fd_model.specs.Goal as model
use Rattle.fd_model.specs.Goal.{Goals, no_goals, goal, listed}
use Rattle.fd_model.specs.Queries.{goal_of, body_goals, followed}
use Rattle.fd_model.specs.Refusals as refusals
use Rattle.fd_model.specs.Refusals.{or_later, goals_of, goal_refusal, goals_refusal}
use Rattle.term_pool.specs.declared.TermId.{TermId}
use Rattle.term_pool.specs.Contents.{Contents}
use Rattle.term_pool.specs.Terms.{term_of}
use Rattle.term_pool.specs.PlacedTerms.{placed_of}
use Rattle.term_reader.specs.declared.reader.Sentences.{Sentences}
use Rattle.clause_check.specs.declared.program.Part.{Part}
use Rattle.clause_check.specs.declared.program.FlatGoal.{FlatGoal}
use Rattle.clause_check.specs.declared.program.FlatGoal.TheVariants as flat
use Rattle.clause_check.specs.declared.goals.Task.{Task}
use Rattle.clause_check.specs.declared.goals.Task.TheVariants.{Visit, Turn, Join, Deny}
use Rattle.clause_check.specs.declared.goals.GoalStore.{GoalStore}
use Rattle.clause_check.specs.declared.terms.Body.TheVariants as body
use Rattle.clause_check.specs.GoalStores.{stored, pending_in, IsStore, IsGrown, IsClosed, flat_part, joined_by, start_in, IsTask, IsStack, done, ahead, weight}
use Rattle.clause_check.specs.GoalStores.{total_weight, IsTaken}
use Rattle.clause_check.specs.GoalRecords.{AreAccepted, KeepsGoal}
use Rattle.clause_check.specs.Programs.{unlisted, part_of, tree_of, trees, IsPart, IsGoal, AreGoals}
use Rattle.clause_check.specs.Terms.{terms_of, joined_goals, IsBody}
use Rattle.clause_check.specs.declared.terms.Joint.{Joint}
use Rattle.clause_check.proofs.JoinedGoals.{joined_own, joined_tree}
use Rattle.clause_check.proofs.PendingGoals.{closed}
use Rattle.clause_check.proofs.FlatGoals.{unlisted_listed, part_more, trees_length, trees_ranges, same_ranges, goals_later, are_goals_later, part_later}
use Rattle.clause_check.proofs.Tasks.{stack_push, stack_grow, weight-nil, weight-cons}

listed_followed : (gs hs : Goals) → listed (followed gs hs) ≡ listed gs ++ listed hs
listed_followed no_goals hs = refl
listed_followed (goal g gs) hs = ap (λ (xs : List model.Goal). g ∷ xs) (listed_followed gs hs)

pub grown_trans : (a b d : GoalStore) → IsGrown a b → IsGrown b d → IsGrown a d
grown_trans a b d g h = record {
  ranges = (g.ranges.0 ++ h.ranges.0, h.ranges.1 ∙ ap (λ (xs : List Range). xs ++ h.ranges.0) g.ranges.1 ∙ append_assoc a.ranges.items g.ranges.0 h.ranges.0);
  goals = (g.goals.0 ++ h.goals.0, h.goals.1 ∙ ap (λ (xs : List FlatGoal). xs ++ h.goals.0) g.goals.1 ∙ append_assoc a.goals.items g.goals.0 h.goals.0);
}

three : {A B C D : Type 0} (op : A → B → C → D) {a a' : A} {b b' : B} {c c' : C} → a ≡ a' → b ≡ b' → c ≡ c' → op a b c ≡ op a' b' c'
three op {a' = a'} {b = b} {b' = b'} {c = c} e f g = ap (λ x. op x b c) e ∙ ap (λ y. op a' y c) f ∙ ap (op a' b') g

-- a list of goals whose last ones become one goal
wrapped : (op : Goals → model.Goal) (gs : List model.Goal) (n : ℕ) (a : Goals) → n ≡ length gs → take n (gs ++ listed a) ++ op (unlisted (drop n (gs ++ listed a))) ∷ [] ≡ gs ++ op a ∷ []
wrapped op gs n a e =
    ap (λ (k : ℕ). take k (gs ++ listed a) ++ op (unlisted (drop k (gs ++ listed a))) ∷ []) e
    ∙ ap (λ (xs : List model.Goal). xs ++ op (unlisted (drop (length gs) (gs ++ listed a))) ∷ []) (take-append_seam gs (listed a))
    ∙ ap (λ (xs : List model.Goal). gs ++ op (unlisted xs) ∷ []) (drop-append_seam gs (listed a))
    ∙ ap (λ (x : Goals). gs ++ op x ∷ []) (unlisted_listed a)

-- ---- a store with other tasks

pub record IsSame (old new : GoalStore) : Type 0 where
  pub ranges : new.ranges.items ≡ old.ranges.items
  pub goals : new.goals.items ≡ old.goals.items
  pub pending : new.pending.items ≡ old.pending.items

module _ (c : Contents) (old new : GoalStore) (e : IsSame old new) where
  pub same_store : IsStore c old → IsStore c new
  same_store k = record {
    ranges = subst AreAccepted (sym e.ranges) k.ranges;
    goals = subst (λ (rs : List Range). AreGoals c (length rs) new.goals.items) (sym e.ranges) (subst (AreGoals c (length old.ranges.items)) (sym e.goals) k.goals);
    pending = subst (λ (rs : List Range). All (IsGoal c (length rs) (length new.goals.items)) new.pending.items) (sym e.ranges)
        (subst (λ (gs : List FlatGoal). All (IsGoal c (length old.ranges.items) (length gs)) new.pending.items) (sym e.goals)
        (subst (All (IsGoal c (length old.ranges.items) (length old.goals.items))) (sym e.pending) k.pending));
  }

  pub same_stored : stored c new ≡ stored c old
  same_stored = two (trees c) e.ranges e.goals

  pub same_pending : pending_in c new ≡ pending_in c old
  same_pending = three (λ (rs : List Range) (gs ps : List FlatGoal). map (tree_of c rs (trees c rs gs)) ps) e.ranges e.goals e.pending

  pub same_count : length new.pending.items ≡ length old.pending.items
  same_count = ap (length {A = FlatGoal}) e.pending

  pub same_grown : IsGrown old new
  same_grown = record { ranges = ([], e.ranges ∙ sym (append-nil old.ranges.items)); goals = ([], e.goals ∙ sym (append-nil old.goals.items)) }

-- two tasks behind the others
two_stack : (rest : List Task) (t u : Task) (k n m : ℕ) → start_in n t ≡ k → k ≤ n → n ≤ m → start_in m u ≡ m → IsStack 0 rest k → IsStack 0 (rest ++ t ∷ u ∷ []) m
two_stack rest t u k n m e l i f h =
    subst (λ (ts : List Task). IsStack 0 ts m) (append_assoc rest (t ∷ []) (u ∷ []))
    (stack_push 0 (rest ++ t ∷ []) u m (omega (arith, f)) (subst (IsStack 0 (rest ++ t ∷ [])) (sym f)
    (stack_grow 0 (rest ++ t ∷ []) n m i (stack_push 0 rest t n (omega (arith, e, l)) (subst (IsStack 0 rest) (sym e) h)))))

two_tasks : (now old : List Task) (t u : Task) → now ≡ (old ++ t ∷ []) ++ u ∷ [] → now ≡ old ++ t ∷ u ∷ []
two_tasks now old t u e = e ∙ append_assoc old (t ∷ []) (u ∷ [])

two_weigh : (c : Contents) (t u : Task) → total_weight c (t ∷ u ∷ []) ≡ weight c t + weight c u
two_weigh c t u = weight-cons c t (u ∷ []) ∙ omega (arith, weight-cons c u [], weight-nil c)

module _ (N : ℕ) (s : Sentences) (old new : GoalStore) (k : IsStore s.pool old) where
  abbrev c : Contents
  c = s.pool

  abbrev IsMine : Task → Type 0
  IsMine t = IsTask c (length new.goals.items) t

  -- `A, B`
  pub visit_both : (t l r : TermId) → IsBody c t (body.Both l r) → IsSame old new → new.tasks.items ≡ (old.tasks.items ++ Visit r ∷ []) ++ Visit l ∷ [] → IsTaken N s old new (Visit t)
  visit_both t l r h e tasks =
      let n = length old.pending.items in
      let left = body_goals N (placed_of c l) in
      let right = body_goals N (placed_of c r) in
      record {
        more = Visit r ∷ Visit l ∷ [];
        tasks = two_tasks new.tasks.items old.tasks.items (Visit r) (Visit l) tasks;
        grown = same_grown c old new e;
        store = same_store c old new e k;
        own = All-cons IsMine (Visit r) (Visit l ∷ []) h.0.1 (All-cons IsMine (Visit l) [] h.0.0 (All-nil IsMine));
        stack = λ rest q. two_stack rest (Visit r) (Visit l) n n (length new.pending.items) refl (omega arith) (omega (arith, same_count c old new e)) refl q;
        goals = ap (λ (gs : List model.Goal). (gs ++ listed left) ++ listed right) (same_pending c old new e)
            ∙ append_assoc (pending_in c old) (listed left) (listed right)
            ∙ ap (λ (gs : List model.Goal). pending_in c old ++ gs) (sym (ap listed (h.1 N) ∙ listed_followed left right));
        refusal = ap (goals_refusal INFINITY N (terms_of s)) h.0.2;
        smaller = omega (arith, two_weigh c (Visit r) (Visit l), h.0.3);
      }

  counted : (start : ℕ) → start ≡ length old.pending.items → start ≡ length (pending_in c old)
  counted start e = e ∙ sym (length-map old.pending.items (tree_of c old.ranges.items (stored c old)))

  -- `A ; B` and `A -> B`
  pub visit_joined : (t l r : TermId) (j : Joint) (start : ℕ) → IsBody c t (body.Joined j l r) → IsSame old new → start ≡ length old.pending.items
      → new.tasks.items ≡ (old.tasks.items ++ Turn j start r ∷ []) ++ Visit l ∷ [] → IsTaken N s old new (Visit t)
  visit_joined t l r j start h e at tasks =
      let n = length old.pending.items in
      let left = body_goals N (placed_of c l) in
      let right = body_goals N (placed_of c r) in
      record {
        more = Turn j start r ∷ Visit l ∷ [];
        tasks = two_tasks new.tasks.items old.tasks.items (Turn j start r) (Visit l) tasks;
        grown = same_grown c old new e;
        store = same_store c old new e k;
        own = All-cons IsMine (Turn j start r) (Visit l ∷ []) h.0.1 (All-cons IsMine (Visit l) [] h.0.0 (All-nil IsMine));
        stack = λ rest q. two_stack rest (Turn j start r) (Visit l) n n (length new.pending.items) at (omega arith) (omega (arith, same_count c old new e)) refl q;
        goals = ap (λ (gs : List model.Goal). take start (gs ++ listed left) ++ joined_goals j (unlisted (drop start (gs ++ listed left))) right ∷ []) (same_pending c old new e)
            ∙ wrapped (λ (gs : Goals). joined_goals j gs right) (pending_in c old) start left (counted start at)
            ∙ ap (λ (gs : Goals). pending_in c old ++ listed gs) (sym (h.1 N));
        refusal = ap (goals_refusal INFINITY N (terms_of s)) h.0.2;
        smaller = omega (arith, two_weigh c (Turn j start r) (Visit l), h.0.3);
      }

  -- `\+ A`
  pub visit_denied : (t a : TermId) (start : ℕ) → IsBody c t (body.Denied a) → IsSame old new → start ≡ length old.pending.items
      → new.tasks.items ≡ (old.tasks.items ++ Deny start ∷ []) ++ Visit a ∷ [] → IsTaken N s old new (Visit t)
  visit_denied t a start h e at tasks =
      let n = length old.pending.items in
      let inner = body_goals N (placed_of c a) in
      record {
        more = Deny start ∷ Visit a ∷ [];
        tasks = two_tasks new.tasks.items old.tasks.items (Deny start) (Visit a) tasks;
        grown = same_grown c old new e;
        store = same_store c old new e k;
        own = All-cons IsMine (Deny start) (Visit a ∷ []) tt (All-cons IsMine (Visit a) [] h.0.0 (All-nil IsMine));
        stack = λ rest q. two_stack rest (Deny start) (Visit a) n n (length new.pending.items) at (omega arith) (omega (arith, same_count c old new e)) refl q;
        goals = ap (λ (gs : List model.Goal). take start (gs ++ listed inner) ++ model.Not (unlisted (drop start (gs ++ listed inner))) ∷ []) (same_pending c old new e)
            ∙ wrapped model.Not (pending_in c old) start inner (counted start at)
            ∙ ap (λ (gs : Goals). pending_in c old ++ listed gs) (sym (h.1 N));
        refusal = ap (goals_refusal INFINITY N (terms_of s)) (h.0.1 ∙ sym (append-nil (goals_of (placed_of c a))));
        smaller = omega (arith, two_weigh c (Deny start) (Visit a), h.0.2);
      }

  -- a goal
  pub visit_goal : (t : TermId) (g : FlatGoal) → IsBody c t body.Goal → goal_refusal INFINITY N (terms_of s) (placed_of c t) ≡ None
      → KeepsGoal c old.ranges.items new.ranges.items (goal_of N (placed_of c t)) g
      → new.goals.items ≡ old.goals.items → new.pending.items ≡ old.pending.items ++ g ∷ [] → new.tasks.items ≡ old.tasks.items → IsTaken N s old new (Visit t)
  visit_goal t g h a m goals pending tasks =
      let rs = old.ranges.items in
      let gs = old.goals.items in
      let ps = old.pending.items in
      let x = placed_of c t in
      let more = m.grows.0 in
      let size : length rs ≤ length new.ranges.items = omega (arith, ap (length {A = Range}) m.grows.1, length-append rs more) in
      let trees_are : stored c new ≡ stored c old = two (trees c) m.grows.1 goals ∙ trees_ranges c rs more gs k.goals in
      let older : map (tree_of c new.ranges.items (stored c new)) ps ≡ pending_in c old =
      two (λ (x : List Range) (y : List model.Goal). map (tree_of c x y) ps) m.grows.1 trees_are ∙ same_ranges c rs more (stored c old) (length gs) ps k.pending in
      record {
        more = [];
        tasks = tasks ∙ sym (append-nil old.tasks.items);
        grown = record { ranges = m.grows; goals = ([], goals ∙ sym (append-nil gs)) };
        store = record {
          ranges = m.accepted k.ranges;
          goals = subst (AreGoals c (length new.ranges.items)) (sym goals) (are_goals_later c (length rs) (length new.ranges.items) gs size k.goals);
          pending = subst (All (IsGoal c (length new.ranges.items) (length new.goals.items))) (sym pending)
              (All-push (IsGoal c (length new.ranges.items) (length new.goals.items)) ps g
              (goals_later c (length rs) (length new.ranges.items) (length gs) (length new.goals.items) ps size
              (omega (arith, ap (length {A = FlatGoal}) goals)) k.pending) (m.own (length new.goals.items)));
        };
        own = All-nil IsMine;
        stack = λ rest q. subst (λ (ts : List Task). IsStack 0 ts (length new.pending.items)) (sym (append-nil rest))
            (stack_grow 0 rest (length ps) (length new.pending.items) (omega (arith, ap (length {A = FlatGoal}) pending, length-append ps (g ∷ []))) q);
        goals = ap (map (tree_of c new.ranges.items (stored c new))) pending ∙ map-append (tree_of c new.ranges.items (stored c new)) ps (g ∷ [])
            ∙ two (λ (xs : List model.Goal) (y : model.Goal). xs ++ y ∷ []) older (m.is (stored c new))
            ∙ ap (λ (xs : Goals). pending_in c old ++ listed xs) (sym (h.1 N));
        refusal = ap (goals_refusal INFINITY N (terms_of s)) h.0 ∙ ap (λ (o : Option refusals.Refusal). or_later o None) a;
        smaller = omega (arith, weight-nil c, size_above_zero (term_of c t));
      }

-- the left body is read
pub turned : (N : ℕ) (s : Sentences) (old mid new : GoalStore) (j : Joint) (start : ℕ) (r : TermId) (left : Part) → IsStore s.pool old → start ≤ length old.pending.items
    → r.number < length s.pool.entries → IsClosed start old mid left → IsSame mid new → new.tasks.items ≡ (mid.tasks.items ++ Join j start left ∷ [])
    ++ Visit r ∷ [] → IsTaken N s old new (Turn j start r)
turned N s old mid new j start r left k l b h e tasks =
    let c = s.pool in
    let P : Task → Type 0 = λ t. IsTask c (length new.goals.items) t in
    let d = closed c start old mid left l k h in
    let right = body_goals N (placed_of c r) in
    let rest = take start (pending_in c old) in
    let all = length-map old.pending.items (tree_of c old.ranges.items (stored c old)) in
    let size : start ≡ length rest = sym (length-take-le start (pending_in c old) (omega (arith, all, l))) in
    let count : length new.pending.items ≡ start = same_count c mid new e ∙ ap (length {A = FlatGoal}) h.pending ∙ length-take-le start old.pending.items l in
    let part = part_later c (length mid.goals.items) (length new.goals.items) left (omega (arith, ap (length {A = FlatGoal}) e.goals)) d.part in
    let pending_is : pending_in c new ≡ rest = same_pending c mid new e ∙ d.pending in
    let left_is : part_of (stored c new) left ≡ drop start (pending_in c old) = ap (λ (gs : List model.Goal). part_of gs left) (same_stored c mid new e) ∙ d.goals in
    record {
      more = Join j start left ∷ Visit r ∷ [];
      tasks = two_tasks new.tasks.items old.tasks.items (Join j start left) (Visit r) (tasks ∙ ap (λ (ts : List Task). (ts ++ Join j start left ∷ []) ++ Visit r ∷ []) h.tasks);
      grown = grown_trans old mid new d.grown (same_grown c mid new e);
      store = same_store c mid new e d.store;
      own = All-cons P (Join j start left) (Visit r ∷ []) part (All-cons P (Visit r) [] b (All-nil P));
      stack = λ ts q. two_stack ts (Join j start left) (Visit r) start start (length new.pending.items) refl (omega arith) (omega (arith, count)) refl q;
      goals = two (λ (gs as' : List model.Goal). take start (gs ++ listed right) ++ joined_goals j (unlisted as') (unlisted (drop start (gs ++ listed right))) ∷ []) pending_is left_is
          ∙ wrapped (joined_goals j (unlisted (drop start (pending_in c old)))) rest start right size;
      refusal = ap (goals_refusal INFINITY N (terms_of s)) (sym (append-nil (goals_of (placed_of c r))));
      smaller = omega (arith, two_weigh c (Join j start left) (Visit r));
    }

-- the last pending goals are a part, and a goal that names it is pending in their place
module _ (N : ℕ) (s : Sentences) (old mid new : GoalStore) (start : ℕ) (last : Part) (k : IsStore s.pool old) (l : start ≤ length old.pending.items) (h : IsClosed start old mid last) where
  made : (task : Task) (g : FlatGoal) (x : model.Goal) → start_in (length old.pending.items) task ≡ start → ahead s.pool task ≡ [] → 0 < weight s.pool task
      → done N s.pool (stored s.pool old) task (pending_in s.pool old) ≡ take start (pending_in s.pool old) ++ x ∷ []
      → IsGoal s.pool (length mid.ranges.items) (length mid.goals.items) g → tree_of s.pool mid.ranges.items (stored s.pool mid) g ≡ x
      → new.ranges.items ≡ mid.ranges.items → new.goals.items ≡ mid.goals.items → new.pending.items ≡ mid.pending.items ++ g ∷ [] → new.tasks.items ≡ mid.tasks.items → IsTaken N s old new task
  made task g x at none some does own is ranges goals pending tasks =
      let c = s.pool in
      let d = closed c start old mid last l k h in
      let ps = mid.pending.items in
      let trees_are : stored c new ≡ stored c mid = two (trees c) ranges goals in
      let older = two (λ (x : List Range) (y : List model.Goal). map (tree_of c x y) ps) ranges trees_are in
      let newest = two (λ (x : List Range) (y : List model.Goal). tree_of c x y g) ranges trees_are in
      let all = All-push (IsGoal c (length mid.ranges.items) (length mid.goals.items)) ps g d.store.pending own in
      let count : length new.pending.items ≡ start + 1 =
      ap (length {A = FlatGoal}) pending ∙ length-append ps (g ∷ []) ∙ ap (λ (n : ℕ). n + 1) (ap (length {A = FlatGoal}) h.pending ∙ length-take-le start old.pending.items l) in
      record {
        more = [];
        tasks = tasks ∙ h.tasks ∙ sym (append-nil old.tasks.items);
        grown = grown_trans old mid new d.grown (record { ranges = ([], ranges ∙ sym (append-nil mid.ranges.items)); goals = ([], goals ∙ sym (append-nil mid.goals.items)) });
        store = record {
          ranges = subst AreAccepted (sym ranges) d.store.ranges;
          goals = subst (λ (rs : List Range). AreGoals c (length rs) new.goals.items) (sym ranges) (subst (AreGoals c (length mid.ranges.items)) (sym goals) d.store.goals);
          pending = subst (λ (rs : List Range). All (IsGoal c (length rs) (length new.goals.items)) new.pending.items) (sym ranges)
              (subst (λ (gs : List FlatGoal). All (IsGoal c (length mid.ranges.items) (length gs)) new.pending.items) (sym goals)
              (subst (All (IsGoal c (length mid.ranges.items) (length mid.goals.items))) (sym pending) all));
        };
        own = All-nil (λ t. IsTask c (length new.goals.items) t);
        stack = λ rest q. subst (λ (ts : List Task). IsStack 0 ts (length new.pending.items)) (sym (append-nil rest))
            (stack_grow 0 rest start (length new.pending.items) (omega (arith, count)) (subst (IsStack 0 rest) at q));
        goals = ap (map (tree_of c new.ranges.items (stored c new))) pending ∙ map-append (tree_of c new.ranges.items (stored c new)) ps (g ∷ [])
            ∙ two (λ (xs : List model.Goal) (y : model.Goal). xs ++ y ∷ []) (older ∙ d.pending) (newest ∙ is)
            ∙ sym does;
        refusal = ap (goals_refusal INFINITY N (terms_of s)) none;
        smaller = omega (arith, weight-nil c, some);
      }

  -- both bodies are read
  pub joined : (j : Joint) (left : Part) → IsPart (length old.goals.items) left → new.ranges.items ≡ mid.ranges.items → new.goals.items ≡ mid.goals.items
      → new.pending.items ≡ mid.pending.items ++ joined_by j (flat_part mid.goals.items left) left last ∷ [] → new.tasks.items ≡ mid.tasks.items → IsTaken N s old new (Join j start left)
  joined j left b ranges goals pending tasks =
      let c = s.pool in
      let d = closed c start old mid last l k h in
      let long : length old.goals.items ≤ length (stored c old) = omega (arith, trees_length c old.ranges.items old.goals.items) in
      let left_is : part_of (stored c mid) left ≡ part_of (stored c old) left =
      ap (λ (gs : List model.Goal). part_of gs left) d.all ∙ part_more (stored c old) (drop start (pending_in c old)) left.from left.to (let u = b.within in omega (arith, u, long)) in
      let wider : length old.goals.items ≤ length mid.goals.items = omega (arith, ap (length {A = FlatGoal}) h.goals, length-append old.goals.items (drop start old.pending.items)) in
      let own = joined_own c mid.ranges.items mid.goals.items j left last d.store.goals (part_later c (length old.goals.items) (length mid.goals.items) left wider b) d.part in
      let is = joined_tree c mid.ranges.items mid.goals.items j left last d.store.goals ∙ two (λ (xs ys : List model.Goal). joined_goals j (unlisted xs) (unlisted ys)) left_is d.goals in
      let stands = joined_goals j (unlisted (part_of (stored c old) left)) (unlisted (drop start (pending_in c old))) in
      made (Join j start left) (joined_by j (flat_part mid.goals.items left) left last) stands refl refl (omega arith) refl own is ranges goals pending tasks

  -- what must fail is read
  pub denied : new.ranges.items ≡ mid.ranges.items → new.goals.items ≡ mid.goals.items → new.pending.items ≡ mid.pending.items ++ flat.Not last ∷ [] → new.tasks.items ≡ mid.tasks.items
      → IsTaken N s old new (Deny start)
  denied ranges goals pending tasks =
      let c = s.pool in
      let d = closed c start old mid last l k h in
      let is = ap (λ (xs : List model.Goal). model.Not (unlisted xs)) d.goals in
      made (Deny start) (flat.Not last) (model.Not (unlisted (drop start (pending_in c old)))) refl refl (omega arith) refl d.part is ranges goals pending tasks
