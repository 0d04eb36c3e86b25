-- A body while it is read.
use Rattle.std.proofs.Common.{◌≡◌, ℕ, ◌<◌, ◌≤◌, List, [], ◌∷◌, ◌++◌, length, Option, Some, sym, ap, ◌∙◌, subst, arith, length-append}
use Rattle.std.specs.Prelude.{All}
use Rattle.std.proofs.lemmas.List.Elements.{All-pop, All-append, All-weaker, recursion_from_All}
use Rattle.std.specs.List.{AllByRecursion}
use Rattle.fd_language.specs.PlacedTerm.{PlacedTerm}
use Rattle.fd_language.specs.declared.TheConstants.{INFINITY}
use Rattle.fd_language.proofs.Lemmas.{two}
use Rattle.fd_model.specs.Goal as model
use Rattle.fd_model.specs.Queries.{body_of}
use Rattle.fd_model.specs.Refusals as refusals
use Rattle.fd_model.specs.Refusals.{or_later, goals_of, goals_refusal}
use Rattle.term_pool.specs.Contents.{Contents}
use Rattle.term_reader.specs.declared.reader.Sentences.{Sentences}
use Rattle.clause_check.specs.declared.faults.Fault.{Fault}
use Rattle.clause_check.specs.declared.program.Part.{Part}
use Rattle.clause_check.specs.declared.program.FlatGoal.{FlatGoal}
use Rattle.clause_check.specs.declared.goals.Task.{Task}
use Rattle.clause_check.specs.declared.goals.Task.TheVariants.{Visit, Turn, Join, Deny}
use Rattle.clause_check.specs.declared.goals.GoalStore.{GoalStore}
use Rattle.clause_check.specs.Causes.{RefusedBy}
use Rattle.clause_check.specs.GoalStores.{stored, pending_in, IsStore, IsGrown, IsClosed, start_in, IsTask, IsStack, done, all_done, ahead, all_ahead}
use Rattle.clause_check.specs.GoalStores.{total_weight, IsTaken, IsRead}
use Rattle.clause_check.specs.Programs.{trees}
use Rattle.clause_check.specs.Terms.{terms_of}
use Rattle.clause_check.proofs.PendingGoals.{closed}
use Rattle.clause_check.proofs.FlatGoals.{part_later, trees_length, trees_more, trees_ranges}
use Rattle.clause_check.proofs.SentenceLists.{refused_by_first}
use Rattle.clause_check.proofs.BodyTasks.{IsSame, same_store, same_stored, same_pending, same_grown, grown_trans}
use Rattle.clause_check.proofs.Tasks.{stack_pop, done_append, all_done_more, ahead_append, weight-nil, weight-cons, weight-append, goals_refusal-append}

-- Each goal that is read is accepted, and the tasks make the goals of the body of those that are pending.
pub record IsReading (N : ℕ) (s : Sentences) (old : GoalStore) (body : PlacedTerm) (g : GoalStore) : Type 0 where
  pub store : IsStore s.pool g
  pub grown : IsGrown old g
  pub own : All (IsTask s.pool (length g.goals.items)) g.tasks.items
  pub stack : IsStack 0 g.tasks.items (length g.pending.items)
  pub goals : all_done N s.pool (stored s.pool g) g.tasks.items (pending_in s.pool g) ≡ body_of N body
  pub refusal : goals_refusal INFINITY N (terms_of s) (goals_of body) ≡ goals_refusal INFINITY N (terms_of s) (all_ahead s.pool g.tasks.items)

-- more goals and ranges keep what the old ones stand for
pub grown_stored : (c : Contents) (old new : GoalStore) → IsStore c old → IsGrown old new → (more : List model.Goal) × (stored c new ≡ stored c old ++ more)
grown_stored c old new k g =
    let rs = old.ranges.items in
    let gs = old.goals.items in
    let wide = trees_more c (rs ++ g.ranges.0) gs g.goals.0 in
    (wide.0, two (trees c) g.ranges.1 g.goals.1 ∙ wide.1 ∙ ap (λ (xs : List model.Goal). xs ++ wide.0) (trees_ranges c rs g.ranges.0 gs k.goals))

-- the body is read when no task is left
pub read_whole : (N : ℕ) (s : Sentences) (old g mid new : GoalStore) (body : PlacedTerm) (a : Part) → IsReading N s old body g → g.tasks.items ≡ []
    → IsSame g mid → IsClosed 0 mid new a → IsRead N s old new body a
read_whole N s old g mid new body a r none same h =
    let c = s.pool in
    let store = same_store c g mid same r.store in
    let d = closed c 0 mid new a (omega arith) store h in
    record {
      accepted = r.refusal ∙ ap (λ (ts : List Task). goals_refusal INFINITY N (terms_of s) (all_ahead c ts)) none;
      grown = grown_trans old g new r.grown (grown_trans g mid new (same_grown c g mid same) d.grown);
      store = d.store;
      part = d.part;
      goals = d.goals ∙ same_pending c g mid same ∙ ap (λ (ts : List Task). all_done N c (stored c g) ts (pending_in c g)) (sym none) ∙ r.goals;
    }

-- the task is taken away from the others
pub record IsPopped (old mid : GoalStore) (task : Task) : Type 0 where
  pub same : IsSame old mid
  pub tasks : old.tasks.items ≡ mid.tasks.items ++ task ∷ []

module _ (N : ℕ) (s : Sentences) (old : GoalStore) (body : PlacedTerm) (g mid : GoalStore) (task : Task) (r : IsReading N s old body g) (p : IsPopped g mid task) where
  abbrev c : Contents
  c = s.pool

  abbrev rest : List Task
  rest = mid.tasks.items

  abbrev IsMine : Task → Type 0
  IsMine t = IsTask c (length g.goals.items) t

  popped : All IsMine rest × IsMine task
  popped = let both = All-pop IsMine g.tasks.items rest (Some task) p.tasks r.own in (both.0, both.1)

  -- it may be taken
  pub pop_store : IsStore c mid
  pop_store = same_store c g mid p.same r.store

  stacked : IsStack 0 rest (start_in (length g.pending.items) task) × (start_in (length g.pending.items) task ≤ length g.pending.items)
  stacked = stack_pop 0 rest task (length g.pending.items) (subst (λ (ts : List Task). IsStack 0 ts (length g.pending.items)) p.tasks r.stack)

  same_count : length mid.pending.items ≡ length g.pending.items
  same_count = ap (length {A = FlatGoal}) p.same.pending

  pub pop_start : start_in (length mid.pending.items) task ≤ length mid.pending.items
  pop_start = subst (λ (n : ℕ). start_in n task ≤ n) (sym same_count) stacked.1

  looked : goals_refusal INFINITY N (terms_of s) (goals_of body) ≡ or_later (goals_refusal INFINITY N (terms_of s) (ahead c task)) (goals_refusal INFINITY N (terms_of s) (all_ahead c rest))
  looked =
      r.refusal ∙ ap (λ (ts : List Task). goals_refusal INFINITY N (terms_of s) (all_ahead c ts)) p.tasks
      ∙ ap (goals_refusal INFINITY N (terms_of s)) (ahead_append c rest (task ∷ []))
      ∙ goals_refusal-append INFINITY N (terms_of s) (ahead c task) (all_ahead c rest)

  -- its refusal is the body's
  pub pop_refused : (e : Fault) → RefusedBy c (goals_refusal INFINITY N (terms_of s) (ahead c task)) e → RefusedBy c (goals_refusal INFINITY N (terms_of s) (goals_of body)) e
  pop_refused e h = subst (λ (o : Option refusals.Refusal). RefusedBy c o e) (sym looked)
      (refused_by_first c (goals_refusal INFINITY N (terms_of s) (ahead c task)) (goals_refusal INFINITY N (terms_of s) (all_ahead c rest)) e h)

  module _ (new : GoalStore) (h : IsTaken N s mid new task) where
    -- there is less to do
    pub step_smaller : total_weight c new.tasks.items < total_weight c g.tasks.items
    step_smaller =
        let less = h.smaller in
        omega (
          arith,
          ap (total_weight c) h.tasks,
          ap (total_weight c) p.tasks,
          weight-append c rest h.more,
          weight-append c rest (task ∷ []),
          weight-cons c task [],
          weight-nil c,
          less,
        )

    grown_size : length mid.goals.items ≤ length new.goals.items
    grown_size = omega (arith, ap (length {A = FlatGoal}) h.grown.goals.1, length-append mid.goals.items h.grown.goals.0)

    task_later : (t : Task) → IsTask c (length mid.goals.items) t → IsTask c (length new.goals.items) t
    task_later (Visit t) k = k
    task_later (Turn j start b) k = k
    task_later (Deny start) k = tt
    task_later (Join j start a) k = part_later c (length mid.goals.items) (length new.goals.items) a grown_size k

    tasks_later : All (IsTask c (length new.goals.items)) rest
    tasks_later = All-weaker (IsTask c (length mid.goals.items)) (IsTask c (length new.goals.items)) task_later rest
        (subst (λ (gs : List FlatGoal). All (IsTask c (length gs)) rest) (sym p.same.goals) popped.0)

    step_goals : all_done N c (stored c new) new.tasks.items (pending_in c new) ≡ body_of N body
    step_goals =
        let more = grown_stored c mid new pop_store h.grown in
        let sized : AllByRecursion (IsTask c (length (stored c mid))) rest =
        recursion_from_All (IsTask c (length (stored c mid))) rest
        (subst (λ (n : ℕ). All (IsTask c n) rest) (ap (length {A = FlatGoal}) (sym p.same.goals) ∙ sym (trees_length c mid.ranges.items mid.goals.items)) popped.0) in
        let here = done N c (stored c mid) task (pending_in c mid) in
        ap (λ (ts : List Task). all_done N c (stored c new) ts (pending_in c new)) h.tasks
        ∙ done_append N c (stored c new) rest h.more (pending_in c new)
        ∙ ap (all_done N c (stored c new) rest) h.goals
        ∙ ap (λ (gs : List model.Goal). all_done N c gs rest here) more.1
        ∙ all_done_more N c (stored c mid) more.0 rest here sized
        ∙ sym (done_append N c (stored c mid) rest (task ∷ []) (pending_in c mid))
        ∙ two (λ (gs ps : List model.Goal). all_done N c gs (rest ++ task ∷ []) ps) (same_stored c g mid p.same) (same_pending c g mid p.same)
        ∙ ap (λ (ts : List Task). all_done N c (stored c g) ts (pending_in c g)) (sym p.tasks)
        ∙ r.goals

    -- and the body is still being read
    pub step : IsReading N s old body new
    step = record {
      store = h.store;
      grown = grown_trans old g new r.grown (grown_trans g mid new (same_grown c g mid p.same) h.grown);
      own = subst (All (IsTask c (length new.goals.items))) (sym h.tasks) (All-append (IsTask c (length new.goals.items)) rest h.more tasks_later h.own);
      stack = subst (λ (ts : List Task). IsStack 0 ts (length new.pending.items)) (sym h.tasks)
          (h.stack rest (subst (λ (n : ℕ). IsStack 0 rest (start_in n task)) (sym same_count) stacked.0));
      goals = step_goals;
      refusal = looked
          ∙ ap (λ (o : Option refusals.Refusal). or_later o (goals_refusal INFINITY N (terms_of s) (all_ahead c rest))) h.refusal
          ∙ sym (goals_refusal-append INFINITY N (terms_of s) (all_ahead c h.more) (all_ahead c rest))
          ∙ ap (goals_refusal INFINITY N (terms_of s)) (sym (ahead_append c rest h.more))
          ∙ ap (λ (ts : List Task). goals_refusal INFINITY N (terms_of s) (all_ahead c ts)) (sym h.tasks);
    }
