-- A program in which a query has fewer goals is a program.
use Rattle.std.proofs.Common.{◌≡◌, ℕ, zero, suc, ◌+◌, ◌-◌, ◌<◌, ◌≤◌, Bool, true, false, List, [], ◌∷◌, ◌++◌, length, map, take, get_or, set, refl, sym, ap, ◌∙◌, subst, arith}
use Rattle.std.proofs.Common.{length-append, add-one, Some, None}
use Rattle.std.specs.Prelude.{All}
use Rattle.std.specs.List.{AllByRecursion}
use Rattle.std.proofs.lemmas.List.{get_or-drop, get_or-take, length-map, length-drop, length-take-le, map-set, get_or-map}
use Rattle.std.proofs.lemmas.List.Elements.{All-set, All-weaker, All-from_recursion, recursion_from_All}
use Rattle.std.proofs.Math.Seq.{map-set_same}
use Rattle.fd_language.proofs.Lemmas.{two}
use Rattle.fd_language.specs.Range.{Range}
use Rattle.fd_language.specs.declared.TheConstants.{INFINITY}
use Rattle.fd_model.specs.Goal as model
use Rattle.fd_model.specs.RunnablePrograms.{IsRunnable, AreRunnable, QueriesRunnable, IsRunnableProgram, GoalBelow, EachBelow, QueriesScoped, IsScoped}
use Rattle.term_pool.specs.Contents.{Contents}
use Rattle.clause_check.specs.Codable.{IsCodableGoal, EachCodable, QueriesCodable, IsCodable}
use Rattle.clause_check.specs.declared.program.Part.{Part}
use Rattle.clause_check.specs.declared.program.FlatGoal.{FlatGoal}
use Rattle.clause_check.specs.declared.program.FlatGoal.TheVariants as flat
use Rattle.clause_check.specs.declared.program.FlatClause.{FlatClause}
use Rattle.clause_check.specs.declared.program.QueryParts.{QueryParts}
use Rattle.clause_check.specs.Programs.{FlatQuery, FlatProgram, no_query, query_at, query_kept, program_of_parts, tree_of, trees, part_of, goals_in, clause_by, query_by, program_in, IsPart, IsGoal, IsClause, IsQuery, IsProgram}
use Rattle.clause_check.specs.GoalStores.{flat_part}
use Rattle.clause_check.specs.Parts.{IsQueryWithin}
use Rattle.clause_check.specs.FewerGoals.{kept, changed, without_best, with_goals, keeping, keeping_of, flat_without_best, flat_kept}
use Rattle.clause_check.proofs.FlatGoals.{trees_length, trees_append, goals_append, part_trees, part_later}
use Rattle.clause_check.proofs.JoinedGoals.{part_own}
use Rattle.clause_check.proofs.PendingGoals.{part_last}
use Rattle.clause_check.proofs.KeptParts.{clause_later, clauses_same, queries_same}

-- ---- lists

module _ {X : Type 0} where
  -- one more
  pub kept_next : (ks : List Bool) (xs : List X) (i : ℕ) (k : Bool) (x : X) → i < length ks → i < length xs
      → kept (take (suc i) ks) xs ≡ kept (take i ks) xs ++ kept (get_or ks i k ∷ []) (get_or xs i x ∷ [])
  kept_next [] xs i k x h l = absurd (omega (arith, h))
  kept_next (k ∷ ks) [] i d x h l = absurd (omega (arith, l))
  kept_next (true ∷ ks) (y ∷ xs) zero d x h l = refl
  kept_next (false ∷ ks) (y ∷ xs) zero d x h l = refl
  kept_next (true ∷ ks) (y ∷ xs) (suc i) d x h l = ap (λ (zs : List X). y ∷ zs) (kept_next ks xs i d x (omega (arith, h)) (omega (arith, l)))
  kept_next (false ∷ ks) (y ∷ xs) (suc i) d x h l = kept_next ks xs i d x (omega (arith, h)) (omega (arith, l))

  pub all_kept : (H : X → Type 0) (ks : List Bool) (xs : List X) → AllByRecursion H xs → AllByRecursion H (kept ks xs)
  all_kept H [] xs h = tt
  all_kept H (k ∷ ks) [] h = tt
  all_kept H (true ∷ ks) (x ∷ xs) h = (h.0, all_kept H ks xs h.1)
  all_kept H (false ∷ ks) (x ∷ xs) h = all_kept H ks xs h.1

  pub changed_is : (f : X → X) (k : ℕ) (xs : List X) (d : X) → set xs k (f (get_or xs k d)) ≡ changed k f xs
  changed_is f k [] d = refl
  changed_is f zero (x ∷ xs) d = refl
  changed_is f (suc k) (x ∷ xs) d = ap (λ (ys : List X). x ∷ ys) (changed_is f k xs d)

kept_map : {X Y : Type 0} (f : X → Y) (ks : List Bool) (xs : List X) → map f (kept ks xs) ≡ kept ks (map f xs)
kept_map f [] xs = refl
kept_map f (k ∷ ks) [] = refl
kept_map f (true ∷ ks) (x ∷ xs) = let e = kept_map f ks xs in cc
kept_map f (false ∷ ks) (x ∷ xs) = kept_map f ks xs

-- ---- goals

module _ (c : Contents) (ranges : List Range) where
  -- where no best leaf is searched for
  tree_without_best : (goals : List model.Goal) (g : FlatGoal) → tree_of c ranges goals (flat_without_best g) ≡ without_best (tree_of c ranges goals g)
  tree_without_best goals (flat.If a b None) = refl
  tree_without_best goals (flat.If a b (Some o)) = refl
  tree_without_best goals (flat.Best o least t u) = refl
  tree_without_best goals flat.True = refl
  tree_without_best goals flat.Fail = refl
  tree_without_best goals (flat.Unify s t) = refl
  tree_without_best goals (flat.Post t r) = refl
  tree_without_best goals (flat.Constrain k t) = refl
  tree_without_best goals (flat.Label o t) = refl
  tree_without_best goals (flat.Call t) = refl
  tree_without_best goals (flat.Either a b) = refl
  tree_without_best goals (flat.Builtin k t) = refl
  tree_without_best goals flat.Cut = refl
  tree_without_best goals (flat.Not a) = refl

  each_without_best : (goals : List model.Goal) (gs : List FlatGoal) → map (tree_of c ranges goals) (map flat_without_best gs) ≡ map without_best (map (tree_of c ranges goals) gs)
  each_without_best goals [] = refl
  each_without_best goals (g ∷ gs) = two (λ (x : model.Goal) (xs : List model.Goal). x ∷ xs) (tree_without_best goals g) (each_without_best goals gs)

  own_without_best : (n : ℕ) (g : FlatGoal) → IsGoal c (length ranges) n g → IsGoal c (length ranges) n (flat_without_best g)
  own_without_best n (flat.Best o least t u) h = h.0
  own_without_best n flat.True h = h
  own_without_best n flat.Fail h = h
  own_without_best n (flat.Unify s t) h = h
  own_without_best n (flat.Post t r) h = h
  own_without_best n (flat.Constrain k t) h = h
  own_without_best n (flat.Label o t) h = h
  own_without_best n (flat.Call t) h = h
  own_without_best n (flat.Either a b) h = h
  own_without_best n (flat.Builtin k t) h = h
  own_without_best n flat.Cut h = h
  own_without_best n (flat.If a b o) h = h
  own_without_best n (flat.Not a) h = h

  each_own : (n : ℕ) (gs : List FlatGoal) → AllByRecursion (IsGoal c (length ranges) n) gs → AllByRecursion (IsGoal c (length ranges) n) (map flat_without_best gs)
  each_own n [] h = tt
  each_own n (g ∷ gs) h = (own_without_best n g h.0, each_own n gs h.1)

-- ---- goals of the definition

runnable_without_best : (M : ℕ) (g : model.Goal) → IsRunnable M g → IsRunnable M (without_best g)
runnable_without_best M (model.Best o least t c) h = tt
runnable_without_best M model.True h = h
runnable_without_best M model.Fail h = h
runnable_without_best M (model.Unify s t) h = h
runnable_without_best M (model.Post t r) h = h
runnable_without_best M (model.Constrain k t) h = h
runnable_without_best M (model.Label o t) h = h
runnable_without_best M (model.Call t) h = h
runnable_without_best M (model.Either a b) h = h
runnable_without_best M (model.Builtin k t) h = h
runnable_without_best M (model.Cut k) h = h
runnable_without_best M (model.If a b) h = h
runnable_without_best M (model.IfElse a b o) h = h
runnable_without_best M (model.Not a) h = h

below_without_best : (n : ℕ) (g : model.Goal) → GoalBelow n g → GoalBelow n (without_best g)
below_without_best n (model.Best o least t c) h = h.0
below_without_best n model.True h = h
below_without_best n model.Fail h = h
below_without_best n (model.Unify s t) h = h
below_without_best n (model.Post t r) h = h
below_without_best n (model.Constrain k t) h = h
below_without_best n (model.Label o t) h = h
below_without_best n (model.Call t) h = h
below_without_best n (model.Either a b) h = h
below_without_best n (model.Builtin k t) h = h
below_without_best n (model.Cut k) h = h
below_without_best n (model.If a b) h = h
below_without_best n (model.IfElse a b o) h = h
below_without_best n (model.Not a) h = h

codable_without_best : (g : model.Goal) → IsCodableGoal g → IsCodableGoal (without_best g)
codable_without_best (model.Best o least t c) h = h.0
codable_without_best model.True h = h
codable_without_best model.Fail h = h
codable_without_best (model.Unify s t) h = h
codable_without_best (model.Post t r) h = h
codable_without_best (model.Constrain k t) h = h
codable_without_best (model.Label o t) h = h
codable_without_best (model.Call t) h = h
codable_without_best (model.Either a b) h = h
codable_without_best (model.Builtin k t) h = h
codable_without_best (model.Cut k) h = h
codable_without_best (model.If a b) h = h
codable_without_best (model.IfElse a b o) h = h
codable_without_best (model.Not a) h = h

kept_runnable : (M : ℕ) (ks : List Bool) (gs : List model.Goal) → AreRunnable M gs → AreRunnable M (kept ks (map without_best gs))
kept_runnable M [] gs h = tt
kept_runnable M (k ∷ ks) [] h = tt
kept_runnable M (true ∷ ks) (g ∷ gs) h = (runnable_without_best M g h.0, kept_runnable M ks gs h.1)
kept_runnable M (false ∷ ks) (g ∷ gs) h = kept_runnable M ks gs h.1

kept_below : (n : ℕ) (ks : List Bool) (gs : List model.Goal) → EachBelow n gs → EachBelow n (kept ks (map without_best gs))
kept_below n [] gs h = tt
kept_below n (k ∷ ks) [] h = tt
kept_below n (true ∷ ks) (g ∷ gs) h = (below_without_best n g h.0, kept_below n ks gs h.1)
kept_below n (false ∷ ks) (g ∷ gs) h = kept_below n ks gs h.1

kept_codable : (ks : List Bool) (gs : List model.Goal) → EachCodable gs → EachCodable (kept ks (map without_best gs))
kept_codable [] gs h = tt
kept_codable (k ∷ ks) [] h = tt
kept_codable (true ∷ ks) (g ∷ gs) h = (codable_without_best g h.0, kept_codable ks gs h.1)
kept_codable (false ∷ ks) (g ∷ gs) h = kept_codable ks gs h.1

module _ (ks : List Bool) where
  all_runnable : (M k : ℕ) (qs : List model.Query) → QueriesRunnable M qs → QueriesRunnable M (changed k (keeping ks) qs)
  all_runnable M k [] h = tt
  all_runnable M zero (q ∷ qs) h = (kept_runnable M ks q.goals h.0, h.1)
  all_runnable M (suc k) (q ∷ qs) h = (h.0, all_runnable M k qs h.1)

  all_scoped : (k : ℕ) (qs : List model.Query) → QueriesScoped qs → QueriesScoped (changed k (keeping ks) qs)
  all_scoped k [] h = tt
  all_scoped zero (q ∷ qs) h = ((h.0.0, kept_below q.variables ks q.goals h.0.1), h.1)
  all_scoped (suc k) (q ∷ qs) h = (h.0, all_scoped k qs h.1)

  all_codable : (k : ℕ) (qs : List model.Query) → QueriesCodable qs → QueriesCodable (changed k (keeping ks) qs)
  all_codable k [] h = tt
  all_codable zero (q ∷ qs) h = ((h.0.0, kept_codable ks q.goals h.0.1), h.1)
  all_codable (suc k) (q ∷ qs) h = (h.0, all_codable k qs h.1)

-- ---- what is put behind the goals

part_length : (goals : List FlatGoal) (a : Part) → IsPart (length goals) a → length (flat_part goals a) ≡ a.to - a.from
part_length goals a h = length-drop a.from (take a.to goals) ∙ ap (λ (n : ℕ). n - a.from) (length-take-le a.to goals h.within)

-- one goal more
pub kept_step : (ks : List Bool) (goals : List FlatGoal) (a : Part) (i : ℕ) (k : Bool) (g : FlatGoal) → IsPart (length goals) a → a.from + length ks ≡ a.to → i < length ks
    → get_or ks i false ≡ k → g ≡ get_or goals (a.from + i) g
    → flat_kept (take (i + 1) ks) goals a ≡ flat_kept (take i ks) goals a ++ kept (k ∷ []) (flat_without_best g ∷ [])
kept_step ks goals a i k g h e l first second =
    let xs = flat_part goals a in
    let size : i < length xs = omega (arith, part_length goals a h, l) in
    let there : get_or xs i g ≡ g = get_or-drop a.from (take a.to goals) i g ∙ get_or-take a.to goals (a.from + i) g (omega (arith, l)) ∙ sym second in
    let made : get_or (map flat_without_best xs) i (flat_without_best g) ≡ flat_without_best g = get_or-map flat_without_best xs i g (flat_without_best g) size ∙ ap flat_without_best there in
    ap (λ (n : ℕ). flat_kept (take n ks) goals a) (add-one i)
    ∙ kept_next ks (map flat_without_best xs) i false (flat_without_best g) l (omega (arith, size, length-map xs flat_without_best))
    ∙ two (λ (b : Bool) (x : FlatGoal). kept (take i ks) (map flat_without_best xs) ++ kept (b ∷ []) (x ∷ [])) first made

-- ---- the program

-- the query with another part
abbrev pub with_part : FlatQuery → Part → FlatQuery
with_part q a = record { variables = q.variables; names = q.names; shown = q.shown; goals = a }

-- the part behind the goals that those more goals are
abbrev pub part_behind : List FlatGoal → List FlatGoal → Part
part_behind goals more = record { from = length goals; to = length (goals ++ more) }

module _ (p : FlatProgram) (q : ℕ) (ks : List Bool) where
  abbrev pub more_goals : List FlatGoal
  more_goals = flat_kept ks p.goals (query_at p q).goals

  abbrev pub changed_query : FlatQuery
  changed_query = with_part (query_at p q) (part_behind p.goals more_goals)

  abbrev pub with_fewer : FlatProgram
  with_fewer = record { pool = p.pool; ranges = p.ranges; goals = p.goals ++ more_goals; clauses = p.clauses; queries = set p.queries q changed_query }

module _ (p : FlatProgram) (known : IsProgram p) (q : ℕ) (ks : List Bool) (here : q < length p.queries) where
  abbrev Own : FlatGoal → Type 0
  Own = IsGoal p.pool (length p.ranges) (length p.goals)

  abbrev base : List model.Goal
  base = trees p.pool p.ranges p.goals

  abbrev more : List FlatGoal
  more = more_goals p q ks

  abbrev tree : FlatGoal → model.Goal
  tree = tree_of p.pool p.ranges base

  own : IsQuery p.pool (length p.goals) (query_at p q)
  own = known.queries q no_query here

  more_own : All Own more
  more_own =
      let a = (query_at p q).goals in
      All-from_recursion Own more (all_kept Own ks (map flat_without_best (flat_part p.goals a))
      (each_own p.pool p.ranges (length p.goals) (flat_part p.goals a) (part_own p.pool p.ranges p.goals a known.goals)))

  grown : trees p.pool p.ranges (p.goals ++ more) ≡ base ++ map tree more
  grown = trees_append p.pool p.ranges p.goals more more_own

  more_is : map tree more ≡ kept ks (map without_best (part_of base (query_at p q).goals))
  more_is =
      let a = (query_at p q).goals in
      kept_map tree ks (map flat_without_best (flat_part p.goals a))
      ∙ ap (kept ks) (each_without_best p.pool p.ranges base (flat_part p.goals a) ∙ ap (map without_best) (sym (part_trees p.pool p.ranges p.goals a known.goals)))

  size : length p.goals ≤ length (p.goals ++ more)
  size = omega (arith, length-append p.goals more)

  enough : length p.goals ≤ length base
  enough = omega (arith, trees_length p.pool p.ranges p.goals)

  clauses_are : map (clause_by p.pool (trees p.pool p.ranges (p.goals ++ more))) p.clauses ≡ map (clause_by p.pool base) p.clauses
  clauses_are =
      ap (λ (gs : List model.Goal). map (clause_by p.pool gs) p.clauses) grown
      ∙ clauses_same p.pool base (map tree more) (length p.goals) enough p.clauses (recursion_from_All (IsClause p.pool (length p.goals)) p.clauses known.clauses)

  within : (x : FlatQuery) → IsQuery p.pool (length p.goals) x → IsQueryWithin p.pool (length p.goals) x
  within x h = record { names = h.names; goals = h.goals }

  others_are : map (query_by p.pool (trees p.pool p.ranges (p.goals ++ more))) p.queries ≡ map (query_by p.pool base) p.queries
  others_are =
      let Within = IsQueryWithin p.pool (length p.goals) in
      ap (λ (gs : List model.Goal). map (query_by p.pool gs) p.queries) grown
      ∙ queries_same p.pool base (map tree more) (length p.goals) enough p.queries (recursion_from_All Within p.queries (All-weaker (IsQuery p.pool (length p.goals)) Within within p.queries known.queries))

  query_is : query_by p.pool (trees p.pool p.ranges (p.goals ++ more)) (changed_query p q ks) ≡ keeping ks (query_by p.pool base (query_at p q))
  query_is =
      let x = query_at p q in
      ap (λ (gs : List model.Goal). with_goals (query_by p.pool base x) gs)
      (part_last p.pool p.ranges p.goals (p.goals ++ more) (map tree more) (part_behind p.goals more) grown refl refl ∙ more_is)

  queries_are : map (query_by p.pool (trees p.pool p.ranges (p.goals ++ more))) (set p.queries q (changed_query p q ks)) ≡ changed q (keeping ks) (map (query_by p.pool base) p.queries)
  queries_are =
      let new = query_by p.pool (trees p.pool p.ranges (p.goals ++ more)) in
      let f = query_by p.pool base in
      let d = f (query_at p q) in
      let there : get_or (map f p.queries) q d ≡ d = get_or-map f p.queries q no_query d here in
      map-set new p.queries q (changed_query p q ks)
      ∙ two (λ (qs : List model.Query) (x : model.Query). set qs q x) others_are (query_is ∙ ap (keeping ks) (sym there))
      ∙ changed_is (keeping ks) q (map f p.queries) d

  pub fewer_is : program_in (with_fewer p q ks) ≡ keeping_of q ks (program_in p)
  fewer_is = two (λ (cs : List model.Clause) (qs : List model.Query). let made : model.Program = record { clauses = cs; queries = qs } in made) clauses_are queries_are

  pub same_names : map (λ (x : FlatQuery). x.names) (set p.queries q (changed_query p q ks)) ≡ map (λ (x : FlatQuery). x.names) p.queries
  same_names = map-set_same (λ (x : FlatQuery). x.names) p.queries q (changed_query p q ks) no_query refl

  -- it is a program
  pub fewer_known : IsProgram (with_fewer p q ks)
  fewer_known =
      let n = length p.goals in
      let m = length (p.goals ++ more) in
      let old = known in
      record {
        pool = old.pool;
        ranges = old.ranges;
        goals = goals_append p.pool (length p.ranges) p.goals more old.goals more_own;
        clauses = All-weaker (IsClause p.pool n) (IsClause p.pool m) (clause_later p.pool n m size) p.clauses old.clauses;
        queries = All-set (IsQuery p.pool m) p.queries q (changed_query p q ks) (
            record { names = own.names; same = own.same; shown = own.shown; goals = record { ordered = size; within = omega arith } }
            ) (All-weaker (IsQuery p.pool n) (IsQuery p.pool m)
            (λ x h. record { names = h.names; same = h.same; shown = h.shown; goals = part_later p.pool n m x.goals size h.goals }) p.queries old.queries);
        scoped = subst IsScoped (sym fewer_is) (record { clauses = old.scoped.clauses; queries = all_scoped ks q (program_in p).queries old.scoped.queries });
        runnable = subst (IsRunnableProgram INFINITY) (sym fewer_is)
            (record { clauses = old.runnable.clauses; queries = all_runnable ks INFINITY q (program_in p).queries old.runnable.queries });
        codable = subst IsCodable (sym fewer_is) (record { clauses = old.codable.clauses; queries = all_codable ks q (program_in p).queries old.codable.queries });
      }

  -- it keeps as many goals as its query has
  pub part_sized : (n : ℕ) → n ≡ length (goals_in p (query_at p q).goals) → (query_at p q).goals.from + n ≡ (query_at p q).goals.to
  part_sized n e =
      let a = (query_at p q).goals in
      let long : a.to ≤ length base = omega (arith, enough, own.goals.within) in
      omega (arith, own.goals.ordered, e, length-drop a.from (take a.to base), length-take-le a.to base long)

-- ---- as the code keeps it

module _ (c : Contents) (ranges : List Range) (old : List FlatGoal) (clauses : List FlatClause) (items : List QueryParts) (q : ℕ) (here : q < length items) where
  abbrev kept_program : FlatProgram
  kept_program = program_of_parts c ranges old clauses items

  pub query_there : (x : QueryParts) → x ≡ get_or items q x → query_at kept_program q ≡ query_kept x
  query_there x e = get_or-map query_kept items q x no_query here ∙ ap query_kept (sym e)

  pub made_with_fewer : (ks : List Bool) (x y : QueryParts) (from to : ℕ) (new : List FlatGoal) → x ≡ get_or items q x → y ≡ get_or items q y
      → new ≡ old ++ flat_kept ks old x.goals → from ≡ length old → to ≡ length new
      → program_of_parts c ranges new clauses (set items q (record { variables = y.variables; names = y.names; shown = y.shown; goals = record { from = from; to = to } }))
      ≡ with_fewer kept_program q ks
  made_with_fewer ks x y from to new e f grown first second =
      let z : QueryParts = record { variables = y.variables; names = y.names; shown = y.shown; goals = record { from = from; to = to } } in
      let whole : new ≡ old ++ more_goals kept_program q ks = grown ∙ ap (λ (w : FlatQuery). old ++ flat_kept ks old w.goals) (sym (query_there x e)) in
      let part : (record { from = from; to = to }) ≡ part_behind old (more_goals kept_program q ks) =
      two (λ (n m : ℕ). let a : Part = record { from = n; to = m } in a) first (second ∙ ap (λ (gs : List FlatGoal). length gs) whole) in
      let changed : query_kept z ≡ changed_query kept_program q ks = two with_part (sym (query_there y f)) part in
      two (λ (gs : List FlatGoal) (qs : List FlatQuery). let p : FlatProgram = record { pool = c; ranges = ranges; goals = gs; clauses = clauses; queries = qs } in p)
      whole (map-set query_kept items q z ∙ ap (set (map query_kept items) q) changed)
