-- The goals of a program by their numbers.
use Rattle.std.proofs.Common.{◌≡◌, ℕ, suc, ◌+◌, ◌<◌, ◌≤◌, ◌-◌, ◌⊎◌, inl, inr, List, [], ◌∷◌, ◌++◌, length, map, take, drop, refl, sym, ap, ◌∙◌, subst, arith}
use Rattle.std.proofs.Common.{get_or, length-append, append-nil, Option, Some, None}
use Rattle.std.specs.Prelude.{All}
use Rattle.std.specs.List.{AllByRecursion}
use Rattle.std.proofs.lemmas.Bool.{cases_lt}
use Rattle.std.proofs.lemmas.List.Elements.{All-weaker, All-from_get_or, recursion_from_All}
use Rattle.fd_language.proofs.Lemmas.{two}
use Rattle.std.proofs.lemmas.List.{ext_get_or, get_or-map, length-map, take-map, drop-map, length-take-le, drop_all, drop-take, drop-drop, take-take}
use Rattle.std.proofs.lemmas.List.{take-append-drop, get_or-take, append_assoc, get_or_append_left, take-append-le, length-take}
use Rattle.std.proofs.Math.Seq.{get_or-append_seam, get_or-append_right, drop-cons}
use Rattle.fd_language.specs.Range.{Range}
use Rattle.fd_language.specs.Spelling.{empty_range}
use Rattle.fd_model.specs.Goal as model
use Rattle.fd_model.specs.Goal.{Goals, no_goals, goal, listed}
use Rattle.term_pool.specs.Contents.{Contents}
use Rattle.term_pool.specs.Terms.{term_of}
use Rattle.clause_check.specs.declared.program.Part.{Part}
use Rattle.clause_check.specs.declared.program.FlatGoal.{FlatGoal}
use Rattle.clause_check.specs.declared.program.FlatGoal.TheVariants.{True, Fail, Unify, Post, Constrain, Label, Call, Either, Builtin, Cut, If, Not, Best}
use Rattle.clause_check.specs.Programs.{FlatProgram, unlisted, between, part_of, tree_of, trees_from, trees, goal_tree, goals_between, goal_in, goal_at, IsGoal}
use Rattle.clause_check.specs.Programs.{AreGoals, IsPart, IsOtherPart, IsProgram}

-- A list made goals is that list again.
pub listed_unlisted : (gs : List model.Goal) → listed (unlisted gs) ≡ gs
listed_unlisted [] = refl
listed_unlisted (g ∷ gs) = ap (λ (hs : List model.Goal). g ∷ hs) (listed_unlisted gs)

pub unlisted_listed : (gs : Goals) → unlisted (listed gs) ≡ gs
unlisted_listed no_goals = refl
unlisted_listed (goal g gs) = ap (goal g) (unlisted_listed gs)

-- ---- parts of a list

pub part_none : (goals : List model.Goal) (i j : ℕ) → j ≤ i → between goals i j ≡ []
part_none goals i j l = drop_all i (take j goals) (omega (arith, length-take j goals, l))

pub part_next : (goals : List model.Goal) (i j : ℕ) → i < j → j ≤ length goals → between goals i j ≡ get_or goals i model.True ∷ between goals (suc i) j
part_next goals i j l u =
    drop-cons (take j goals) i model.True (omega (arith, length-take-le j goals u, l))
    ∙ ap (λ (g : model.Goal). g ∷ between goals (suc i) j) (get_or-take j goals i model.True l)

pub part_split : (goals : List model.Goal) (i k j : ℕ) → i ≤ k → k ≤ j → between goals i j ≡ between goals i k ++ between goals k j
part_split goals i k j l u =
    let n = k - i in
    let all = take j goals in
    let e : i + n ≡ k = omega (arith, l) in
    let first : take n (drop i all) ≡ between goals i k =
    sym (drop-take i n all) ∙ ap (λ (m : ℕ). drop i (take m all)) e ∙ ap (drop i) (take-take k j goals u) in
    let second : drop n (drop i all) ≡ between goals k j = drop-drop n i all ∙ ap (λ (m : ℕ). drop m all) e in
    sym (take-append-drop n (drop i all)) ∙ ap (λ (xs : List model.Goal). xs ++ drop n (drop i all)) first ∙ ap (λ (xs : List model.Goal). between goals i k ++ xs) second

-- more goals behind them
pub part_more : (goals more : List model.Goal) (i j : ℕ) → j ≤ length goals → between (goals ++ more) i j ≡ between goals i j
part_more goals more i j u = ap (drop i) (take-append-le j goals more u)

same_part : (goals more : List model.Goal) (n : ℕ) (a : Part) → IsPart n a → n ≤ length goals → unlisted (part_of (goals ++ more) a) ≡ unlisted (part_of goals a)
same_part goals more n a h l = let u = h.within in ap unlisted (part_more goals more a.from a.to (omega (arith, u, l)))

-- ---- trees

module _ (c : Contents) where
  tree_more : (ranges : List Range) (goals more : List model.Goal) (n : ℕ) (g : FlatGoal) → IsGoal c (length ranges) n g → n ≤ length goals
      → tree_of c ranges (goals ++ more) g ≡ tree_of c ranges goals g
  tree_more ranges goals more n True h l = refl
  tree_more ranges goals more n Fail h l = refl
  tree_more ranges goals more n (Unify s t) h l = refl
  tree_more ranges goals more n (Post t r) h l = refl
  tree_more ranges goals more n (Constrain k t) h l = refl
  tree_more ranges goals more n (Label o t) h l = refl
  tree_more ranges goals more n (Call t) h l = refl
  tree_more ranges goals more n (Either a b) h l =
      let first = part_more goals more a.from a.to (let u = h.0.within in omega (arith, u, l)) in
      let second = part_more goals more b.from b.to (let u = h.1.within in omega (arith, u, l)) in
      ap (λ (gs : List model.Goal). model.Either (unlisted gs) (unlisted (part_of (goals ++ more) b))) first
      ∙ ap (λ (gs : List model.Goal). model.Either (unlisted (part_of goals a)) (unlisted gs)) second
  tree_more ranges goals more n (Builtin k t) h l = refl
  tree_more ranges goals more n Cut h l = refl
  tree_more ranges goals more n (If a b None) h l = two model.If (same_part goals more n a h.0 l) (same_part goals more n b h.1 l)
  tree_more ranges goals more n (If a b (Some o)) h l =
      let rest : Goals = unlisted (part_of (goals ++ more) o) in
      two (λ x y. model.IfElse x y rest) (same_part goals more n a h.0 l) (same_part goals more n b h.1 l)
      ∙ ap (model.IfElse (unlisted (part_of goals a)) (unlisted (part_of goals b))) (same_part goals more n o h.2 l)
  tree_more ranges goals more n (Not a) h l = ap model.Not (same_part goals more n a h l)
  tree_more ranges goals more n (Best o least t u) h l = refl

  tree_ranges : (ranges more : List Range) (goals : List model.Goal) (n : ℕ) (g : FlatGoal) → IsGoal c (length ranges) n g → tree_of c (ranges ++ more) goals g ≡ tree_of c ranges goals g
  tree_ranges ranges more goals n True h = refl
  tree_ranges ranges more goals n Fail h = refl
  tree_ranges ranges more goals n (Unify s t) h = refl
  tree_ranges ranges more goals n (Post t r) h = ap (model.Post (term_of c t)) (get_or_append_left ranges more empty_range r h.1)
  tree_ranges ranges more goals n (Constrain k t) h = refl
  tree_ranges ranges more goals n (Label o t) h = refl
  tree_ranges ranges more goals n (Call t) h = refl
  tree_ranges ranges more goals n (Either a b) h = refl
  tree_ranges ranges more goals n (Builtin k t) h = refl
  tree_ranges ranges more goals n Cut h = refl
  tree_ranges ranges more goals n (If a b None) h = refl
  tree_ranges ranges more goals n (If a b (Some o)) h = refl
  tree_ranges ranges more goals n (Not a) h = refl
  tree_ranges ranges more goals n (Best o least t u) h = refl

  from_split : (ranges : List Range) (done : List model.Goal) (xs ys : List FlatGoal) → trees_from c ranges done (xs ++ ys) ≡ trees_from c ranges (trees_from c ranges done xs) ys
  from_split ranges done [] ys = refl
  from_split ranges done (x ∷ xs) ys = from_split ranges (done ++ tree_of c ranges done x ∷ []) xs ys

  from_grows : (ranges : List Range) (done : List model.Goal) (xs : List FlatGoal) → (more : List model.Goal) × (trees_from c ranges done xs ≡ done ++ more)
  from_grows ranges done [] = ([], sym (append-nil done))
  from_grows ranges done (x ∷ xs) =
      let g = tree_of c ranges done x in
      let rest = from_grows ranges (done ++ g ∷ []) xs in
      (g ∷ rest.0, rest.1 ∙ append_assoc done (g ∷ []) rest.0)

  from_length : (ranges : List Range) (done : List model.Goal) (xs : List FlatGoal) → length (trees_from c ranges done xs) ≡ length done + length xs
  from_length ranges done [] = omega arith
  from_length ranges done (x ∷ xs) = from_length ranges (done ++ tree_of c ranges done x ∷ []) xs ∙ omega (arith, length-append done (tree_of c ranges done x ∷ []))

  -- each goal has its tree
  pub trees_length : (ranges : List Range) (goals : List FlatGoal) → length (trees c ranges goals) ≡ length goals
  unfolding trees
  trees_length ranges goals = from_length ranges [] goals ∙ omega arith

  -- more goals keep the trees of those before them
  pub trees_more : (ranges : List Range) (goals more : List FlatGoal) → (rest : List model.Goal) × (trees c ranges (goals ++ more) ≡ trees c ranges goals ++ rest)
  unfolding trees
  trees_more ranges goals more =
      let grown = from_grows ranges (trees_from c ranges [] goals) more in
      (grown.0, from_split ranges [] goals more ∙ grown.1)

  pub trees_push : (ranges : List Range) (goals : List FlatGoal) (g : FlatGoal) → trees c ranges (goals ++ g ∷ []) ≡ trees c ranges goals ++ tree_of c ranges (trees c ranges goals) g ∷ []
  unfolding trees
  trees_push ranges goals g = from_split ranges [] goals (g ∷ [])

  -- the tree of a goal, by those before it
  pub tree_at : (ranges : List Range) (goals : List FlatGoal) → AreGoals c (length ranges) goals → (i : ℕ) → i < length goals
      → get_or (trees c ranges goals) i model.True ≡ tree_of c ranges (trees c ranges goals) (get_or goals i True)
  tree_at ranges goals h i l =
      let x = get_or goals i True in
      let before = trees c ranges (take i goals) in
      let size : length before ≡ i = trees_length ranges (take i goals) ∙ length-take-le i goals (omega (arith, l)) in
      let parted : take i goals ++ (x ∷ drop (suc i) goals) ≡ goals = ap (λ (xs : List FlatGoal). take i goals ++ xs) (sym (drop-cons goals i True l)) ∙ take-append-drop i goals in
      let pushed : (take i goals ++ x ∷ []) ++ drop (suc i) goals ≡ goals = append_assoc (take i goals) (x ∷ []) (drop (suc i) goals) ∙ parted in
      let more = trees_more ranges (take i goals ++ x ∷ []) (drop (suc i) goals) in
      let whole : trees c ranges goals ≡ (before ++ tree_of c ranges before x ∷ []) ++ more.0 =
      ap (trees c ranges) (sym pushed) ∙ more.1 ∙ ap (λ (gs : List model.Goal). gs ++ more.0) (trees_push ranges (take i goals) x) in
      let all : trees c ranges goals ≡ before ++ (tree_of c ranges before x ∷ more.0) = whole ∙ append_assoc before (tree_of c ranges before x ∷ []) more.0 in
      ap (λ (gs : List model.Goal). get_or gs i model.True) all
      ∙ ap (λ (k : ℕ). get_or (before ++ (tree_of c ranges before x ∷ more.0)) k model.True) (sym size)
      ∙ get_or-append_seam before (tree_of c ranges before x) more.0 model.True
      ∙ sym (tree_more ranges before (tree_of c ranges before x ∷ more.0) i x (h i l) (omega (arith, size)))
      ∙ ap (λ (gs : List model.Goal). tree_of c ranges gs x) (sym all)

  all_trees : (ranges : List Range) (goals : List FlatGoal) → AreGoals c (length ranges) goals → trees c ranges goals ≡ map (tree_of c ranges (trees c ranges goals)) goals
  all_trees ranges goals h =
      let base = trees c ranges goals in
      let long = trees_length ranges goals in
      ext_get_or model.True base (map (tree_of c ranges base) goals) (long ∙ sym (length-map goals (tree_of c ranges base)))
      (λ i l. let k : i < length goals = omega (arith, l, long) in tree_at ranges goals h i k ∙ sym (get_or-map (tree_of c ranges base) goals i True model.True k))

  -- what the goals of a part stand for
  pub part_trees : (ranges : List Range) (goals : List FlatGoal) (a : Part) → AreGoals c (length ranges) goals
      → part_of (trees c ranges goals) a ≡ map (tree_of c ranges (trees c ranges goals)) (drop a.from (take a.to goals))
  part_trees ranges goals a h =
      let f = tree_of c ranges (trees c ranges goals) in
      ap (λ (gs : List model.Goal). part_of gs a) (all_trees ranges goals h) ∙ ap (drop a.from) (take-map f a.to goals) ∙ drop-map f a.from (take a.to goals)

  -- ---- more goals and ranges

  pub part_later : (n m : ℕ) (a : Part) → n ≤ m → IsPart n a → IsPart m a
  part_later n m a l h = record { ordered = h.ordered; within = (let u = h.within in omega (arith, u, l)) }

  other_later : (n m : ℕ) (o : Option Part) → n ≤ m → IsOtherPart n o → IsOtherPart m o
  other_later n m None l h = tt
  other_later n m (Some a) l h = part_later n m a l h

  pub goal_later : (r s n m : ℕ) (g : FlatGoal) → r ≤ s → n ≤ m → IsGoal c r n g → IsGoal c s m g
  goal_later r s n m True k l h = tt
  goal_later r s n m Fail k l h = tt
  goal_later r s n m (Unify a b) k l h = h
  goal_later r s n m (Post t q) k l h = (h.0, omega (arith, h.1, k))
  goal_later r s n m (Constrain kind t) k l h = h
  goal_later r s n m (Label o t) k l h = h
  goal_later r s n m (Call t) k l h = h
  goal_later r s n m (Either a b) k l h = (part_later n m a l h.0, part_later n m b l h.1)
  goal_later r s n m (Builtin kind t) k l h = h
  goal_later r s n m Cut k l h = tt
  goal_later r s n m (If a b o) k l h = (part_later n m a l h.0, part_later n m b l h.1, other_later n m o l h.2)
  goal_later r s n m (Not a) k l h = part_later n m a l h
  goal_later r s n m (Best o least t u) k l h = h

  pub goals_later : (r s n m : ℕ) (gs : List FlatGoal) → r ≤ s → n ≤ m → All (IsGoal c r n) gs → All (IsGoal c s m) gs
  goals_later r s n m gs k l h = All-weaker (IsGoal c r n) (IsGoal c s m) (λ g. goal_later r s n m g k l) gs h

  pub are_goals_later : (r s : ℕ) (goals : List FlatGoal) → r ≤ s → AreGoals c r goals → AreGoals c s goals
  are_goals_later r s goals k h i l = goal_later r s i i (get_or goals i True) k (omega arith) (h i l)

  pub goals_append : (r : ℕ) (goals more : List FlatGoal) → AreGoals c r goals → All (IsGoal c r (length goals)) more → AreGoals c r (goals ++ more)
  goals_append r goals more h k i l = pick (cases_lt i (length goals))
    where
      pick : (i < length goals) ⊎ (length goals ≤ i) → IsGoal c r i (get_or (goals ++ more) i True)
      pick (inl u) = subst (λ (g : FlatGoal). IsGoal c r i g) (sym (get_or_append_left goals more True i u)) (h i u)
      pick (inr u) =
          subst (λ (g : FlatGoal). IsGoal c r i g) (sym (get_or-append_right goals more i True u))
          (goal_later r r (length goals) i (get_or more (i - length goals) True) (omega arith) u (k (i - length goals) True (omega (arith, l, u, length-append goals more))))

  each_more : (ranges : List Range) (base extra : List model.Goal) (n : ℕ) → n ≤ length base → (gs : List FlatGoal) → AllByRecursion (IsGoal c (length ranges) n) gs
      → map (tree_of c ranges (base ++ extra)) gs ≡ map (tree_of c ranges base) gs
  each_more ranges base extra n l [] h = refl
  each_more ranges base extra n l (g ∷ gs) h =
      two (λ (x : model.Goal) (xs : List model.Goal). x ∷ xs) (tree_more ranges base extra n g h.0 l) (each_more ranges base extra n l gs h.1)

  -- what goals stand for stays when more goals come
  pub same_trees : (ranges : List Range) (base extra : List model.Goal) (gs : List FlatGoal) → All (IsGoal c (length ranges) (length base)) gs
      → map (tree_of c ranges (base ++ extra)) gs ≡ map (tree_of c ranges base) gs
  same_trees ranges base extra gs h = each_more ranges base extra (length base) (omega arith) gs (recursion_from_All (IsGoal c (length ranges) (length base)) gs h)

  each_range : (ranges more : List Range) (goals : List model.Goal) (n : ℕ) (gs : List FlatGoal) → AllByRecursion (IsGoal c (length ranges) n) gs
      → map (tree_of c (ranges ++ more) goals) gs ≡ map (tree_of c ranges goals) gs
  each_range ranges more goals n [] h = refl
  each_range ranges more goals n (g ∷ gs) h =
      two (λ (x : model.Goal) (xs : List model.Goal). x ∷ xs) (tree_ranges ranges more goals n g h.0) (each_range ranges more goals n gs h.1)

  -- and when more ranges come
  pub same_ranges : (ranges more : List Range) (goals : List model.Goal) (n : ℕ) (gs : List FlatGoal) → All (IsGoal c (length ranges) n) gs
      → map (tree_of c (ranges ++ more) goals) gs ≡ map (tree_of c ranges goals) gs
  same_ranges ranges more goals n gs h = each_range ranges more goals n gs (recursion_from_All (IsGoal c (length ranges) n) gs h)

  abbrev Known : ℕ → FlatGoal → Type 0
  Known r g = (n : ℕ) × IsGoal c r n g

  from_ranges : (ranges more : List Range) (before : List model.Goal) (gs : List FlatGoal) → AllByRecursion (Known (length ranges)) gs
      → trees_from c (ranges ++ more) before gs ≡ trees_from c ranges before gs
  from_ranges ranges more before [] h = refl
  from_ranges ranges more before (g ∷ gs) h =
      ap (λ (x : model.Goal). trees_from c (ranges ++ more) (before ++ x ∷ []) gs) (tree_ranges ranges more before h.0.0 g h.0.1)
      ∙ from_ranges ranges more (before ++ tree_of c ranges before g ∷ []) gs h.1

  -- more ranges keep the trees
  pub trees_ranges : (ranges more : List Range) (goals : List FlatGoal) → AreGoals c (length ranges) goals → trees c (ranges ++ more) goals ≡ trees c ranges goals
  unfolding trees
  trees_ranges ranges more goals h =
      from_ranges ranges more [] goals (recursion_from_All (Known (length ranges)) goals (All-from_get_or (Known (length ranges)) goals True (λ i l. (i, h i l))))

  from_all : (ranges : List Range) (base extra : List model.Goal) (n : ℕ) → n ≤ length base → (gs : List FlatGoal) → AllByRecursion (IsGoal c (length ranges) n) gs
      → trees_from c ranges (base ++ extra) gs ≡ (base ++ extra) ++ map (tree_of c ranges base) gs
  from_all ranges base extra n l [] h = sym (append-nil (base ++ extra))
  from_all ranges base extra n l (g ∷ gs) h =
      let y = tree_of c ranges base g in
      let rest = map (tree_of c ranges base) gs in
      ap (λ (x : model.Goal). trees_from c ranges ((base ++ extra) ++ x ∷ []) gs) (tree_more ranges base extra n g h.0 l)
      ∙ ap (λ (xs : List model.Goal). trees_from c ranges xs gs) (append_assoc base extra (y ∷ []))
      ∙ from_all ranges base (extra ++ y ∷ []) n l gs h.1
      ∙ ap (λ (xs : List model.Goal). xs ++ rest) (sym (append_assoc base extra (y ∷ [])))
      ∙ append_assoc (base ++ extra) (y ∷ []) rest

  -- the trees of goals behind the others, which name no parts of one another
  pub trees_append : (ranges : List Range) (goals gs : List FlatGoal) → All (IsGoal c (length ranges) (length goals)) gs
      → trees c ranges (goals ++ gs) ≡ trees c ranges goals ++ map (tree_of c ranges (trees c ranges goals)) gs
  unfolding trees
  trees_append ranges goals gs h =
      let base = trees_from c ranges [] goals in
      let size : length goals ≤ length base = omega (arith, from_length ranges [] goals) in
      from_split ranges [] goals gs ∙ ap (λ (xs : List model.Goal). trees_from c ranges xs gs) (sym (append-nil base))
      ∙ from_all ranges base [] (length goals) size gs (recursion_from_All (IsGoal c (length ranges) (length goals)) gs h)
      ∙ ap (λ (xs : List model.Goal). xs ++ map (tree_of c ranges base) gs) (append-nil base)

-- ---- of a program

-- The goal with a number stands for what the flat one says, whose parts are of the same program.
goal_tree_is : (p : FlatProgram) → IsProgram p → (i : ℕ) → i < length p.goals → goal_tree p i ≡ goal_in p (goal_at p i)
goal_tree_is p h i l = tree_at p.pool p.ranges p.goals h.goals i l

-- There is none between two numbers of which the second isn't greater.
pub between_none : (p : FlatProgram) (i j : ℕ) → j ≤ i → goals_between p i j ≡ []
between_none p i j l = part_none (trees p.pool p.ranges p.goals) i j l

-- The first of the goals between two numbers.
between_next : (p : FlatProgram) (i j : ℕ) → i < j → j ≤ length p.goals → goals_between p i j ≡ goal_tree p i ∷ goals_between p (suc i) j
between_next p i j l u = part_next (trees p.pool p.ranges p.goals) i j l (omega (arith, u, trees_length p.pool p.ranges p.goals))

-- The same, read from the flat goal.
pub between_first : (p : FlatProgram) → IsProgram p → (i j : ℕ) → i < j → j ≤ length p.goals → goals_between p i j ≡ goal_in p (goal_at p i) ∷ goals_between p (suc i) j
between_first p h i j l u = between_next p i j l u ∙ ap (λ (g : model.Goal). g ∷ goals_between p (suc i) j) (goal_tree_is p h i (omega (arith, l, u)))

-- The goals between two numbers, parted at a third.
pub between_split : (p : FlatProgram) (i k j : ℕ) → i ≤ k → k ≤ j → goals_between p i j ≡ goals_between p i k ++ goals_between p k j
between_split p i k j l u = part_split (trees p.pool p.ranges p.goals) i k j l u
