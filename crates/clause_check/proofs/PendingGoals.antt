-- Pending goals that become a part.
use Rattle.std.proofs.Common.{◌≡◌, ℕ, ◌≤◌, List, [], ◌++◌, length, map, take, drop, sym, ap, ◌∙◌, subst, arith, length-append, append-nil}
use Rattle.std.specs.Prelude.{All}
use Rattle.std.proofs.lemmas.List.{take_all, take-map, drop-map}
use Rattle.std.proofs.lemmas.List.Elements.{All-take, All-drop}
use Rattle.std.proofs.Math.Seq.{drop-append_seam}
use Rattle.fd_language.specs.Range.{Range}
use Rattle.fd_model.specs.Goal as model
use Rattle.term_pool.specs.Contents.{Contents}
use Rattle.clause_check.specs.declared.program.Part.{Part}
use Rattle.clause_check.specs.declared.program.FlatGoal.{FlatGoal}
use Rattle.clause_check.specs.declared.goals.GoalStore.{GoalStore}
use Rattle.clause_check.specs.GoalStores.{stored, pending_in, IsStore, IsGrown, IsClosed}
use Rattle.clause_check.specs.GoalRecords.{AreAccepted}
use Rattle.clause_check.specs.Programs.{part_of, tree_of, trees, IsPart, IsGoal, AreGoals}
use Rattle.clause_check.proofs.FlatGoals.{trees_length, trees_append, goals_append, goals_later, same_trees}

-- the goals of the old pending ones from start on stand behind the others
pub record Closed (c : Contents) (start : ℕ) (old new : GoalStore) (a : Part) : Type 0 where
  pub store : IsStore c new
  pub grown : IsGrown old new
  pub part : IsPart (length new.goals.items) a
  pub all : stored c new ≡ stored c old ++ drop start (pending_in c old)
  pub goals : part_of (stored c new) a ≡ drop start (pending_in c old)
  pub pending : pending_in c new ≡ take start (pending_in c old)

module _ (c : Contents) (ranges : List Range) (goals pending : List FlatGoal) (start : ℕ) (h : AreGoals c (length ranges) goals) (k : All (IsGoal c (length ranges) (length goals)) pending) where
  abbrev last : List FlatGoal
  last = drop start pending

  abbrev base : List model.Goal
  base = trees c ranges goals

  within : All (IsGoal c (length ranges) (length goals)) last
  within = All-drop (IsGoal c (length ranges) (length goals)) start pending k

  kept_goals : AreGoals c (length ranges) (goals ++ last)
  kept_goals = goals_append c (length ranges) goals last h within

  kept_pending : All (IsGoal c (length ranges) (length (goals ++ last))) (take start pending)
  kept_pending =
      goals_later c (length ranges) (length ranges) (length goals) (length (goals ++ last)) (take start pending) (omega arith) (omega (arith, length-append goals last))
      (All-take (IsGoal c (length ranges) (length goals)) start pending k)

  kept_trees : trees c ranges (goals ++ last) ≡ base ++ drop start (map (tree_of c ranges base) pending)
  kept_trees = trees_append c ranges goals last within ∙ ap (λ (gs : List model.Goal). base ++ gs) (sym (drop-map (tree_of c ranges base) start pending))

  left_pending : map (tree_of c ranges (trees c ranges (goals ++ last))) (take start pending) ≡ take start (map (tree_of c ranges base) pending)
  left_pending =
      let more = drop start (map (tree_of c ranges base) pending) in
      let sized = subst (λ (n : ℕ). All (IsGoal c (length ranges) n) (take start pending)) (sym (trees_length c ranges goals)) (All-take (IsGoal c (length ranges) (length goals)) start pending k) in
      ap (λ (gs : List model.Goal). map (tree_of c ranges gs) (take start pending)) kept_trees ∙ same_trees c ranges base more (take start pending) sized
      ∙ sym (take-map (tree_of c ranges base) start pending)

-- the last goals as a part
pub part_last : (c : Contents) (ranges : List Range) (goals all : List FlatGoal) (more : List model.Goal) (a : Part)
    → trees c ranges all ≡ trees c ranges goals ++ more → a.from ≡ length goals → a.to ≡ length all
    → part_of (trees c ranges all) a ≡ more
part_last c ranges goals all more a e from to =
    let base = trees c ranges goals in
    let whole : take a.to (trees c ranges all) ≡ trees c ranges all = take_all a.to (trees c ranges all) (omega (arith, to, trees_length c ranges all)) in
    let at : a.from ≡ length base = omega (arith, from, trees_length c ranges goals) in
    ap (drop a.from) (whole ∙ e) ∙ ap (λ (n : ℕ). drop n (base ++ more)) at ∙ drop-append_seam base more

-- three lists in the place of their equals
by_three : (P : List Range → List FlatGoal → List FlatGoal → Type 0) (rs rs' : List Range) (gs gs' ps ps' : List FlatGoal) → rs' ≡ rs → gs' ≡ gs → ps' ≡ ps → P rs gs ps → P rs' gs' ps'
by_three P rs rs' gs gs' ps ps' e f g h = subst (λ (x : List Range). P x gs' ps') (sym e) (subst (λ (y : List FlatGoal). P rs y ps') (sym f) (subst (λ (z : List FlatGoal). P rs gs z) (sym g) h))

pub closed : (c : Contents) (start : ℕ) (old new : GoalStore) (a : Part) → start ≤ length old.pending.items → IsStore c old → IsClosed start old new a → Closed c start old new a
closed c start old new a l k h =
    let rs = old.ranges.items in
    let gs = old.goals.items in
    let ps = old.pending.items in
    let move = λ (P : List Range → List FlatGoal → List FlatGoal → Type 0). by_three P rs new.ranges.items (gs ++ drop start ps) new.goals.items (take start ps)
    new.pending.items h.ranges h.goals h.pending in
    let trees_are = move (λ x y z. trees c x y ≡ stored c old ++ drop start (pending_in c old)) (kept_trees c rs gs ps start k.goals k.pending) in
    let same : trees c new.ranges.items old.goals.items ≡ stored c old = ap (λ (x : List Range). trees c x old.goals.items) h.ranges in
    record {
      store = record {
        ranges = subst AreAccepted (sym h.ranges) k.ranges;
        goals = move (λ x y z. AreGoals c (length x) y) (kept_goals c rs gs ps start k.goals k.pending);
        pending = move (λ x y z. All (IsGoal c (length x) (length y)) z) (kept_pending c rs gs ps start k.goals k.pending);
      };
      grown = record { ranges = ([], h.ranges ∙ sym (append-nil rs)); goals = (drop start ps, h.goals) };
      part = record { ordered = omega (arith, h.from, h.to, ap (length {A = FlatGoal}) h.goals, length-append gs (drop start ps)); within = omega (arith, h.to) };
      all = trees_are;
      goals = part_last c new.ranges.items old.goals.items new.goals.items (drop start (pending_in c old)) a
          (trees_are ∙ ap (λ (xs : List model.Goal). xs ++ drop start (pending_in c old)) (sym same)) h.from h.to;
      pending = move (λ x y z. map (tree_of c x (trees c x y)) z ≡ take start (pending_in c old)) (left_pending c rs gs ps start k.goals k.pending);
    }
