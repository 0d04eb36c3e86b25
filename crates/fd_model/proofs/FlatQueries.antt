-- The answers of a flat query are the assignments that satisfy its constraints.
use Rattle.std.proofs.Common.{◌≡◌, ℕ, ◌<◌, ◌≤◌, true, List, [], ◌∷◌, ◌++◌, Option, Ok, refl, ap, sym, ◌∙◌, subst, arith}
use Rattle.std.proofs.lemmas.Bool.{true≢false}
use Rattle.fd_model.specs.declared.kinds.Order.{Order}
use Rattle.fd_language.specs.Term.{Term, Var, Int, Atom, Comp, Substitution}
use Rattle.fd_language.specs.Family.{Family, has}
use Rattle.fd_language.specs.Range.{Range, reads, set_of}
use Rattle.fd_model.specs.Goal.{Goal, Post, Constrain, Label, marked, marked_all, Program, Query, Branch, Event, End, start_of}
use Rattle.fd_model.specs.RunnablePrograms.{GoalBelow, EachBelow}
use Rattle.fd_model.specs.Lines.{says}
use Rattle.fd_model.specs.Children.{Gives as GivesBranches, offer}
use Rattle.fd_language.proofs.Lemmas.{set_agree, none_parameter, reads_occur}
use Rattle.fd_model.specs.Labelling.{read_list, open_ones}
use Rattle.fd_language.specs.Variables.{TermBelow}
use Rattle.fd_model.specs.Members.{Member}
use Rattle.fd_model.proofs.GoalRows.{Rewritten, with_ranges, numbers, IsPlain}
use Rattle.fd_model.specs.Run.{Run}
use Rattle.fd_language.specs.Lists.{Each}
use Rattle.fd_model.specs.Answers.{answers, EndsWith, AreAnswers}
use Rattle.fd_model.specs.Satisfaction.{Assignment, singles, InRange}
use Rattle.fd_model.specs.ConstraintExpansion.{arguments}
use Rattle.fd_model.specs.FlatConstraints.{is_place}
use Rattle.fd_model.specs.FlatQueries.{IsSatisfied, IsFlatGoal, IsFlat}
use Rattle.fd_model.specs.FlatLines.{IsAssigned, FlatAnswers}
use Rattle.fd_model.proofs.SearchAnswers.{searched}
use Rattle.fd_model.proofs.Ways.{list_below}
use Rattle.fd_model.proofs.SeenTerms.{arguments_below}
use Rattle.fd_model.proofs.ConstrainRows.{constrain_row, satisfies_same}
use Rattle.fd_model.proofs.PostRows.{LiesIn, post_variable, post_integer}
use Rattle.fd_model.proofs.FlatBranches.{IsGoalRow, IsStage, Assigned}
use Rattle.fd_model.proofs.LabelledAnswers.{answers_map}
use Rattle.fd_model.proofs.FlatSearch.{label_search, IsFlatBranch, start_flat, flat_children, flat_silent, flat_sound}
use Rattle.fd_model.proofs.Events.{AreLines, lines_of}
use Rattle.fd_model.proofs.ComparisonRows.{worth_same}

each_pair : {X : Type 0} (H G : X → Type 0) (xs : List X) → Each H xs → Each G xs → Each (λ x. H x × G x) xs
each_pair H G [] h g = tt
each_pair H G (x ∷ xs) h g = ((h.0, g.0), each_pair H G xs h.1 g.1)

-- what is said of a target by cases, and by what it is worth
module _ (M N : ℕ) (r : Range) (a : Assignment) where
  in_range : (t : Term) → LiesIn M N r a t → InRange M N a t r
  in_range (Var v) h = record { number = a v; within = h.0; is = refl; inside = h.1 }
  in_range (Int z) h = record { number = h.0; within = h.2; is = h.1; inside = h.3 }
  in_range (Atom b) h = absurd h
  in_range (Comp f ts) h = absurd h

  lies_in : (t : Term) → is_place t ≡ true → InRange M N a t r → LiesIn M N r a t
  lies_in (Var v) p h = subst (λ k. (k ≤ N) × (has (set_of M (singles a) r) k ≡ true)) (let e = h.is in let k : h.number ≡ a v = cc in k) (h.within, h.inside)
  lies_in (Int z) p h = (h.number, h.is, h.within, h.inside)
  lies_in (Atom b) p h = absurd (true≢false (sym p))
  lies_in (Comp f ts) p h = absurd (true≢false (sym p))

module _ (M N : ℕ) (positive : 0 < N) (within : N ≤ M) (prog : Program) (vs : List ℕ) (nv : ℕ) (every : (x : ℕ) → x < nv → has vs x ≡ true) where
  abbrev pub IsGood : Goal → Type 0
  IsGood g = IsFlatGoal M N g × GoalBelow nv g

  abbrev pub IsRowOf : ℕ → Branch → Goal → List Goal → Substitution → (ℕ → Option (List ℕ)) → (Assignment → Type 0) → Type 0
  IsRowOf m b g rest look sets Holds = (w : Rewritten) × (offer M N m prog look sets b g rest ≡ GivesBranches (with_ranges b rest w ∷ [])) × IsGoalRow M N b.fresh vs look Holds w

  -- a row of what is said by cases
  posted_row : (m : ℕ) (b : Branch) (t : Term) (r : Range) (rest : List Goal) (look : Substitution) (sets : ℕ → Option (List ℕ)) → is_place t ≡ true
      → IsRowOf m b (Post t r) rest look sets (λ a. LiesIn M N r a t) → IsRowOf m b (Post t r) rest look sets (λ a. InRange M N a t r)
  posted_row m b t r rest look sets p row = (
    row.0,
    row.1,
    record {
      fresh = row.2.fresh;
      below = row.2.below;
      kinds = row.2.kinds;
      equated = row.2.equated;
      added = row.2.added;
      settles = row.2.settles;
      into = λ a bound same h. row.2.into a bound same (lies_in M N r a t p h);
      out = λ e same f. in_range M N r e t (row.2.out e same f);
    },
  )

  pub goal_row : (m : ℕ) (b : Branch) (g : Goal) (rest : List Goal) (look : Substitution) (sets : ℕ → Option (List ℕ)) → IsGood g → nv ≤ b.fresh
      → IsPlain N vs look → IsRowOf m b g rest look sets (λ a. IsSatisfied M N a g)
  goal_row m b (Post (Var v) r) rest look sets good low plain =
      posted_row m b (Var v) r rest look sets refl (post_variable M N m prog nv vs every b rest look sets plain low r good.0.1 good.1.1 v good.1.0)
  goal_row m b (Post (Int z) r) rest look sets good low plain =
      posted_row m b (Int z) r rest look sets refl (post_integer M N m prog nv vs every b rest look sets plain low r good.0.1 good.1.1 z)
  goal_row m b (Post (Atom a) r) rest look sets good low plain = absurd (true≢false (sym good.0.0))
  goal_row m b (Post (Comp f ts) r) rest look sets good low plain = absurd (true≢false (sym good.0.0))
  goal_row m b (Constrain c t) rest look sets good low plain = constrain_row M N m positive within prog vs nv every b c rest look sets low plain t good.0 good.1
  goal_row m b _ rest look sets good low plain = absurd good.0

  range_same : (t : Term) (r : Range) (a e : Assignment) → IsGood (Post t r) → ((y : ℕ) → has vs y ≡ true → a y ≡ e y) → InRange M N a t r → InRange M N e t r
  range_same t r a e good same h =
      let free = none_parameter r good.0.1 in
      let here : (y : ℕ) → has (reads r) y ≡ true → a y ≡ e y = λ y i. same y (every y (reads_occur (λ z. z < nv) r good.1.1 y i)) in
      record {
        number = h.number;
        within = h.within;
        is = worth_same nv a e (λ v l. sym (same v (every v l))) t good.1.0 ∙ h.is;
        inside = subst (λ l. has l h.number ≡ true) (set_agree M (singles a) (singles e) r (λ y i. ap (λ n. n ∷ []) (here y i))) h.inside;
      }

  pub depends : (g : Goal) (a e : Assignment) → IsGood g → ((y : ℕ) → has vs y ≡ true → a y ≡ e y) → IsSatisfied M N a g → IsSatisfied M N e g
  depends (Post t r) a e good same h = range_same t r a e good same h
  depends (Constrain c t) a e good same h = satisfies_same nv a e (λ v l. sym (same v (every v l))) N c (arguments t) (arguments_below nv t good.1) h
  depends _ a e good same h = absurd good.0

  pub quiet : (g : Goal) → IsGood g → (b : Branch) (s : Substitution) (D : Family) → says s D b g ≡ []
  quiet (Post t r) good b s D = refl
  quiet (Constrain c t) good b s D = refl
  quiet _ good b s D = absurd good.0

module _ (M N : ℕ) (positive : 0 < N) (within : N ≤ M) (prog : Program) (q : Query) (gs : List Goal) (final : Goal) (list : Term) (ms : List Member)
    (goals : q.goals ≡ gs ++ final ∷ []) (own : marked 0 final ≡ final) (of_final : GoalBelow q.variables final → TermBelow q.variables list) (read : read_list list ≡ Ok ms)
    (flat : Each (IsFlatGoal M N) gs) (every : (x : ℕ) → x < q.variables → has (open_ones ms) x ≡ true) (scoped : EachBelow q.variables q.goals) where
  abbrev pub vs : List ℕ
  vs = open_ones ms

  abbrev pub Holds : Assignment → Goal → Type 0
  Holds a g = IsSatisfied M N a g

  abbrev pub Good : Goal → Type 0
  Good = IsGood M N positive within prog vs q.variables every

  split_goals : (hs : List Goal) (h : Goal) → EachBelow q.variables (hs ++ h ∷ []) → Each (GoalBelow q.variables) hs × GoalBelow q.variables h
  split_goals [] h k = (tt, k.0)
  split_goals (g ∷ hs) h k = let later = split_goals hs h k.1 in ((k.0, later.0), later.1)

  below : Each (GoalBelow q.variables) gs × GoalBelow q.variables final
  below = split_goals gs final (subst (EachBelow q.variables) goals scoped)

  pub none : (x : ℕ) → has vs x ≡ true → x < q.variables
  none = list_below q.variables list ms (of_final below.1) read

  -- flat goals have no cuts
  marked_goal : (g : Goal) → IsFlatGoal M N g → marked 0 g ≡ g
  marked_goal (Post t r) h = refl
  marked_goal (Constrain c t) h = refl
  marked_goal _ h = absurd h

  marked_flat : (hs : List Goal) → Each (IsFlatGoal M N) hs → marked_all 0 (hs ++ final ∷ []) ≡ hs ++ final ∷ []
  marked_flat [] h = ap (λ g. g ∷ []) own
  marked_flat (g ∷ hs) h = let one = marked_goal g h.0 in let more = marked_flat hs h.1 in cc

  pub start_stage : IsStage M N within prog final vs q.variables Holds Good every none (start_of q) gs
  start_stage = record {
    new = [];
    goals = ap (marked_all 0) goals ∙ marked_flat gs flat;
    good = each_pair (IsFlatGoal M N) (GoalBelow q.variables) gs flat below.0;
    consistent = record { unifier = λ x. Var x; general = record { unifies = tt; general = λ u x h. refl }; some = λ x h. absurd (true≢false (sym h)) };
    equated = tt;
    low = omega arith;
    below = λ x h. absurd (true≢false (sym h));
    settles = λ S family closed full others x h. absurd (true≢false (sym h));
    inside = λ x h. h;
    kinds = λ x h. absurd (true≢false (sym h));
  }

  abbrev pub row : (m : ℕ) (b : Branch) (g : Goal) (rest : List Goal) (look : Substitution) (sets : ℕ → Option (List ℕ)) → Good g → q.variables ≤ b.fresh → IsPlain N vs look
      → (w : Rewritten) × (offer M N m prog look sets b g rest ≡ GivesBranches (with_ranges b rest w ∷ [])) × IsGoalRow M N b.fresh vs look (λ a. Holds a g) w
  row = goal_row M N positive within prog vs q.variables every

  abbrev pub kept : (h : Goal) (a e : Assignment) → Good h → ((y : ℕ) → has vs y ≡ true → a y ≡ e y) → Holds a h → Holds e h
  kept = depends M N positive within prog vs q.variables every

  abbrev pub Given : List ℕ → Type 0
  Given = Assigned M N within prog final vs q.variables Holds Good every none (start_of q) gs

  pub there : (ns : List ℕ) → Given ns → IsAssigned M N gs vs ns
  there ns h = (h.0, h.1.bounded, h.2, h.3)

  pub back : (ns : List ℕ) → IsAssigned M N gs vs ns → Given ns
  back ns h = (h.0, record { bounded = h.1; unifier = numbers h.0; unifies = tt; given = λ x i. refl; posted = tt }, h.2, h.3)

-- A flat query ends with a labelling.
module _ (M N : ℕ) (positive : 0 < N) (within : N ≤ M) (prog : Program) (q : Query) (gs : List Goal) (o : Order) (ms : List Member) (f : IsFlat M N q gs o ms)
    (scoped : EachBelow q.variables q.goals) where
  abbrev final : Goal
  final = Label o f.list

  abbrev members : List ℕ
  members = open_ones ms

  abbrev Holding : Assignment → Goal → Type 0
  Holding = Holds M N positive within prog q gs final f.list ms f.goals refl (λ h. h) f.read f.flat f.every scoped

  abbrev Sound : Goal → Type 0
  Sound = Good M N positive within prog q gs final f.list ms f.goals refl (λ h. h) f.read f.flat f.every scoped

  abbrev low : (x : ℕ) → has members x ≡ true → x < q.variables
  low = none M N positive within prog q gs final f.list ms f.goals refl (λ h. h) f.read f.flat f.every scoped

  abbrev rows : (m : ℕ) (b : Branch) (g : Goal) (rest : List Goal) (look : Substitution) (sets : ℕ → Option (List ℕ)) → Sound g → q.variables ≤ b.fresh → IsPlain N members look
      → (w : Rewritten) × (offer M N m prog look sets b g rest ≡ GivesBranches (with_ranges b rest w ∷ [])) × IsGoalRow M N b.fresh members look (λ a. Holding a g) w
  rows = row M N positive within prog q gs final f.list ms f.goals refl (λ h. h) f.read f.flat f.every scoped

  abbrev keeps : (h : Goal) (a e : Assignment) → Sound h → ((y : ℕ) → has members y ≡ true → a y ≡ e y) → Holding a h → Holding e h
  keeps = kept M N positive within prog q gs final f.list ms f.goals refl (λ h. h) f.read f.flat f.every scoped

  begun : IsStage M N within prog final members q.variables Holding Sound f.every low (start_of q) gs
  begun = start_stage M N positive within prog q gs final f.list ms f.goals refl (λ h. h) f.read f.flat f.every scoped

  pub answers_of : (n : ℕ) (k : Option ℕ) (es : List Event) (r : ℕ) (run : Run M N prog q n k (start_of q ∷ []) es r)
      → AreAnswers M N o members (IsAssigned M N gs members) (answers run) (EndsWith End es)
  answers_of n k es r run =
      let s = searched M N prog q run in
      let found = label_search M N within prog final o f.list ms q.variables Holding Sound f.every low f.read rows keeps refl gs (start_of q) begun (answers run) s.0 s.1 in
      answers_map M N o members (Given M N positive within prog q gs final f.list ms f.goals refl (λ h. h) f.read f.flat f.every scoped)
      (IsAssigned M N gs members) (s.0 ≡ []) (EndsWith End es)
      (there M N positive within prog q gs final f.list ms f.goals refl (λ h. h) f.read f.flat f.every scoped)
      (back M N positive within prog q gs final f.list ms f.goals refl (λ h. h) f.read f.flat f.every scoped) s.2 (answers run) found

  abbrev FlatBranch : Branch → Type 0
  FlatBranch = IsFlatBranch M N within prog final o f.list ms q.variables Holding Sound f.every low f.read rows keeps refl

  pub lines : (n : ℕ) (k : Option ℕ) (es : List Event) (r : ℕ) (run : Run M N prog q n k (start_of q ∷ []) es r) → AreLines M N q (answers run) es
  lines n k es r run = lines_of M N prog q FlatBranch
      (flat_children M N within prog final o f.list ms q.variables Holding Sound f.every low f.read rows keeps refl)
      (flat_silent M N within prog final o f.list ms q.variables Holding Sound f.every low f.read rows keeps refl (quiet M N positive within prog members q.variables f.every))
      (flat_sound M N within prog final o f.list ms q.variables Holding Sound f.every low f.read rows keeps refl)
      run (start_flat M N within prog final o f.list ms q.variables Holding Sound f.every low f.read rows keeps refl (start_of q) gs begun, tt)

pub flat_answers : FlatAnswers
flat_answers M N prog q n k es r gs o ms positive within scoped f run = answers_of M N positive within prog q gs o ms f scoped n k es r run
