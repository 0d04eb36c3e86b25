-- The answer of a flat query that asks for the least or the greatest cost, and its events.
use Rattle.std.proofs.Common.{◌≡◌, ℕ, ◌<◌, ◌≤◌, Bool, true, false, ◌==◌, ℤ, pos, List, [], ◌∷◌, ◌++◌, map, Option, Some, None, Ok, cond, refl, ap, sym, ◌∙◌}
use Rattle.std.proofs.Common.{subst, inl, inr, ◌⊎◌, arith, eqb-true}
use Rattle.std.proofs.lemmas.Int.{ints}
use Rattle.std.proofs.lemmas.Bool.{or_cases, true≢false, cases_Bool}
use Rattle.fd_language.specs.Term.{Term, Var, Int, Atom, Comp, Substitution, apply}
use Rattle.fd_language.specs.Family.{Family, has}
use Rattle.fd_language.specs.Lists.{Each}
use Rattle.fd_model.specs.declared.kinds.Order.{Order}
use Rattle.fd_model.specs.declared.kinds.QueryFault.{QueryFault}
use Rattle.fd_model.specs.declared.kinds.QueryFault.TheVariants.{Parameter}
use Rattle.fd_model.specs.Goal.{Goal, Label, Best, Program, Query, Branch, Event, Answer, End, start_of}
use Rattle.fd_model.specs.RunnablePrograms.{NumbersBelow, EachBelow}
use Rattle.fd_model.specs.BranchViews.{IsView}
use Rattle.fd_model.specs.Lines.{says}
use Rattle.fd_model.specs.Members.{Member, Open, Known, as_member}
use Rattle.fd_model.specs.Labelling.{read_list, open_ones}
use Rattle.fd_model.specs.Leaves.{IsBetter, IsAsGood, BestLeaf, SoughtLeaf}
use Rattle.fd_model.specs.Children.{Children, Faults, Gives as GivesBranches, KeptOffer, offer, Seeks, look_in, sets_in, with_goals, cost_fault}
use Rattle.fd_model.specs.Run.{Run}
use Rattle.fd_model.specs.Satisfaction.{Assignment}
use Rattle.fd_model.specs.Answers.{answers, EndsWith, Shows, EachShows, Somewhere, InOrder, Comes}
use Rattle.fd_model.specs.FlatLines.{assigned_line, IsLast, IsSatisfying, ComesFirst, IsAssigned}
use Rattle.fd_model.specs.BestAnswers.{number_in, cost_in, IsBestAnswer, AreBestAnswers}
use Rattle.fd_model.specs.FlatBest.{IsFlatBest, IsStart, FlatBest, cost_at, IsBestLine, FlatBestEvents}
use Rattle.fd_model.specs.Ways.{Way, added_by, begins as way_begins, goes}
use Rattle.fd_model.proofs.Lists.{each_where, each_map, each_at, each_after, some_either}
use Rattle.fd_model.proofs.GoalRows.{Rewritten, with_ranges, IsPlain}
use Rattle.fd_model.proofs.SearchAnswers.{Search, searched}
use Rattle.fd_model.proofs.FlatBranches.{IsGoalRow, IsStage, Assigned}
use Rattle.fd_model.proofs.Labels.{IsReady}
use Rattle.fd_model.proofs.FlatSearch.{read_itself, itself, stage_ready, stage_kids, offered as row_offered, flat_search}
use Rattle.fd_model.proofs.BestLeaves.{best_search, offered as best_offered}
use Rattle.fd_model.proofs.Events.{AreLines, lines_of, lines_shown, EachLine}
use Rattle.fd_model.proofs.FlatQueries.{Holds, Good, none, row, kept, start_stage, Given, there, back, quiet}

-- the same answers, however what is allowed is said
best_mapped : (M N : ℕ) (o : Order) (least : Bool) (t : Term) (vs : List ℕ) (cost : List ℕ → ℤ) (A B : List ℕ → Type 0) (S T : Branch → Type 0) (V W : Type 0)
    → ((ns : List ℕ) → A ns → B ns) → ((ns : List ℕ) → B ns → A ns) → ((d : Branch) → S d → T d) → (W → V)
    → (found : List Branch) → AreBestAnswers M N o least t vs cost A S found V → AreBestAnswers M N o least t vs cost B T found W
best_mapped M N o least t vs cost A B S T V W there back placed whole found (inl h) = inl (record {
  branch = h.branch;
  alone = h.alone;
  numbers = h.numbers;
  shown = h.shown;
  before = h.before;
  behind = h.behind;
  allowed = each_map A B there (h.before ++ h.numbers ∷ h.behind) h.allowed;
  complete = λ ns i. h.complete ns (back ns i);
  order = h.order;
  earlier = h.earlier;
  later = h.later;
  start = h.start;
  starts = placed h.start h.starts;
  leaves = h.leaves;
  labelled = h.labelled;
  values = h.values;
})
best_mapped M N o least t vs cost A B S T V W there back placed whole found (inr h) = inr (h.0, λ w ns i. h.1 (whole w) ns (back ns i))

module _ (M N : ℕ) (positive : 0 < N) (within : N ≤ M) (prog : Program) (q : Query) (gs : List Goal) (o : Order) (least : Bool) (ms : List Member) (c : Member)
    (f : IsFlatBest M N q gs o least ms c) (scoped : EachBelow q.variables q.goals) where
  abbrev final : Goal
  final = Best o least f.list f.cost

  abbrev vs : List ℕ
  vs = open_ones ms

  abbrev cost : List ℕ → ℤ
  cost = cost_in vs c

  abbrev Holding : Assignment → Goal → Type 0
  Holding = Holds M N positive within prog q gs final f.list ms f.goals refl (λ h. h.0) f.read f.flat f.every scoped

  abbrev Sound : Goal → Type 0
  Sound = Good M N positive within prog q gs final f.list ms f.goals refl (λ h. h.0) f.read f.flat f.every scoped

  abbrev low : (x : ℕ) → has vs x ≡ true → x < q.variables
  low = none M N positive within prog q gs final f.list ms f.goals refl (λ h. h.0) f.read f.flat f.every scoped

  abbrev rows : (m : ℕ) (b : Branch) (g : Goal) (rest : List Goal) (look : Substitution) (sets : ℕ → Option (List ℕ)) → Sound g → q.variables ≤ b.fresh → IsPlain N vs look
      → (w : Rewritten) × (offer M N m prog look sets b g rest ≡ GivesBranches (with_ranges b rest w ∷ [])) × IsGoalRow M N b.fresh vs look (λ a. Holding a g) w
  rows = row M N positive within prog q gs final f.list ms f.goals refl (λ h. h.0) f.read f.flat f.every scoped

  abbrev keeps : (h : Goal) (a e : Assignment) → Sound h → ((y : ℕ) → has vs y ≡ true → a y ≡ e y) → Holding a h → Holding e h
  keeps = kept M N positive within prog q gs final f.list ms f.goals refl (λ h. h.0) f.read f.flat f.every scoped

  begun : IsStage M N within prog final vs q.variables Holding Sound f.every low (start_of q) gs
  begun = start_stage M N positive within prog q gs final f.list ms f.goals refl (λ h. h.0) f.read f.flat f.every scoped

  abbrev Stage : Branch → List Goal → Type 0
  Stage b hs = IsStage M N within prog final vs q.variables Holding Sound f.every low b hs

  abbrev Allows : Branch → List Goal → List ℕ → Type 0
  Allows b hs ns = Assigned M N within prog final vs q.variables Holding Sound f.every low b hs ns

  abbrev Starts : Branch → Type 0
  Starts = IsStart M N prog q o least f.list f.cost

  -- a way leads to the branch
  abbrev IsReached : Branch → Type 0
  IsReached b = (ws : List ℕ) × Way M N prog q b ws

  abbrev Result : (List ℕ → Type 0) → List Branch → List Branch → Type 0
  Result A found left = AreBestAnswers M N o least f.list vs cost A Starts found (left ≡ [])

  abbrev base : Substitution
  base = itself M N within prog final o f.list ms q.variables Holding Sound f.every low f.read rows keeps

  abbrev read : read_list (apply base f.list) ≡ Ok ms
  read = read_itself M N within prog final o f.list ms q.variables Holding Sound f.every low f.read rows keeps

  begins : (b : Branch) (stage : Stage b []) → IsReady M N within prog o f.list ms base stage.new read (with_goals b (Label o f.list ∷ []))
  begins b stage = stage_ready M N within prog final o f.list ms q.variables Holding Sound f.every low f.read rows keeps b stage

  -- the cost is left as it is
  plain_cost : (r : Term) → as_member r ≡ Ok c → apply (λ x. Var x) r ≡ r
  plain_cost (Var x) e = refl
  plain_cost (Int z) e = refl
  plain_cost (Atom a) e = absurd (cc)
  plain_cost (Comp g ts) e = absurd (cc)

  member : as_member (apply base f.cost) ≡ Ok c
  member = ap as_member (plain_cost f.cost f.member) ∙ f.member

  listed : cost_fault ms (apply base f.cost) ≡ None
  listed = ap (cost_fault ms) (plain_cost f.cost f.member) ∙ f.listed

  reached : (m : ℕ) (b : Branch) (g : Goal) (rest : List Goal) (s : Substitution) (D : Family) (cs : List Branch) → IsReached b → b.goals ≡ g ∷ rest
      → Children M N prog m b g rest s D (GivesBranches cs) → Each IsReached cs
  reached m b g rest s D cs w e k = each_where IsReached cs (λ d i. (added_by M (look_in b s D) b.fresh g ++ w.0, goes m g rest s D cs w.1 e k i))

  ended : (b : Branch) → Stage b [] → IsReached b → (found left : List Branch) → Search M N prog (b ∷ []) found left → Result (Allows b []) found left
  ended b stage way found left search =
      best_mapped M N o least f.list vs cost _ (Allows b []) (λ d. d ≡ with_goals b (Label o f.list ∷ [])) Starts (left ≡ []) (left ≡ []) (λ ns h. (h.0, h.1, tt, h.2)) (λ ns h. (h.0, h.1, h.3))
      (λ d i. (b, way.0, way.1, stage.goals, i)) (λ e. e) found
      (best_search M N within prog o least f.list ms base stage.new read f.cost c member listed b (begins b stage) stage.goals found left search)

  pub answers_of : (n : ℕ) (k : Option ℕ) (es : List Event) (r : ℕ) (run : Run M N prog q n k (start_of q ∷ []) es r)
      → AreBestAnswers M N o least f.list vs cost (IsAssigned M N gs vs) Starts (answers run) (EndsWith End es)
  answers_of n k es r run =
      let s = searched M N prog q run in
      let found = flat_search M N within prog final o f.list ms q.variables Holding Sound f.every low f.read rows keeps Result (λ A b. inr (refl, λ e. absurd (cc))) (λ A left no. inr (refl, λ e. no))
      (λ A B there back found left r. best_mapped M N o least f.list vs cost A B Starts Starts (left ≡ []) (left ≡ []) there back (λ d i. i) (λ e. e) found r)
      IsReached reached ended gs (start_of q) begun ([], way_begins) (answers run) s.0 s.1 in
      best_mapped M N o least f.list vs cost (Given M N positive within prog q gs final f.list ms f.goals refl (λ h. h.0) f.read f.flat f.every scoped)
      (IsAssigned M N gs vs) Starts Starts (s.0 ≡ []) (EndsWith End es)
      (there M N positive within prog q gs final f.list ms f.goals refl (λ h. h.0) f.read f.flat f.every scoped)
      (back M N positive within prog q gs final f.list ms f.goals refl (λ h. h.0) f.read f.flat f.every scoped) (λ d i. i) s.2 (answers run) found

  -- the branches of such a query: on the way to the last goal, or behind it
  abbrev IsBestBranch : Branch → Type 0
  IsBestBranch b = ((hs : List Goal) × Stage b hs) ⊎ (b.goals ≡ [])

  found_bare : (ls cs : List Branch) → BestLeaf M N least f.cost [] ls cs → Each IsBestBranch cs
  found_bare [] cs e = subst (Each IsBestBranch) (sym e) tt
  found_bare (l ∷ ls) cs e = subst (Each IsBestBranch) (sym e.2) (inr refl, tt)

  module _ (m : ℕ) (b : Branch) (g : Goal) (rest : List Goal) (s : Substitution) (D : Family) (stage : Stage b []) (e : b.goals ≡ g ∷ rest) (v : IsView M N b.equations b.posted s D) where
    heads : g ∷ rest ≡ final ∷ []
    heads = sym e ∙ stage.goals

    one : g ≡ final
    one = let k = heads in cc

    seeks : offer M N m prog (look_in b s D) (sets_in b s D) b g rest ≡ Seeks b [] o least f.list f.cost
    seeks =
        let others : rest ≡ [] = (let k = heads in cc) in
        ap (λ h. offer M N m prog (look_in b s D) (sets_in b s D) b h rest) one ∙ ap (λ r. offer M N m prog (look_in b s D) (sets_in b s D) b final r) others
        ∙ best_offered M N within prog o least f.list ms base stage.new read f.cost c member listed b (begins b stage) s D v m

  best_children : (m : ℕ) (b : Branch) (g : Goal) (rest : List Goal) (s : Substitution) (D : Family) (cs : List Branch) → IsBestBranch b → b.goals ≡ g ∷ rest
      → Children M N prog m b g rest s D (GivesBranches cs) → Each IsBestBranch cs
  best_children m b g rest s D cs (inl ([], stage)) e k =
      let sought : SoughtLeaf M N b [] o least f.list f.cost cs = subst (λ p. KeptOffer M N p (GivesBranches cs)) (seeks m b g rest s D stage e k.view) k.kept in
      found_bare sought.0 cs sought.2
  best_children m b g rest s D cs (inl (h ∷ hs, stage)) e k =
      stage_kids M N within prog final o f.list ms q.variables Holding Sound f.every low f.read rows keeps m b g rest s D h hs stage e k.view IsBestBranch (λ d i. inl (hs, i)) cs
      (subst (λ p. KeptOffer M N p (GivesBranches cs))
      (row_offered M N within prog final o f.list ms q.variables Holding Sound f.every low f.read rows keeps m b g rest s D h hs stage e k.view) k.kept)
  best_children m b g rest s D cs (inr h) e k = absurd (let i = sym h ∙ e in cc)

  best_sound : (m : ℕ) (b : Branch) (g : Goal) (rest : List Goal) (s : Substitution) (D : Family) (x : QueryFault) → IsBestBranch b → b.goals ≡ g ∷ rest
      → Children M N prog m b g rest s D (Faults x) → ⊥
  best_sound m b g rest s D x (inl ([], stage)) e k = subst (λ p. KeptOffer M N p (Faults x)) (seeks m b g rest s D stage e k.view) k.kept
  best_sound m b g rest s D x (inl (h ∷ hs, stage)) e k =
      subst (λ p. KeptOffer M N p (Faults x)) (row_offered M N within prog final o f.list ms q.variables Holding Sound f.every low f.read rows keeps m b g rest s D h hs stage e k.view) k.kept
  best_sound m b g rest s D x (inr h) e k = (let i = sym h ∙ e in cc)

  best_silent : (b : Branch) (g : Goal) (rest : List Goal) (s : Substitution) (D : Family) → IsBestBranch b → b.goals ≡ g ∷ rest → says s D b g ≡ []
  best_silent b g rest s D (inl ([], stage)) e = let k = sym e ∙ stage.goals in let same : g ≡ final = cc in ap (says s D b) same
  best_silent b g rest s D (inl (h ∷ hs, stage)) e = let k = sym e ∙ stage.goals in let same : g ≡ h = cc in
      ap (says s D b) same ∙ quiet M N positive within prog vs q.variables f.every h stage.good.0 b s D
  best_silent b g rest s D (inr h) e = absurd (let i = sym h ∙ e in cc)

  pub lines : (n : ℕ) (k : Option ℕ) (es : List Event) (r : ℕ) (run : Run M N prog q n k (start_of q ∷ []) es r) → AreLines M N q (answers run) es
  lines n k es r run = lines_of M N prog q IsBestBranch best_children best_silent best_sound run (inl (gs, begun), tt)

pub flat_best : FlatBest
flat_best M N prog q n k es r gs o least ms c positive within scoped f run = answers_of M N positive within prog q gs o least ms c f scoped n k es r run

-- ---- the line

-- the cost of an assignment is that of its numbers
number_of : (vs : List ℕ) (a : Assignment) (x : ℕ) → has vs x ≡ true → number_in vs (map a vs) x ≡ a x
number_of [] a x h = absurd (true≢false (sym h))
number_of (v ∷ vs) a x h = elim (cases_Bool (v == x)) [
  | inl e ↦ rw e (ap a (eqb-true v x e))
  | inr e ↦ rw e (number_of vs a x (elim (or_cases (v == x) (has vs x) h) [ inl k ↦ absurd (true≢false (sym k ∙ e)) | inr k ↦ k ]))
]

cost_of : (ms : List Member) (r : Term) (c : Member) (a : Assignment) → as_member r ≡ Ok c → cost_fault ms r ≡ None → cost_in (open_ones ms) c (map a (open_ones ms)) ≡ cost_at a c
cost_of ms (Var x) c a e g = by_member (has (open_ones ms) x) refl g
  where
    by_member : (b : Bool) → has (open_ones ms) x ≡ b → cond b None (Some Parameter) ≡ None → cost_in (open_ones ms) c (map a (open_ones ms)) ≡ cost_at a c
    by_member true h i =
        let one : c ≡ Open x = (let j : Ok (Open x) ≡ Ok c = e in cc) in
        ap (λ d. cost_in (open_ones ms) d (map a (open_ones ms))) one ∙ ap pos (number_of (open_ones ms) a x h) ∙ ap (cost_at a) (sym one)
    by_member false h i = absurd (cc)
cost_of ms (Int z) c a e g =
    let one : c ≡ Known z = (let j : Ok (Known z) ≡ Ok c = e in cc) in
    ap (λ d. cost_in (open_ones ms) d (map a (open_ones ms))) one ∙ ap (cost_at a) (sym one)
cost_of ms (Atom b) c a e g = absurd (cc)
cost_of ms (Comp b ts) c a e g = absurd (cc)

good_same : (least : Bool) (z : ℤ) → IsAsGood least z z
good_same true z = omega (arith, ints)
good_same false z = omega (arith, ints)

better_good : (least : Bool) (z w : ℤ) → IsBetter least z w → IsAsGood least z w
better_good true z w h = omega (arith, ints)
better_good false z w h = omega (arith, ints)

never_better : (least : Bool) (z w : ℤ) → IsBetter least z w → w ≡ z → ⊥
never_better true z w h e = omega (arith, ints)
never_better false z w h e = omega (arith, ints)

order_after : {X : Type 0} (R : X → X → Type 0) (xs ys : List X) → InOrder R (xs ++ ys) → InOrder R ys
order_after R [] ys h = h
order_after R (x ∷ xs) ys h = order_after R xs ys h.1

no_lines : (M N : ℕ) (q : Query) (ls : List (List ℕ)) → EachLine M N q [] ls → ls ≡ []
no_lines M N q [] h = refl
no_lines M N q (l ∷ ls) h = absurd h

numbers_low : (n : ℕ) (xs : List ℕ) (x : ℕ) → NumbersBelow n xs → has xs x ≡ true → x < n
numbers_low n [] x h i = absurd (true≢false (sym i))
numbers_low n (y ∷ xs) x h i = elim (or_cases (y == x) (has xs x) i) [ inl e ↦ subst (λ z. z < n) (eqb-true y x e) h.0 | inr e ↦ numbers_low n xs x h.1 e ]

module _ (M N : ℕ) (prog : Program) (q : Query) (gs : List Goal) (o : Order) (least : Bool) (t r : Term) (ms : List Member) (c : Member) (member : as_member r ≡ Ok c) (listed : cost_fault ms r ≡ None)
    (shown : (v : ℕ) → has q.shown v ≡ true → has (open_ones ms) v ≡ true) (bs : List Branch) (es : List Event) (l : AreLines M N q bs es) where
  abbrev us : List ℕ
  us = open_ones ms

  abbrev worth : List ℕ → ℤ
  worth = cost_in us c

  abbrev Fits : List ℕ → Type 0
  Fits = IsAssigned M N gs us

  module _ (h : IsBestAnswer M N o least t us worth Fits (IsStart M N prog q o least t r) bs) where
    own : Fits h.numbers
    own = (each_after Fits h.before (h.numbers ∷ h.behind) h.allowed).0

    abbrev found : Assignment
    found = own.0

    own_cost : worth h.numbers ≡ cost_at found c
    own_cost = ap worth own.3 ∙ cost_of ms r c found member listed

    -- where another assignment stands
    among : (a : Assignment) → IsSatisfying M N gs a → Somewhere (λ ns. ns ≡ map a us) h.before ⊎ Somewhere (λ ns. ns ≡ map a us) (h.numbers ∷ h.behind)
    among a s = some_either (λ ns. ns ≡ map a us) h.before (h.numbers ∷ h.behind) (h.complete (map a us) (a, s.bounded, s.each, refl))

    cost_there : (a : Assignment) (ns : List ℕ) → ns ≡ map a us → worth ns ≡ cost_at a c
    cost_there a ns e = ap worth e ∙ cost_of ms r c a member listed

    is_best : (a : Assignment) → IsSatisfying M N gs a → IsAsGood least (cost_at found c) (cost_at a c)
    is_best a s = subst (λ z. IsAsGood least z (cost_at a c)) own_cost (by_place (among a s))
      where
        by_place : Somewhere (λ ns. ns ≡ map a us) h.before ⊎ Somewhere (λ ns. ns ≡ map a us) (h.numbers ∷ h.behind) → IsAsGood least (worth h.numbers) (cost_at a c)
        by_place (inl i) = each_at (λ ns. IsBetter least (worth h.numbers) (worth ns)) h.before (λ ns. ns ≡ map a us) (IsAsGood least (worth h.numbers) (cost_at a c)) h.earlier i
            (λ ns b e. subst (IsAsGood least (worth h.numbers)) (cost_there a ns e) (better_good least (worth h.numbers) (worth ns) b))
        by_place (inr (inl e)) = subst (IsAsGood least (worth h.numbers)) (cost_there a h.numbers e) (good_same least (worth h.numbers))
        by_place (inr (inr i)) = each_at (λ ns. IsAsGood least (worth h.numbers) (worth ns)) h.behind (λ ns. ns ≡ map a us) (IsAsGood least (worth h.numbers) (cost_at a c)) h.later i
            (λ ns b e. subst (IsAsGood least (worth h.numbers)) (cost_there a ns e) b)

    is_first : (a : Assignment) → IsSatisfying M N gs a → cost_at a c ≡ cost_at found c → (map a us ≡ map found us) ⊎ ComesFirst o us found a
    is_first a s same = by_place (among a s)
      where
        equal : (ns : List ℕ) → ns ≡ map a us → worth ns ≡ worth h.numbers
        equal ns e = cost_there a ns e ∙ same ∙ sym own_cost

        by_place : Somewhere (λ ns. ns ≡ map a us) h.before ⊎ Somewhere (λ ns. ns ≡ map a us) (h.numbers ∷ h.behind) → (map a us ≡ map found us) ⊎ ComesFirst o us found a
        by_place (inl i) = absurd (each_at (λ ns. IsBetter least (worth h.numbers) (worth ns)) h.before (λ ns. ns ≡ map a us) ⊥ h.earlier i
            (λ ns b e. never_better least (worth h.numbers) (worth ns) b (equal ns e)))
        by_place (inr (inl e)) = inl (sym e ∙ own.3)
        by_place (inr (inr i)) = inr (each_at (Comes o h.numbers) h.behind (λ ns. ns ≡ map a us) (ComesFirst o us found a) (order_after (Comes o) h.before (h.numbers ∷ h.behind) h.order).0 i
            (λ ns b e. subst (λ x. Comes o x (map a us)) own.3 (subst (Comes o h.numbers) e b)))

    one_line : l.lines ≡ assigned_line q found ∷ []
    one_line = lines_shown M N q us shown bs l.lines (found ∷ []) l.each (subst (λ ds. EachShows M N us ds (map found us ∷ [])) (sym h.alone) (subst (Shows M N us h.branch) own.3 h.shown, tt))

    pub best_line : IsBestLine M N prog q gs o least t r us c es
    best_line = record {
      found = found;
      last = l.last;
      events = l.events ∙ ap (λ ls. map Answer ls ++ l.last ∷ []) one_line;
      ends = l.ends;
      satisfies = record { bounded = own.1; each = own.2 };
      best = is_best;
      first = is_first;
      answered = bs;
      answer = h;
      numbers = own.3;
    }

  pub no_line : bs ≡ [] → (EndsWith End es → (ns : List ℕ) → Fits ns → ⊥) → (last : Event) × (es ≡ last ∷ []) × IsLast last × (last ≡ End → (a : Assignment) → IsSatisfying M N gs a → ⊥)
  no_line e none =
      let alone : es ≡ l.last ∷ [] = l.events ∙ ap (λ ls. map Answer ls ++ l.last ∷ []) (no_lines M N q l.lines (subst (λ ds. EachLine M N q ds l.lines) e l.each)) in
      (l.last, alone, l.ends, λ i a s. none (subst (EndsWith End) (sym alone) i) (map a us) (a, s.bounded, s.each, refl))

pub flat_best_events : FlatBestEvents
flat_best_events M N prog q n k es r gs o least ms c positive within scoped below f run =
    let a = answers_of M N positive within prog q gs o least ms c f scoped n k es r run in
    let l = lines M N positive within prog q gs o least ms c f scoped n k es r run in
    let shown : (v : ℕ) → has q.shown v ≡ true → has (open_ones ms) v ≡ true = λ v h. f.every v (numbers_low q.variables q.shown v below h) in
    elim a [
      | inl h ↦ inl (best_line M N prog q gs o least f.list f.cost ms c f.member f.listed shown (answers run) es l h)
      | inr h ↦ inr (no_line M N prog q gs o least f.list f.cost ms c f.member f.listed shown (answers run) es l h.0 h.1)
    ]
