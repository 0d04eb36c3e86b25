-- The answers of a flat query, by its constraints in turn and then its labelling.
use Rattle.std.proofs.Common.{◌≡◌, ℕ, ◌<◌, ◌≤◌, true, cond, ◌==◌, ℤ, pos, List, [], ◌∷◌, ◌++◌, length, Option, ◌⊎◌, refl, ap, sym, ◌∙◌, subst, inl, inr, arith}
use Rattle.std.proofs.Common.{ltb, lt-ltb, le-ltb, eqb-true, eq-eqb, Ok}
use Rattle.std.proofs.lemmas.Bool.{cases_Bool}
use Rattle.fd_model.specs.declared.kinds.Order.{Order}
use Rattle.fd_language.specs.Term.{Term, Terms, Var, Int, Comp, Substitution, apply, apply_all, no_terms, term}
use Rattle.fd_language.specs.Unifier.{Equation, Unifies}
use Rattle.fd_language.specs.Family.{Family, has}
use Rattle.fd_model.specs.ClosedFamilies.{constrained}
use Rattle.fd_model.specs.Goal.{Goal, Label, Program, Branch}
use Rattle.fd_model.specs.BranchViews.{IsView}
use Rattle.fd_model.specs.declared.kinds.QueryFault.{QueryFault}
use Rattle.fd_model.specs.Lines.{says}
use Rattle.fd_model.specs.Children.{with_goals, Faults, Gives as GivesBranches, Kept, KeptOffer, look_in, Children, kept_by, last_of, offer, sets_in}
use Rattle.fd_model.specs.Labelling.{read_list, open_ones}
use Rattle.fd_model.specs.Members.{Member}
use Rattle.fd_model.proofs.GoalRows.{Rewritten, with_ranges, Gives, IsPlain}
use Rattle.fd_model.specs.Satisfaction.{Assignment}
use Rattle.fd_language.specs.Lists.{Each}
use Rattle.fd_model.specs.Answers.{Somewhere, Comes, AreAnswers}
use Rattle.fd_model.proofs.CutBranches.{last_none}
use Rattle.fd_model.proofs.Lists.{each_map, each_where}
use Rattle.fd_model.proofs.SearchAnswers.{Search, stops, finds, takes, found_by}
use Rattle.fd_model.proofs.ModelSubstitutions.{Heeds}
use Rattle.fd_model.proofs.PickedMembers.{IsInt, AllInts}
use Rattle.fd_model.proofs.Labels.{IsReady, Allows, leaf, part, whole, no_fault}
use Rattle.fd_model.proofs.LabelledAnswers.{answers_from, answers_map}
use Rattle.fd_model.proofs.FlatBranches.{IsGoalRow, IsStage, Assigned, kept_equations, plain, child, child_stage, into_child, out_child, child_live}

-- one step of a search
module _ (M N : ℕ) (prog : Program) where
  pub record IsTaken (b : Branch) (bs found left : List Branch) : Type 0 where
    pub goal : Goal
    pub rest : List Goal
    pub unifier : Substitution
    pub family : Family
    pub children : List Branch
    pub goals : b.goals ≡ goal ∷ rest
    pub given : Children M N prog (length bs) b goal rest unifier family (GivesBranches children)
    pub more : Search M N prog (children ++ last_of (kept_by (length bs) goal) bs) found left

  -- an answer, and the others behind it
  abbrev pub IsAnswer : Branch → List Branch → List Branch → List Branch → Type 0
  IsAnswer b bs found left = (b.goals ≡ []) × ((more : List Branch) × (found ≡ b ∷ more) × Search M N prog bs more left)

  abbrev pub Turned : Branch → List Branch → List Branch → List Branch → Type 0
  Turned b bs found left = ((found ≡ []) × (left ≡ b ∷ bs)) ⊎ (IsAnswer b bs found left ⊎ IsTaken b bs found left)

  pub turned : {l found left : List Branch} → Search M N prog l found left → (b : Branch) (bs : List Branch) → l ≡ b ∷ bs → Turned b bs found left
  turned stops b bs e = inl (refl, e)
  turned (finds {b = c} {bs = cs} {found = found} {left = left} s D e v more) b bs i =
      let one : c ≡ b = cc in
      let others : cs ≡ bs = cc in
      inr (inl (subst (λ d. d.goals ≡ []) one e, (found, ap (λ d. d ∷ found) one, subst (λ l. Search M N prog l found left) others more)))
  turned (takes {b = c} {bs = cs} {found = found} {left = left} g rest s D ks e k more) b bs i =
      let one : c ≡ b = cc in
      let others : cs ≡ bs = cc in
      inr (inr (record {
        goal = g;
        rest = rest;
        unifier = s;
        family = D;
        children = ks;
        goals = subst (λ d. d.goals ≡ g ∷ rest) one e;
        given = subst (λ l. Children M N prog (length l) b g rest s D (GivesBranches ks)) others (subst (λ d. Children M N prog (length cs) d g rest s D (GivesBranches ks)) one k);
        more = subst (λ l. Search M N prog (ks ++ last_of (kept_by (length l) g) l) found left) others more;
      }))

  pub nothing : {l found left : List Branch} → Search M N prog l found left → l ≡ [] → (found ≡ []) × (left ≡ [])
  nothing stops e = (refl, e)
  nothing (finds s D e v more) i = absurd (cc)
  nothing (takes g rest s D ks e k more) i = absurd (cc)

-- the identity
mutual
  unchanged : (t : Term) → apply (λ x. Var x) t ≡ t
  unchanged (Comp f ts) = ap (Comp f) (all_unchanged ts)
  unchanged _ = refl

  all_unchanged : (ts : Terms) → apply_all (λ x. Var x) ts ≡ ts
  all_unchanged no_terms = refl
  all_unchanged (term t ts) = let a = unchanged t in let b = all_unchanged ts in cc

given_by : (u : Substitution) (x : ℕ) (es : List Equation) → Unifies u es → Somewhere (Gives x) es → IsInt (u x)
given_by u x [] h g = absurd g
given_by u x (e ∷ es) h (inl g) = (g.1.0, sym (ap (apply u) g.0) ∙ h.0 ∙ ap (apply u) g.1.1)
given_by u x (e ∷ es) h (inr g) = given_by u x es h.1 g

module _ (M N : ℕ) (within : N ≤ M) (prog : Program) (final : Goal) (o : Order) (t : Term) (ms : List Member) (nv : ℕ) (Holds : Assignment → Goal → Type 0) (IsGood : Goal → Type 0)
    (every : (x : ℕ) → x < nv → has (open_ones ms) x ≡ true) (none : (x : ℕ) → has (open_ones ms) x ≡ true → x < nv) (listed : read_list t ≡ Ok ms)
    (goal_row : (m : ℕ) (b : Branch) (g : Goal) (rest : List Goal) (look : Substitution) (sets : ℕ → Option (List ℕ)) → IsGood g → nv ≤ b.fresh → IsPlain N (open_ones ms) look
    → (w : Rewritten) × (offer M N m prog look sets b g rest ≡ GivesBranches (with_ranges b rest w ∷ [])) × IsGoalRow M N b.fresh (open_ones ms) look (λ a. Holds a g) w)
    (depends : (h : Goal) (a e : Assignment) → IsGood h → ((y : ℕ) → has (open_ones ms) y ≡ true → a y ≡ e y) → Holds a h → Holds e h) where
  abbrev vs : List ℕ
  vs = open_ones ms

  abbrev Stage : Branch → List Goal → Type 0
  Stage b gs = IsStage M N within prog final vs nv Holds IsGood every none b gs

  abbrev Given : Branch → List Goal → List ℕ → Type 0
  Given b gs ns = Assigned M N within prog final vs nv Holds IsGood every none b gs ns

  abbrev pub itself : Substitution
  itself x = Var x

  pub read_itself : read_list (apply itself t) ≡ Ok ms
  read_itself = ap read_list (unchanged t) ∙ listed

  unfoldable zero_at : ℕ → Substitution → Substitution
  zero_at y s x = cond (x == y) (Int (pos 0)) (s x)

  zero_there : (y : ℕ) (s : Substitution) → zero_at y s y ≡ Int (pos 0)
  unfolding zero_at
  zero_there y s = rw (eq-eqb y y refl) refl

  zero_other : (y x : ℕ) (s : Substitution) → (x ≡ y → ⊥) → zero_at y s x ≡ s x
  unfolding zero_at
  zero_other y x s h = elim (cases_Bool (x == y)) [ inl e ↦ absurd (h (eqb-true x y e)) | inr e ↦ rw e refl ]

  -- where only the labelling is left
  module _ (b : Branch) (stage : Stage b []) where
    covered_by : (w : ℕ) → has (constrained b.posted) w ≡ true → (has stage.new w ≡ true) ⊎ ((u : Substitution) → Heeds M N b.equations b.posted u → AllInts u vs → IsInt (u w))
    covered_by w c = elim (stage.kinds w c) [
      | inl k ↦ inr (λ u h ints. ints w k)
      | inr k ↦ elim k [ inl i ↦ inl i | inr i ↦ inr (λ u h ints. given_by u w b.equations h.unifies i) ]
    ]

    inside_by : (y : ℕ) (z : ℤ) → has vs y ≡ true → ((u : Substitution) → Unifies u b.equations → u y ≡ Int z) → (n : ℕ) × (n ≤ N) × (z ≡ pos n)
    inside_by y z h all =
        let s = stage.consistent.unifier in
        let low = none y h in
        let e = all (zero_at y s) (kept_equations M N within prog final vs nv Holds IsGood every none b.posted (zero_at y s) s
        (λ x l c. zero_other y x s (λ k. omega arith)) b.equations stage.equated stage.consistent.general.unifies) in
        (0, omega arith, let i = sym e ∙ zero_there y s in let j : z ≡ pos 0 = cc in j)

    -- the query's variables as zeros
    unfoldable zeros : Substitution
    zeros x = cond (ltb x nv) (Int (pos 0)) (stage.consistent.unifier x)

    zeros_low : (x : ℕ) → x < nv → zeros x ≡ Int (pos 0)
    unfolding zeros
    zeros_low x h = rw (lt-ltb x nv h) refl

    zeros_high : (x : ℕ) → nv ≤ x → zeros x ≡ stage.consistent.unifier x
    unfolding zeros
    zeros_high x h = rw (le-ltb x nv h) refl

    -- with the labelling as its only goal the branch is one of a labelling
    pub stage_ready : IsReady M N within prog o t ms itself stage.new read_itself (with_goals b (Label o t ∷ []))
    stage_ready = record {
      goals = inr refl;
      consistent = stage.consistent;
      follows = λ u h y. refl;
      settles = stage.settles;
      covered = covered_by;
      inside = inside_by;
      ground = (
        zeros,
        kept_equations M N within prog final vs nv Holds IsGood every none b.posted zeros stage.consistent.unifier (λ x l c. zeros_high x l)
            b.equations stage.equated stage.consistent.general.unifies,
        λ y h. (pos 0, zeros_low y (none y h)),
      );
      finished = λ e. absurd (cc);
    }

  -- What is found from a branch, by what it allows: nothing yet, nothing at all, and what doesn't depend on how what is allowed is said. Reached holds of each
  -- branch on the way, and ended says what comes of the last goal.
  module _ (Result : (List ℕ → Type 0) → List Branch → List Branch → Type 0) (stopped : (A : List ℕ → Type 0) (b : Branch) → Result A [] (b ∷ []))
      (barren : (A : List ℕ → Type 0) (left : List Branch) → ((ns : List ℕ) → A ns → ⊥) → Result A [] left)
      (mapped : (A B : List ℕ → Type 0) → ((ns : List ℕ) → A ns → B ns) → ((ns : List ℕ) → B ns → A ns) → (found left : List Branch) → Result A found left → Result B found left)
      (Reached : Branch → Type 0) (goes : (m : ℕ) (b : Branch) (g : Goal) (rest : List Goal) (s : Substitution) (D : Family) (cs : List Branch) → Reached b
      → b.goals ≡ g ∷ rest → Children M N prog m b g rest s D (GivesBranches cs) → Each Reached cs)
      (ended : (b : Branch) → Stage b [] → Reached b → (found left : List Branch) → Search M N prog (b ∷ []) found left → Result (Given b []) found left) where
    stopped_at : (A : List ℕ → Type 0) (b : Branch) (found left : List Branch) → found ≡ [] → left ≡ b ∷ [] → Result A found left
    stopped_at A b found left e f = subst (λ l. Result A l left) (sym e) (subst (λ l. Result A [] l) (sym f) (stopped A b))

    barren_at : (A : List ℕ → Type 0) (found left : List Branch) → found ≡ [] → ((ns : List ℕ) → A ns → ⊥) → Result A found left
    barren_at A found left e none = subst (λ l. Result A l left) (sym e) (barren A left none)

    module _ (b : Branch) (g : Goal) (gs : List Goal) (stage : Stage b (g ∷ gs)) (reach : Reached b) (found left : List Branch) (later : (c : Branch)
        → Stage c gs → Reached c → Search M N prog (c ∷ []) found left → Result (Given c gs) found left) where
      by_kept : (s : Substitution) (D : Family) (v : IsView M N b.equations b.posted s D) (w : Rewritten) (row : IsGoalRow M N b.fresh vs (look_in b s D) (λ a. Holds a g) w) (cs : List Branch)
          → Each Reached cs → Kept M N (with_ranges b (gs ++ final ∷ []) w ∷ []) cs → Search M N prog (cs ++ []) found left → Result (Given b (g ∷ gs)) found left
      by_kept s D v w row cs each (inl k) more =
          let c = child M N within prog final vs nv Holds IsGood every none b g gs stage s D v w row in
          let one : cs ≡ c ∷ [] = k.1.1 ∙ ap (λ l. c ∷ l) k.1.2 in
          let r = later c (child_stage M N within prog final vs nv Holds IsGood every none b g gs stage s D v w row k.0) (subst (Each Reached) one each).0
          (subst (λ l. Search M N prog (l ++ []) found left) one more) in
          let there = out_child M N within prog final vs nv Holds IsGood every none b g gs stage s D v w row in
          let back = into_child M N within prog final vs nv Holds IsGood every none b g gs stage s D v w row depends in
          mapped (Given c gs) (Given b (g ∷ gs)) there back found left r
      by_kept s D v w row cs each (inr k) more =
          let n = nothing M N prog more (ap (λ l. l ++ []) k.1) in
          barren_at (Given b (g ∷ gs)) found left n.0
          (λ ns h. k.0 (child_live M N within prog final vs nv Holds IsGood every none b g gs stage s D v w row ns
          (into_child M N within prog final vs nv Holds IsGood every none b g gs stage s D v w row depends ns h)))

      by_turn : Turned M N prog b [] found left → Result (Given b (g ∷ gs)) found left
      by_turn (inl h) = stopped_at (Given b (g ∷ gs)) b found left h.0 h.1
      by_turn (inr (inl h)) = absurd (let k = sym h.0 ∙ stage.goals in cc)
      by_turn (inr (inr h)) =
          let heads : h.goal ∷ h.rest ≡ g ∷ (gs ++ final ∷ []) = sym h.goals ∙ stage.goals in
          let one : h.goal ≡ g = cc in
          let others : h.rest ≡ gs ++ final ∷ [] = cc in
          let look = look_in b h.unifier h.family in
          let sets = sets_in b h.unifier h.family in
          let kept : KeptOffer M N (offer M N 0 prog look sets b g (gs ++ final ∷ [])) (GivesBranches h.children) =
          subst (λ r. KeptOffer M N (offer M N 0 prog look sets b g r) (GivesBranches h.children)) others
          (subst (λ f. KeptOffer M N (offer M N 0 prog look sets b f h.rest) (GivesBranches h.children)) one h.given.kept) in
          let r = goal_row 0 b g (gs ++ final ∷ []) look sets stage.good.0 stage.low (plain M N within prog final vs nv Holds IsGood every none b (g ∷ gs) stage h.unifier h.family h.given.view) in
          by_kept h.unifier h.family h.given.view r.0 r.2 h.children (goes 0 b h.goal h.rest h.unifier h.family h.children reach h.goals h.given)
          (subst (λ f. KeptOffer M N f (GivesBranches h.children)) r.1 kept)
          (subst (λ l. Search M N prog (h.children ++ l) found left) (last_none (kept_by 0 h.goal)) h.more)

    pub flat_search : (gs : List Goal) (b : Branch) → Stage b gs → Reached b → (found left : List Branch) → Search M N prog (b ∷ []) found left → Result (Given b gs) found left
    flat_search [] b stage reach found left search = ended b stage reach found left search
    flat_search (g ∷ gs) b stage reach found left search = by_turn b g gs stage reach found left (λ c h r k. flat_search gs c h r found left k) (turned M N prog search b [] refl)

  module _ (m : ℕ) (b : Branch) (g : Goal) (rest : List Goal) (s : Substitution) (D : Family) (h : Goal) (gs : List Goal) (stage : Stage b (h ∷ gs))
      (e : b.goals ≡ g ∷ rest) (view : IsView M N b.equations b.posted s D) where
    heads : g ∷ rest ≡ h ∷ (gs ++ final ∷ [])
    heads = sym e ∙ stage.goals

    one : g ≡ h
    one = let k = heads in cc

    pub row : (w : Rewritten) × (offer M N m prog (look_in b s D) (sets_in b s D) b h (gs ++ final ∷ []) ≡ GivesBranches
        (with_ranges b (gs ++ final ∷ []) w ∷ [])) × IsGoalRow M N b.fresh vs (look_in b s D) (λ a. Holds a h) w
    row = goal_row m b h (gs ++ final ∷ []) (look_in b s D) (sets_in b s D) stage.good.0 stage.low (plain M N within prog final vs nv Holds IsGood every none b (h ∷ gs) stage s D view)

    pub offered : offer M N m prog (look_in b s D) (sets_in b s D) b g rest ≡ GivesBranches (with_ranges b (gs ++ final ∷ []) row.0 ∷ [])
    offered =
        let others : rest ≡ gs ++ final ∷ [] = (let k = heads in cc) in
        ap (λ f. offer M N m prog (look_in b s D) (sets_in b s D) b f rest) one ∙ ap (λ r. offer M N m prog (look_in b s D) (sets_in b s D) b h r) others ∙ row.1

    -- the only child is the next stage, where it is consistent
    pub stage_kids : (P : Branch → Type 0) → ((c : Branch) → Stage c gs → P c) → (cs : List Branch) → Kept M N (with_ranges b (gs ++ final ∷ []) row.0 ∷ []) cs → Each P cs
    stage_kids P next cs (inl k) = subst (Each P) (sym (k.1.1 ∙ ap (λ l. with_ranges b (gs ++ final ∷ []) row.0 ∷ l) k.1.2))
        (next _ (child_stage M N within prog final vs nv Holds IsGood every none b h gs stage s D view row.0 row.2 k.0), tt)
    stage_kids P next cs (inr k) = subst (Each P) (sym k.1) tt

  -- where the last goal is the labelling
  module _ (is : final ≡ Label o t) where
    abbrev pub Labelled : (List ℕ → Type 0) → List Branch → List Branch → Type 0
    Labelled A found left = AreAnswers M N o vs A found (left ≡ [])

    label_stopped : (A : List ℕ → Type 0) (b : Branch) → Labelled A [] (b ∷ [])
    label_stopped A b = record { values = []; shown = tt; allowed = tt; order = tt; missing = λ ns h. inr tt; complete = λ k. absurd (cc) }

    label_barren : (A : List ℕ → Type 0) (left : List Branch) → ((ns : List ℕ) → A ns → ⊥) → Labelled A [] left
    label_barren A left no_one = record { values = []; shown = tt; allowed = tt; order = tt; missing = λ ns h. absurd (no_one ns h); complete = λ k ns h. absurd (no_one ns h) }

    label_mapped : (A B : List ℕ → Type 0) → ((ns : List ℕ) → A ns → B ns) → ((ns : List ℕ) → B ns → A ns) → (found left : List Branch) → Labelled A found left → Labelled B found left
    label_mapped A B there back found left r = answers_map M N o vs A B (left ≡ []) (left ≡ []) there back (λ e. e) found r

    own_ready : (b : Branch) (stage : Stage b []) → IsReady M N within prog o t ms itself stage.new read_itself b
    own_ready b stage = subst (λ gs. IsReady M N within prog o t ms itself stage.new read_itself (with_goals b gs)) (sym (stage.goals ∙ ap (λ g. g ∷ []) is)) (stage_ready b stage)

    labelled : (b : Branch) → Stage b [] → Unit {0} → (found left : List Branch) → Search M N prog (b ∷ []) found left → Labelled (Given b []) found left
    labelled b stage reach found left search =
        let Good = IsReady M N within prog o t ms itself stage.new read_itself in
        let Allowed = Allows M N within prog o t ms itself stage.new read_itself in
        let f = found_by M N prog vs (Comes o) Good Allowed (leaf M N within prog o t ms itself stage.new read_itself)
        (part M N within prog o t ms itself stage.new read_itself) (whole M N within prog o t ms itself stage.new read_itself) search (
          own_ready b stage,
          tt,
        ) (tt, tt) in
        let there : (ns : List ℕ) → Allowed b ns → Given b [] ns = λ ns h. (h.0, h.1, tt, h.2) in
        let back : (ns : List ℕ) → Given b [] ns → Allowed b ns = λ ns h. (h.0, h.1, h.3) in
        answers_map M N o vs (Allowed b) (Given b []) (left ≡ []) (left ≡ []) there back (λ e. e) found (answers_from M N prog o vs Good Allowed b found left f)

    pub label_search : (gs : List Goal) (b : Branch) → Stage b gs → (found left : List Branch) → Search M N prog (b ∷ []) found left → AreAnswers M N o vs (Given b gs) found (left ≡ [])
    label_search gs b stage found left search = flat_search Labelled label_stopped label_barren label_mapped (λ c. Unit {0})
        (λ m c g rest s D cs r e k. each_where (λ d. Unit {0}) cs (λ d i. tt)) labelled gs b stage tt found left search

    -- the branches of a flat query
    abbrev pub IsFlatBranch : Branch → Type 0
    IsFlatBranch b = ((gs : List Goal) × Stage b gs) ⊎ ((us : List ℕ) × IsReady M N within prog o t ms itself us read_itself b)

    pub start_flat : (b : Branch) (gs : List Goal) → Stage b gs → IsFlatBranch b
    start_flat b gs stage = inl (gs, stage)

    ready_children : (m : ℕ) (b : Branch) (g : Goal) (rest : List Goal) (s : Substitution) (D : Family) (cs : List Branch) (us : List ℕ)
        → IsReady M N within prog o t ms itself us read_itself b → b.goals ≡ g ∷ rest → Children M N prog m b g rest s D (GivesBranches cs)
        → Each IsFlatBranch cs
    ready_children m b g rest s D cs us ready e c = each_map (IsReady M N within prog o t ms itself us read_itself) IsFlatBranch (λ d h. inr (us, h)) cs
        (part M N within prog o t ms itself us read_itself m b g rest s D cs ready e c).good

    pub flat_children : (m : ℕ) (b : Branch) (g : Goal) (rest : List Goal) (s : Substitution) (D : Family) (cs : List Branch) → IsFlatBranch b
        → b.goals ≡ g ∷ rest → Children M N prog m b g rest s D (GivesBranches cs) → Each IsFlatBranch cs
    flat_children m b g rest s D cs (inl ([], stage)) e c = ready_children m b g rest s D cs stage.new (own_ready b stage) e c
    flat_children m b g rest s D cs (inl (h ∷ gs, stage)) e c = stage_kids m b g rest s D h gs stage e c.view IsFlatBranch (λ d i. inl (gs, i)) cs
        (subst (λ f. KeptOffer M N f (GivesBranches cs)) (offered m b g rest s D h gs stage e c.view) c.kept)
    flat_children m b g rest s D cs (inr h) e c = ready_children m b g rest s D cs h.0 h.1 e c

    pub flat_sound : (m : ℕ) (b : Branch) (g : Goal) (rest : List Goal) (s : Substitution) (D : Family) (f : QueryFault) → IsFlatBranch b → b.goals ≡ g ∷ rest
        → Children M N prog m b g rest s D (Faults f) → ⊥
    flat_sound m b g rest s D f (inl ([], stage)) e c = no_fault M N within prog o t ms itself stage.new read_itself m b g rest s D f (own_ready b stage) e c
    flat_sound m b g rest s D f (inl (h ∷ gs, stage)) e c = subst (λ r. KeptOffer M N r (Faults f)) (offered m b g rest s D h gs stage e c.view) c.kept
    flat_sound m b g rest s D f (inr h) e c = no_fault M N within prog o t ms itself h.0 read_itself m b g rest s D f h.1 e c

    module _ (quiet : (g : Goal) → IsGood g → (b : Branch) (s : Substitution) (D : Family) → says s D b g ≡ []) where
      label_silent : (b : Branch) (g : Goal) (rest : List Goal) (s : Substitution) (D : Family) → g ∷ rest ≡ Label o t ∷ [] → says s D b g ≡ []
      label_silent b g rest s D e = let k : g ≡ Label o t = cc in ap (says s D b) k

      ready_silent : (b : Branch) (g : Goal) (rest : List Goal) (s : Substitution) (D : Family) → (b.goals ≡ []) ⊎ (b.goals ≡ Label o t ∷ []) → b.goals ≡ g ∷ rest → says s D b g ≡ []
      ready_silent b g rest s D (inl h) e = absurd (let k = sym e ∙ h in cc)
      ready_silent b g rest s D (inr h) e = label_silent b g rest s D (sym e ∙ h)

      pub flat_silent : (b : Branch) (g : Goal) (rest : List Goal) (s : Substitution) (D : Family) → IsFlatBranch b → b.goals ≡ g ∷ rest → says s D b g ≡ []
      flat_silent b g rest s D (inl ([], stage)) e = ready_silent b g rest s D (inr (stage.goals ∙ ap (λ g. g ∷ []) is)) e
      flat_silent b g rest s D (inl (h ∷ gs, stage)) e = let k = sym e ∙ stage.goals in let same : g ≡ h = cc in ap (says s D b) same ∙ quiet h stage.good.0 b s D
      flat_silent b g rest s D (inr h) e = ready_silent b g rest s D h.1.goals e
