-- What is ahead of branches of which some may not be consistent, goal by goal.
use Rattle.std.proofs.Common.{◌≡◌, ℕ, suc, ◌-◌, ◌≤◌, Bool, arith, length, List, [], ◌∷◌, ◌++◌, Option, Some, None, refl, ap, sym, ◌∙◌, subst, inl, inr}
use Rattle.std.proofs.Math.Nat.{suc_inj}
use Rattle.std.proofs.lemmas.List.{drop_at}
use Rattle.fd_language.specs.Term.{Term, Substitution}
use Rattle.fd_language.specs.Lists.{Each}
use Rattle.fd_language.specs.Monotonicity.{IsMonotone}
use Rattle.fd_model.specs.declared.kinds.Order.{Order}
use Rattle.fd_model.specs.ClosedFamilies.{AllPosted}
use Rattle.fd_model.specs.Leaves.{SoughtLeaf}
use Rattle.fd_language.specs.Family.{Family}
use Rattle.fd_model.specs.declared.kinds.QueryFault.{QueryFault}
use Rattle.fd_model.specs.Goal.{Goal, Branch, Program, Query, Event, Answer, Budget, Limit, Fault, End}
use Rattle.fd_model.specs.BranchViews.{IsConsistent, IsView}
use Rattle.fd_model.specs.Children.{Children, Offer, Faults, Gives, Seeks, Kept, KeptOffer, kept_by, last_of, look_in, sets_in}
use Rattle.fd_model.specs.Lines.{answer_line, says}
use Rattle.fd_model.specs.RunnablePrograms.{AreRunnable, IsRunnableProgram}
use Rattle.fd_model.specs.Run.{Run, over, last, fewer, any, spent, faulty, taken}
use Rattle.fd_model.proofs.Lemmas.{AllSound, offer_sound, kept_once, sought_once, sought_each}
use Rattle.branch_meaning.specs.RemainingEvents.{offered, IsFit, AreFit, Ahead}

-- the kept ones of two lists in a row
pub kept_both : (M N : ℕ) (xs ys cs ds : List Branch) → Kept M N xs cs → Kept M N ys ds → Kept M N (xs ++ ys) (cs ++ ds)
kept_both M N [] ys cs ds h k = subst (λ l. Kept M N ys (l ++ ds)) (sym h) k
kept_both M N (x ∷ xs) ys cs ds (inl h) k = inl (h.0, (h.1.0 ++ ds, ap (λ l. l ++ ds) h.1.1, kept_both M N xs ys h.1.0 ds h.1.2 k))
kept_both M N (x ∷ xs) ys cs ds (inr h) k = inr (h.0, kept_both M N xs ys cs ds h.1 k)

kept_first : (M N : ℕ) (b : Branch) (bs cs : List Branch) → IsConsistent M N b.equations b.posted → Kept M N (b ∷ bs) cs → (ds : List Branch) × (cs ≡ b ∷ ds) × Kept M N bs ds
kept_first M N b bs cs c (inl h) = h.1
kept_first M N b bs cs c (inr h) = absurd (h.0 c)

kept_later : (M N : ℕ) (b : Branch) (bs cs : List Branch) → (IsConsistent M N b.equations b.posted → ⊥) → Kept M N (b ∷ bs) cs → Kept M N bs cs
kept_later M N b bs cs c (inl h) = absurd (c h.0)
kept_later M N b bs cs c (inr h) = h.1

pub fit_both : (M : ℕ) (xs ys : List Branch) → AreFit M xs → AreFit M ys → AreFit M (xs ++ ys)
fit_both M [] ys h g = g
fit_both M (x ∷ xs) ys h g = (h.0, fit_both M xs ys h.1 g)

fit_from : (M : ℕ) (bs : List Branch) → AllSound M bs → AreFit M bs
fit_from M [] h = tt
fit_from M (b ∷ bs) h = ((h.0.goals, h.0.posted), fit_from M bs h.1)

same_first : (b c : Branch) (bs cs : List Branch) → b ∷ bs ≡ c ∷ cs → (b ≡ c) × (bs ≡ cs)
same_first b c bs cs e = ((cc), (cc))

no_goal : (b c : Branch) (bs cs : List Branch) (g : Goal) (rest : List Goal) → b.goals ≡ [] → b ∷ bs ≡ c ∷ cs → c.goals ≡ g ∷ rest → ⊥
no_goal b c bs cs g rest e f h = let same : b ≡ c = cc in let goals : b.goals ≡ c.goals = ap (λ (x : Branch). x.goals) same in cc

some_goal : (b c : Branch) (bs cs : List Branch) (g : Goal) (rest : List Goal) → b.goals ≡ g ∷ rest → b ∷ bs ≡ c ∷ cs → c.goals ≡ [] → ⊥
some_goal b c bs cs g rest e f h = let same : b ≡ c = cc in let goals : b.goals ≡ c.goals = ap (λ (x : Branch). x.goals) same in cc

same_goals : (b c : Branch) (bs cs : List Branch) (g h : Goal) (rest others : List Goal) → b.goals ≡ g ∷ rest → b ∷ bs ≡ c ∷ cs → c.goals ≡ h ∷ others → (b ≡ c) × (bs ≡ cs) × (g ≡ h) × (rest ≡ others)
same_goals b c bs cs g h rest others e f i =
    let same : b ≡ c = cc in let goals : b.goals ≡ c.goals = ap (λ (x : Branch). x.goals) same in
    let heads : g ∷ rest ≡ h ∷ others = sym e ∙ goals ∙ i in
    (same, (cc), (cc), (cc))

fault_from : (M N : ℕ) (o : Offer) (f : QueryFault) → KeptOffer M N o (Faults f) → o ≡ Faults f
fault_from M N (Faults g) f h = ap Faults h
fault_from M N (Gives cs) f h = absurd h
fault_from M N (Seeks b rest o least t c) f h = absurd h

-- a kept list in two parts
kept_split : (M N : ℕ) (xs ys cs : List Branch) → Kept M N (xs ++ ys) cs → (as' : List Branch) × (bs : List Branch) × (cs ≡ as' ++ bs) × Kept M N xs as' × Kept M N ys bs
kept_split M N [] ys cs h = ([], cs, refl, refl, h)
kept_split M N (x ∷ xs) ys cs (inl h) = let r = kept_split M N xs ys h.1.0 h.1.2 in (x ∷ r.0, r.1, h.1.1 ∙ ap (λ l. x ∷ l) r.2, inl (h.0, (r.0, refl, r.3)), r.4)
kept_split M N (x ∷ xs) ys cs (inr h) = let r = kept_split M N xs ys cs h.1 in (r.0, r.1, r.2, inr (h.0, r.3), r.4)

more_behind : (xs ys : List Branch) → length (xs ++ ys) - length ys ≡ length xs
more_behind [] ys = omega arith
more_behind (x ∷ xs) ys = let l = more_behind xs ys in let k = longer xs ys in omega (arith, l, k)
  where
    longer : (xs ys : List Branch) → length ys ≤ length (xs ++ ys)
    longer [] ys = omega arith
    longer (x ∷ xs) ys = let k = longer xs ys in omega (arith, k)

-- the last ones, as many as stand behind
pub last_behind : (xs ys : List Branch) → last_of (length ys) (xs ++ ys) ≡ ys
last_behind xs ys = drop_at xs ys (length (xs ++ ys) - length ys) (sym (more_behind xs ys))

module _ (M N : ℕ) (prog : Program) (q : Query) where
  -- what a run does with the goal of its first branch
  data Turned (n : ℕ) (k : Option ℕ) (b : Branch) (g : Goal) (rest : List Goal) (bs : List Branch) (es : List Event) (r : ℕ) : Type 0 where
    ran_out : n ≡ 0 → es ≡ Budget ∷ [] → r ≡ 0 → Turned n k b g rest bs es r
    faults : (m : ℕ) (f : QueryFault) (s : Substitution) (D : Family) → n ≡ suc m → Children M N prog (length bs) b g rest s D (Faults f) → es ≡ Fault f ∷ [] → r ≡ 1 → Turned n k b g rest bs es r
    goes_on : (m : ℕ) (cs : List Branch) (later : List Event) (j : ℕ) (s : Substitution) (D : Family) → n ≡ suc m
        → Children M N prog (length bs) b g rest s D (Gives cs) → es ≡ says s D b g ++ later → r ≡ suc j
        → Run M N prog q m k (cs ++ last_of (kept_by (length bs) g) bs) later j → Turned n k b g rest bs es r

  moved : (bs cs : List Branch) (b c : Branch) (g h : Goal) (rest others : List Goal) (s : Substitution) (D : Family) (o : Offer) → bs ≡ cs → b ≡ c → g ≡ h
      → rest ≡ others → Children M N prog (length bs) b g rest s D o → Children M N prog (length cs) c h others s D o
  moved bs cs b c g h rest others s D o l e f i k =
      subst (λ x. Children M N prog (length x) c h others s D o) l
      (subst (λ x. Children M N prog (length bs) x h others s D o) e (subst (λ x. Children M N prog (length bs) b x others s D o) f (subst (λ x. Children M N prog (length bs) b g x s D o) i k)))

  turned : {n : ℕ} {k : Option ℕ} {bs : List Branch} {es : List Event} {r : ℕ} → Run M N prog q n k bs es r
      → (b : Branch) (cs : List Branch) (g : Goal) (rest : List Goal) → bs ≡ b ∷ cs → b.goals ≡ g ∷ rest → Turned n k b g rest cs es r
  turned over b cs g rest e f = absurd (cc)
  turned (last {b = c} {bs = ds} s D h v) b cs g rest e f = absurd (no_goal c b ds cs g rest h e f)
  turned (fewer {b = c} {bs = ds} s D h v more) b cs g rest e f = absurd (no_goal c b ds cs g rest h e f)
  turned (any {b = c} {bs = ds} s D h v more) b cs g rest e f = absurd (no_goal c b ds cs g rest h e f)
  turned (spent h others i) b cs g rest e f = ran_out refl refl refl
  turned (faulty {n = m} {b = c} {bs = ds} {f = x} h others s D i kids) b cs g rest e f =
      let same = same_goals c b ds cs h g others rest i e f in
      faults m x s D refl (moved ds cs c b h g others rest s D (Faults x) same.1 same.0 same.2 same.3 kids) refl refl
  turned (taken {n = m} {k = k} {b = c} {bs = ds} {es = later} {r = j} h others s D xs i kids more) b cs g rest e f =
      let same = same_goals c b ds cs h g others rest i e f in
      goes_on m xs later j s D refl (moved ds cs c b h g others rest s D (Gives xs) same.1 same.0 same.2 same.3 kids)
      (ap (λ l. l ++ later) (ap (λ x. says s D x h) same.0 ∙ ap (says s D b) same.2)) refl
      (subst (λ l. Run M N prog q m k (xs ++ last_of (kept_by (length l) g) l) later j) same.1 (subst (λ i. Run M N prog q m k (xs ++ last_of (kept_by (length ds) i) ds) later j) same.2 more))

  -- what a run does with a first branch that has no goal
  data Answered (n : ℕ) (k : Option ℕ) (b : Branch) (bs : List Branch) (es : List Event) (r : ℕ) : Type 0 where
    limited : (s : Substitution) (D : Family) → k ≡ Some 1 → IsView M N b.equations b.posted s D → es ≡ Answer (answer_line q s D b) ∷ Limit ∷ [] → r ≡ 0 → Answered n k b bs es r
    next_fewer : (s : Substitution) (D : Family) (j : ℕ) (later : List Event) → k ≡ Some (suc (suc j)) → IsView M N b.equations b.posted s D
        → es ≡ Answer (answer_line q s D b) ∷ later → Run M N prog q n (Some (suc j)) bs later r → Answered n k b bs es r
    next_any : (s : Substitution) (D : Family) (later : List Event) → k ≡ None → IsView M N b.equations b.posted s D → es ≡ Answer (answer_line q s D b) ∷ later
        → Run M N prog q n None bs later r → Answered n k b bs es r

  view_moved : (b c : Branch) (s : Substitution) (D : Family) → b ≡ c → IsView M N b.equations b.posted s D → IsView M N c.equations c.posted s D
  view_moved b c s D e v = subst (λ (x : Branch). IsView M N x.equations x.posted s D) e v

  line_moved : (b c : Branch) (s : Substitution) (D : Family) (es : List Event) → b ≡ c → Answer (answer_line q s D b) ∷ es ≡ Answer (answer_line q s D c) ∷ es
  line_moved b c s D es e = ap (λ x. Answer (answer_line q s D x) ∷ es) e

  answered : {n : ℕ} {k : Option ℕ} {bs : List Branch} {es : List Event} {r : ℕ} → Run M N prog q n k bs es r → (b : Branch) (cs : List Branch) → bs ≡ b ∷ cs → b.goals ≡ [] → Answered n k b cs es r
  answered over b cs e f = absurd (cc)
  answered (last {b = c} {bs = ds} s D h v) b cs e f = let same = same_first c b ds cs e in limited s D refl (view_moved c b s D same.0 v) (line_moved c b s D (Limit ∷ []) same.0) refl
  answered (fewer {n = n} {k = k} {b = c} {bs = ds} {es = later} {r = r} s D h v more) b cs e f =
      let same = same_first c b ds cs e in next_fewer s D k later refl (view_moved c b s D same.0 v) (line_moved c b s D later same.0)
      (subst (λ x. Run M N prog q n (Some (suc k)) x later r) same.1 more)
  answered (any {n = n} {b = c} {bs = ds} {es = later} {r = r} s D h v more) b cs e f =
      let same = same_first c b ds cs e in next_any s D later refl (view_moved c b s D same.0 v) (line_moved c b s D later same.0) (subst (λ x. Run M N prog q n None x later r) same.1 more)
  answered (spent {b = c} {bs = ds} h others i) b cs e f = absurd (some_goal c b ds cs h others i e f)
  answered (faulty {b = c} {bs = ds} h others s D i kids) b cs e f = absurd (some_goal c b ds cs h others i e f)
  answered (taken {b = c} {bs = ds} h others s D xs i kids more) b cs e f = absurd (some_goal c b ds cs h others i e f)

  ended : {n : ℕ} {k : Option ℕ} {bs : List Branch} {es : List Event} {r : ℕ} → Run M N prog q n k bs es r → bs ≡ [] → (es ≡ End ∷ []) × (r ≡ 0)
  ended over e = (refl, refl)
  ended (last s D h v) e = absurd (cc)
  ended (fewer s D h v more) e = absurd (cc)
  ended (any s D h v more) e = absurd (cc)
  ended (spent h others i) e = absurd (cc)
  ended (faulty h others s D i kids) e = absurd (cc)
  ended (taken h others s D xs i kids more) e = absurd (cc)

  -- no branch is left
  pub ahead_none : (n : ℕ) (k : Option ℕ) (es : List Event) (r : ℕ) → Ahead M N prog q n k [] es r → (es ≡ End ∷ []) × (r ≡ 0)
  ahead_none n k es r a = ended a.run a.kept

  -- a branch that is not consistent is dropped, which costs nothing and says nothing
  pub ahead_drop : (n : ℕ) (k : Option ℕ) (b : Branch) (bs : List Branch) (es : List Event) (r : ℕ) → (IsConsistent M N b.equations b.posted → ⊥)
      → Ahead M N prog q n k (b ∷ bs) es r → Ahead M N prog q n k bs es r
  ahead_drop n k b bs es r gone a = record { fit = a.fit.1; branches = a.branches; kept = kept_later M N b bs a.branches gone a.kept; run = a.run }

  -- a goal of a consistent branch, where the budget is spent
  pub ahead_spent : (k : Option ℕ) (b : Branch) (g : Goal) (rest : List Goal) (bs : List Branch) (es : List Event) (r : ℕ)
      → IsConsistent M N b.equations b.posted → b.goals ≡ g ∷ rest → Ahead M N prog q 0 k (b ∷ bs) es r → (es ≡ Budget ∷ []) × (r ≡ 0)
  ahead_spent k b g rest bs es r c e a = let h = kept_first M N b bs a.branches c a.kept in by_turn (turned a.run b h.0 g rest h.1 e)
    where
      by_turn : {cs : List Branch} → Turned 0 k b g rest cs es r → (es ≡ Budget ∷ []) × (r ≡ 0)
      by_turn (ran_out f i j) = (i, j)
      by_turn (faults m f s D e kids i j) = absurd (cc)
      by_turn (goes_on m xs later j s D e kids i l more) = absurd (cc)

  module _ (runnable : IsRunnableProgram M prog) (n : ℕ) (k : Option ℕ) (b : Branch) (g : Goal) (rest : List Goal) (bs : List Branch) (es : List Event) (r : ℕ)
      (consistent : IsConsistent M N b.equations b.posted) (goals : b.goals ≡ g ∷ rest) (a : Ahead M N prog q (suc n) k (b ∷ bs) es r) (m : ℕ)
      (counted : (ds : List Branch) → Kept M N bs ds → length ds ≡ m) where
    first : (ds : List Branch) × (a.branches ≡ b ∷ ds) × Kept M N bs ds
    first = kept_first M N b bs a.branches consistent a.kept

    -- what is behind: the last ones of the others, as many as the goal keeps
    module _ (before behind : List Branch) (parts : bs ≡ before ++ behind) (rests : List Branch) (kept : Kept M N behind rests) (keeps : kept_by m g ≡ length rests) where
      left : last_of (kept_by (length first.0) g) first.0 ≡ rests
      left =
          let r = kept_split M N before behind first.0 (subst (λ l. Kept M N l first.0) parts first.2) in
          let one : r.1 ≡ rests = kept_once M N behind r.1 rests r.4 kept in
          let many : kept_by (length first.0) g ≡ length rests = ap (λ i. kept_by i g) (counted first.0 first.2) ∙ keeps in
          ap (λ c. last_of c first.0) many ∙ ap (last_of (length rests)) (r.2 ∙ ap (λ l. r.0 ++ l) one) ∙ last_behind r.0 rests

      fit_behind : (xs ys : List Branch) → AreFit M (xs ++ ys) → AreFit M ys
      fit_behind [] ys h = h
      fit_behind (x ∷ xs) ys h = fit_behind xs ys h.1

      behind_fit : AreFit M behind
      behind_fit = fit_behind before behind (subst (AreFit M) parts a.fit.1)

      runnable_goals : AreRunnable M (g ∷ rest)
      runnable_goals = subst (AreRunnable M) goals a.fit.0.0

      -- the run goes on with the consistent ones of the children and these
      goes : (kids : List Branch) (said : List Event) → AreFit M kids → (xs : List Branch) → Kept M N kids xs → (i : ℕ) (later : List Event) (j : ℕ) → n ≡ i
          → Run M N prog q i k (xs ++ last_of (kept_by (length first.0) g) first.0) later j → Ahead M N prog q n k (kids ++ behind) later j
      goes kids said fit xs h i later j e more = record {
        fit = fit_both M kids behind fit behind_fit;
        branches = xs ++ rests;
        kept = kept_both M N kids behind xs rests h kept;
        run = subst (λ x. Run M N prog q x k (xs ++ rests) later j) (sym e) (subst (λ l. Run M N prog q i k (xs ++ l) later j) left more);
      }

      -- Taking the goal, where it gives these branches: some may not be consistent.
      pub ahead_taken : (kids : List Branch) (said : List Event)
          → ((s : Substitution) (D : Family) → IsView M N b.equations b.posted s D → offered M N m prog b g rest s D ≡ Gives kids)
          → ((s : Substitution) (D : Family) → IsView M N b.equations b.posted s D → says s D b g ≡ said)
          → (later : List Event) × (j : ℕ) × (es ≡ said ++ later) × (r ≡ suc j) × Ahead M N prog q n k (kids ++ behind) later j
      ahead_taken kids said gives speaks = by_turn (turned a.run b first.0 g rest first.1 goals)
        where
          at : (s : Substitution) (D : Family) → IsView M N b.equations b.posted s D → offered M N (length first.0) prog b g rest s D ≡ Gives kids
          at s D v = ap (λ i. offered M N i prog b g rest s D) (counted first.0 first.2) ∙ gives s D v

          by_turn : Turned (suc n) k b g rest first.0 es r → (later : List Event) × (j : ℕ) × (es ≡ said ++ later) × (r ≡ suc j) × Ahead M N prog q n k (kids ++ behind) later j
          by_turn (ran_out e i j) = absurd (cc)
          by_turn (faults i f s D e c l j) = absurd (let w : Gives kids ≡ Faults f = sym (at s D c.view) ∙ fault_from M N _ f c.kept in cc)
          by_turn (goes_on i xs later j s D e c l o more) =
              let h : Kept M N kids xs = subst (λ f. KeptOffer M N f (Gives xs)) (at s D c.view) c.kept in
              let sound = offer_sound M N m b rest a.fit.0.1 runnable_goals.1 prog (look_in b s D) (sets_in b s D) g runnable runnable_goals.0 kids (gives s D c.view) in
              (later, j, l ∙ ap (λ l. l ++ later) (speaks s D c.view), o, goes kids said (fit_from M kids sound) xs h i later j (suc_inj e) more)

      -- Taking a goal that searches for the best leaf of a labelling: what is found.
      pub ahead_sought : (o : Order) (least : Bool) (t c : Term) (cs : List Branch) (said : List Event)
          → ((s : Substitution) (D : Family) → IsView M N b.equations b.posted s D → offered M N m prog b g rest s D ≡ Seeks b rest o least t c)
          → SoughtLeaf M N b rest o least t c cs → ((s : Substitution) (D : Family) → IsView M N b.equations b.posted s D → says s D b g ≡ said)
          → (later : List Event) × (j : ℕ) × (es ≡ said ++ later) × (r ≡ suc j) × Ahead M N prog q n k (cs ++ behind) later j
      ahead_sought o least t c cs said gives found speaks = by_turn (turned a.run b first.0 g rest first.1 goals)
        where
          at : (s : Substitution) (D : Family) → IsView M N b.equations b.posted s D → offered M N (length first.0) prog b g rest s D ≡ Seeks b rest o least t c
          at s D v = ap (λ i. offered M N i prog b g rest s D) (counted first.0 first.2) ∙ gives s D v

          each_fit : Each (λ d. IsFit M d × IsConsistent M N d.equations d.posted) cs
          each_fit = sought_each M N b rest o least t c cs (λ d. AllPosted (λ p. IsMonotone M p.range) d.posted × IsConsistent M N d.equations d.posted)
              (λ d. IsFit M d × IsConsistent M N d.equations d.posted)
              (λ d s D ms x i h v e p j ok. (h.0, ok)) (a.fit.0.1, consistent) (λ d h. ((runnable_goals.1, h.0), h.1)) found

          all_fit : (ds : List Branch) → Each (λ d. IsFit M d × IsConsistent M N d.equations d.posted) ds → AreFit M ds
          all_fit [] h = tt
          all_fit (d ∷ ds) h = (h.0.0, all_fit ds h.1)

          all_kept : (ds : List Branch) → Each (λ d. IsFit M d × IsConsistent M N d.equations d.posted) ds → Kept M N ds ds
          all_kept [] h = refl
          all_kept (d ∷ ds) h = inl (h.0.1, (ds, refl, all_kept ds h.1))

          by_turn : Turned (suc n) k b g rest first.0 es r → (later : List Event) × (j : ℕ) × (es ≡ said ++ later) × (r ≡ suc j) × Ahead M N prog q n k (cs ++ behind) later j
          by_turn (ran_out e i j) = absurd (cc)
          by_turn (faults i f s D e d l j) = absurd (let w : Seeks b rest o least t c ≡ Faults f = sym (at s D d.view) ∙ fault_from M N _ f d.kept in cc)
          by_turn (goes_on i xs later j s D e d l p more) =
              let h : SoughtLeaf M N b rest o least t c xs = subst (λ f. KeptOffer M N f (Gives xs)) (at s D d.view) d.kept in
              let one : xs ≡ cs = sought_once M N b rest o least t c xs cs h found in
              (later, j, l ∙ ap (λ l. l ++ later) (speaks s D d.view), p, goes cs said (all_fit cs each_fit) xs (subst (Kept M N cs) (sym one) (all_kept cs each_fit)) i later j (suc_inj e) more)

    -- and where it is a fault
    pub ahead_fault : (f : QueryFault) → ((s : Substitution) (D : Family) → IsView M N b.equations b.posted s D → offered M N m prog b g rest s D ≡ Faults f) → (es ≡ Fault f ∷ []) × (r ≡ 1)
    ahead_fault f faulting = by_turn (turned a.run b first.0 g rest first.1 goals)
      where
        at : (s : Substitution) (D : Family) → IsView M N b.equations b.posted s D → offered M N (length first.0) prog b g rest s D ≡ Faults f
        at s D v = ap (λ i. offered M N i prog b g rest s D) (counted first.0 first.2) ∙ faulting s D v

        by_turn : Turned (suc n) k b g rest first.0 es r → (es ≡ Fault f ∷ []) × (r ≡ 1)
        by_turn (ran_out e i j) = absurd (cc)
        by_turn (faults i h s D e c l j) = (let w : Faults h ≡ Faults f = sym (fault_from M N _ h c.kept) ∙ at s D c.view in let same : h ≡ f = cc in l ∙ ap (λ x. Fault x ∷ []) same, j)
        by_turn (goes_on i xs later j s D e c l o more) = absurd (subst (λ f. KeptOffer M N f (Gives xs)) (at s D c.view) c.kept)

  -- a branch without goals: its answer, and the last allowed one
  module _ (n : ℕ) (b : Branch) (bs : List Branch) (es : List Event) (r : ℕ) (consistent : IsConsistent M N b.equations b.posted) (goals : b.goals ≡ []) where
    -- the answer's line by the branch's view, and what comes behind
    pub record IsTold (later : List Event) : Type 0 where
      pub unifier : Substitution
      pub family : Family
      pub view : IsView M N b.equations b.posted unifier family
      pub says : es ≡ Answer (answer_line q unifier family b) ∷ later

    pub ahead_last : Ahead M N prog q n (Some 1) (b ∷ bs) es r → IsTold (Limit ∷ []) × (r ≡ 0)
    ahead_last a = let h = kept_first M N b bs a.branches consistent a.kept in by_answer (answered a.run b h.0 h.1 goals)
      where
        by_answer : {cs : List Branch} → Answered n (Some 1) b cs es r → IsTold (Limit ∷ []) × (r ≡ 0)
        by_answer (limited s D e v i j) = (record { unifier = s; family = D; view = v; says = i }, j)
        by_answer (next_fewer s D j later e v i more) = absurd (cc)
        by_answer (next_any s D later e v i more) = absurd (cc)

    pub ahead_fewer : (j : ℕ) → Ahead M N prog q n (Some (suc (suc j))) (b ∷ bs) es r → (later : List Event) × IsTold later × Ahead M N prog q n (Some (suc j)) bs later r
    ahead_fewer j a = let h = kept_first M N b bs a.branches consistent a.kept in by_answer h.0 h.2 (answered a.run b h.0 h.1 goals)
      where
        by_answer : (cs : List Branch) → Kept M N bs cs → Answered n (Some (suc (suc j))) b cs es r → (later : List Event) × IsTold later × Ahead M N prog q n (Some (suc j)) bs later r
        by_answer cs h (limited s D e v i l) = absurd (cc)
        by_answer cs h (next_fewer s D m later e v i more) =
            let same : m ≡ j = cc in
            (later, record { unifier = s; family = D; view = v; says = i }, record { fit = a.fit.1; branches = cs; kept = h; run = subst (λ x. Run M N prog q n (Some (suc x)) cs later r) same more })
        by_answer cs h (next_any s D later e v i more) = absurd (cc)

    pub ahead_any : Ahead M N prog q n None (b ∷ bs) es r → (later : List Event) × IsTold later × Ahead M N prog q n None bs later r
    ahead_any a = let h = kept_first M N b bs a.branches consistent a.kept in by_answer h.0 h.2 (answered a.run b h.0 h.1 goals)
      where
        by_answer : (cs : List Branch) → Kept M N bs cs → Answered n None b cs es r → (later : List Event) × IsTold later × Ahead M N prog q n None bs later r
        by_answer cs h (limited s D e v i l) = absurd (cc)
        by_answer cs h (next_fewer s D m later e v i more) = absurd (cc)
        by_answer cs h (next_any s D later e v i more) = (later, record { unifier = s; family = D; view = v; says = i }, record { fit = a.fit.1; branches = cs; kept = h; run = more })
