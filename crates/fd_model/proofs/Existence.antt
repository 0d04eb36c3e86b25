-- Each runnable branch has its children, and each list of consistent runnable branches has a run.
use Rattle.std.proofs.Common.{◌≡◌, ℕ, zero, suc, ◌+◌, ◌-◌, Bool, cond, map, drop, length, true, false, List, [], ◌∷◌, ◌++◌, Option, Some, None, refl, sym, ◌∙◌}
use Rattle.std.proofs.Common.{subst, inl, inr, Result, Ok, Err}
use Rattle.std.proofs.lemmas.Bool.{true≢false}
use Rattle.fd_language.specs.Term.{Term, Var, Substitution, apply}
use Rattle.fd_language.specs.Family.{Family}
use Rattle.fd_language.specs.Range.{Range}
use Rattle.fd_model.specs.Builtins.{Finding, faulted, decided, equated, finding}
use Rattle.fd_model.specs.Goal.{Goal, Goals, no_goals, goal, listed, True, Fail, Unify, Post, Constrain, Label, Call, Either, Builtin, Cut, If, IfElse, Not}
use Rattle.fd_model.specs.Goal.{Best, marked, marked_goals, marked_all, Clause, Query, Branch, Program, Event, Answer, End, Budget, Limit, Fault, start_of}
use Rattle.fd_model.specs.ClosedFamilies.{AllPosted}
use Rattle.fd_language.specs.Monotonicity.{IsMonotone}
use Rattle.fd_model.specs.Laws.{OneRun}
use Rattle.fd_model.specs.declared.kinds.Order.{Order}
use Rattle.fd_model.specs.Labelling.{read_list, values_by, pick}
use Rattle.fd_model.specs.Members.{Member}
use Rattle.fd_model.specs.BranchViews.{IsConsistent, IsView}
use Rattle.fd_model.specs.Posting.{post, Found, offends, posts}
use Rattle.fd_model.specs.Renaming.{rename_goal, rename_goals}
use Rattle.fd_model.specs.declared.kinds.QueryFault.{QueryFault}
use Rattle.fd_model.specs.declared.kinds.ConstraintKind.{ConstraintKind}
use Rattle.fd_model.specs.LinearRows.{Expansion}
use Rattle.fd_model.specs.ConstraintExpansion.{constrain, arguments}
use Rattle.fd_model.proofs.RowsMonotone.{monotone_rows}
use Rattle.fd_model.specs.Children.{Offer, Faults, Gives, Seeks, by_test, by_cost, cost_fault, unless_fault, kept_by, last_of, Kept, KeptOffer, offer, look_in}
use Rattle.fd_model.specs.Children.{sets_in, by_value, by_pick, by_listing, with_goals, with_equations, with_range, with_expansion, by_clauses, by_clause}
use Rattle.fd_model.specs.Children.{by_post, by_constraint, by_finding, fits_head}
use Rattle.fd_model.specs.Lines.{answer_line, says}
use Rattle.fd_model.specs.RunnablePrograms.{IsRunnable, AllRunnable, AreRunnable, ClausesRunnable, IsRunnableProgram}
use Rattle.fd_language.specs.Check.{range_fits}
use Rattle.fd_model.specs.Run.{IsLimit, Run, over, last, fewer, any, spent, faulty, taken}
use Rattle.fd_language.proofs.Lemmas.{range_fits_same}
use Rattle.fd_model.proofs.AcceptedRanges.{posted_monotone}
use Rattle.fd_model.proofs.ConsistentBranches.{decide_consistent, has_view}
use Rattle.fd_language.specs.Lists.{Each}
use Rattle.fd_model.specs.Leaves.{SoughtLeaf}
use Rattle.fd_model.proofs.Leaves.{sought_each}
use Rattle.fd_model.proofs.LeafExistence.{sought_there}
use Rattle.fd_model.proofs.UniqueRuns.{run_once}
use Rattle.fd_model.proofs.AddedRanges.{posted_both}

-- what a branch keeps: its goals are runnable and its posted ranges monotone
pub record IsSound (M : ℕ) (b : Branch) : Type 0 where
  pub goals : AreRunnable M b.goals
  pub posted : AllPosted (λ p. IsMonotone M p.range) b.posted

abbrev pub AllSound : ℕ → List Branch → Type 0
AllSound M [] = Unit {0}
AllSound M (b ∷ bs) = IsSound M b × AllSound M bs

runnable_both : (M : ℕ) (gs hs : List Goal) → AreRunnable M gs → AreRunnable M hs → AreRunnable M (gs ++ hs)
runnable_both M [] hs h g = g
runnable_both M (x ∷ gs) hs h g = (h.0, runnable_both M gs hs h.1 g)

pub runnable_listed : (M : ℕ) (gs : Goals) → AllRunnable M gs → AreRunnable M (listed gs)
runnable_listed M no_goals h = tt
runnable_listed M (goal g gs) h = (h.0, runnable_listed M gs h.1)

mutual
  runnable_renamed : (M : ℕ) (f : ℕ → ℕ) (g : Goal) → IsRunnable M g → IsRunnable M (rename_goal f g)
  runnable_renamed M f (Post t r) h = range_fits_same M f r true ∙ h
  runnable_renamed M f (Constrain c t) h = h
  runnable_renamed M f (Label o t) h = h
  runnable_renamed M f (Either a b) h = (goals_renamed M f a h.0, goals_renamed M f b h.1)
  runnable_renamed M f (Builtin k t) h = h
  runnable_renamed M f (If test holds) h = (goals_renamed M f test h.0, goals_renamed M f holds h.1)
  runnable_renamed M f (IfElse test holds other) h = (goals_renamed M f test h.0, goals_renamed M f holds h.1, goals_renamed M f other h.2)
  runnable_renamed M f (Not gs) h = goals_renamed M f gs h
  runnable_renamed _ f _ h = tt

  goals_renamed : (M : ℕ) (f : ℕ → ℕ) (gs : Goals) → AllRunnable M gs → AllRunnable M (rename_goals f gs)
  goals_renamed M f no_goals h = tt
  goals_renamed M f (goal g gs) h = (runnable_renamed M f g h.0, goals_renamed M f gs h.1)

mutual
  runnable_marked : (M m : ℕ) (g : Goal) → IsRunnable M g → IsRunnable M (marked m g)
  runnable_marked M m True h = h
  runnable_marked M m Fail h = h
  runnable_marked M m (Unify s t) h = h
  runnable_marked M m (Post t r) h = h
  runnable_marked M m (Constrain c t) h = h
  runnable_marked M m (Label o t) h = h
  runnable_marked M m (Call t) h = h
  runnable_marked M m (Either a b) h = (goals_marked M m a h.0, goals_marked M m b h.1)
  runnable_marked M m (Builtin k t) h = h
  runnable_marked M m (Cut None) h = h
  runnable_marked M m (Cut (Some c)) h = h
  runnable_marked M m (If test holds) h = (h.0, goals_marked M m holds h.1)
  runnable_marked M m (IfElse test holds other) h = (h.0, goals_marked M m holds h.1, goals_marked M m other h.2)
  runnable_marked M m (Not gs) h = h
  runnable_marked M m (Best o least t c) h = h

  goals_marked : (M m : ℕ) (gs : Goals) → AllRunnable M gs → AllRunnable M (marked_goals m gs)
  goals_marked M m no_goals h = tt
  goals_marked M m (goal g gs) h = (runnable_marked M m g h.0, goals_marked M m gs h.1)

pub all_marked : (M m : ℕ) (gs : List Goal) → AreRunnable M gs → AreRunnable M (marked_all m gs)
all_marked M m [] h = tt
all_marked M m (g ∷ gs) h = (runnable_marked M m g h.0, all_marked M m gs h.1)

body_renamed : (M : ℕ) (f : ℕ → ℕ) (gs : List Goal) → AreRunnable M gs → AreRunnable M (map (rename_goal f) gs)
body_renamed M f [] h = tt
body_renamed M f (g ∷ gs) h = (runnable_renamed M f g h.0, body_renamed M f gs h.1)

-- a search for the best leaf gives no branches of its own
no_branches : (seen : Term) (b : Branch) (rest : List Goal) (o : Order) (least : Bool) (t c : Term) (l : Result (List Member) QueryFault) (cs : List Branch)
    → by_cost seen (Seeks b rest o least t c) l ≡ Gives cs → ⊥
no_branches seen b rest o least t c (Err f) cs e = cc
no_branches seen b rest o least t c (Ok ms) cs e = by_fault (cost_fault ms seen) e
  where
    by_fault : (f : Option QueryFault) → unless_fault f (Seeks b rest o least t c) ≡ Gives cs → ⊥
    by_fault (Some f) i = cc
    by_fault None i = cc

module _ (M N m : ℕ) (b : Branch) (rest : List Goal) (posted : AllPosted (λ p. IsMonotone M p.range) b.posted) (others : AreRunnable M rest) where
  clauses_sound : (cs : List Clause) (t : Term) → ClausesRunnable M cs → AllSound M (by_clauses m cs b t rest)
  clauses_sound [] t h = tt
  clauses_sound (c ∷ cs) t h = by_head (fits_head t c.head) (by_clauses m cs b t rest) (clauses_sound cs t h.1)
    where
      by_head : (fits : Bool) (bs : List Branch) → AllSound M bs → AllSound M (cond fits (by_clause m b t rest c ∷ bs) bs)
      by_head true bs l = (
        record {
          goals = runnable_both M (marked_all m (map (rename_goal (λ x. b.fresh + x)) c.body)) rest
              (all_marked M m (map (rename_goal (λ x. b.fresh + x)) c.body) (body_renamed M (λ x. b.fresh + x) c.body h.0)) others;
          posted = posted;
        },
        l,
      )
      by_head false bs l = l

  post_sound : (look : ℕ → Term) (t : Term) (r : Range) → range_fits M r true ≡ true → (f : Found) → post look t r b.fresh ≡ f → (cs : List Branch) → by_post b rest f ≡ Gives cs → AllSound M cs
  post_sound look t r fits (offends f) e cs i = absurd (cc)
  post_sound look t r fits (posts p n es) e cs i =
      let kids : with_range b rest p es n ∷ [] ≡ cs = cc in
      subst (AllSound M) kids (record { goals = others; posted = (posted_monotone M look t r b.fresh n p es fits e, posted) }, tt)

  constraint_sound : (look : ℕ → Term) (c : ConstraintKind) (t : Term) (r : Result Expansion QueryFault) → constrain M look c t b.fresh ≡ r → (cs : List Branch)
      → by_constraint b rest r ≡ Gives cs → AllSound M cs
  constraint_sound look c t (Err f) e cs i = absurd (cc)
  constraint_sound look c t (Ok x) e cs i =
      let kids : with_expansion b rest x ∷ [] ≡ cs = cc in
      subst (AllSound M) kids (record { goals = others; posted = posted_both (λ p. IsMonotone M p.range) x.ranges b.posted (monotone_rows M c (arguments (apply look t)) b.fresh x e) posted }, tt)

  one_sound : (c : Branch) (cs : List Branch) → Gives (c ∷ []) ≡ Gives cs → IsSound M c → AllSound M cs
  one_sound c cs e h = let kids : c ∷ [] ≡ cs = cc in subst (AllSound M) kids (h, tt)

  finding_sound : (f : Finding) (cs : List Branch) → by_finding b rest f ≡ Gives cs → AllSound M cs
  finding_sound (faulted f) cs e = absurd (cc)
  finding_sound (decided true) cs e = one_sound (with_goals b rest) cs e (record { goals = others; posted = posted })
  finding_sound (decided false) cs e = let kids : [] ≡ cs = cc in subst (AllSound M) kids tt
  finding_sound (equated l r) cs e = one_sound (with_equations b rest (record { left = l; right = r } ∷ []) b.fresh) cs e (record { goals = others; posted = posted })

  values_sound : (g : Goal) → IsRunnable M g → (x : ℕ) (ns : List ℕ) → AllSound M (map (by_value b (g ∷ rest) x) ns)
  values_sound g h x [] = tt
  values_sound g h x (n ∷ ns) = (record { goals = (h, others); posted = posted }, values_sound g h x ns)

  pick_sound : (values : ℕ → List ℕ) (g : Goal) → IsRunnable M g → (r : Option ℕ) (cs : List Branch) → by_pick values b g rest r ≡ Gives cs → AllSound M cs
  pick_sound values g h None cs e = one_sound (with_goals b rest) cs e (record { goals = others; posted = posted })
  pick_sound values g h (Some x) cs e = let kids : map (by_value b (g ∷ rest) x) (values x) ≡ cs = cc in subst (AllSound M) kids (values_sound g h x (values x))

  listing_sound : (values : ℕ → List ℕ) (o : Order) (g : Goal) → IsRunnable M g → (l : Result (List Member) QueryFault) (cs : List Branch) → by_listing values b o g rest l ≡ Gives cs → AllSound M cs
  listing_sound values o g h (Err f) cs e = absurd (cc)
  listing_sound values o g h (Ok ms) cs e = pick_sound values g h (pick o values ms) cs e

  tested : (k : ℕ) (test : Goals) (gs : List Goal) → AllRunnable M test → AreRunnable M gs → IsSound M (by_test k m b test gs)
  tested k test gs h g = record { goals = runnable_both M (marked_all k (listed test)) (Cut (Some m) ∷ gs) (all_marked M k (listed test) (runnable_listed M test h)) (tt, g); posted = posted }

  -- the children of a sound branch are sound
  pub offer_sound : (prog : Program) (look : ℕ → Term) (sets : ℕ → Option (List ℕ)) (g : Goal) → IsRunnableProgram M prog → IsRunnable M g → (cs : List Branch)
      → offer M N m prog look sets b g rest ≡ Gives cs → AllSound M cs
  offer_sound prog look sets True p h cs e = one_sound (with_goals b rest) cs e (record { goals = others; posted = posted })
  offer_sound prog look sets Fail p h cs e = let kids : [] ≡ cs = cc in subst (AllSound M) kids tt
  offer_sound prog look sets (Unify s t) p h cs e = one_sound (with_equations b rest (record { left = s; right = t } ∷ []) b.fresh) cs e (record { goals = others; posted = posted })
  offer_sound prog look sets (Post t r) p h cs e = post_sound look t r h (post look t r b.fresh) refl cs e
  offer_sound prog look sets (Constrain c t) p h cs e = constraint_sound look c t (constrain M look c t b.fresh) refl cs e
  offer_sound prog look sets (Label o t) p h cs e = listing_sound (λ x. values_by N (sets x)) o (Label o t) tt (read_list (apply look t)) cs e
  offer_sound prog look sets (Call t) p h cs e = let kids : by_clauses m prog.clauses b t rest ≡ cs = cc in subst (AllSound M) kids (clauses_sound prog.clauses t p.clauses)
  offer_sound prog look sets (Either x y) p h cs e =
      let kids : with_goals b (listed x ++ rest) ∷ with_goals b (listed y ++ rest) ∷ [] ≡ cs = cc in
      subst (AllSound M) kids (
        record { goals = runnable_both M (listed x) rest (runnable_listed M x h.0) others; posted = posted },
        (record { goals = runnable_both M (listed y) rest (runnable_listed M y h.1) others; posted = posted }, tt),
      )
  offer_sound prog look sets (Builtin k t) p h cs e = finding_sound (finding k look sets t) cs e
  offer_sound prog look sets (Cut c) p h cs e = one_sound (with_goals b rest) cs e (record { goals = others; posted = posted })
  offer_sound prog look sets (If test holds) p h cs e = one_sound (by_test m m b test (listed holds ++ rest)) cs e
      (tested m test (listed holds ++ rest) h.0 (runnable_both M (listed holds) rest (runnable_listed M holds h.1) others))
  offer_sound prog look sets (IfElse test holds other) p h cs e =
      let kids : by_test (suc m) m b test (listed holds ++ rest) ∷ with_goals b (listed other ++ rest) ∷ [] ≡ cs = cc in
      subst (AllSound M) kids (
        tested (suc m) test (listed holds ++ rest) h.0 (runnable_both M (listed holds) rest (runnable_listed M holds h.1) others),
        (record { goals = runnable_both M (listed other) rest (runnable_listed M other h.2) others; posted = posted }, tt),
      )
  offer_sound prog look sets (Not gs) p h cs e =
      let kids : by_test (suc m) m b gs (Fail ∷ rest) ∷ with_goals b rest ∷ [] ≡ cs = cc in
      subst (AllSound M) kids (tested (suc m) gs (Fail ∷ rest) h (tt, others), (record { goals = others; posted = posted }, tt))
  offer_sound prog look sets (Best o least t c) p h cs e = absurd (no_branches (apply look c) b rest o least t c (read_list (apply look t)) cs e)

module _ (M N : ℕ) (prog : Program) (q : Query) (runnable : IsRunnableProgram M prog) where
  abbrev IsLive : Branch → Type 0
  IsLive b = IsSound M b × IsConsistent M N b.equations b.posted

  abbrev AllLive : List Branch → Type 0
  AllLive [] = Unit {0}
  AllLive (b ∷ bs) = IsLive b × AllLive bs

  live_both : (bs cs : List Branch) → AllLive bs → AllLive cs → AllLive (bs ++ cs)
  live_both [] cs h g = g
  live_both (b ∷ bs) cs h g = (h.0, live_both bs cs h.1 g)

  live_drop : (n : ℕ) (bs : List Branch) → AllLive bs → AllLive (drop n bs)
  live_drop zero bs h = h
  live_drop (suc n) [] h = tt
  live_drop (suc n) (b ∷ bs) h = live_drop n bs h.1

  live_last : (c : ℕ) (bs : List Branch) → AllLive bs → AllLive (last_of c bs)
  live_last c bs h = live_drop (length bs - c) bs h

  live_each : (bs : List Branch) → Each IsLive bs → AllLive bs
  live_each [] h = tt
  live_each (b ∷ bs) h = (h.0, live_each bs h.1)

  keep : (bs : List Branch) → AllSound M bs → (cs : List Branch) × Kept M N bs cs × AllLive cs
  keep [] h = ([], refl, tt)
  keep (b ∷ bs) h =
      let later = keep bs h.1 in
      elim (decide_consistent M N b.equations b.posted h.0.posted) [
        | inl c ↦ (b ∷ later.0, inl (c, (later.0, refl, later.1)), ((h.0, c), later.2))
        | inr c ↦ (later.0, inr (c, later.1), later.2)
      ]

  abbrev HasRun : ℕ → Option ℕ → List Branch → Type 0
  HasRun n k bs = (es : List Event) × (r : ℕ) × Run M N prog q n k bs es r

  view_of : (b : Branch) → IsLive b → (s : Substitution) × (D : Family) × IsView M N b.equations b.posted s D
  view_of b l = has_view M N b.equations b.posted l.0.posted l.1

  -- what a search for the best leaf finds is live
  found_live : (b : Branch) (rest : List Goal) (o : Order) (least : Bool) (t c : Term) (cs : List Branch) → IsLive b → AreRunnable M rest → SoughtLeaf M N b rest o least t c cs → AllLive cs
  found_live b rest o least t c cs l h f =
      live_each cs (sought_each M N b rest o least t c cs (λ d. AllPosted (λ p. IsMonotone M p.range) d.posted × IsConsistent M N d.equations d.posted) IsLive
      (λ d s D ms x n i v e p j ok. (i.0, ok)) (l.0.posted, l.1)
      (λ d i. (record { goals = h; posted = i.0 }, i.1)) f)

  by_children : (m : ℕ) (k : Option ℕ) (b : Branch) (bs : List Branch) (g : Goal) (rest : List Goal) → AllLive bs → b.goals ≡ g ∷ rest → ((cs : List Branch) → AllLive cs → HasRun m k cs)
      → (s : Substitution) (D : Family) → IsView M N b.equations b.posted s D → (o : Offer) → offer M N (length bs) prog (look_in b s D) (sets_in b s D) b g rest ≡ o
      → (ks : List Branch) → AllLive ks → KeptOffer M N o (Gives ks) → HasRun (suc m) k (b ∷ bs)
  by_children m k b bs g rest ls e later s D v o i ks lives kept =
      let more = later (ks ++ last_of (kept_by (length bs) g) bs) (live_both ks (last_of (kept_by (length bs) g) bs) lives (live_last (kept_by (length bs) g) bs ls)) in
      (says s D b g ++ more.0, suc more.1, taken g rest s D ks e (record { view = v; kept = subst (λ o. KeptOffer M N o (Gives ks)) (sym i) kept }) more.2)

  by_offer : (m : ℕ) (k : Option ℕ) (b : Branch) (bs : List Branch) (g : Goal) (rest : List Goal) → IsLive b → AllLive bs → b.goals ≡ g ∷ rest → IsRunnable M g
      → AreRunnable M rest → ((cs : List Branch) → AllLive cs → HasRun m k cs)
      → (s : Substitution) (D : Family) → IsView M N b.equations b.posted s D → (o : Offer) → offer M N (length bs) prog (look_in b s D) (sets_in b s D) b g rest ≡ o → HasRun (suc m) k (b ∷ bs)
  by_offer m k b bs g rest l ls e h hs later s D v (Faults f) i = (Fault f ∷ [], 1, faulty g rest s D e (record { view = v; kept = subst (λ o. KeptOffer M N o (Faults f)) (sym i) refl }))
  by_offer m k b bs g rest l ls e h hs later s D v (Gives cs) i =
      let ks = keep cs (offer_sound M N (length bs) b rest l.0.posted hs prog (look_in b s D) (sets_in b s D) g runnable h cs i) in
      by_children m k b bs g rest ls e later s D v (Gives cs) i ks.0 ks.2 ks.1
  by_offer m k b bs g rest l ls e h hs later s D v (Seeks d r o least t c) i =
      let f = sought_there M N (length bs) prog b g rest s D l.1 l.0.posted v d r o least t c i in
      by_children m k b bs g rest ls e later s D v (Seeks d r o least t c) i f.0 (found_live d r o least t c f.0 (subst IsLive (sym f.1) l) (subst (AreRunnable M) (sym f.2) hs) f.3) f.3

  by_limit : (n : ℕ) (k : Option ℕ) (b : Branch) (bs : List Branch) → b.goals ≡ [] → IsLive b → IsLimit k → ((j : Option ℕ) → IsLimit j → HasRun n j bs) → HasRun n k (b ∷ bs)
  by_limit n None b bs e l a later = let v = view_of b l in let more = later None tt in (Answer (answer_line q v.0 v.1 b) ∷ more.0, more.1, any v.0 v.1 e v.2 more.2)
  by_limit n (Some zero) b bs e l a later = absurd a
  by_limit n (Some (suc zero)) b bs e l a later = let v = view_of b l in (Answer (answer_line q v.0 v.1 b) ∷ Limit ∷ [], 0, last v.0 v.1 e v.2)
  by_limit n (Some (suc (suc j))) b bs e l a later = let v = view_of b l in let more = later (Some (suc j)) tt in (Answer (answer_line q v.0 v.1 b) ∷ more.0, more.1, fewer v.0 v.1 e v.2 more.2)

  by_goals : (n : ℕ) (k : Option ℕ) (b : Branch) (bs : List Branch) (gs : List Goal) → b.goals ≡ gs → IsLive b → AllLive bs → IsLimit k
      → ((j : Option ℕ) → IsLimit j → HasRun n j bs) → ((m : ℕ) → n ≡ suc m → (cs : List Branch) → AllLive cs → HasRun m k cs) → HasRun n k (b ∷ bs)
  by_goals n k b bs [] e l ls a here later = by_limit n k b bs e l a here
  by_goals zero k b bs (g ∷ rest) e l ls a here later = (Budget ∷ [], 0, spent g rest e)
  by_goals (suc m) k b bs (g ∷ rest) e l ls a here later =
      let v = view_of b l in
      let gs : AreRunnable M (g ∷ rest) = subst (AreRunnable M) e l.0.goals in
      by_offer m k b bs g rest l ls e gs.0 gs.1 (later m refl) v.0 v.1 v.2 _ refl

  among : (n : ℕ) → ((m : ℕ) → n ≡ suc m → (k : Option ℕ) → IsLimit k → (cs : List Branch) → AllLive cs → HasRun m k cs) → (bs : List Branch) (k : Option ℕ) → IsLimit k → AllLive bs → HasRun n k bs
  among n later [] k a h = (End ∷ [], 0, over)
  among n later (b ∷ bs) k a h = by_goals n k b bs b.goals refl h.0 h.1 a (λ j c. among n later bs j c h.1) (λ m e. later m e k a)

  pub has_run : (n : ℕ) (k : Option ℕ) → IsLimit k → (bs : List Branch) → AllLive bs → HasRun n k bs
  has_run zero k a bs h = among zero (λ m e. absurd (cc)) bs k a h
  has_run (suc n) k a bs h = among (suc n) (λ m e j c cs l. let same : n ≡ m = cc in subst (λ i. HasRun i j cs) same (has_run n j c cs l)) bs k a h

nothing_constrained : (M N : ℕ) → IsConsistent M N [] []
nothing_constrained M N = record { unifier = λ x. Var x; general = record { unifies = tt; general = λ u x h. refl }; some = λ x h. absurd (true≢false (sym h)) }

-- each query of a runnable program has a run
pub query_has_run : (M N : ℕ) (prog : Program) (q : Query) → IsRunnableProgram M prog → AreRunnable M q.goals → (n : ℕ) (k : Option ℕ) → IsLimit k
    → (es : List Event) × (r : ℕ) × Run M N prog q n k (start_of q ∷ []) es r
query_has_run M N prog q p h n k a = has_run M N prog q p n k a (start_of q ∷ []) ((record { goals = all_marked M 0 q.goals h; posted = tt }, nothing_constrained M N), tt)

pub one_run : OneRun
one_run M N prog q n k p h a =
    let r = query_has_run M N prog q p h n k a in
    (r.0, r.1, r.2, λ ds m o. run_once M N prog q o r.2)
