-- A run that takes any most general unifier at each step has the events and the reductions of a run, and each run is such a one.
use Rattle.std.proofs.Common.{◌≡◌, ℕ, zero, suc, ◌-◌, ℤ, Bool, List, [], ◌∷◌, ◌++◌, drop, length, Option, Some, None, refl, ap, sym, ◌∙◌, subst}
use Rattle.std.proofs.lemmas.Bool.{true≢false}
use Rattle.fd_language.specs.Term.{Term, Var, Substitution}
use Rattle.fd_language.specs.Family.{Family}
use Rattle.fd_language.specs.Lists.{Each}
use Rattle.fd_language.proofs.Lemmas.{identity}
use Rattle.fd_model.specs.declared.kinds.Order.{Order}
use Rattle.fd_model.specs.BranchViews.{IsView}
use Rattle.fd_model.specs.Branches.{look_in, sets_in}
use Rattle.fd_model.specs.ClosedFamilies.{constrained}
use Rattle.fd_model.specs.Children.{Offer, Faults, Gives, Seeks, KeptOffer, offer, kept_by, last_of}
use Rattle.fd_model.specs.Goal.{Goal, Program, Query, Branch, Event, Answer, Limit, Fault, start_of}
use Rattle.fd_model.specs.Leaves.{Leaves, no_leaves, leaf, grows, IsSeenAs, IsBetter, IsAsGood, BestLeaf, SoughtLeaf}
use Rattle.fd_model.specs.Lines.{answer_line, says}
use Rattle.fd_model.specs.Run.{Run, over, last, fewer, any, spent, faulty, taken}
use Rattle.fd_model.specs.RunnablePrograms.{EachBelow, ClausesScoped, AreRunnable, IsRunnableProgram}
use Rattle.fd_model.proofs.Lemmas.{offer_sound, all_marked, each_marked}
use Rattle.run_laws.specs.AnyUnifiers.{IsAnyView, AnyLeaves, IsAnySeenAs, AnyBestLeaf, AnySoughtLeaf, AnyKeptOffer, AnyRun}
use Rattle.run_laws.specs.AnyUnifiers as free
use Rattle.run_laws.proofs.Scopes.{OffersScoped, offer_scoped}
use Rattle.fd_model.proofs.Lemmas.{look_below, line_same, says_by, written_same}
use Rattle.run_laws.proofs.Pairs.{ArePair, any_view}
use Rattle.run_laws.proofs.Offers.{SameOffer, offers_pair}
use Rattle.run_laws.proofs.Leaves.{IsGood, AllGood, good_both, kept_good, view_here, general_u, match_sets, sought_back}

good_drop : (M N n : ℕ) (bs cs : List Branch) → AllGood M N bs cs → AllGood M N (drop n bs) (drop n cs)
good_drop M N zero bs cs h = h
good_drop M N (suc n) [] [] h = tt
good_drop M N (suc n) [] (c ∷ cs) h = absurd h
good_drop M N (suc n) (b ∷ bs) [] h = absurd h
good_drop M N (suc n) (b ∷ bs) (c ∷ cs) h = good_drop M N n bs cs h.1

good_length : (M N : ℕ) (bs cs : List Branch) → AllGood M N bs cs → length cs ≡ length bs
good_length M N [] [] h = refl
good_length M N [] (c ∷ cs) h = absurd h
good_length M N (b ∷ bs) [] h = absurd h
good_length M N (b ∷ bs) (c ∷ cs) h = ap suc (good_length M N bs cs h.1)

good_last : (M N k : ℕ) (bs cs : List Branch) → AllGood M N bs cs → AllGood M N (last_of k bs) (last_of k cs)
good_last M N k bs cs h =
    subst (λ l. AllGood M N (last_of k bs) (drop (l - k) cs)) (sym (good_length M N bs cs h)) (good_drop M N (length bs - k) bs cs h)

-- what is kept of what a goal gives
abbrev SameKept : ℕ → ℕ → Offer → Offer → Type 0
SameKept M N (Faults f) (Faults g) = f ≡ g
SameKept M N (Gives bs) (Gives cs) = AllGood M N bs cs
SameKept M N _ _ = ⊥

module _ (M N : ℕ) (prog : Program) (runnable : IsRunnableProgram M prog) (scoped : ClausesScoped prog.clauses) where
  -- one step
  module _ (b c : Branch) (good : IsGood M N b c) (g : Goal) (rest : List Goal) (goals : b.goals ≡ g ∷ rest) (m : ℕ) where
    runs : AreRunnable M (g ∷ rest)
    runs = subst (AreRunnable M) goals good.sound.0.goals

    below : EachBelow b.fresh (g ∷ rest)
    below = subst (EachBelow b.fresh) goals good.scoped.goals

    module _ (s : Substitution) (D : Family) (v : IsView M N b.equations b.posted s D) (u : Substitution) (E : Family) (w : IsAnyView M N c.equations c.posted u E) where
      abbrev offer_here : Offer
      offer_here = offer M N m prog (look_in b s D) (sets_in b s D) b g rest

      abbrev offer_there : Offer
      offer_there = offer M N m prog (look_in c u E) (sets_in c u E) c g rest

      abbrev rebuilt : ℕ → Branch
      rebuilt n = record { goals = c.goals; equations = c.equations; posted = c.posted; fresh = n }

      rebuilt_is : rebuilt b.fresh ≡ c
      rebuilt_is = ap rebuilt (sym good.pair.fresh)

      same_offer : SameOffer b c offer_here offer_there
      same_offer =
          let pair : ArePair b (rebuilt b.fresh) = subst (ArePair b) (sym rebuilt_is) good.pair in
          subst (λ x. SameOffer b x offer_here (offer M N m prog (look_in c u E) (sets_in c u E) x g rest)) rebuilt_is
          (offers_pair M N m prog b c.goals c.equations c.posted s u D E v.general (general_u M N b c good s D v u E w) (match_sets M N b c good s D v u E w) good.scoped.equations pair rest g below.0)

      offer_scopes : OffersScoped M N m prog scoped b rest below.1 good.scoped.equations (look_in b s D) (look_below b.fresh b s D v.general good.scoped.equations) offer_here
      offer_scopes = offer_scoped M N m prog scoped b rest below.1 good.scoped.equations (look_in b s D) (look_below b.fresh b s D v.general good.scoped.equations) (sets_in b s D) g below.0

      kept_back : (o p r : Offer) → offer_here ≡ o → SameOffer b c o p → AnyKeptOffer M N p r → (l : Offer) × KeptOffer M N o l × SameKept M N l r
      kept_back (Faults f) (Faults i) (Faults j) e k h = (Faults f, refl, k ∙ h)
      kept_back (Faults f) (Faults i) (Gives cs) e k h = absurd h
      kept_back (Gives bs) (Gives cs) (Gives ks) e k h =
          let sound = offer_sound M N m b rest good.sound.0.posted runs.1 prog (look_in b s D) (sets_in b s D) g runnable runs.0 bs e in
          let scopes = subst (OffersScoped M N m prog scoped b rest below.1 good.scoped.equations (look_in b s D) (look_below b.fresh b s D v.general good.scoped.equations)) e offer_scopes in
          let own = kept_good M N bs cs ks k sound scopes h in
          (Gives own.0, own.1, own.2)
      kept_back (Gives bs) (Gives cs) (Faults f) e k h = absurd h
      kept_back (Seeks d gs o least t x) (Seeks a hs p most y z) (Gives ks) e k h =
          let scopes = subst (OffersScoped M N m prog scoped b rest below.1 good.scoped.equations (look_in b s D) (look_below b.fresh b s D v.general good.scoped.equations)) e offer_scopes in
          let first : AnySoughtLeaf M N c gs o least t x ks =
          subst (λ i. AnySoughtLeaf M N c gs o least t i ks) (sym k.6) (subst (λ i. AnySoughtLeaf M N c gs o least i z ks) (sym k.5)
          (subst (λ i. AnySoughtLeaf M N c gs o i y z ks) (sym k.4) (subst (λ i. AnySoughtLeaf M N c gs i most y z ks) (sym k.3)
          (subst (λ i. AnySoughtLeaf M N c i p most y z ks) (sym k.2) (subst (λ i. AnySoughtLeaf M N i hs p most y z ks) k.1 h))))) in
          let found = sought_back M N prog least x b c gs o t ks good scopes.1 (subst (AreRunnable M) (sym scopes.0) runs.1) (subst (EachBelow b.fresh) (sym scopes.0) below.1) first in
          (Gives found.0, subst (λ i. SoughtLeaf M N i gs o least t x found.0) (sym k.0) found.1, found.2)
      kept_back (Seeks d gs o least t x) (Seeks a hs p most y z) (Faults f) e k h = absurd h
      kept_back (Seeks d gs o least t x) (Seeks a hs p most y z) (Seeks i j q r v' w') e k h = absurd h
      kept_back (Faults f) (Faults i) (Seeks d gs o least t x) e k h = absurd h
      kept_back (Gives bs) (Gives cs) (Seeks d gs o least t x) e k h = absurd h
      kept_back (Faults f) (Gives cs) r e k h = absurd k
      kept_back (Faults f) (Seeks d gs o least t x) r e k h = absurd k
      kept_back (Gives bs) (Faults f) r e k h = absurd k
      kept_back (Gives bs) (Seeks d gs o least t x) r e k h = absurd k
      kept_back (Seeks d gs o least t x) (Faults f) r e k h = absurd k
      kept_back (Seeks d gs o least t x) (Gives cs) r e k h = absurd k

      says_same : says s D b g ≡ says u E c g
      says_same = says_by b c s u D E
          (written_same b.equations s u v.general (general_u M N b c good s D v u E w) D E (constrained b.posted) (constrained c.posted) (match_sets M N b c good s D v u E w)) g

  module _ (q : Query) where
    line_there : (b c : Branch) (good : IsGood M N b c) (s : Substitution) (D : Family) (v : IsView M N b.equations b.posted s D) (u : Substitution) (E : Family)
        (w : IsAnyView M N c.equations c.posted u E) → answer_line q s D b ≡ answer_line q u E c
    line_there b c good s D v u E w =
        line_same b.equations s u v.general (general_u M N b c good s D v u E w) D E (constrained b.posted) (constrained c.posted) (match_sets M N b c good s D v u E w) q.names q.shown

    run_back : {n : ℕ} {k : Option ℕ} {cs : List Branch} {es : List Event} {r : ℕ} → AnyRun M N prog q n k cs es r → (bs : List Branch) → AllGood M N bs cs → Run M N prog q n k bs es r
    run_back free.over [] h = over
    run_back free.over (b ∷ bs) h = absurd h
    run_back (free.last u E e w) [] h = absurd h
    run_back (free.last {n = n} {b = c} u E e w) (b ∷ bs) h =
        let v = view_here M N b c h.0 in
        subst (λ l. Run M N prog q n (Some (suc zero)) (b ∷ bs) (Answer l ∷ Limit ∷ []) 0) (line_there b c h.0 v.0 v.1 v.2 u E w) (last v.0 v.1 (sym h.0.pair.goals ∙ e) v.2)
    run_back (free.fewer u E e w more) [] h = absurd h
    run_back (free.fewer {n = n} {k = k} {b = c} {es = es} {r = r} u E e w more) (b ∷ bs) h =
        let v = view_here M N b c h.0 in
        subst (λ l. Run M N prog q n (Some (suc (suc k))) (b ∷ bs) (Answer l ∷ es) r) (line_there b c h.0 v.0 v.1 v.2 u E w)
        (fewer v.0 v.1 (sym h.0.pair.goals ∙ e) v.2 (run_back more bs h.1))
    run_back (free.any u E e w more) [] h = absurd h
    run_back (free.any {n = n} {b = c} {es = es} {r = r} u E e w more) (b ∷ bs) h =
        let v = view_here M N b c h.0 in
        subst (λ l. Run M N prog q n None (b ∷ bs) (Answer l ∷ es) r) (line_there b c h.0 v.0 v.1 v.2 u E w) (any v.0 v.1 (sym h.0.pair.goals ∙ e) v.2 (run_back more bs h.1))
    run_back (free.spent g rest e) [] h = absurd h
    run_back (free.spent g rest e) (b ∷ bs) h = spent g rest (sym h.0.pair.goals ∙ e)
    run_back (free.faulty g rest u E e k) [] h = absurd h
    run_back (free.faulty {n = n} {k = j} {b = c} {bs = cs} {f = f} g rest u E e k) (b ∷ bs) h =
        let v = view_here M N b c h.0 in
        let goals : b.goals ≡ g ∷ rest = sym h.0.pair.goals ∙ e in
        let own = kept_back b c h.0 g rest goals (length bs) v.0 v.1 v.2 u E k.view _ _ (Faults f) refl (same_offer b c h.0 g rest goals (length bs) v.0 v.1 v.2 u E k.view)
        (subst (λ l. AnyKeptOffer M N (offer M N l prog (look_in c u E) (sets_in c u E) c g rest) (Faults f)) (good_length M N bs cs h.1) k.kept) in
        by_kept own.0 own.1 own.2
      where
        by_kept : (o : Offer) → KeptOffer M N (offer M N (length bs) prog (look_in b (view_here M N b c h.0).0 (view_here M N b c h.0).1)
            (sets_in b (view_here M N b c h.0).0 (view_here M N b c h.0).1) b g rest) o
            → SameKept M N o (Faults f) → Run M N prog q (suc n) j (b ∷ bs) (Fault f ∷ []) 1
        by_kept (Faults i) o s =
            let v = view_here M N b c h.0 in
            subst (λ x. Run M N prog q (suc n) j (b ∷ bs) (Fault x ∷ []) 1) s (faulty g rest v.0 v.1 (sym h.0.pair.goals ∙ e) (record { view = v.2; kept = o }))
        by_kept (Gives ks) o s = absurd s
        by_kept (Seeks d gs p least t x) o s = absurd s
    run_back (free.taken g rest u E ks e k more) [] h = absurd h
    run_back (free.taken {n = n} {k = j} {b = c} {bs = cs} {es = es} {r = r} g rest u E ks e k more) (b ∷ bs) h =
        let v = view_here M N b c h.0 in
        let goals : b.goals ≡ g ∷ rest = sym h.0.pair.goals ∙ e in
        let own = kept_back b c h.0 g rest goals (length bs) v.0 v.1 v.2 u E k.view _ _ (Gives ks) refl (same_offer b c h.0 g rest goals (length bs) v.0 v.1 v.2 u E k.view)
        (subst (λ l. AnyKeptOffer M N (offer M N l prog (look_in c u E) (sets_in c u E) c g rest) (Gives ks)) (good_length M N bs cs h.1) k.kept) in
        subst (λ l. Run M N prog q (suc n) j (b ∷ bs) (l ++ es) (suc r)) (says_same b c h.0 g rest goals (length bs) v.0 v.1 v.2 u E k.view)
        (by_kept own.0 own.1 own.2 (λ ls i. run_back more (ls ++ last_of (kept_by (length bs) g) bs)
        (good_both M N ls ks (last_of (kept_by (length bs) g) bs) (last_of (kept_by (length cs) g) cs) i
        (subst (λ l. AllGood M N (last_of (kept_by (length bs) g) bs) (last_of (kept_by l g) cs)) (sym (good_length M N bs cs h.1))
        (good_last M N (kept_by (length bs) g) bs cs h.1)))))
      where
        by_kept : (o : Offer) → KeptOffer M N (offer M N (length bs) prog (look_in b (view_here M N b c h.0).0 (view_here M N b c h.0).1)
            (sets_in b (view_here M N b c h.0).0 (view_here M N b c h.0).1) b g rest) o
            → SameKept M N o (Gives ks) → ((ls : List Branch) → AllGood M N ls ks → Run M N prog q n j (ls ++ last_of (kept_by (length bs) g) bs) es r)
            → Run M N prog q (suc n) j (b ∷ bs) (says (view_here M N b c h.0).0 (view_here M N b c h.0).1 b g ++ es) (suc r)
        by_kept (Faults i) o s later = absurd s
        by_kept (Gives ls) o s later =
            let v = view_here M N b c h.0 in taken g rest v.0 v.1 ls (sym h.0.pair.goals ∙ e) (record { view = v.2; kept = o }) (later ls s)
        by_kept (Seeks d gs p least t x) o s later = absurd s

    start_good : AreRunnable M q.goals → EachBelow q.variables q.goals → IsGood M N (start_of q) (start_of q)
    start_good run low = record {
      pair = record { goals = refl; fresh = refl; there = λ u i. i; back = λ u i. i; posted = tt };
      sound = (record { goals = all_marked M 0 q.goals run; posted = tt }, tt);
      scoped = record { goals = each_marked q.variables 0 q.goals low; equations = tt };
      consistent = record { unifier = Var; general = identity; some = λ x i. absurd (true≢false (sym i)) };
    }

    pub any_run_is : AreRunnable M q.goals → EachBelow q.variables q.goals → (n : ℕ) (k : Option ℕ) (es : List Event) (r : ℕ) → AnyRun M N prog q n k (start_of q ∷ []) es r
        → Run M N prog q n k (start_of q ∷ []) es r
    any_run_is run low n k es r a = run_back a (start_of q ∷ []) (start_good run low, tt)

-- ---- each run is one of any unifiers

module _ (M N : ℕ) where
  leaves_any : (o : Order) (t : Term) {bs ls : List Branch} → Leaves M N o t bs ls → AnyLeaves M N o t bs ls
  leaves_any o t no_leaves = free.no_leaves
  leaves_any o t (leaf {b = b} s D ms v e p more) = free.leaf s D ms (any_view M N b.equations b.posted s D v) e p (leaves_any o t more)
  leaves_any o t (grows {b = b} s D ms x cs v e p k more) = free.grows s D ms x cs (any_view M N b.equations b.posted s D v) e p k (leaves_any o t more)

  seen_any : (b : Branch) (t : Term) (z : ℤ) → IsSeenAs M N b t z → IsAnySeenAs M N b t z
  seen_any b t z i = record { unifier = i.unifier; family = i.family; view = any_view M N b.equations b.posted i.unifier i.family i.view; seen = i.seen }

  each_any : (t : Term) (H : ℤ → Type 0) (bs : List Branch) → Each (λ d. (z : ℤ) × IsSeenAs M N d t z × H z) bs → Each (λ d. (z : ℤ) × IsAnySeenAs M N d t z × H z) bs
  each_any t H [] e = tt
  each_any t H (b ∷ bs) e = ((e.0.0, seen_any b t e.0.0 e.0.1, e.0.2), each_any t H bs e.1)

  best_any : (least : Bool) (c : Term) (rest : List Goal) (ls cs : List Branch) → BestLeaf M N least c rest ls cs → AnyBestLeaf M N least c rest ls cs
  best_any least c rest [] cs e = e
  best_any least c rest (l ∷ ls) cs e = (
    e.0,
    record {
      before = e.1.before;
      behind = e.1.behind;
      among = e.1.among;
      cost = e.1.cost;
      costs = seen_any e.0 c e.1.cost e.1.costs;
      earlier = each_any c (λ z. IsBetter least e.1.cost z) e.1.before e.1.earlier;
      later = each_any c (λ z. IsAsGood least e.1.cost z) e.1.behind e.1.later;
    },
    e.2,
  )

  kept_any : (o r : Offer) → KeptOffer M N o r → AnyKeptOffer M N o r
  kept_any (Faults f) (Faults g) h = h
  kept_any (Faults f) (Gives cs) h = absurd h
  kept_any (Gives bs) (Gives cs) h = h
  kept_any (Gives bs) (Faults f) h = absurd h
  kept_any (Seeks b rest o least t c) (Gives cs) h = (h.0, leaves_any o t h.1, best_any least c rest h.0 cs h.2)
  kept_any (Seeks b rest o least t c) (Faults f) h = absurd h
  kept_any (Faults f) (Seeks b rest o least t c) h = absurd h
  kept_any (Gives bs) (Seeks b rest o least t c) h = absurd h
  kept_any (Seeks b rest o least t c) (Seeks d gs p most u x) h = absurd h

  pub run_any : (prog : Program) (q : Query) {n : ℕ} {k : Option ℕ} {bs : List Branch} {es : List Event} {r : ℕ} → Run M N prog q n k bs es r → AnyRun M N prog q n k bs es r
  run_any prog q over = free.over
  run_any prog q (last {b = b} s D e v) = free.last s D e (any_view M N b.equations b.posted s D v)
  run_any prog q (fewer {b = b} s D e v more) = free.fewer s D e (any_view M N b.equations b.posted s D v) (run_any prog q more)
  run_any prog q (any {b = b} s D e v more) = free.any s D e (any_view M N b.equations b.posted s D v) (run_any prog q more)
  run_any prog q (spent g rest e) = free.spent g rest e
  run_any prog q (faulty {b = b} {bs = bs} {f = f} g rest s D e k) =
      free.faulty g rest s D e (record {
        view = any_view M N b.equations b.posted s D k.view;
        kept = kept_any (offer M N (length bs) prog (look_in b s D) (sets_in b s D) b g rest) (Faults f) k.kept;
      })
  run_any prog q (taken {b = b} {bs = bs} g rest s D cs e k more) =
      free.taken g rest s D cs e (record {
        view = any_view M N b.equations b.posted s D k.view;
        kept = kept_any (offer M N (length bs) prog (look_in b s D) (sets_in b s D) b g rest) (Gives cs) k.kept;
      }) (run_any prog q more)
