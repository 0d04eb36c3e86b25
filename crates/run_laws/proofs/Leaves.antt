-- The leaves of pairs of branches are pairs, and so are the best of them.
use Rattle.std.proofs.Common.{◌≡◌, ℕ, ◌<◌, Bool, true, ℤ, List, [], ◌∷◌, ◌++◌, map, Option, Some, None, Result, Ok, Err, refl, ap, sym, ◌∙◌, subst, inl, inr}
use Rattle.fd_language.specs.Term.{Term, Var, Int, Atom, Comp, Substitution, apply}
use Rattle.fd_language.specs.Unifier.{IsMostGeneral}
use Rattle.fd_language.specs.Family.{Family, has}
use Rattle.fd_language.specs.Lists.{Each}
use Rattle.fd_language.specs.Variables.{TermBelow, variables_of}
use Rattle.fd_language.proofs.Lemmas.{first_member, each_after, each_both}
use Rattle.fd_model.specs.declared.kinds.Order.{Order}
use Rattle.fd_model.specs.declared.kinds.QueryFault.{QueryFault}
use Rattle.fd_model.specs.BranchViews.{IsConsistent, IsView, set_at}
use Rattle.fd_model.specs.ClosedFamilies.{constrained}
use Rattle.fd_model.specs.Branches.{with_goals, by_value, is_number, Kept, look_in, sets_in}
use Rattle.fd_model.specs.Goal.{Goal, Label, Branch, Program}
use Rattle.fd_model.specs.Labelling.{read_list, pick, values_by}
use Rattle.fd_model.specs.Leaves.{Leaves, no_leaves, leaf, grows, IsSeenAs, IsBetter, IsAsGood, IsBest, SoughtLeaf}
use Rattle.fd_model.specs.Members.{Member}
use Rattle.fd_model.specs.RunnablePrograms.{AreRunnable, EachBelow}
use Rattle.fd_model.proofs.Lemmas.{AllSound, has_view}
use Rattle.branch_meaning.specs.Labelling.{Labelled, faults, done, labels, labelled, by_listing, by_picked, rename_labelled}
use Rattle.branch_meaning.proofs.Lemmas.{label_in}
use Rattle.run_laws.specs.AnyUnifiers.{IsAnyView, AnyLeaves, IsAnySeenAs, IsAnyBest, AnyBestLeaf, AnySoughtLeaf}
use Rattle.run_laws.specs.AnyUnifiers as any
use Rattle.run_laws.proofs.SamePosted.{AreEqual}
use Rattle.run_laws.proofs.Scopes.{IsScoped, AllScoped, variable_below}
use Rattle.fd_model.proofs.Lemmas.{below_under}
use Rattle.fd_model.proofs.Lemmas.{look_below}
use Rattle.run_laws.proofs.Pairs.{ArePair, AllPairs, pair_goals, pair_equations, any_view, consistent_there, consistent_back, general_here, match}
use Rattle.run_laws.proofs.Offers.{name_of, seen_there, still_own, named_in, equal_name, labelled_there}

-- A pair of which the one is sound, scoped and consistent.
pub record IsGood (M N : ℕ) (b c : Branch) : Type 0 where
  pub pair : ArePair b c
  pub sound : AllSound M (b ∷ [])
  pub scoped : IsScoped b
  pub consistent : IsConsistent M N b.equations b.posted

abbrev pub AllGood : ℕ → ℕ → List Branch → List Branch → Type 0
AllGood M N [] [] = Unit {0}
AllGood M N [] (c ∷ cs) = ⊥
AllGood M N (b ∷ bs) [] = ⊥
AllGood M N (b ∷ bs) (c ∷ cs) = IsGood M N b c × AllGood M N bs cs

pub good_both : (M N : ℕ) (bs cs ds es : List Branch) → AllGood M N bs cs → AllGood M N ds es → AllGood M N (bs ++ ds) (cs ++ es)
good_both M N [] [] ds es h g = g
good_both M N [] (c ∷ cs) ds es h g = absurd h
good_both M N (b ∷ bs) [] ds es h g = absurd h
good_both M N (b ∷ bs) (c ∷ cs) ds es h g = (h.0, good_both M N bs cs ds es h.1 g)

-- the consistent ones of the one are those of the other
pub kept_good : (M N : ℕ) (bs cs ks : List Branch) → AllPairs bs cs → AllSound M bs → AllScoped bs → Kept M N cs ks → (ls : List Branch) × Kept M N bs ls × AllGood M N ls ks
kept_good M N [] [] ks p s l k = ([], refl, subst (AllGood M N []) (sym k) tt)
kept_good M N [] (c ∷ cs) ks p s l k = absurd p
kept_good M N (b ∷ bs) [] ks p s l k = absurd p
kept_good M N (b ∷ bs) (c ∷ cs) ks p s l (inl k) =
    let ok = consistent_back M N b c p.0 s.0.posted k.0 in
    let more = kept_good M N bs cs k.1.0 p.1 s.1 l.1 k.1.2 in (
      b ∷ more.0,
      inl (ok, (more.0, refl, more.1)),
      subst (AllGood M N (b ∷ more.0)) (sym k.1.1) (record { pair = p.0; sound = (s.0, tt); scoped = l.0; consistent = ok }, more.2),
    )
kept_good M N (b ∷ bs) (c ∷ cs) ks p s l (inr k) =
    let more = kept_good M N bs cs ks p.1 s.1 l.1 k.1 in
    (more.0, inr (λ ok. k.0 (consistent_there M N b c p.0 s.0.posted ok), more.1), more.2)

-- ---- a good pair, seen

module _ (M N : ℕ) (b c : Branch) (good : IsGood M N b c) where
  pub view_here : (s : Substitution) × (D : Family) × IsView M N b.equations b.posted s D
  view_here = has_view M N b.equations b.posted good.sound.0.posted good.consistent

  module _ (s : Substitution) (D : Family) (v : IsView M N b.equations b.posted s D) (u : Substitution) (E : Family) (w : IsAnyView M N c.equations c.posted u E) where
    abbrev there_ok : IsConsistent M N c.equations c.posted
    there_ok = consistent_there M N b c good.pair good.sound.0.posted good.consistent

    abbrev pub general_u : IsMostGeneral b.equations u
    general_u = general_here M N b c good.pair s u D E (any_view M N b.equations b.posted s D v) w good.consistent there_ok

    abbrev pub match_sets : (y z : ℕ) → s y ≡ Var y → u y ≡ Var z → s z ≡ Var y → set_at u E (constrained c.posted) z ≡ set_at s D (constrained b.posted) y
    match_sets = match M N b c good.pair s u D E (any_view M N b.equations b.posted s D v) w good.consistent there_ok

    module _ (m : ℕ) (prog : Program) where
      abbrev pub new_name : ℕ → ℕ
      new_name = name_of M N m prog b c.goals c.equations c.posted s u D E v.general general_u match_sets good.scoped.equations

      pub seen_other : (t : Term) → apply u (apply (look_in b s D) t) ≡ apply (look_in c u E) t
      seen_other = seen_there M N m prog b c.goals c.equations c.posted s u D E v.general general_u match_sets good.scoped.equations

      pub own_there : (t : Term) (y : ℕ) → has (variables_of (apply (look_in b s D) t)) y ≡ true → s y ≡ Var y
      own_there = still_own M N m prog b c.goals c.equations c.posted s u D E v.general general_u match_sets good.scoped.equations

      pub named_there : (t : Term) (y : ℕ) → has (variables_of (apply (look_in b s D) t)) y ≡ true → u y ≡ Var (new_name y)
      named_there = named_in M N m prog b c.goals c.equations c.posted s u D E v.general general_u match_sets good.scoped.equations

      pub equal_there : (y : ℕ) → s y ≡ Var y → AreEqual b.equations y (new_name y)
      equal_there = equal_name M N m prog b c.goals c.equations c.posted s u D E v.general general_u match_sets good.scoped.equations

      pub label_other : (o : Order) (t : Term) → labelled o (λ x. values_by N (sets_in c u E x)) (apply (look_in c u E) t)
          ≡ rename_labelled new_name (labelled o (λ x. values_by N (sets_in b s D x)) (apply (look_in b s D) t))
      label_other = labelled_there M N m prog b c.goals c.equations c.posted s u D E v.general general_u match_sets good.scoped.equations

-- ---- labellings

-- what a labelling that is done, or picks a variable, has read
label_read : (o : Order) (values : ℕ → List ℕ) (t : Term) (l : Labelled) → labelled o values t ≡ l → ((f : QueryFault) → l ≡ faults f → ⊥)
    → (ms : List Member) × (read_list t ≡ Ok ms) × (by_picked values (pick o values ms) ≡ l)
label_read o values t l e sane = by_list (read_list t) refl e
  where
    by_list : (r : Result (List Member) QueryFault) → read_list t ≡ r → by_listing o values r ≡ l → (ms : List Member) × (read_list t ≡ Ok ms) × (by_picked values (pick o values ms) ≡ l)
    by_list (Err f) i k = absurd (sane f (sym k))
    by_list (Ok ms) i k = (ms, i, k)

none_picked : (values : ℕ → List ℕ) (p : Option ℕ) → by_picked values p ≡ done → p ≡ None
none_picked values None e = refl
none_picked values (Some x) e = absurd (cc)

some_picked : (values : ℕ → List ℕ) (p : Option ℕ) (x : ℕ) (ns : List ℕ) → by_picked values p ≡ labels x ns → (p ≡ Some x) × (ns ≡ values x)
some_picked values None x ns e = absurd (cc)
some_picked values (Some y) x ns e = let k : y ≡ x = cc in let l : values y ≡ ns = cc in (ap Some k, sym l ∙ ap values k)

done_back : (f : ℕ → ℕ) (l : Labelled) → rename_labelled f l ≡ done → l ≡ done
done_back f (faults q) e = absurd (cc)
done_back f done e = refl
done_back f (labels x ns) e = absurd (cc)

labels_back : (f : ℕ → ℕ) (l : Labelled) (y : ℕ) (ns : List ℕ) → rename_labelled f l ≡ labels y ns → (x : ℕ) × (l ≡ labels x ns) × (f x ≡ y)
labels_back f (faults q) y ns e = absurd (cc)
labels_back f done y ns e = absurd (cc)
labels_back f (labels x ms) y ns e = let k : ms ≡ ns = cc in let l : f x ≡ y = cc in (x, ap (labels x) k, l)

no_fault_done : (f : QueryFault) → done ≡ faults f → ⊥
no_fault_done f e = cc

no_fault_labels : (x : ℕ) (ns : List ℕ) (f : QueryFault) → labels x ns ≡ faults f → ⊥
no_fault_labels x ns f e = cc

-- the children of a labelling
module _ (M N : ℕ) (b c : Branch) (p : ArePair b c) where
  pub children_pair : (x y : ℕ) → AreEqual b.equations x y → (ns : List ℕ) → AllPairs (map (by_value b b.goals x) ns) (map (by_value c c.goals y) ns)
  children_pair x y e [] = tt
  children_pair x y e (k ∷ ns) =
      let q = pair_equations b c p (is_number x k ∷ []) (is_number y k ∷ []) (λ w a i. (sym (e w a) ∙ i.0, tt)) (λ w a i. (e w a ∙ i.0, tt)) b.goals b.fresh in
      (record { goals = p.goals; fresh = p.fresh; there = q.there; back = q.back; posted = q.posted }, children_pair x y e ns)

  children_sound : AllSound M (b ∷ []) → (x : ℕ) (ns : List ℕ) → AllSound M (map (by_value b b.goals x) ns)
  children_sound s x [] = tt
  children_sound s x (k ∷ ns) = (record { goals = s.0.goals; posted = s.0.posted }, children_sound s x ns)

  children_scoped : IsScoped b → (x : ℕ) → x < b.fresh → (ns : List ℕ) → AllScoped (map (by_value b b.goals x) ns)
  children_scoped s x l [] = tt
  children_scoped s x l (k ∷ ns) = (record { goals = s.goals; equations = ((l, tt), s.equations) }, children_scoped s x l ns)

-- ---- leaves

module _ (M N : ℕ) (prog : Program) (o : Order) (t : Term) (n : ℕ) (below : TermBelow n t) where
  abbrev AllFrom : List Branch → Type 0
  AllFrom bs = Each (λ b. b.fresh ≡ n) bs

  kept_from : (bs cs : List Branch) → AllFrom bs → Kept M N bs cs → AllFrom cs
  kept_from [] cs h k = subst AllFrom (sym k) tt
  kept_from (b ∷ bs) cs h (inl k) = subst AllFrom (sym k.1.1) (h.0, kept_from bs k.1.0 h.1 k.1.2)
  kept_from (b ∷ bs) cs h (inr k) = kept_from bs cs h.1 k.1

  children_from : (b : Branch) (x : ℕ) (ns : List ℕ) → b.fresh ≡ n → AllFrom (map (by_value b b.goals x) ns)
  children_from b x [] e = tt
  children_from b x (k ∷ ns) e = (e, children_from b x ns e)

  abbrev HasLeaves : List Branch → List Branch → Type 0
  HasLeaves bs ks = (ls : List Branch) × Leaves M N o t bs ls × AllGood M N ls ks × AllFrom ls

  -- the variable that is picked, by its name in the other branch
  record IsPicked (b c : Branch) (s : Substitution) (D : Family) (u : Substitution) (E : Family) (y : ℕ) : Type 0 where
    variable : ℕ
    members : List Member
    read : read_list (apply (look_in b s D) t) ≡ Ok members
    picked : pick o (λ z. values_by N (sets_in b s D z)) members ≡ Some variable
    values : values_by N (sets_in c u E y) ≡ values_by N (sets_in b s D variable)
    equal : AreEqual b.equations variable y
    low : variable < b.fresh

  picked_back : (b c : Branch) (good : IsGood M N b c) → b.fresh ≡ n → (s : Substitution) (D : Family) (v : IsView M N b.equations b.posted s D) (u : Substitution) (E : Family)
      → (w : IsAnyView M N c.equations c.posted u E) → (ns : List Member) (y : ℕ) → read_list (apply (look_in c u E) t) ≡ Ok ns
      → pick o (λ z. values_by N (sets_in c u E z)) ns ≡ Some y → IsPicked b c s D u E y
  picked_back b c good from s D v u E w ns y e q =
      let here : ℕ → List ℕ = λ z. values_by N (sets_in b s D z) in
      let there : ℕ → List ℕ = λ z. values_by N (sets_in c u E z) in
      let told : labelled o there (apply (look_in c u E) t) ≡ labels y (there y) = ap (by_listing o there) e ∙ ap (by_picked there) q in
      let back = labels_back (new_name M N b c good s D v u E w 0 prog) (labelled o here (apply (look_in b s D) t)) y (there y) (sym (label_other M N b c good s D v u E w 0 prog o t) ∙ told) in
      let read = label_read o here (apply (look_in b s D) t) (labels back.0 (there y)) back.1 (no_fault_labels back.0 (there y)) in
      let some = some_picked here (pick o here read.0) back.0 (there y) read.2 in
      let inside = label_in o here (apply (look_in b s D) t) back.0 (there y) back.1 in
      let own = own_there M N b c good s D v u E w 0 prog t back.0 inside in
      record {
        variable = back.0;
        members = read.0;
        read = read.1;
        picked = some.0;
        values = some.1;
        equal = subst (AreEqual b.equations back.0) back.2 (equal_there M N b c good s D v u E w 0 prog back.0 own);
        low = variable_below b.fresh (apply (look_in b s D) t)
            (below_under b.fresh b.fresh (look_in b s D) (look_below b.fresh b s D v.general good.scoped.equations) t (subst (λ k. TermBelow k t) (sym from) below)) back.0 inside;
      }

  leaf_back : (b c : Branch) (good : IsGood M N b c) → (s : Substitution) (D : Family) (v : IsView M N b.equations b.posted s D) (u : Substitution) (E : Family)
      → (w : IsAnyView M N c.equations c.posted u E) → (ns : List Member) → read_list (apply (look_in c u E) t) ≡ Ok ns
      → pick o (λ z. values_by N (sets_in c u E z)) ns ≡ None
      → (ms : List Member) × (read_list (apply (look_in b s D) t) ≡ Ok ms) × (pick o (λ z. values_by N (sets_in b s D z)) ms ≡ None)
  leaf_back b c good s D v u E w ns e q =
      let here : ℕ → List ℕ = λ z. values_by N (sets_in b s D z) in
      let there : ℕ → List ℕ = λ z. values_by N (sets_in c u E z) in
      let told : labelled o there (apply (look_in c u E) t) ≡ done = ap (by_listing o there) e ∙ ap (by_picked there) q in
      let back = done_back (new_name M N b c good s D v u E w 0 prog) (labelled o here (apply (look_in b s D) t)) (sym (label_other M N b c good s D v u E w 0 prog o t) ∙ told) in
      let read = label_read o here (apply (look_in b s D) t) done back no_fault_done in
      (read.0, read.1, none_picked here (pick o here read.0) read.2)

  pub leaves_back : {cs ks : List Branch} → AnyLeaves M N o t cs ks → (bs : List Branch) → AllGood M N bs cs → AllFrom bs → HasLeaves bs ks
  leaves_back any.no_leaves [] h f = ([], no_leaves, tt, tt)
  leaves_back any.no_leaves (b ∷ bs) h f = absurd h
  leaves_back (any.leaf u E ns w e q more) [] h f = absurd h
  leaves_back (any.leaf {b = c} u E ns w e q more) (b ∷ bs) h f =
      let v = view_here M N b c h.0 in
      let one = leaf_back b c h.0 v.0 v.1 v.2 u E w ns e q in
      let later = leaves_back more bs h.1 f.1 in
      (b ∷ later.0, leaf v.0 v.1 one.0 v.2 one.1 one.2 later.1, (h.0, later.2), (f.0, later.3))
  leaves_back (any.grows u E ns y kids w e q k more) [] h f = absurd h
  leaves_back (any.grows {b = c} u E ns y kids w e q k more) (b ∷ bs) h f =
      let v = view_here M N b c h.0 in
      let one = picked_back b c h.0 f.0 v.0 v.1 v.2 u E w ns y e q in
      let values = values_by N (sets_in b v.0 v.1 one.variable) in
      let there : Kept M N (map (by_value c c.goals y) values) kids = subst (λ l. Kept M N (map (by_value c c.goals y) l) kids) one.values k in
      let own = kept_good M N (map (by_value b b.goals one.variable) values) (map (by_value c c.goals y) values) kids
      (children_pair M N b c h.0.pair one.variable y one.equal values) (children_sound M N b c h.0.pair h.0.sound one.variable values)
      (children_scoped M N b c h.0.pair h.0.scoped one.variable one.low values) there in
      let later = leaves_back more (own.0 ++ bs) (good_both M N own.0 kids bs _ own.2 h.1)
      (each_both (λ b. b.fresh ≡ n) own.0 bs (kept_from (map (by_value b b.goals one.variable) values) own.0 (children_from b one.variable values f.0) own.1) f.1) in
      (later.0, grows v.0 v.1 one.members one.variable own.0 v.2 one.read one.picked own.1 later.1, later.2, later.3)

-- ---- the best leaf

int_back : (u : Substitution) (f : ℕ → ℕ) (t : Term) (z : ℤ) → ((y : ℕ) → has (variables_of t) y ≡ true → u y ≡ Var (f y)) → apply u t ≡ Int z → t ≡ Int z
int_back u f (Var x) z h e = absurd (let k = sym (h x (first_member x [])) ∙ e in cc)
int_back u f (Int w) z h e = e
int_back u f (Atom a) z h e = absurd (cc)
int_back u f (Comp g ts) z h e = absurd (cc)

module _ (M N : ℕ) (prog : Program) (least : Bool) (x : Term) where
  seen_back : (b c : Branch) → IsGood M N b c → (z : ℤ) → IsAnySeenAs M N c x z → IsSeenAs M N b x z
  seen_back b c good z i =
      let v = view_here M N b c good in
      record {
        unifier = v.0;
        family = v.1;
        view = v.2;
        seen = int_back i.unifier (new_name M N b c good v.0 v.1 v.2 i.unifier i.family i.view 0 prog) (apply (look_in b v.0 v.1) x) z
            (named_there M N b c good v.0 v.1 v.2 i.unifier i.family i.view 0 prog x) (seen_other M N b c good v.0 v.1 v.2 i.unifier i.family i.view 0 prog x ∙ i.seen);
      }

  each_back : (H : ℤ → Type 0) (bs cs : List Branch) → AllGood M N bs cs → Each (λ d. (z : ℤ) × IsAnySeenAs M N d x z × H z) cs → Each (λ d. (z : ℤ) × IsSeenAs M N d x z × H z) bs
  each_back H [] [] h e = tt
  each_back H [] (c ∷ cs) h e = absurd h
  each_back H (b ∷ bs) [] h e = absurd h
  each_back H (b ∷ bs) (c ∷ cs) h e = ((e.0.0, seen_back b c h.0 e.0.0 e.0.1, e.0.2), each_back H bs cs h.1 e.1)

  -- where the one stands among the others
  record IsPlaced (bs : List Branch) (before : List Branch) (c : Branch) (behind : List Branch) : Type 0 where
    front : List Branch
    own : Branch
    rest : List Branch
    among : bs ≡ front ++ own ∷ rest
    earlier : AllGood M N front before
    good : IsGood M N own c
    later : AllGood M N rest behind

  placed : (bs before : List Branch) (c : Branch) (behind : List Branch) → AllGood M N bs (before ++ c ∷ behind) → IsPlaced bs before c behind
  placed [] [] c behind h = absurd h
  placed [] (d ∷ ds) c behind h = absurd h
  placed (b ∷ bs) [] c behind h = record { front = []; own = b; rest = bs; among = refl; earlier = tt; good = h.0; later = h.1 }
  placed (b ∷ bs) (d ∷ ds) c behind h =
      let k = placed bs ds c behind h.1 in
      record { front = b ∷ k.front; own = k.own; rest = k.rest; among = ap (λ l. b ∷ l) k.among; earlier = (h.0, k.earlier); good = k.good; later = k.later }

  best_back : (n : ℕ) (bs cs : List Branch) (c : Branch) → AllGood M N bs cs → Each (λ d. d.fresh ≡ n) bs → IsAnyBest M N least x cs c
      → (b : Branch) × IsBest M N least x bs b × IsGood M N b c × (b.fresh ≡ n)
  best_back n bs cs c h e i =
      let k = placed bs i.before c i.behind (subst (AllGood M N bs) i.among h) in (
        k.own,
        record {
          before = k.front;
          behind = k.rest;
          among = k.among;
          cost = i.cost;
          costs = seen_back k.own c k.good i.cost i.costs;
          earlier = each_back (λ z. IsBetter least i.cost z) k.front i.before k.earlier i.earlier;
          later = each_back (λ z. IsAsGood least i.cost z) k.rest i.behind k.later i.later;
        },
        k.good,
        (each_after (λ d. d.fresh ≡ n) k.front (k.own ∷ k.rest) (subst (Each (λ d. d.fresh ≡ n)) k.among e)).0,
      )

  -- what a search for the best leaf finds
  pub sought_back : (b c : Branch) (rest : List Goal) (o : Order) (t : Term) (cs : List Branch) → IsGood M N b c → TermBelow b.fresh t → AreRunnable M rest → EachBelow b.fresh rest
      → AnySoughtLeaf M N c rest o least t x cs → (bs : List Branch) × SoughtLeaf M N b rest o least t x bs × AllGood M N bs cs
  sought_back b c rest o t cs good below runs scoped f =
      let start : IsGood M N (with_goals b (Label o t ∷ [])) (with_goals c (Label o t ∷ [])) = record {
        pair = pair_goals b c good.pair (Label o t ∷ []);
        sound = (record { goals = (tt, tt); posted = good.sound.0.posted }, tt);
        scoped = record { goals = (below, tt); equations = good.scoped.equations };
        consistent = good.consistent;
      } in
      let k = leaves_back M N prog o t b.fresh below f.1 (with_goals b (Label o t ∷ []) ∷ []) (start, tt) (refl, tt) in
      by_leaves k.0 f.0 k.1 k.2 k.3 f.2
    where
      by_leaves : (ls ks : List Branch) → Leaves M N o t (with_goals b (Label o t ∷ []) ∷ []) ls → AllGood M N ls ks → Each (λ d. d.fresh ≡ b.fresh) ls → AnyBestLeaf M N least x rest ks cs
          → (bs : List Branch) × SoughtLeaf M N b rest o least t x bs × AllGood M N bs cs
      by_leaves [] [] i h e j = ([], ([], i, refl), subst (AllGood M N []) (sym j) tt)
      by_leaves [] (k ∷ ks) i h e j = absurd h
      by_leaves (l ∷ ls) [] i h e j = absurd h
      by_leaves (l ∷ ls) (k ∷ ks) i h e j =
          let best = best_back b.fresh (l ∷ ls) (k ∷ ks) j.0 h e j.1 in
          let from : best.0.fresh ≡ b.fresh = best.3 in (
            with_goals best.0 rest ∷ [],
            (l ∷ ls, i, (best.0, best.1, refl)),
            subst (AllGood M N (with_goals best.0 rest ∷ [])) (sym j.2) (
              record {
                pair = pair_goals best.0 j.0 best.2.pair rest;
                sound = (record { goals = runs; posted = best.2.sound.0.posted }, tt);
                scoped = record { goals = subst (λ m. EachBelow m rest) (sym from) scoped; equations = best.2.scoped.equations };
                consistent = best.2.consistent;
              },
              tt,
            ),
          )
