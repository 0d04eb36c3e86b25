-- The order of leaves, by the values of the members.
use Rattle.std.proofs.Common.{◌≡◌, ℕ, zero, suc, ◌≤◌, ◌<◌, true, ◌==◌, List, [], ◌∷◌, ◌++◌, map, Option, Some, None, ◌⊎◌, refl, ap, sym, ◌∙◌, subst, inl, inr}
use Rattle.std.proofs.Common.{arith, eqb-true, append-nil}
use Rattle.std.proofs.lemmas.Bool.{or_cases, or_left, or_right, true≢false}
use Rattle.fd_model.specs.declared.kinds.Order.{Order}
use Rattle.fd_model.specs.declared.kinds.Order.TheVariants.{Leftmost, FirstFail}
use Rattle.fd_language.specs.Family.{Family, has, IsInside, IsRising}
use Rattle.fd_language.specs.Lists.{Each}
use Rattle.fd_language.specs.Range.{Indexical}
use Rattle.fd_language.specs.SingleValues.{only}
use Rattle.fd_language.proofs.Lemmas.{only_member, first_member, each_both}
use Rattle.fd_model.specs.Answers.{InOrder, Precedes}
use Rattle.fd_model.specs.Labelling.{first_open, open_ones}
use Rattle.fd_model.specs.Members.{Member, Open, Known}
use Rattle.fd_model.specs.PostedLeaves.{AreLeft, open_unless, seen_in, picked_in, exactly, with_value, KeptLists, PostedLeaves, no_leaves, leaf, grows}
use Rattle.fd_model.specs.PostedLaws.{ComesBefore, LeavesInOrder}
use Rattle.fd_model.specs.BranchViews.{IsConsistent}
use Rattle.fd_model.proofs.DeterminedValues.{single_from}
use Rattle.fd_model.proofs.PostedSets.{AllMonotone, monotone_more, left_there, left_once, left_narrower, left_exactly, left_some}
use Rattle.fd_model.proofs.PickedMembers.{among_picked}
use Rattle.fd_model.proofs.PostedLeaves.{opens, some_only, fewer_open, each_leaf, parted}

abbrev alone : ℕ → List ℕ
alone n = n ∷ []

-- two families that give the variables of a list single values
no_singles : (E : Family) (xs : List ℕ) (x : ℕ) → map E (x ∷ xs) ≡ map alone [] → ⊥
no_singles E xs x e = cc

families_at : (E F : Family) (xs : List ℕ) (x : ℕ) → map E xs ≡ map F xs → has xs x ≡ true → E x ≡ F x
families_at E F [] x e h = absurd (true≢false (sym h))
families_at E F (y ∷ xs) x e h = elim (or_cases (y == x) (has xs x) h) [
  | inl k ↦ let j : E y ≡ F y = cc in subst (λ v. E v ≡ F v) (eqb-true y x k) j
  | inr k ↦ families_at E F xs x (let j : map E xs ≡ map F xs = cc in j) k
]

single_same : (n k : ℕ) → alone n ≡ alone k → n ≡ k
single_same n k e = cc

module _ (D E F : Family) (first : IsInside E D) (second : IsInside F D) (x n m : ℕ) (here : E x ≡ n ∷ []) (there : F x ≡ m ∷ []) (less : n < m) where
  -- the value of a member that has one already
  settled : (G : Family) (y v k : ℕ) → IsInside G D → only (D y) ≡ Some v → G y ≡ k ∷ [] → v ≡ k
  settled G y v k i e f = only_member v k (subst (λ l. has l k ≡ true) (some_only (D y) v e) ((i.at y).each k (subst (λ l. has l k ≡ true) (sym f) (first_member k []))))

  rises : (ms : List Member) → first_open (map (seen_in D) ms) ≡ Some x → (ns ks : List ℕ) → map E (open_ones ms) ≡ map alone ns → map F (open_ones ms) ≡ map alone ks → Precedes ns ks
  rises [] e ns ks f g = absurd (let b : ⊥ = cc in b)
  rises (Known z ∷ ms) e ns ks f g = rises ms e ns ks f g
  rises (Open y ∷ ms) e [] ks f g = absurd (no_singles E (open_ones ms) y f)
  rises (Open y ∷ ms) e (i ∷ ns) [] f g = absurd (no_singles F (open_ones ms) y g)
  rises (Open y ∷ ms) e (i ∷ ns) (k ∷ ks) f g =
      let one : E y ≡ i ∷ [] = cc in
      let two : F y ≡ k ∷ [] = cc in
      let f' : map E (open_ones ms) ≡ map alone ns = cc in
      let g' : map F (open_ones ms) ≡ map alone ks = cc in
      by_set (only (D y)) refl e one two (λ j. rises ms j ns ks f' g')
    where
      by_set : (s : Option ℕ) → only (D y) ≡ s → first_open (open_unless y s ∷ map (seen_in D) ms) ≡ Some x → E y ≡ i ∷ [] → F y ≡ k ∷ []
          → (first_open (map (seen_in D) ms) ≡ Some x → Precedes ns ks) → (i < k) ⊎ ((i ≡ k) × Precedes ns ks)
      by_set None s j one two later =
          let same : y ≡ x = cc in
          let a : i ≡ n = single_same i n (sym one ∙ ap E same ∙ here) in
          let b : k ≡ m = single_same k m (sym two ∙ ap F same ∙ there) in
          inl (omega arith)
      by_set (Some v) s j one two later = inr (sym (settled E y v i first s one) ∙ settled F y v k second s two, later j)

  differs : (ms : List Member) → has (open_ones ms) x ≡ true → (ns ks : List ℕ) → map E (open_ones ms) ≡ map alone ns → map F (open_ones ms) ≡ map alone ks → ns ≡ ks → ⊥
  differs ms h ns ks f g e =
      let same = families_at E F (open_ones ms) x (f ∙ ap (map alone) e ∙ sym g) h in
      let k : n ≡ m = single_same n m (sym here ∙ same ∙ there) in
      absurd (omega arith)

still_among : (D : Family) (ms : List Member) (x : ℕ) → has (open_ones (map (seen_in D) ms)) x ≡ true → has (open_ones ms) x ≡ true
still_among D [] x h = h
still_among D (Known z ∷ ms) x h = still_among D ms x h
still_among D (Open y ∷ ms) x h = by_set (only (D y)) h (still_among D ms x)
  where
    by_set : (o : Option ℕ) → has (open_ones (open_unless y o ∷ map (seen_in D) ms)) x ≡ true
        → (has (open_ones (map (seen_in D) ms)) x ≡ true → has (open_ones ms) x ≡ true) → has (y ∷ open_ones ms) x ≡ true
    by_set None g later = elim (or_cases (y == x) (has (open_ones (map (seen_in D) ms)) x) g)
        [ inl e ↦ or_left (y == x) (has (open_ones ms) x) e | inr e ↦ or_right (y == x) (has (open_ones ms) x) (later e) ]
    by_set (Some n) g later = or_right (y == x) (has (open_ones ms) x) (later g)

in_order_both : {X : Type 0} (R : X → X → Type 0) (xs ys : List X) → InOrder R xs → InOrder R ys → Each (λ x. Each (R x) ys) xs → InOrder R (xs ++ ys)
in_order_both R [] ys h g c = g
in_order_both R (x ∷ xs) ys h g c = (each_both (R x) xs ys h.0 c.0, in_order_both R xs ys h.1 g c.1)

each_given : {X : Type 0} (H G : X → Type 0) → ((x : X) → H x → G x) → (xs : List X) → Each H xs → Each G xs
each_given H G f [] h = tt
each_given H G f (x ∷ xs) h = (f x h.0, each_given H G f xs h.1)

module _ (M : ℕ) (o : Order) (ms : List Member) where
  abbrev R : List Indexical → List Indexical → Type 0
  R l k = ComesBefore M o (open_ones ms) l k

  module _ (ps : List Indexical) (D : Family) (x : ℕ) (d : AreLeft M ps D) (p : picked_in o D ms ≡ Some x) where
    -- a leaf below the child that gives the picked variable the value m
    record IsUnder (m : ℕ) (l : List Indexical) : Type 0 where
      pub family : Family
      pub left : AreLeft M l family
      pub inside : IsInside family D
      pub value : family x ≡ m ∷ []

    record StaysUnder (m : ℕ) (l : List Indexical) : Type 0 where
      pub consistent : IsConsistent M M [] l
      pub inside : (E : Family) → AreLeft M l E → IsInside E D
      pub value : (E : Family) → AreLeft M l E → (k : ℕ) → has (E x) k ≡ true → k ≡ m

    under_more : (m : ℕ) (qs : List Indexical) (E : Family) (y n : ℕ) → StaysUnder m qs → AreLeft M qs E → picked_in o E ms ≡ Some y
        → IsConsistent M M [] (with_value qs y n) → StaysUnder m (with_value qs y n)
    under_more m qs E y n u e q c = record {
      consistent = c;
      inside = λ F f. record { at = λ v. record { each = λ k h. ((u.inside E e).at v).each k (((left_narrower M qs (exactly y n ∷ []) E F e f).at v).each k h) } };
      value = λ F f k h. u.value E e k (((left_narrower M qs (exactly y n ∷ []) E F e f).at x).each k h);
    }

    under_end : (m : ℕ) (qs : List Indexical) (E : Family) → StaysUnder m qs → AreLeft M qs E → picked_in o E ms ≡ None → IsUnder m qs
    under_end m qs E u e q =
        let s = left_some M qs E u.consistent e x in
        record {
          family = E;
          left = e;
          inside = u.inside E e;
          value = single_from 0 M m (E x) (e.family.rising x) (subst (λ k. has (E x) k ≡ true) (u.value E e s.0 s.1) s.1) (u.value E e);
        }

    all_under : (m : ℕ) (ls : List (List Indexical)) → IsConsistent M M [] (with_value ps x m) → PostedLeaves M o ms (with_value ps x m ∷ []) ls → Each (IsUnder m) ls
    all_under m ls c l = each_leaf M o ms (StaysUnder m) (IsUnder m) (under_more m) (under_end m) l
        (record { consistent = c; inside = λ E e. left_narrower M ps (exactly x m ∷ []) D E d e; value = λ E e. left_exactly M ps x m E e }, tt)

    comes : (q : Order) → picked_in q D ms ≡ Some x → (n m : ℕ) → n < m → (l k : List Indexical) → IsUnder n l → IsUnder m k → ComesBefore M q (open_ones ms) l k
    comes Leftmost e n m less l k u v ns ks h g =
        rises D u.family v.family u.inside v.inside x n m u.value v.value less ms e ns ks
        (ap (λ (S : Family). map S (open_ones ms)) (left_once M l u.family h.family u.left h.left) ∙ h.values)
        (ap (λ (S : Family). map S (open_ones ms)) (left_once M k v.family g.family v.left g.left) ∙ g.values)
    comes FirstFail e n m less l k u v ns ks h g =
        differs D u.family v.family u.inside v.inside x n m u.value v.value less ms (still_among D ms x (among_picked FirstFail D (map (seen_in D) ms) x e)) ns ks
        (ap (λ (S : Family). map S (open_ones ms)) (left_once M l u.family h.family u.left h.left) ∙ h.values)
        (ap (λ (S : Family). map S (open_ones ms)) (left_once M k v.family g.family v.left g.left) ∙ g.values)

    abbrev From : ℕ → List Indexical → Type 0
    From low l = (m : ℕ) × (low ≤ m) × IsUnder m l

    higher : (low n : ℕ) → low ≤ n → (ls : List (List Indexical)) → Each (From (suc n)) ls → Each (From low) ls
    higher low n h ls g = each_given (From (suc n)) (From low) (λ l f. (f.0, let k = f.1 in omega arith, f.2)) ls g

    kids_in_order : ((n : ℕ) → IsConsistent M M [] (with_value ps x n) → (ls : List (List Indexical)) → PostedLeaves M o ms (with_value ps x n ∷ []) ls
        → InOrder R ls) → (low : ℕ) (ns : List ℕ) → IsRising low M ns → (cs : List (List Indexical)) → KeptLists M (map (with_value ps x) ns) cs
        → (ls : List (List Indexical)) → PostedLeaves M o ms cs ls → InOrder R ls × Each (From low) ls
    kids_in_order ih low [] r cs k ls l = none_given ls (subst (λ (xs : List (List Indexical)). PostedLeaves M o ms xs ls) k l)
      where
        none_of : {xs ys : List (List Indexical)} → PostedLeaves M o ms xs ys → xs ≡ [] → ys ≡ []
        none_of no_leaves e = refl
        none_of (leaf E a b t) e = absurd (let n : ⊥ = cc in n)
        none_of (grows E y ds a b f t) e = absurd (let n : ⊥ = cc in n)

        none_given : (ys : List (List Indexical)) → PostedLeaves M o ms [] ys → InOrder R ys × Each (From low) ys
        none_given ys t = subst (λ (xs : List (List Indexical)). InOrder R xs × Each (From low) xs) (sym (none_of t refl)) (tt, tt)
    kids_in_order ih low (n ∷ ns) r cs (inl k) ls l =
        let c = with_value ps x n in
        let t = parted M o ms l (c ∷ []) k.1.0 k.1.1 in
        let rest = kids_in_order ih (suc n) ns r.2 k.1.0 k.1.2 t.rest t.others in
        let front = all_under n t.front k.0 t.first in
        let low_here : low ≤ n = r.0 in
        let cross : Each (λ a. Each (R a) t.rest) t.front = each_given (IsUnder n) (λ a. Each (R a) t.rest)
        (λ a u. each_given (From (suc n)) (R a) (λ b f. comes o p n f.0 (let h = f.1 in omega arith) a b u f.2) t.rest rest.1) t.front front in
        subst (λ (xs : List (List Indexical)). InOrder R xs × Each (From low) xs) (sym t.parts) (
          in_order_both R t.front t.rest (ih n k.0 t.front t.first) rest.0 cross,
          each_both (From low) t.front t.rest (each_given (IsUnder n) (From low) (λ a u. (n, low_here, u)) t.front front) (higher low n low_here t.rest rest.1),
        )
    kids_in_order ih low (n ∷ ns) r cs (inr k) ls l =
        let rest = kids_in_order ih (suc n) ns r.2 cs k.1 ls l in
        (rest.0, higher low n r.0 ls rest.1)

  -- the leaves of one posted list
  abbrev Ordered : List Indexical → Type 0
  Ordered ps = (ls : List (List Indexical)) → PostedLeaves M o ms (ps ∷ []) ls → InOrder R ls

  at_tree : (ps : List Indexical) → ((D : Family) (x : ℕ) → AreLeft M ps D → picked_in o D ms ≡ Some x → (n : ℕ) → IsConsistent M M [] (with_value ps x n)
      → Ordered (with_value ps x n)) → {as' ls : List (List Indexical)} → PostedLeaves M o ms as' ls → as' ≡ ps ∷ [] → InOrder R ls
  at_tree ps ih no_leaves e = tt
  at_tree ps ih (leaf {b = b} {bs = bs} {ls = ls} D d f l) e =
      let none : bs ≡ [] = cc in
      let over : ls ≡ [] = none_of l none in
      subst (λ (xs : List (List Indexical)). InOrder R (b ∷ xs)) (sym over) (tt, tt)
    where
      none_of : {xs ys : List (List Indexical)} → PostedLeaves M o ms xs ys → xs ≡ [] → ys ≡ []
      none_of no_leaves e = refl
      none_of (leaf E a b t) e = absurd (let n : ⊥ = cc in n)
      none_of (grows E y ds a b f t) e = absurd (let n : ⊥ = cc in n)
  at_tree ps ih {ls = ls} (grows {b = b} {bs = bs} D x cs d f k l) e =
      let same : b ≡ ps = cc in
      let none : bs ≡ [] = cc in
      let d' = subst (λ (qs : List Indexical). AreLeft M qs D) same d in
      let k' = subst (λ (qs : List Indexical). KeptLists M (map (with_value qs x) (D x)) cs) same k in
      let l' : PostedLeaves M o ms cs ls = subst (λ (xs : List (List Indexical)). PostedLeaves M o ms xs ls) (ap (λ (xs : List (List Indexical)). cs ++ xs) none ∙ append-nil cs) l in
      (kids_in_order ps D x d' f (λ n c ks t. ih D x d' f n c ks t) 0 (D x) (d.family.rising x) cs k' ls l').0

  ordered_by : (k : ℕ) (ps : List Indexical) (D : Family) → AllMonotone M ps → AreLeft M ps D → opens D ms ≤ k → Ordered ps
  ordered_by zero ps D m d h ls l = at_tree ps (λ E x e p n c ks t. absurd (
      let same = left_once M ps E D e d in
      let f = fewer_open M o ms ps E (left_there M (with_value ps x n) (monotone_more M ps x n m)).0 x n e p
      (left_there M (with_value ps x n) (monotone_more M ps x n m)).1
      (left_some M (with_value ps x n) (left_there M (with_value ps x n) (monotone_more M ps x n m)).0 c
      (left_there M (with_value ps x n) (monotone_more M ps x n m)).1) in
      let g = ap (λ (S : Family). opens S ms) same in
      omega arith)) l refl
  ordered_by (suc k) ps D m d h ls l = at_tree ps (λ E x e p n c ks t.
      let more = monotone_more M ps x n m in
      let F = left_there M (with_value ps x n) more in
      let f = fewer_open M o ms ps E F.0 x n e p F.1 (left_some M (with_value ps x n) F.0 c F.1) in
      let g = ap (λ (S : Family). opens S ms) (left_once M ps E D e d) in
      ordered_by k (with_value ps x n) F.0 more F.1 (omega arith) ks t) l refl

pub in_order : LeavesInOrder
in_order M o ms ps ls mono ok l = let d = left_there M ps mono in ordered_by M o ms (opens d.0 ms) ps d.0 mono d.1 (omega arith) ls l
