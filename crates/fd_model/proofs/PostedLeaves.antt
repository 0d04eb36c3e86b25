-- Leaves of posted lists: that there are some, that there are no others, and what holds of each.
use Rattle.std.proofs.Common.{◌≡◌, ℕ, zero, suc, ◌≤◌, ◌<◌, true, ◌==◌, List, [], ◌∷◌, ◌++◌, map, length, Option, Some, None, refl, ap}
use Rattle.std.proofs.Common.{sym, ◌∙◌, subst, inl, inr, arith, eqb-true, append_assoc}
use Rattle.std.proofs.lemmas.Bool.{or_cases, true≢false}
use Rattle.fd_model.specs.declared.kinds.Order.{Order}
use Rattle.fd_model.specs.declared.kinds.Order.TheVariants.{Leftmost, FirstFail}
use Rattle.fd_language.specs.Family.{Family, has, IsFamily, IsInside, IsRising, IsSubset}
use Rattle.fd_language.specs.Lists.{Each}
use Rattle.fd_language.specs.Range.{Indexical}
use Rattle.fd_language.specs.SingleValues.{only}
use Rattle.fd_model.specs.Labelling.{pick, first_open, fewest, open_ones}
use Rattle.fd_model.specs.PostedLeaves.{AreLeft, open_unless, seen_in, picked_in, exactly, with_value, KeptLists, PostedLeaves, no_leaves, leaf, grows}
use Rattle.fd_model.specs.Members.{Member, Open, Known}
use Rattle.fd_model.specs.BranchViews.{IsConsistent}
use Rattle.fd_language.proofs.Lemmas.{only_member, each_both}
use Rattle.fd_model.proofs.DeterminedValues.{single_from}
use Rattle.fd_model.proofs.ConsistentBranches.{decide_consistent}
use Rattle.fd_model.proofs.PickedMembers.{among_picked}
use Rattle.fd_model.proofs.PostedSets.{AllMonotone, monotone_more, left_there, left_once, left_narrower, left_exactly, left_some}

-- how many members are seen as open ones
abbrev pub opens : Family → List Member → ℕ
opens D ms = length (open_ones (map (seen_in D) ms))

-- where none is picked all are seen as integers
none_first : (ms : List Member) → first_open ms ≡ None → open_ones ms ≡ []
none_first [] e = refl
none_first (Known z ∷ ms) e = none_first ms e
none_first (Open x ∷ ms) e = absurd (let n : ⊥ = cc in n)

none_fewest : (values : ℕ → List ℕ) (ms : List Member) → fewest values ms ≡ None → open_ones ms ≡ []
none_fewest values [] e = refl
none_fewest values (Known z ∷ ms) e = none_fewest values ms e
none_fewest values (Open x ∷ ms) e = absurd (let n : ⊥ = cc in n)

pub none_picked : (o : Order) (values : ℕ → List ℕ) (ms : List Member) → pick o values ms ≡ None → open_ones ms ≡ []
none_picked Leftmost values ms e = none_first ms e
none_picked FirstFail values ms e = none_fewest values ms e

pub some_only : (xs : List ℕ) (n : ℕ) → only xs ≡ Some n → xs ≡ n ∷ []
some_only [] n e = absurd (let b : ⊥ = cc in b)
some_only (x ∷ []) n e = let k : x ≡ n = cc in ap (λ y. y ∷ []) k
some_only (x ∷ y ∷ ys) n e = absurd (let b : ⊥ = cc in b)

-- a part of a single value that isn't empty is that value
pub still_only : (M : ℕ) (xs ys : List ℕ) (n k : ℕ) → IsRising 0 M ys → IsSubset ys xs → only xs ≡ Some n → has ys k ≡ true → only ys ≡ Some n
still_only M xs ys n k r i e h =
    let in_one : (j : ℕ) → has ys j ≡ true → j ≡ n = λ j g. sym (only_member n j (subst (λ l. has l j ≡ true) (some_only xs n e) (i.each j g))) in
    ap only (single_from 0 M n ys r (subst (λ j. has ys j ≡ true) (in_one k h) h) in_one)

-- under smaller sets none of which is empty, no further member is open, and one fewer where an open one has a single value
module _ (M : ℕ) (D E : Family) (rises : IsFamily M E) (inside : IsInside E D) (some : (x : ℕ) → (n : ℕ) × (has (E x) n ≡ true)) where
  single : (y n : ℕ) → only (D y) ≡ Some n → only (E y) ≡ Some n
  single y n e = still_only M (D y) (E y) n (some y).0 (rises.rising y) (inside.at y) e (some y).1

  no_more : (ms : List Member) → opens E ms ≤ opens D ms
  no_more [] = omega arith
  no_more (Known z ∷ ms) = no_more ms
  no_more (Open y ∷ ms) = by_sets (only (D y)) (only (E y)) refl refl (no_more ms)
    where
      by_sets : (a b : Option ℕ) → only (D y) ≡ a → only (E y) ≡ b → opens E ms ≤ opens D ms
          → length (open_ones (open_unless y b ∷ map (seen_in E) ms)) ≤ length (open_ones (open_unless y a ∷ map (seen_in D) ms))
      by_sets (Some n) (Some k) e f h = h
      by_sets (Some n) None e f h = absurd (let g = single y n e in let b : ⊥ = cc in b)
      by_sets None (Some k) e f h = omega arith
      by_sets None None e f h = omega arith

  module _ (x v : ℕ) (fixed : only (E x) ≡ Some v) where
    pub one_fewer : (ms : List Member) → has (open_ones (map (seen_in D) ms)) x ≡ true → opens E ms < opens D ms
    one_fewer [] h = absurd (true≢false (sym h))
    one_fewer (Known z ∷ ms) h = one_fewer ms h
    one_fewer (Open y ∷ ms) h = by_sets (only (D y)) (only (E y)) refl refl h (λ g. one_fewer ms g)
      where
        by_name : (b : Option ℕ) → only (E y) ≡ b → (y == x) ≡ true → length (open_ones (open_unless y b ∷ map (seen_in E) ms)) < suc (opens D ms)
        by_name (Some k) f g = let j = no_more ms in omega arith
        by_name None f g = absurd (let j : y ≡ x = eqb-true y x g in let k = ap (λ z. only (E z)) j in let b : ⊥ = cc in b)

        by_rest : (b : Option ℕ) → opens E ms < opens D ms → length (open_ones (open_unless y b ∷ map (seen_in E) ms)) < suc (opens D ms)
        by_rest (Some k) j = omega arith
        by_rest None j = omega arith

        by_sets : (a b : Option ℕ) → only (D y) ≡ a → only (E y) ≡ b → has (open_ones (open_unless y a ∷ map (seen_in D) ms)) x ≡ true
            → (has (open_ones (map (seen_in D) ms)) x ≡ true → opens E ms < opens D ms)
            → length (open_ones (open_unless y b ∷ map (seen_in E) ms)) < length (open_ones (open_unless y a ∷ map (seen_in D) ms))
        by_sets (Some n) (Some k) e f g later = later g
        by_sets (Some n) None e f g later = absurd (let j = single y n e in let b : ⊥ = cc in b)
        by_sets None b e f g later = elim (or_cases (y == x) (has (open_ones (map (seen_in D) ms)) x) g) [ inl j ↦ by_name b f j | inr j ↦ by_rest b (later j) ]

some_length : (xs : List ℕ) (x : ℕ) → has xs x ≡ true → 0 < length xs
some_length [] x h = absurd (true≢false (sym h))
some_length (y ∷ ys) x h = omega arith

module _ (M : ℕ) (o : Order) (ms : List Member) where
  -- where the picked variable gets a value fewer members are open
  pub fewer_open : (ps : List Indexical) (D E : Family) (x n : ℕ) → AreLeft M ps D → picked_in o D ms ≡ Some x → AreLeft M (with_value ps x n) E
      → ((y : ℕ) → (k : ℕ) × (has (E y) k ≡ true)) → opens E ms < opens D ms
  fewer_open ps D E x n d e f some =
      let inside = left_narrower M ps (exactly x n ∷ []) D E d f in
      let one : E x ≡ n ∷ [] = single_from 0 M n (E x) (f.family.rising x) (subst (λ k. has (E x) k ≡ true) (left_exactly M ps x n E f (some x).0 (some x).1) (some x).1) (left_exactly M ps x n E f) in
      one_fewer M D E f.family inside some x n (ap only one) ms (among_picked o D (map (seen_in D) ms) x e)

  -- the consistent ones of its values
  abbrev SomeKept : List (List Indexical) → Type 0
  SomeKept bs = (cs : List (List Indexical)) × KeptLists M bs cs

  kept_there : (ps : List Indexical) (x : ℕ) → AllMonotone M ps → (ns : List ℕ) → SomeKept (map (with_value ps x) ns)
  kept_there ps x m [] = ([], refl)
  kept_there ps x m (n ∷ ns) =
      let rest = kept_there ps x m ns in
      elim (decide_consistent M M [] (with_value ps x n) (monotone_more M ps x n m)) [
        | inl c ↦ (with_value ps x n ∷ rest.0, inl (c, (rest.0, refl, rest.1)))
        | inr c ↦ (rest.0, inr (c, rest.1))
      ]

  -- what holds of each consistent one among posted lists holds of each that is kept
  pub each_kept : (P : List Indexical → Type 0) (bs cs : List (List Indexical)) → KeptLists M bs cs → Each (λ b. IsConsistent M M [] b → P b) bs → Each P cs
  each_kept P [] cs k h = subst (Each P) (sym k) tt
  each_kept P (b ∷ bs) cs (inl k) h = subst (Each P) (sym k.1.1) (h.0 k.0, each_kept P bs k.1.0 k.1.2 h.1)
  each_kept P (b ∷ bs) cs (inr k) h = each_kept P bs cs k.1 h.1

  kept_once : (bs cs ds : List (List Indexical)) → KeptLists M bs cs → KeptLists M bs ds → cs ≡ ds
  kept_once [] cs ds k j = k ∙ sym j
  kept_once (b ∷ bs) cs ds (inl k) (inl j) = k.1.1 ∙ ap (λ (xs : List (List Indexical)). b ∷ xs) (kept_once bs k.1.0 j.1.0 k.1.2 j.1.2) ∙ sym j.1.1
  kept_once (b ∷ bs) cs ds (inl k) (inr j) = absurd (j.0 k.0)
  kept_once (b ∷ bs) cs ds (inr k) (inl j) = absurd (k.0 j.0)
  kept_once (b ∷ bs) cs ds (inr k) (inr j) = kept_once bs cs ds k.1 j.1

  -- leaves of these posted lists, whatever others follow them
  abbrev Leads : List (List Indexical) → Type 0
  Leads cs = (bs ks : List (List Indexical)) → PostedLeaves M o ms bs ks → (ls : List (List Indexical)) × PostedLeaves M o ms (cs ++ bs) ls

  lead_all : (cs : List (List Indexical)) → Each (λ c. Leads (c ∷ [])) cs → Leads cs
  lead_all [] h bs ks l = (ks, l)
  lead_all (c ∷ cs) h bs ks l = let rest = lead_all cs h.1 bs ks l in h.0 (cs ++ bs) rest.0 rest.1

  kept_lead : (ps : List Indexical) (x : ℕ) → ((n : ℕ) → IsConsistent M M [] (with_value ps x n) → Leads (with_value ps x n ∷ [])) → (ns : List ℕ)
      → Each (λ b. IsConsistent M M [] b → Leads (b ∷ [])) (map (with_value ps x) ns)
  kept_lead ps x f [] = tt
  kept_lead ps x f (n ∷ ns) = (f n, kept_lead ps x f ns)

  lead_by : (k : ℕ) (ps : List Indexical) (D : Family) → AllMonotone M ps → AreLeft M ps D → opens D ms ≤ k → Leads (ps ∷ [])
  lead_by zero ps D m d h bs ks l = by_pick (picked_in o D ms) refl
    where
      by_pick : (p : Option ℕ) → picked_in o D ms ≡ p → (ls : List (List Indexical)) × PostedLeaves M o ms (ps ∷ bs) ls
      by_pick None e = (ps ∷ ks, leaf D d e l)
      by_pick (Some x) e = absurd (let j = some_length (open_ones (map (seen_in D) ms)) x (among_picked o D (map (seen_in D) ms) x e) in omega arith)
  lead_by (suc k) ps D m d h bs ks l = by_pick (picked_in o D ms) refl (λ c E n j a. lead_by k c E n j a)
    where
      by_pick : (p : Option ℕ) → picked_in o D ms ≡ p → ((c : List Indexical) (E : Family) → AllMonotone M c → AreLeft M c E → opens E ms ≤ k → Leads (c ∷ []))
          → (ls : List (List Indexical)) × PostedLeaves M o ms (ps ∷ bs) ls
      by_pick None e f = (ps ∷ ks, leaf D d e l)
      by_pick (Some x) e f =
          let kids = kept_there ps x m (D x) in
          let all = each_kept (λ c. Leads (c ∷ [])) (map (with_value ps x) (D x)) kids.0 kids.1 (kept_lead ps x (λ n c. let more = monotone_more M ps x n m in
          let E = left_there M (with_value ps x n) more in
          f (with_value ps x n) E.0 more E.1 (let j = fewer_open ps D E.0 x n d e E.1 (left_some M (with_value ps x n) E.0 c E.1) in omega arith)) (D x)) in
          let made = lead_all kids.0 all bs ks l in
          (made.0, grows D x kids.0 d e kids.1 made.1)

  -- Where all posted ranges are monotone there are leaves ..
  pub leaves_there : (ps : List Indexical) → AllMonotone M ps → (ls : List (List Indexical)) × PostedLeaves M o ms (ps ∷ []) ls
  leaves_there ps m = let d = left_there M ps m in lead_by (opens d.0 ms) ps d.0 m d.1 (omega arith) [] [] no_leaves

  same_pick : (ps : List Indexical) (D E : Family) (p q : Option ℕ) → AreLeft M ps D → AreLeft M ps E → picked_in o D ms ≡ p → picked_in o E ms ≡ q → p ≡ q
  same_pick ps D E p q d e f g = sym f ∙ ap (λ S. picked_in o S ms) (left_once M ps D E d e) ∙ g

  -- .. and only these.
  pub leaves_once : {bs ls ks : List (List Indexical)} → PostedLeaves M o ms bs ls → PostedLeaves M o ms bs ks → ls ≡ ks
  leaves_once no_leaves no_leaves = refl
  leaves_once (leaf {b = b} D d e l) (leaf E f g k) = ap (λ (xs : List (List Indexical)). b ∷ xs) (leaves_once l k)
  leaves_once (leaf {b = b} D d e l) (grows E x cs f g h k) = absurd (let j = same_pick b D E None (Some x) d f e g in let n : ⊥ = cc in n)
  leaves_once (grows {b = b} D x cs d e h l) (leaf E f g k) = absurd (let j = same_pick b D E (Some x) None d f e g in let n : ⊥ = cc in n)
  leaves_once {ks = ks} (grows {b = b} {bs = bs} D x cs d e h l) (grows E y ds f g i k) =
      let j : Some x ≡ Some y = same_pick b D E (Some x) (Some y) d f e g in
      let same : x ≡ y = cc in
      let values : map (with_value b y) (E y) ≡ map (with_value b x) (D x) = ap (λ z. map (with_value b z) (E z)) (sym same)
      ∙ ap (λ (S : Family). map (with_value b x) (S x)) (left_once M b E D f d) in
      let kids : ds ≡ cs = kept_once (map (with_value b x) (D x)) ds cs (subst (λ vs. KeptLists M vs ds) values i) h in
      leaves_once l (subst (λ xs. PostedLeaves M o ms (xs ++ bs) ks) kids k)

  -- leaves of posted lists put together are those of the first ones, and then of the others
  pub record AreParted (cs bs ls : List (List Indexical)) : Type 0 where
    pub front : List (List Indexical)
    pub rest : List (List Indexical)
    pub parts : ls ≡ front ++ rest
    pub first : PostedLeaves M o ms cs front
    pub others : PostedLeaves M o ms bs rest

  pub parted : {as' ls : List (List Indexical)} → PostedLeaves M o ms as' ls → (cs bs : List (List Indexical)) → as' ≡ cs ++ bs → AreParted cs bs ls
  parted {as'} {ls} l [] bs e = record { front = []; rest = ls; parts = refl; first = no_leaves; others = subst (λ xs. PostedLeaves M o ms xs ls) e l }
  parted no_leaves (c ∷ cs) bs e = absurd (let n : ⊥ = cc in n)
  parted (leaf {b = b} {bs = as'} D d f l) (c ∷ cs) bs e =
      let same : b ≡ c = cc in
      let more : as' ≡ cs ++ bs = cc in
      let p = parted l cs bs more in
      record {
        front = b ∷ p.front;
        rest = p.rest;
        parts = ap (λ (xs : List (List Indexical)). b ∷ xs) p.parts;
        first = subst (λ x. PostedLeaves M o ms (x ∷ cs) (b ∷ p.front)) same (leaf D d f p.first);
        others = p.others;
      }
  parted (grows {b = b} {bs = as'} D x ks d f k l) (c ∷ cs) bs e =
      let same : b ≡ c = cc in
      let more : as' ≡ cs ++ bs = cc in
      let p = parted l (ks ++ cs) bs (ap (λ (xs : List (List Indexical)). ks ++ xs) more ∙ sym (append_assoc ks cs bs)) in
      record {
        front = p.front;
        rest = p.rest;
        parts = p.parts;
        first = subst (λ y. PostedLeaves M o ms (y ∷ cs) p.front) same (grows D x ks d f k p.first);
        others = p.others;
      }

-- What holds of a posted list and comes down from each one to its children holds, as it does of an end, of each leaf.
module _ (M : ℕ) (o : Order) (ms : List Member) (P Q : List Indexical → Type 0)
    (down : (ps : List Indexical) (D : Family) (x n : ℕ) → P ps → AreLeft M ps D → picked_in o D ms ≡ Some x → IsConsistent M M [] (with_value ps x n) → P (with_value ps x n))
    (end : (ps : List Indexical) (D : Family) → P ps → AreLeft M ps D → picked_in o D ms ≡ None → Q ps)
  where
    all_down : (ps : List Indexical) (D : Family) (x : ℕ) → P ps → AreLeft M ps D → picked_in o D ms ≡ Some x → (ns : List ℕ) → Each (λ c. IsConsistent M M [] c → P c) (map (with_value ps x) ns)
    all_down ps D x p d e [] = tt
    all_down ps D x p d e (n ∷ ns) = (down ps D x n p d e, all_down ps D x p d e ns)

    pub each_leaf : {bs ls : List (List Indexical)} → PostedLeaves M o ms bs ls → Each P bs → Each Q ls
    each_leaf no_leaves h = tt
    each_leaf (leaf {b = b} D d e l) h = (end b D h.0 d e, each_leaf l h.1)
    each_leaf (grows {b = b} {bs = bs} D x cs d e k l) h = each_leaf l (each_both P cs bs (each_kept M o ms P (map (with_value b x) (D x)) cs k (all_down b D x h.0 d e (D x))) h.1)
