-- Posting a range without parameters: exactly one extension fits where its target lies in it.
use Rattle.std.proofs.Common.{◌≡◌, ℕ, suc, ◌+◌, ◌≤◌, ◌<◌, Bool, true, false, cond, not, ◌||◌, ◌==◌, ℤ, pos, List, [], ◌∷◌, ◌++◌, length, refl, ap, sym, ◌∙◌}
use Rattle.std.proofs.Common.{subst, inl, inr, arith, eqb-true, eq-eqb, Option, Some, None}
use Rattle.std.proofs.lemmas.Int.{ints}
use Rattle.std.proofs.lemmas.Bool.{cases_Bool, true≢false}
use Rattle.fd_model.specs.declared.kinds.QueryFault.{QueryFault}
use Rattle.fd_language.specs.Term.{Term, Var, Int, Atom, Comp}
use Rattle.fd_language.specs.Unifier.{Equation}
use Rattle.fd_language.specs.Family.{has}
use Rattle.fd_language.specs.Range.{Range, Indexical, set_of}
use Rattle.fd_language.specs.Check.{fill_range}
use Rattle.fd_language.specs.Range.{params}
use Rattle.fd_language.specs.RangeRenaming.{rename_range}
use Rattle.fd_language.specs.Occurrences.{Occurrence, one_occurrence, range_occurrences}
use Rattle.fd_model.specs.Posting.{is_integer, integers_at, integer_of, slot, slot_equations, posts, unless_offence}
use Rattle.fd_model.specs.RunnablePrograms.{OccurrencesBelow, RangeBelow}
use Rattle.fd_language.proofs.Lemmas.{set_same, each_both, filled_as_is, reads_occur}
use Rattle.fd_model.specs.Satisfaction.{Assignment, singles, worth}
use Rattle.fd_model.specs.FlatConstraints.{SeesNumbers}
use Rattle.fd_model.specs.PostingLaws.{Solves, IsPosted, PostedRange}
use Rattle.fd_model.proofs.FreshVariables.{changed, changed_here, changed_other, changed_small}
use Rattle.fd_language.specs.Lists.{Each}

module _ (M N n : ℕ) (look : ℕ → Term) (a : Assignment) (sees : SeesNumbers M look) (agree : (x : ℕ) → worth a (look x) ≡ pos (a x)) (small : (v : ℕ) → a v ≤ N) where
  -- a variable that is seen as its integer
  abbrev Slotted : ℕ → Type 0
  Slotted x = (look x ≡ Int (pos (a x))) × (x < n)

  as_integer : (x : ℕ) → is_integer (look x) ≡ true → look x ≡ Int (pos (a x))
  as_integer x h = elim (sees x) [
    | inl e ↦ absurd (true≢false (sym (ap is_integer (sym e.1) ∙ h)))
    | inr e ↦ e.2 ∙ ap Int (sym (ap (worth a) e.2) ∙ agree x)
  ]

  slotted_at : (ps : List Occurrence) (ys : List ℕ) → OccurrencesBelow n ps → Each Slotted ys → Each Slotted (integers_at look ps ys)
  slotted_at [] ys l h = h
  slotted_at (p ∷ ps) ys l h =
      by_test (p.parameter || (not (is_integer (look p.variable)) || has ys p.variable))
      (slotted_at ps ys l.1 h) (λ e. slotted_at ps (ys ++ p.variable ∷ []) l.1
      (each_both Slotted ys (p.variable ∷ []) h (
        (as_integer p.variable (whole p.parameter (is_integer (look p.variable)) (has ys p.variable) e), l.0),
        tt,
      ))) where
        whole : (p q r : Bool) → (p || (not q || r)) ≡ false → q ≡ true
        whole p q r h = grind arith

        by_test : (c : Bool) → Each Slotted (integers_at look ps ys) → (c ≡ false → Each Slotted (integers_at look ps (ys ++ p.variable ∷ [])))
            → Each Slotted (cond c (integers_at look ps ys) (integers_at look ps (ys ++ p.variable ∷ [])))
        by_test true f g = f
        by_test false f g = g refl

  -- the fresh ones have the values of those that they stand for
  slot_value : (b : Assignment) (ys : List ℕ) (k y : ℕ) → Each Slotted ys → Solves b (slot_equations look k ys) → b y ≡ a y → b (slot k ys y) ≡ a y
  slot_value b [] k y q s e = e
  slot_value b (x ∷ xs) k y q s e = by_test (x == y) (eqb-true x y) (slot_value b xs (suc k) y q.1 s.1 e) where
    fresh : b k ≡ a x
    fresh = let f : pos (b k) ≡ pos (a x) = s.0 ∙ ap (worth b) q.0.0 in omega (arith, ints)

    by_test : (c : Bool) → (c ≡ true → x ≡ y) → b (slot (suc k) xs y) ≡ a y → b (cond c k (slot (suc k) xs y)) ≡ a y
    by_test true f g = fresh ∙ ap a (f refl)
    by_test false f g = g

  slotted : Assignment → ℕ → List ℕ → Assignment
  slotted b k [] = b
  slotted b k (x ∷ xs) = slotted (changed b k (a x)) (suc k) xs

  slotted_below : (ys : List ℕ) (b : Assignment) (k v : ℕ) → v < k → slotted b k ys v ≡ b v
  unfolding slotted
  slotted_below [] b k v l = refl
  slotted_below (x ∷ xs) b k v l = slotted_below xs (changed b k (a x)) (suc k) v (omega arith) ∙ changed_other b k (a x) v (λ e. absurd (omega arith))

  slotted_small : (ys : List ℕ) (b : Assignment) (k : ℕ) → ((v : ℕ) → b v ≤ N) → (v : ℕ) → slotted b k ys v ≤ N
  unfolding slotted
  slotted_small [] b k s v = s v
  slotted_small (x ∷ xs) b k s v = slotted_small xs (changed b k (a x)) (suc k) (changed_small N b k (a x) (small x) s) v

  slotted_solves : (ys : List ℕ) (b : Assignment) (k : ℕ) → Each Slotted ys → Solves (slotted b k ys) (slot_equations look k ys)
  unfolding slotted
  slotted_solves [] b k q = tt
  slotted_solves (x ∷ xs) b k q =
      let c = slotted (changed b k (a x)) (suc k) xs in
      (ap pos (slotted_below xs (changed b k (a x)) (suc k) k (omega arith) ∙ changed_here b k (a x)) ∙ sym (ap (worth c) q.0.0), slotted_solves xs (changed b k (a x)) (suc k) q.1)

  solves_agree : (ys : List ℕ) (k : ℕ) (b c : Assignment) → Each Slotted ys → ((v : ℕ) → v < k → b v ≡ c v) → Solves b (slot_equations look k ys)
      → Solves c (slot_equations look k ys) → (v : ℕ) → v < k + length ys → b v ≡ c v
  solves_agree [] k b c q s h g v l = s v (omega arith)
  solves_agree (x ∷ xs) k b c q s h g v l =
      solves_agree xs (suc k) b c q.1
      (λ u i. elim (cases_Bool (u == k)) [ inl e ↦ subst (λ y. b y ≡ c y) (sym (eqb-true u k e)) here | inr e ↦ s u (less u k e i) ])
      h.1 g.1 v (omega arith) where
        here : b k ≡ c k
        here = let f : pos (b k) ≡ pos (a x) = h.0 ∙ ap (worth b) q.0.0 in let g2 : pos (c k) ≡ pos (a x) = g.0 ∙ ap (worth c) q.0.0 in omega (arith, ints)

        less : (w n : ℕ) → (w == n) ≡ false → w < suc n → w < n
        less w n k l = grind (arith, eq-eqb)

  -- the set of what is posted
  posted_set : (b : Assignment) (ys : List ℕ) (k : ℕ) (r : Range) (q : ℕ → ℤ) → RangeBelow n r → params r ≡ [] → Each Slotted ys → Solves b (slot_equations look k ys) → ((v : ℕ) → v < n → b v ≡ a v)
      → set_of M (singles b) (rename_range (slot k ys) (fill_range q r)) ≡ set_of M (singles a) r
  posted_set b ys k r q l e s h same =
      ap (λ w. set_of M (singles b) (rename_range (slot k ys) w)) (filled_as_is q r e)
      ∙ set_same M (slot k ys) (singles b) (singles a) r (λ v i. ap (λ w. w ∷ []) (slot_value b ys k v s h (same v (reads_occur (λ x. x < n) r l v i))))

  slot_other : (ys : List ℕ) (k : ℕ) → Each Slotted ys → slot k ys n ≡ n
  slot_other [] k q = refl
  slot_other (x ∷ xs) k q = by_test (x == n) (eqb-true x n) (slot_other xs (suc k) q.1) where
    by_test : (c : Bool) → (c ≡ true → x ≡ n) → slot (suc k) xs n ≡ n → cond c k (slot (suc k) xs n) ≡ n
    by_test true f g = absurd (let e = f refl in let l = q.0.1 in omega arith)
    by_test false f g = g

  -- T is a variable
  variable_posted : (v : ℕ) (r : Range) → v < n → RangeBelow n r → params r ≡ [] →
      let ys = integers_at look (one_occurrence v false ++ range_occurrences r) [] in
      IsPosted M N (Var v) r n (n + length ys) (record { target = slot n ys v; range = rename_range (slot n ys) (fill_range (λ y. integer_of (look y)) r) }) (slot_equations look n ys) a
  variable_posted v r l below none =
      let ys = integers_at look (one_occurrence v false ++ range_occurrences r) [] in
      let q : ℕ → ℤ = λ y. integer_of (look y) in
      let s = slotted_at (one_occurrence v false ++ range_occurrences r) [] (l, below) tt in
      record {
        one = λ h.
            let b = slotted a n ys in
            let same : (w : ℕ) → w < n → b w ≡ a w = λ w i. slotted_below ys a n w i in
            let solves = slotted_solves ys a n s in
            let sets = posted_set b ys n r q below none s solves same in
            let e : h.number ≡ b (slot n ys v) = let f = h.is in let g = slot_value b ys n v s solves (same v l) in omega (arith, ints) in
            record {
              extension = b;
              extends = record { within = slotted_small ys a n small; same = same };
              fits = record { solves = solves; inside = subst (λ xs. has xs (b (slot n ys v)) ≡ true) (sym sets) (subst (λ k. has (set_of M (singles a) r) k ≡ true) e h.inside) };
              only = λ c x f w i. solves_agree ys n c b s (λ u j. x.same u j ∙ sym (same u j)) f.solves solves w i;
            };
        satisfied = λ b x f.
            let sets = posted_set b ys n r q below none s f.solves x.same in
            let e = slot_value b ys n v s f.solves (x.same v l) in
            record { number = a v; within = small v; is = refl; inside = subst (λ k. has (set_of M (singles a) r) k ≡ true) e (subst (λ xs. has xs (b (slot n ys v)) ≡ true) sets f.inside) };
      }

  -- T is an integer
  integer_posted : (z : ℤ) (r : Range) → RangeBelow n r → params r ≡ [] →
      let ys = integers_at look (range_occurrences r) [] in
      IsPosted M N (Int z) r n (suc n + length ys) (record {
        target = slot (suc n) ys n;
        range = rename_range (slot (suc n) ys) (fill_range (λ y. integer_of (look y)) r);
      })
      (record { left = Var n; right = Int z } ∷ slot_equations look (suc n) ys) a
  integer_posted z r below none =
      let ys = integers_at look (range_occurrences r) [] in
      let q : ℕ → ℤ = λ y. integer_of (look y) in
      let s = slotted_at (range_occurrences r) [] below tt in
      let target = slot_other ys (suc n) s in
      record {
        one = λ h.
            let c = changed a n h.number in
            let b = slotted c (suc n) ys in
            let same : (w : ℕ) → w < n → b w ≡ a w = λ w i. slotted_below ys c (suc n) w (omega arith) ∙ changed_other a n h.number w (λ e. absurd (omega arith)) in
            let here : b n ≡ h.number = slotted_below ys c (suc n) n (omega arith) ∙ changed_here a n h.number in
            let solves = slotted_solves ys c (suc n) s in
            let sets = posted_set b ys (suc n) r q below none s solves same in
            let e : h.number ≡ b (slot (suc n) ys n) = sym (ap b target ∙ here) in
            record {
              extension = b;
              extends = record { within = slotted_small ys c (suc n) (changed_small N a n h.number h.within small); same = same };
              fits = record {
                solves = (ap pos here ∙ sym h.is, solves);
                inside = subst (λ xs. has xs (b (slot (suc n) ys n)) ≡ true) (sym sets) (subst (λ k. has (set_of M (singles a) r) k ≡ true) e h.inside);
              };
              only = λ d x f w i. solves_agree ys (suc n) d b s (λ u j. elim (cases_Bool (u == n)) [
                | inl k ↦ subst (λ y. d y ≡ b y) (sym (eqb-true u n k)) (let o : pos (d n) ≡ z = f.solves.0 in let p = h.is in omega (arith, ints))
                | inr k ↦ x.same u (less u n k j) ∙ sym (same u (less u n k j))
              ]) f.solves.1 solves w i;
            };
        satisfied = λ b x f.
            let sets = posted_set b ys (suc n) r q below none s f.solves.1 x.same in
            record {
              number = b n;
              within = x.within n;
              is = sym f.solves.0;
              inside = subst (λ k. has (set_of M (singles a) r) k ≡ true) (ap b target) (subst (λ xs. has xs (b (slot (suc n) ys n)) ≡ true) sets f.inside);
            };
      } where
        less : (w n : ℕ) → (w == n) ≡ false → w < suc n → w < n
        less w n k l = grind (arith, eq-eqb)

posts_parts : (o : Option QueryFault) (q p : Indexical) (k m : ℕ) (ds es : List Equation) → unless_offence o q k ds ≡ posts p m es → (q ≡ p) × (k ≡ m) × (ds ≡ es)
posts_parts (Some f) q p k m ds es h = absurd (cc)
posts_parts None q p k m ds es h = (cc, cc, cc)

replaced : (M N : ℕ) (t : Term) (r : Range) (n : ℕ) (q p : Indexical) (k m : ℕ) (ds es : List Equation) (a : Assignment) → (q ≡ p) × (k ≡ m) × (ds ≡ es)
    → IsPosted M N t r n k q ds a → IsPosted M N t r n m p es a
replaced M N t r n q p k m ds es a e h = subst (λ w. IsPosted M N t r n m w es a) e.0 (subst (λ w. IsPosted M N t r n w q es a) e.1 (subst (λ w. IsPosted M N t r n k q w a) e.2 h))

pub posted_range : PostedRange
posted_range M N look (Var v) r n m p es a l below none sees agree small h =
    replaced M N (Var v) r n _ p _ m _ es a (posts_parts _ _ p _ m _ es h) (variable_posted M N n look a sees agree small v r l below none)
posted_range M N look (Int z) r n m p es a l below none sees agree small h =
    replaced M N (Int z) r n _ p _ m _ es a (posts_parts _ _ p _ m _ es h) (integer_posted M N n look a sees agree small z r below none)
posted_range M N look (Atom f) r n m p es a l below none sees agree small h = absurd (cc)
posted_range M N look (Comp f ts) r n m p es a l below none sees agree small h = absurd (cc)
