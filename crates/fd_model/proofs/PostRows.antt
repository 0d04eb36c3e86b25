-- What a goal `T in r` of a flat query becomes.
use Rattle.std.proofs.Common.{◌≡◌, ℕ, suc, ◌+◌, ◌<◌, ◌≤◌, true, false, cond, ◌==◌, ℤ, pos, List, [], ◌∷◌, ◌++◌, length, Option, ◌⊎◌, refl, ap, sym, ◌∙◌, subst}
use Rattle.std.proofs.Common.{inl, inr, arith, eqb-true, eq-eqb}
use Rattle.std.proofs.lemmas.Bool.{or_cases, or_left, or_right, cases_Bool, true≢false}
use Rattle.fd_language.specs.Term.{Term, Var, Int, Atom, Comp, Substitution, apply}
use Rattle.fd_language.specs.Unifier.{Equation}
use Rattle.fd_language.specs.Family.{has}
use Rattle.fd_language.specs.Range.{Range, Indexical, reads, set_of}
use Rattle.fd_model.specs.ClosedFamilies.{constrained}
use Rattle.fd_language.specs.Check.{fill_range}
use Rattle.fd_language.specs.Needs.{need_of}
use Rattle.fd_language.specs.RangeRenaming.{rename_range}
use Rattle.fd_language.specs.Occurrences.{Occurrence, one_occurrence, range_occurrences}
use Rattle.fd_model.specs.Posting.{is_integer, integer_of, integers_at, slot, slot_equations, unless_offence}
use Rattle.fd_model.specs.Goal.{Goal, Post, Program, Branch}
use Rattle.fd_model.specs.RunnablePrograms.{OccurrencesBelow}
use Rattle.fd_model.specs.Children.{Gives as GivesBranches, by_post, offer}
pub use Rattle.fd_language.proofs.Lemmas.{map_has, has_map}
use Rattle.fd_language.proofs.Lemmas.{has_either, in_left, reads_map, set_same, filled_as_is, none_parameter, free_occurrences_read}
use Rattle.fd_model.proofs.GoalRows.{Rewritten, with_ranges, numbers, Gives, FitsRow, IsPlain}
use Rattle.fd_model.specs.Satisfaction.{Assignment, singles}
use Rattle.fd_model.specs.Answers.{Somewhere}
use Rattle.fd_model.proofs.Lists.{each_map}
use Rattle.fd_model.proofs.ModelSubstitutions.{first_member}
use Rattle.fd_model.proofs.Slots.{Apart, integers, integers_are, integers_apart, integers_from, slot_out, slot_low, slot_high, extend, extend_bounded}
use Rattle.fd_model.proofs.Slots.{extend_low, extend_slot, IsInteger, slots_given, slots_each, slots_unify, slots_back}
use Rattle.fd_model.proofs.FlatBranches.{IsGoalRow}
use Rattle.fd_model.proofs.FlatPosting.{Free, variables, IsPlainTerm, no_offence}
use Rattle.fd_language.specs.Range.{params}

-- a variable lies in a range, or an integer does, and is at most N
abbrev pub LiesIn : ℕ → ℕ → Range → Assignment → Term → Type 0
LiesIn M N r a (Var v) = (a v ≤ N) × (has (set_of M (singles a) r) (a v) ≡ true)
LiesIn M N r a (Int z) = (n : ℕ) × (z ≡ pos n) × (n ≤ N) × (has (set_of M (singles a) r) n ≡ true)
LiesIn M N r a (Atom b) = ⊥
LiesIn M N r a (Comp f ts) = ⊥

integer_is : (look : Substitution) (y : ℕ) (t : Term) → look y ≡ t → is_integer t ≡ true → IsInteger look y
integer_is look y (Int z) e h = (z, e)
integer_is look y (Var x) e h = absurd (true≢false (sym h))
integer_is look y _ e h = absurd (true≢false (sym h))

pub occurrences_below : (n : ℕ) (ps : List Occurrence) (x : ℕ) → OccurrencesBelow n ps → has (variables ps) x ≡ true → x < n
occurrences_below n [] x h i = absurd (true≢false (sym i))
occurrences_below n (p ∷ ps) x h i = elim (or_cases (p.variable == x) (has (variables ps) x) i) [ inl e ↦ subst (λ y. y < n) (eqb-true p.variable x e) h.0 | inr e ↦ occurrences_below n ps x h.1 e ]

-- a range with fresh variables in place of those in ys
module _ (r : Range) (m tv : ℕ) (ys : List ℕ) where
  abbrev pub renamed : Indexical
  renamed = record { target = slot m ys tv; range = rename_range (slot m ys) r }

  pub renamed_from : (x : ℕ) → has (constrained (renamed ∷ [])) x ≡ true → (y : ℕ) × (has (tv ∷ reads r) y ≡ true) × (slot m ys y ≡ x)
  renamed_from x h = elim (or_cases (slot m ys tv == x) _ h) [
    | inl e ↦ (tv, first_member tv (reads r), eqb-true (slot m ys tv) x e)
    | inr e ↦ elim (has_either (reads (rename_range (slot m ys) r)) [] x e) [
      | inl k ↦ let g = map_has (slot m ys) (reads r) x (subst (λ l. has l x ≡ true) (reads_map (slot m ys) r) k) in (g.0, or_right (tv == g.0) (has (reads r) g.0) g.1, g.2)
      | inr k ↦ absurd (true≢false (sym k))
    ]
  ]

  renamed_there : (y : ℕ) → has (tv ∷ reads r) y ≡ true → has (constrained (renamed ∷ [])) (slot m ys y) ≡ true
  renamed_there y h = elim (or_cases (tv == y) (has (reads r) y) h) [
    | inl e ↦ or_left (slot m ys tv == slot m ys y) _ (eq-eqb (slot m ys tv) (slot m ys y) (ap (slot m ys) (eqb-true tv y e)))
    | inr e ↦ or_right (slot m ys tv == slot m ys y) _
        (in_left (reads (rename_range (slot m ys) r)) [] (slot m ys y)
        (subst (λ l. has l (slot m ys y) ≡ true) (sym (reads_map (slot m ys) r)) (has_map (slot m ys) (reads r) y e)))
  ]

module _ (M N nv : ℕ) (vs : List ℕ) (every : (x : ℕ) → x < nv → has vs x ≡ true) (look : Substitution) (plain : IsPlain N vs look) (n : ℕ) (low : nv ≤ n)
    (r : Range) (free : Free (range_occurrences r)) where
  module _ (xs : List ℕ) (small : (x : ℕ) → has xs x ≡ true → x < nv) where
    abbrev ys : List ℕ
    ys = integers look xs []

    inside : (y : ℕ) → has ys y ≡ true → (has xs y ≡ true) × IsInteger look y
    inside y h = elim (integers_from look xs [] y h) [ inl k ↦ absurd (true≢false (sym k)) | inr k ↦ (k.0, integer_is look y (look y) refl k.1) ]

    apart : Apart ys
    apart = integers_apart look xs [] tt

    seen_number : (a : Assignment) → ((y : ℕ) → has vs y ≡ true → apply (numbers a) (look y) ≡ Int (pos (a y))) → (y : ℕ) → has ys y ≡ true → look y ≡ Int (pos (a y))
    seen_number a same y h = let i = inside y h in i.1.1 ∙ sym (ap (apply (numbers a)) i.1.1) ∙ same y (every y (small y i.0))

    -- the numbers of the variables at their slots, in a row whose slots begin with m
    slot_number : (m : ℕ) (a e : Assignment) → n ≤ m → ((y : ℕ) → has ys y ≡ true → e (slot m ys y) ≡ a y) → ((y : ℕ) → y < nv → e y ≡ a y) → (y : ℕ) → y < nv → e (slot m ys y) ≡ a y
    slot_number m a e l there still y h = elim (cases_Bool (has ys y)) [ inl k ↦ there y k | inr k ↦ ap e (slot_out m ys y k) ∙ still y h ]

  abbrev row_of : ℕ → ℕ → List Equation → List ℕ → Range → Rewritten
  row_of m tv es zs q = record { ranges = renamed q m tv zs ∷ []; equations = es ++ slot_equations look m zs; fresh = m + length zs; added = [] }

  -- a target that is a variable
  module _ (v : ℕ) (target : v < nv) (small : (x : ℕ) → has (reads r) x ≡ true → x < nv) where
    abbrev xs : List ℕ
    xs = v ∷ reads r

    small_all : (x : ℕ) → has xs x ≡ true → x < nv
    small_all x h = elim (or_cases (v == x) (has (reads r) x) h) [ inl e ↦ subst (λ y. y < nv) (eqb-true v x e) target | inr e ↦ small x e ]

    abbrev zs : List ℕ
    zs = integers look xs []

    by_slot : (x y : ℕ) → has xs y ≡ true → slot n zs y ≡ x → (x < n + length zs) × ((has vs x ≡ true) ⊎ ((has [] x ≡ true) ⊎ Somewhere (Gives x) (slot_equations look n zs)))
    by_slot x y h e = elim (cases_Bool (has zs y)) [
      | inl k ↦ (
        subst (λ z. z < n + length zs) e (slot_high n zs y k),
        inr (inr (subst (λ z. Somewhere (Gives z) (slot_equations look n zs)) e (slots_given look n zs y k (inside xs small_all y k).1))),
      )
      | inr k ↦ let same = sym (slot_out n zs y k) ∙ e in let l = small_all y h in (subst (λ z. z < n + length zs) same (omega arith), inl (subst (λ z. has vs z ≡ true) same (every y l)))
    ]

    moved : (a e : Assignment) → ((y : ℕ) → y < nv → e (slot n zs y) ≡ a y) → set_of M (singles e) (rename_range (slot n zs) r) ≡ set_of M (singles a) r
    moved a e h = set_same M (slot n zs) (singles e) (singles a) r (λ y i. ap (λ k. k ∷ []) (h y (small y i)))

    pub variable_row : IsGoalRow M N n vs look (λ a. LiesIn M N r a (Var v)) (row_of n v [] zs r)
    variable_row = record {
      fresh = omega arith;
      below = λ x h. (let g = renamed_from r n v zs x h in (by_slot x g.0 g.1 g.2).0);
      kinds = λ x h. (let g = renamed_from r n v zs x h in (by_slot x g.0 g.1 g.2).1);
      equated = each_map (λ e. (x : ℕ) × Gives x e × ((y : ℕ) × (has zs y ≡ true) × (slot n zs y ≡ x))) (λ e. (x : ℕ) × Gives x e × (n ≤ x) × (has (constrained (renamed r n v zs ∷ [])) x ≡ true))
          (λ e g. (
            g.0,
            g.1,
            subst (λ z. n ≤ z) g.2.2 (slot_low n zs g.2.0 g.2.1),
            subst (λ z. has (constrained (renamed r n v zs ∷ [])) z ≡ true) g.2.2 (renamed_there r n v zs g.2.0 (inside xs small_all g.2.0 g.2.1).0),
          ))
          (slot_equations look n zs) (slots_each look n zs (apart xs small_all) (λ y h. (inside xs small_all y h).1));
      added = λ x h. absurd (true≢false (sym h));
      settles = λ S f c full others x k. others x k refl;
      into = λ a bound same h. (
          let e = extend n zs a in
          let there : (y : ℕ) → y < nv → e (slot n zs y) ≡ a y = slot_number xs small_all n a e (omega arith) (λ y k. extend_slot n zs a y k) (λ y l. extend_low n zs a y (omega arith)) in (
            e,
            record {
              bounded = extend_bounded N n zs a bound;
              equations = slots_unify look n zs a e (apart xs small_all) (seen_number xs small_all a same) (λ y k. extend_slot n zs a y k);
              posted = (subst (λ l. has l (e (slot n zs v)) ≡ true) (sym (moved a e there)) (subst (λ k. has (set_of M (singles a) r) k ≡ true) (sym (there v target)) h.1), tt);
            },
            λ x l. extend_low n zs a x l,
          )
          );
      out = λ e same f. (
          let there : (y : ℕ) → y < nv → e (slot n zs y) ≡ e y = slot_number xs small_all n e e (omega arith) (slots_back look n zs e e (seen_number xs small_all e same) f.equations) (λ y l. refl) in
          (f.bounded v, subst (λ k. has (set_of M (singles e) r) k ≡ true) (there v target) (subst (λ l. has l (e (slot n zs v)) ≡ true) (moved e e there) f.posted.0))
          );
    }

  -- a target that is an integer
  module _ (z : ℤ) (small : (x : ℕ) → has (reads r) x ≡ true → x < nv) where
    abbrev ws : List ℕ
    ws = integers look (reads r) []

    abbrev first : Equation
    first = record { left = Var n; right = Int z }

    no_slot : has ws n ≡ false
    no_slot = elim (cases_Bool (has ws n)) [ inl k ↦ absurd (let l = small n (inside (reads r) small n k).0 in omega arith) | inr k ↦ k ]

    own_slot : slot (suc n) ws n ≡ n
    own_slot = slot_out (suc n) ws n no_slot

    by_slot_or_own : (x y : ℕ) → has (n ∷ reads r) y ≡ true → slot (suc n) ws y ≡ x
        → (x < suc n + length ws) × ((has vs x ≡ true) ⊎ ((has [] x ≡ true) ⊎ Somewhere (Gives x) (first ∷ slot_equations look (suc n) ws)))
    by_slot_or_own x y h e = elim (or_cases (n == y) (has (reads r) y) h) [
      | inl i ↦ let same : n ≡ x = sym own_slot ∙ ap (slot (suc n) ws) (eqb-true n y i) ∙ e in (omega arith, inr (inr (inl (ap Var same, (z, refl)))))
      | inr i ↦ elim (cases_Bool (has ws y)) [
        | inl k ↦ (
          subst (λ w. w < suc n + length ws) e (slot_high (suc n) ws y k),
          inr (inr (inr (subst (λ w. Somewhere (Gives w) (slot_equations look (suc n) ws)) e
              (slots_given look (suc n) ws y k (inside (reads r) small y k).1)))),
        )
        | inr k ↦ let same = sym (slot_out (suc n) ws y k) ∙ e in let l = small y i in (subst (λ w. w < suc n + length ws) same (omega arith), inl (subst (λ w. has vs w ≡ true) same (every y l)))
      ]
    ]

    put : ℕ → Assignment → Assignment
    put k a x = cond (x == n) k (a x)

    put_here : (k : ℕ) (a : Assignment) → put k a n ≡ k
    unfolding put
    put_here k a = rw (eq-eqb n n refl) refl

    put_low : (k : ℕ) (a : Assignment) (x : ℕ) → x < n → put k a x ≡ a x
    unfolding put
    put_low k a x h = elim (cases_Bool (x == n)) [ inl e ↦ absurd (let i = eqb-true x n e in omega arith) | inr e ↦ rw e refl ]

    put_bounded : (k : ℕ) (a : Assignment) → k ≤ N → ((x : ℕ) → a x ≤ N) → (x : ℕ) → put k a x ≤ N
    unfolding put
    put_bounded k a h g x = elim (cases_Bool (x == n)) [ inl e ↦ rw e h | inr e ↦ rw e (g x) ]

    integer_moved : (a e : Assignment) → ((y : ℕ) → y < nv → e (slot (suc n) ws y) ≡ a y) → set_of M (singles e) (rename_range (slot (suc n) ws) r) ≡ set_of M (singles a) r
    integer_moved a e h = set_same M (slot (suc n) ws) (singles e) (singles a) r (λ y i. ap (λ k. k ∷ []) (h y (small y i)))

    into_integer : (a : Assignment) → ((x : ℕ) → a x ≤ N) → ((y : ℕ) → has vs y ≡ true → apply (numbers a) (look y) ≡ Int (pos (a y))) → LiesIn M N r a (Int z)
        → (e : Assignment) × FitsRow M N (row_of (suc n) n (first ∷ []) ws r) e × ((x : ℕ) → x < n → e x ≡ a x)
    into_integer a bound same (k, i, g, h) =
        let c = put k a in
        let e = extend (suc n) ws c in
        let low_same : (y : ℕ) → y < nv → c y ≡ a y = λ y l. put_low k a y (omega arith) in
        let ints : (y : ℕ) → has ws y ≡ true → look y ≡ Int (pos (c y)) = λ y j. seen_number (reads r) small a same y j
        ∙ ap (λ i. Int (pos i)) (sym (low_same y (small y (inside (reads r) small y j).0))) in
        let there : (y : ℕ) → y < nv → e (slot (suc n) ws y) ≡ a y =
        slot_number (reads r) small (suc n) a e (omega arith) (λ y j. extend_slot (suc n) ws c y j ∙ low_same y (small y (inside (reads r) small y j).0))
        (λ y l. extend_low (suc n) ws c y (omega arith) ∙ low_same y l) in
        let own : e n ≡ k = extend_low (suc n) ws c n (omega arith) ∙ put_here k a in (
          e,
          record {
            bounded = extend_bounded N (suc n) ws c (put_bounded k a g bound);
            equations = (ap (λ j. Int (pos j)) own ∙ ap Int (sym i), slots_unify look (suc n) ws c e (apart (reads r) small) ints (λ y g. extend_slot (suc n) ws c y g));
            posted = (subst (λ l. has l (e (slot (suc n) ws n)) ≡ true) (sym (integer_moved a e there)) (subst (λ j. has (set_of M (singles a) r) j ≡ true) (sym (ap e own_slot ∙ own)) h), tt);
          },
          λ x l. extend_low (suc n) ws c x (omega arith) ∙ put_low k a x l,
        )

    out_integer : (e : Assignment) → ((y : ℕ) → has vs y ≡ true → apply (numbers e) (look y) ≡ Int (pos (e y))) → FitsRow M N (row_of (suc n) n (first ∷ []) ws r) e → LiesIn M N r e (Int z)
    out_integer e same f =
        let there : (y : ℕ) → y < nv → e (slot (suc n) ws y) ≡ e y = slot_number (reads r) small (suc n) e e (omega arith)
        (slots_back look (suc n) ws e e (seen_number (reads r) small e same) f.equations.1) (λ y l. refl) in (
          e n,
          (let g = f.equations.0 in let i : z ≡ pos (e n) = cc in i),
          f.bounded n,
          subst (λ k. has (set_of M (singles e) r) k ≡ true) (ap e own_slot) (subst (λ l. has l (e (slot (suc n) ws n)) ≡ true) (integer_moved e e there) f.posted.0),
        )

    pub integer_row : IsGoalRow M N n vs look (λ a. LiesIn M N r a (Int z)) (row_of (suc n) n (first ∷ []) ws r)
    integer_row = record {
      fresh = omega arith;
      below = λ x h. (let g = renamed_from r (suc n) n ws x h in (by_slot_or_own x g.0 g.1 g.2).0);
      kinds = λ x h. (let g = renamed_from r (suc n) n ws x h in (by_slot_or_own x g.0 g.1 g.2).1);
      equated = (
        (n, (refl, (z, refl)), omega arith, subst (λ w. has (constrained (renamed r (suc n) n ws ∷ [])) w ≡ true) own_slot (renamed_there r (suc n) n ws n (first_member n (reads r)))),
        each_map (λ e. (x : ℕ) × Gives x e × ((y : ℕ) × (has ws y ≡ true) × (slot (suc n) ws y ≡ x))) (λ e. (x : ℕ) × Gives x e × (n ≤ x) × (has (constrained (renamed r (suc n) n ws ∷ [])) x ≡ true))
            (λ e g. (
              g.0,
              g.1,
              (let l : suc n ≤ g.0 = subst (λ w. suc n ≤ w) g.2.2 (slot_low (suc n) ws g.2.0 g.2.1) in omega arith),
              subst (λ w. has (constrained (renamed r (suc n) n ws ∷ [])) w ≡ true) g.2.2
                  (renamed_there r (suc n) n ws g.2.0 (or_right (n == g.2.0) (has (reads r) g.2.0) (inside (reads r) small g.2.0 g.2.1).0)),
            ))
            (slot_equations look (suc n) ws) (slots_each look (suc n) ws (apart (reads r) small) (λ y h. (inside (reads r) small y h).1)),
      );
      added = λ x h. absurd (true≢false (sym h));
      settles = λ S f c full others x k. others x k refl;
      into = into_integer;
      out = out_integer;
    }

-- what posting gives
module _ (M N m : ℕ) (prog : Program) (nv : ℕ) (vs : List ℕ) (every : (x : ℕ) → x < nv → has vs x ≡ true) (b : Branch) (rest : List Goal) (look : Substitution)
    (sets : ℕ → Option (List ℕ)) (plain : IsPlain N vs look) (low : nv ≤ b.fresh)
    (r : Range) (none : params r ≡ []) (below : OccurrencesBelow nv (range_occurrences r)) where
  free : Free (range_occurrences r)
  free = none_parameter r none

  plain_term : (x : ℕ) → x < nv → IsPlainTerm (look x)
  plain_term x h = elim (plain x (every x h)) [ inl e ↦ inl (x, e) | inr e ↦ inr (e.0, e.2) ]

  small_occurrences : (x : ℕ) → has (variables (range_occurrences r)) x ≡ true → x < nv
  small_occurrences x h = occurrences_below nv (range_occurrences r) x below h

  small_reads : (x : ℕ) → has (reads r) x ≡ true → x < nv
  small_reads x h = small_occurrences x (subst (λ l. has l x ≡ true) (sym (free_occurrences_read r free)) h)

  -- the row as posting spells it
  abbrev spelled : ℕ → ℕ → List Equation → List Occurrence → Rewritten
  spelled m tv es ps = row_of M N nv vs every look plain b.fresh low r free m tv es (integers_at look ps []) (fill_range (λ y. integer_of (look y)) r)

  same_row : (m tv : ℕ) (es : List Equation) (ps : List Occurrence) (qs : List ℕ) → Free ps → variables ps ≡ qs
      → spelled m tv es ps ≡ row_of M N nv vs every look plain b.fresh low r free m tv es (integers look qs []) r
  same_row m tv es ps qs h e =
      ap (λ q. row_of M N nv vs every look plain b.fresh low r free m tv es (integers_at look ps []) q) (filled_as_is (λ y. integer_of (look y)) r none)
      ∙ ap (λ l. row_of M N nv vs every look plain b.fresh low r free m tv es l r) (integers_are look ps [] h ∙ ap (λ l. integers look l []) e)

  pub post_variable : (v : ℕ) → v < nv → (w : Rewritten) × (offer M N m prog look sets b (Post (Var v) r) rest ≡ GivesBranches (with_ranges b rest w ∷ []))
      × IsGoalRow M N b.fresh vs look (λ a. LiesIn M N r a (Var v)) w
  post_variable v h =
      let ps = one_occurrence v false ++ range_occurrences r in
      let small : (x : ℕ) → has (v ∷ variables (range_occurrences r)) x ≡ true
      → x < nv = λ x i. elim (or_cases (v == x) (has (variables (range_occurrences r)) x) i)
      [ inl e ↦ subst (λ y. y < nv) (eqb-true v x e) h | inr e ↦ small_occurrences x e ] in (
        _,
        ap (λ f. by_post b rest (unless_offence f (record {
          target = slot b.fresh (integers_at look ps []) v;
          range = rename_range (slot b.fresh (integers_at look ps [])) (fill_range (λ y. integer_of (look y)) r);
        })
            (b.fresh + length (integers_at look ps [])) ([] ++ slot_equations look b.fresh (integers_at look ps []))))
            (no_offence (need_of r) look ps (refl, free) (λ x i. plain_term x (small x i)))
            ∙ ap (λ w. GivesBranches (with_ranges b rest w ∷ [])) (same_row b.fresh v [] ps (v ∷ reads r) (refl, free) (ap (λ l. v ∷ l) (free_occurrences_read r free))),
        variable_row M N nv vs every look plain b.fresh low r free v h small_reads,
      )

  pub post_integer : (z : ℤ) → (w : Rewritten) × (offer M N m prog look sets b (Post (Int z) r) rest ≡ GivesBranches (with_ranges b rest w ∷ []))
      × IsGoalRow M N b.fresh vs look (λ a. LiesIn M N r a (Int z)) w
  post_integer z =
      let ps = range_occurrences r in
      let es : List Equation = record { left = Var b.fresh; right = Int z } ∷ [] in (
        _,
        ap (λ f. by_post b rest (unless_offence f (record {
          target = slot (suc b.fresh) (integers_at look ps []) b.fresh;
          range = rename_range (slot (suc b.fresh) (integers_at look ps [])) (fill_range (λ y. integer_of (look y)) r);
        })
            (suc b.fresh + length (integers_at look ps [])) (es ++ slot_equations look (suc b.fresh) (integers_at look ps []))))
            (no_offence (need_of r) look ps free (λ x i. plain_term x (small_occurrences x i)))
            ∙ ap (λ w. GivesBranches (with_ranges b rest w ∷ [])) (same_row (suc b.fresh) b.fresh es ps (reads r) free (free_occurrences_read r free)),
        integer_row M N nv vs every look plain b.fresh low r free z small_reads,
      )
