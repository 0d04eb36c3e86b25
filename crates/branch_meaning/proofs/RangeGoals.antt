-- A goal `T in r` as a row: its range on plain variables, and the fresh variables of the integers that it names.
use Rattle.std.proofs.Common.{◌≡◌, ℕ, suc, ◌+◌, ◌<◌, ◌≤◌, Bool, true, false, cond, not, ◌||◌, ◌==◌, ℤ, List, [], ◌∷◌, ◌++◌, length, map, Option, Some, None}
use Rattle.std.proofs.Common.{refl, ap, sym, ◌∙◌, subst, inl, inr, ◌⊎◌, arith, eqb-true, eq-eqb, Result, Ok, Err}
use Rattle.std.specs.Prelude.{flat_map}
use Rattle.std.proofs.lemmas.Bool.{cases_Bool, or_cases, or_left, or_right, true≢false}
use Rattle.fd_model.specs.declared.kinds.QueryFault.{QueryFault}
use Rattle.fd_language.specs.declared.range_node.Need.{Need}
use Rattle.fd_language.specs.Term.{Term, Var, Int, Atom, Comp, Substitution}
use Rattle.fd_language.specs.Unifier.{Equation}
use Rattle.fd_language.specs.Family.{has}
use Rattle.fd_language.specs.Range.{Range, Indexical, Leaf, Role, leaf, a_parameter, a_min, a_max, a_val, a_dom, leaves, reads, read_at}
use Rattle.fd_language.specs.RangeRenaming.{rename_range}
use Rattle.fd_language.specs.Check.{fill_range, filling}
use Rattle.fd_language.specs.Needs.{need_of}
use Rattle.fd_language.specs.Occurrences.{Occurrence, one_occurrence, occurrence_at, range_occurrences}
use Rattle.fd_model.specs.Posting.{offence_at, or_later, first_offence, is_integer, integers_at, slot, slot_equations, integer_of, unless_offence, post_at}
use Rattle.fd_model.specs.Posting.{post, posts}
use Rattle.fd_model.specs.LinearRows.{Expansion}
use Rattle.fd_model.specs.ConstraintExpansion.{equations}
use Rattle.fd_model.specs.Goal.{Branch, Goal}
use Rattle.fd_model.specs.Children.{by_post, by_constraint}
use Rattle.fd_model.specs.ClosedFamilies.{constrained}
use Rattle.fd_language.specs.Variables.{TermBelow}
use Rattle.fd_model.specs.RunnablePrograms.{OccurrencesBelow, RangeBelow}
use Rattle.fd_language.proofs.Lemmas.{two, has_either, in_left, in_right, reads_map, range_leaves, from_new, new_leaves, same_leaves}
use Rattle.fd_model.proofs.Lemmas.{slot_out, slot_low, slot_high, map_has}
use Rattle.branch_meaning.proofs.IntegerBindings.{AreConsecutive}
use Rattle.branch_meaning.specs.Rows.{slot_numbers, unless_fault, post_row_at, post_row}

-- the equations of fresh variables, as a list of variables with integers
equations_both : (xs ys : List (ℕ × ℤ)) → equations xs ++ equations ys ≡ equations (xs ++ ys)
equations_both [] ys = refl
equations_both (x ∷ xs) ys = ap (λ l. record { left = Var x.0; right = Int x.1 } ∷ l) (equations_both xs ys)

-- the variables that occur, and not as parameters
abbrev pub plain : List Occurrence → List ℕ
plain [] = []
plain (p ∷ ps) = cond p.parameter (plain ps) (p.variable ∷ plain ps)

plain_both : (ps qs : List Occurrence) → plain (ps ++ qs) ≡ plain ps ++ plain qs
plain_both [] qs = refl
plain_both (p ∷ ps) qs = by_test p.parameter (plain_both ps qs) where
  by_test : (b : Bool) → plain (ps ++ qs) ≡ plain ps ++ plain qs → cond b (plain (ps ++ qs)) (p.variable ∷ plain (ps ++ qs)) ≡ cond b (plain ps) (p.variable ∷ plain ps) ++ plain qs
  by_test true e = e
  by_test false e = ap (λ l. p.variable ∷ l) e

plain_first : (p : Occurrence) (ps : List Occurrence) (y : ℕ) → has (plain (p ∷ ps)) y ≡ true → ((p.variable ≡ y) × (p.parameter ≡ false)) ⊎ (has (plain ps) y ≡ true)
plain_first p ps y h = by_test p.parameter refl h where
  by_test : (b : Bool) → p.parameter ≡ b → has (cond b (plain ps) (p.variable ∷ plain ps)) y ≡ true → ((p.variable ≡ y) × (p.parameter ≡ false)) ⊎ (has (plain ps) y ≡ true)
  by_test true e h = inr h
  by_test false e h = elim (or_cases (p.variable == y) (has (plain ps) y) h) [ inl i ↦ inl (eqb-true p.variable y i, e) | inr i ↦ inr i ]

plain_leaves : (ls : List Leaf) → plain (flat_map occurrence_at ls) ≡ flat_map (λ l. plain (occurrence_at l)) ls
plain_leaves [] = refl
plain_leaves (l ∷ ls) = plain_both (occurrence_at l) (flat_map occurrence_at ls) ∙ ap (λ ys. plain (occurrence_at l) ++ ys) (plain_leaves ls)

-- they are what a filled range reads
pub range_plain : (f : ℕ → ℤ) (r : Range) → reads (fill_range f r) ≡ plain (range_occurrences r)
range_plain f r =
    new_leaves read_at (filling f) r
    ∙ same_leaves (λ l. from_new read_at (filling f) l.role l.variable) (λ l. plain (occurrence_at l)) by_role r
    ∙ range_leaves (λ l. plain (occurrence_at l)) r
    ∙ sym (plain_leaves (leaves r))
    ∙ ap plain (sym (range_leaves occurrence_at r))
  where
    by_role : (k : Role) (y : ℕ) → from_new read_at (filling f) k y ≡ plain (occurrence_at (leaf k y))
    by_role a_parameter y = refl
    by_role a_min y = refl
    by_role a_max y = refl
    by_role a_val y = refl
    by_role a_dom y = refl

module _ (look : Substitution) where
  abbrev pub Integers : List ℕ → Type 0
  Integers ys = (y : ℕ) → has ys y ≡ true → is_integer (look y) ≡ true

  integers_more : (ys : List ℕ) (x : ℕ) → Integers ys → is_integer (look x) ≡ true → Integers (ys ++ x ∷ [])
  integers_more ys x h i y k = elim (has_either ys (x ∷ []) y k) [
    | inl j ↦ h y j
    | inr j ↦ elim (or_cases (x == y) false j) [ inl e ↦ subst (λ z. is_integer (look z) ≡ true) (eqb-true x y e) i | inr e ↦ absurd (true≢false (sym e)) ]
  ]

  skipped : (p a b : Bool) → (p || (not a || b)) ≡ false → a ≡ true
  skipped p a b h = grind arith

  -- what is gathered are integers
  pub only_integers : (ps : List Occurrence) (ys : List ℕ) → Integers ys → Integers (integers_at look ps ys)
  only_integers [] ys h = h
  only_integers (p ∷ ps) ys h = elim (cases_Bool (p.parameter || (not (is_integer (look p.variable)) || has ys p.variable))) [
    | inl e ↦ rw e (only_integers ps ys h)
    | inr e ↦ rw e (only_integers ps (ys ++ p.variable ∷ []) (integers_more ys p.variable h (skipped p.parameter (is_integer (look p.variable)) (has ys p.variable) e)))
  ]

  integers_stay : (ps : List Occurrence) (ys : List ℕ) (y : ℕ) → has ys y ≡ true → has (integers_at look ps ys) y ≡ true
  integers_stay [] ys y h = h
  integers_stay (p ∷ ps) ys y h = elim (cases_Bool (p.parameter || (not (is_integer (look p.variable)) || has ys p.variable))) [
    | inl e ↦ rw e (integers_stay ps ys y h)
    | inr e ↦ rw e (integers_stay ps (ys ++ p.variable ∷ []) y (in_left ys (p.variable ∷ []) y h))
  ]

  already : (p i h : Bool) → (p || (not i || h)) ≡ true → p ≡ false → i ≡ true → h ≡ true
  already p i h e a b = grind arith

  -- and all integers that stand so are gathered
  pub all_integers : (ps : List Occurrence) (ys : List ℕ) (y : ℕ) → has (plain ps) y ≡ true → is_integer (look y) ≡ true → has (integers_at look ps ys) y ≡ true
  all_integers [] ys y s i = absurd (true≢false (sym s))
  all_integers (p ∷ ps) ys y s i = elim (plain_first p ps y s) [
    | inl s ↦
        let i' : is_integer (look p.variable) ≡ true = ap (λ v. is_integer (look v)) s.0 ∙ i in
        elim (cases_Bool (p.parameter || (not (is_integer (look p.variable)) || has ys p.variable))) [
          | inl e ↦ rw e (integers_stay ps ys y (subst (λ v. has ys v ≡ true) s.0 (already p.parameter (is_integer (look p.variable)) (has ys p.variable) e s.1 i')))
          | inr e ↦ rw e (integers_stay ps (ys ++ p.variable ∷ []) y
              (subst (λ v. has (ys ++ p.variable ∷ []) v ≡ true) s.0
              (in_right ys (p.variable ∷ []) p.variable (or_left (p.variable == p.variable) false (eq-eqb p.variable p.variable refl)))))
        ]
    | inr s ↦ elim (cases_Bool (p.parameter || (not (is_integer (look p.variable)) || has ys p.variable))) [
      | inl e ↦ rw e (all_integers ps ys y s i)
      | inr e ↦ rw e (all_integers ps (ys ++ p.variable ∷ []) y s i)
    ]
  ]

  integer_is : (t : Term) → is_integer t ≡ true → t ≡ Int (integer_of t)
  integer_is (Int z) h = refl
  integer_is (Var x) h = absurd (true≢false (sym h))
  integer_is (Atom a) h = absurd (true≢false (sym h))
  integer_is (Comp f ts) h = absurd (true≢false (sym h))

  slots_numbered : (n : ℕ) (ys : List ℕ) → Integers ys → slot_equations look n ys ≡ equations (slot_numbers look n ys)
  slots_numbered n [] h = refl
  slots_numbered n (y ∷ ys) h =
      two (λ t l. record { left = Var n; right = t } ∷ l) (integer_is (look y) (h y (or_left (y == y) (has ys y) (eq-eqb y y refl))))
      (slots_numbered (suc n) ys (λ x k. h x (or_right (y == x) (has ys x) k)))

  no_integers : Integers []
  no_integers y h = absurd (true≢false (sym h))

  -- a posted range is a row with one range
  unless_same : (b : Branch) (rest : List Goal) (o : Option QueryFault) (p : Indexical) (j : ℕ) (es : List Equation) (ds : List (ℕ × ℤ)) → es ≡ equations ds
      → by_post b rest (unless_offence o p j es) ≡ by_constraint b rest (unless_fault o (record { equated = ds; ranges = p ∷ []; fresh = j }))
  unless_same b rest (Some f) p j es ds e = refl
  unless_same b rest None p j es ds e = ap (λ l. by_post b rest (posts p j l)) e

  at_row_same : (b : Branch) (rest : List Goal) (ps : List Occurrence) (x : ℕ) (es : List (ℕ × ℤ)) (n : ℕ) (r : Range)
      → by_post b rest (post_at look ps x (equations es) n r) ≡ by_constraint b rest (post_row_at look ps x es n r)
  at_row_same b rest ps x es n r =
      let ys = integers_at look ps [] in
      unless_same b rest (first_offence (need_of r) look ps)
      (record { target = slot n ys x; range = rename_range (slot n ys) (fill_range (λ y. integer_of (look y)) r) }) (n + length ys)
      (equations es ++ slot_equations look n ys) (es ++ slot_numbers look n ys)
      (ap (λ l. equations es ++ l) (slots_numbered n ys (only_integers ps [] no_integers)) ∙ equations_both es (slot_numbers look n ys))

  pub post_as_row : (b : Branch) (rest : List Goal) (t : Term) (r : Range) (n : ℕ) → by_post b rest (post look t r n) ≡ by_constraint b rest (post_row look t r n)
  post_as_row b rest (Var v) r n = at_row_same b rest (one_occurrence v false ++ range_occurrences r) v [] n r
  post_as_row b rest (Int z) r n = at_row_same b rest (range_occurrences r) n ((n, z) ∷ []) (suc n) r
  post_as_row b rest (Atom a) r n = refl
  post_as_row b rest (Comp f ts) r n = refl

  -- Where nothing offends, a variable that stands not as a parameter is open or an integer.
  no_offence : (need : ℕ → Need) (p : Occurrence) (t : Term) → p.parameter ≡ false → offence_at need p t ≡ None → is_integer t ≡ false → (d : ℕ) × (t ≡ Var d)
  no_offence need p (Var d) e h i = (d, refl)
  no_offence need p (Int z) e h i = absurd (true≢false i)
  no_offence need p (Atom a) e h i = absurd (cc)
  no_offence need p (Comp f ts) e h i = absurd (cc)

  none_both : (a b : Option QueryFault) → or_later a b ≡ None → (a ≡ None) × (b ≡ None)
  none_both (Some x) b h = absurd (cc)
  none_both None b h = (refl, h)

  pub plain_open : (need : ℕ → Need) (ps : List Occurrence) → first_offence need look ps ≡ None → (y : ℕ) → has (plain ps) y ≡ true → is_integer (look y) ≡ false → (d : ℕ) × (look y ≡ Var d)
  plain_open need [] h y s i = absurd (true≢false (sym s))
  plain_open need (p ∷ ps) h y s i =
      let two = none_both (offence_at need p (look p.variable)) (first_offence need look ps) h in
      elim (plain_first p ps y s) [
        | inl s ↦ let v = no_offence need p (look p.variable) s.1 two.0 (ap (λ v. is_integer (look v)) s.0 ∙ i) in (v.0, ap look (sym s.0) ∙ v.1)
        | inr s ↦ plain_open need ps two.1 y s i
      ]

  plain_low : (n : ℕ) (ps : List Occurrence) → OccurrencesBelow n ps → (y : ℕ) → has (plain ps) y ≡ true → y < n
  plain_low n [] b y s = absurd (true≢false (sym s))
  plain_low n (p ∷ ps) b y s = elim (plain_first p ps y s) [ inl s ↦ subst (λ v. v < n) s.0 b.0 | inr s ↦ plain_low n ps b.1 y s ]

  -- a row whose next fresh variable was n: what its range names is open or fresh, and the equated variables are the fresh ones
  pub record IsRangeRow (n : ℕ) (x : Expansion) : Type 0 where
    pub grows : n ≤ x.fresh
    pub named : (v : ℕ) → has (constrained x.ranges) v ≡ true → ((v < n) × ((d : ℕ) × (look v ≡ Var d))) ⊎ ((n ≤ v) × (v < x.fresh))
    pub equated : AreConsecutive n x.equated
    pub fresh : x.fresh ≡ n + length x.equated

  consecutive_numbers : (n : ℕ) (ys : List ℕ) → AreConsecutive n (slot_numbers look n ys)
  consecutive_numbers n [] = tt
  consecutive_numbers n (y ∷ ys) = (refl, consecutive_numbers (suc n) ys)

  length_numbers : (n : ℕ) (ys : List ℕ) → length (slot_numbers look n ys) ≡ length ys
  length_numbers n [] = refl
  length_numbers n (y ∷ ys) = ap suc (length_numbers (suc n) ys)

  module _ (n m : ℕ) (l : n ≤ m) (ps : List Occurrence) (below : OccurrencesBelow n ps) (need : ℕ → Need) (none : first_offence need look ps ≡ None) where
    abbrev gathered : List ℕ
    gathered = integers_at look ps []

    slot_kind : (y : ℕ) → has (plain ps) y ≡ true → ((slot m gathered y < n) × ((d : ℕ) × (look (slot m gathered y) ≡ Var d))) ⊎ ((n ≤ slot m gathered y) × (slot m gathered y < m + length gathered))
    slot_kind y s = elim (cases_Bool (has gathered y)) [
      | inl e ↦ let a = slot_low m gathered y e in inr (omega (arith, a, l), slot_high m gathered y e)
      | inr e ↦
          let out = slot_out m gathered y e in
          let no : is_integer (look y) ≡ false = elim (cases_Bool (is_integer (look y))) [ inl i ↦ absurd (true≢false (sym (all_integers ps [] y s i) ∙ e)) | inr i ↦ i ] in
          let open_one = plain_open need ps none y s no in
          inl (subst (λ v. v < n) (sym out) (plain_low n ps below y s), (open_one.0, ap look out ∙ open_one.1))
    ]

    -- the reads of the range that is posted
    read_kind : (f : ℕ → ℤ) (r : Range) → ((y : ℕ) → has (plain (range_occurrences r)) y ≡ true → has (plain ps) y ≡ true) → (v : ℕ)
        → has (reads (rename_range (slot m gathered) (fill_range f r))) v ≡ true
        → ((v < n) × ((d : ℕ) × (look v ≡ Var d))) ⊎ ((n ≤ v) × (v < m + length gathered))
    read_kind f r sub v h =
        let y = map_has (slot m gathered) (plain (range_occurrences r)) v
        (subst (λ l. has l v ≡ true) (reads_map (slot m gathered) (fill_range f r) ∙ ap (map (slot m gathered)) (range_plain f r)) h) in
        subst (λ w. ((w < n) × ((d : ℕ) × (look w ≡ Var d))) ⊎ ((n ≤ w) × (w < m + length gathered))) y.2 (slot_kind y.0 (sub y.0 y.1))

  no_row : (e : QueryFault) (x : Expansion) → ◌≡◌ {A = Result Expansion QueryFault} (Err e) (Ok x) → ⊥
  no_row e x h = cc

  is_row : (x y : Expansion) → ◌≡◌ {A = Result Expansion QueryFault} (Ok x) (Ok y) → x ≡ y
  is_row x y h = cc

  one_named : (p : Indexical) (v : ℕ) → has (constrained (p ∷ [])) v ≡ true → (p.target ≡ v) ⊎ (has (reads p.range) v ≡ true)
  one_named p v h = elim (or_cases (p.target == v) (has (reads p.range ++ []) v) h) [
    | inl e ↦ inl (eqb-true p.target v e)
    | inr e ↦ inr (elim (has_either (reads p.range) [] v e) [ inl g ↦ g | inr g ↦ absurd (true≢false (sym g)) ])
  ]

  var_row : (n : ℕ) (v : ℕ) (r : Range) → v < n → RangeBelow n r → (o : Option QueryFault) → first_offence (need_of r) look (one_occurrence v false ++ range_occurrences r) ≡ o → (x : Expansion)
      → unless_fault o (record {
        equated = [] ++ slot_numbers look n (integers_at look (one_occurrence v false ++ range_occurrences r) []);
        ranges = record {
          target = slot n (integers_at look (one_occurrence v false ++ range_occurrences r) []) v;
          range = rename_range (slot n (integers_at look (one_occurrence v false ++ range_occurrences r) [])) (fill_range (λ y. integer_of (look y)) r);
        } ∷ [];
        fresh = n + length (integers_at look (one_occurrence v false ++ range_occurrences r) []);
      }) ≡ Ok x → IsRangeRow n x
  var_row n v r l b (Some e) is x h = absurd (no_row e x h)
  var_row n v r l b None is x h =
      let ps = one_occurrence v false ++ range_occurrences r in
      let ys = integers_at look ps [] in
      subst (IsRangeRow n) (is_row _ x h) (record {
        grows = omega arith;
        named = λ w k. elim (one_named (record { target = slot n ys v; range = rename_range (slot n ys) (fill_range (λ y. integer_of (look y)) r) }) w k) [
          | inl e ↦ subst (λ u. ((u < n) × ((d : ℕ) × (look u ≡ Var d))) ⊎ ((n ≤ u) × (u < n + length ys))) e
              (slot_kind n n (omega arith) ps (l, b) (need_of r) is v (or_left (v == v) (has (plain (range_occurrences r)) v) (eq-eqb v v refl)))
          | inr e ↦ read_kind n n (omega arith) ps (l, b) (need_of r) is (λ y. integer_of (look y)) r (λ y s. or_right (v == y) (has (plain (range_occurrences r)) y) s) w e
        ];
        equated = consecutive_numbers n ys;
        fresh = ap (λ k. n + k) (sym (length_numbers n ys));
      })

  int_row : (n : ℕ) (z : ℤ) (r : Range) → RangeBelow n r → (o : Option QueryFault) → first_offence (need_of r) look (range_occurrences r) ≡ o → (x : Expansion)
      → unless_fault o (record {
        equated = (n, z) ∷ slot_numbers look (suc n) (integers_at look (range_occurrences r) []);
        ranges = record {
          target = slot (suc n) (integers_at look (range_occurrences r) []) n;
          range = rename_range (slot (suc n) (integers_at look (range_occurrences r) [])) (fill_range (λ y. integer_of (look y)) r);
        } ∷ [];
        fresh = suc n + length (integers_at look (range_occurrences r) []);
      }) ≡ Ok x → IsRangeRow n x
  int_row n z r b (Some e) is x h = absurd (no_row e x h)
  int_row n z r b None is x h =
      let ps = range_occurrences r in
      let ys = integers_at look ps [] in
      subst (IsRangeRow n) (is_row _ x h) (record {
        grows = omega arith;
        named = λ w k. elim (one_named (record { target = slot (suc n) ys n; range = rename_range (slot (suc n) ys) (fill_range (λ y. integer_of (look y)) r) }) w k) [
          | inl e ↦ inr (elim (cases_Bool (has ys n)) [
            | inl i ↦ let a = slot_low (suc n) ys n i in let c = slot_high (suc n) ys n i in (omega (arith, a, e), omega (arith, c, e))
            | inr i ↦ let a = slot_out (suc n) ys n i in (omega (arith, a, e), omega (arith, a, e))
          ])
          | inr e ↦ read_kind n (suc n) (omega arith) ps b (need_of r) is (λ y. integer_of (look y)) r (λ y s. s) w e
        ];
        equated = (refl, consecutive_numbers (suc n) ys);
        fresh = (let a = length_numbers (suc n) ys in omega (arith, a));
      })

  -- what a goal's row is like
  pub range_row : (t : Term) (r : Range) (n : ℕ) → TermBelow n t → RangeBelow n r → (x : Expansion) → post_row look t r n ≡ Ok x → IsRangeRow n x
  range_row (Var v) r n b c x h = var_row n v r b c (first_offence (need_of r) look (one_occurrence v false ++ range_occurrences r)) refl x h
  range_row (Int z) r n b c x h = int_row n z r c (first_offence (need_of r) look (range_occurrences r)) refl x h
  range_row (Atom a) r n b c x h = absurd (no_row _ x h)
  range_row (Comp f ts) r n b c x h = absurd (no_row _ x h)
