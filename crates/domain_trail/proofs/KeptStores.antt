-- What each change of a trail keeps of the stores below.
use Rattle.std.proofs.Common.{◌≡◌, ℕ, zero, suc, ◌<◌, ◌≤◌, ◌-◌, ◌^◌, Bool, true, false, ◌||◌, ◌==◌, List, [], ◌∷◌, ◌++◌, length, get_or, set, take, drop, refl}
use Rattle.std.proofs.Common.{ap, sym, ◌∙◌, subst, inl, inr, arith, eqb-true, All}
use Rattle.std.proofs.lemmas.Bool.{or_left, or_right, cases_Bool, eqb-false, true≢false, cases_lt}
use Rattle.std.proofs.lemmas.List.{length-set, length-append, take-set-le, take-append-le, drop-append-le, take-take, take_all, drop_all, take-append-drop}
use Rattle.std.proofs.lemmas.List.{length-take-le, get_or-set_other, get_or-take, get_or_append_left}
use Rattle.std.proofs.lemmas.List.Elements.{All-push}
use Rattle.domain_trail.specs.declared.Cell.{Cell}
use Rattle.domain_trail.specs.declared.Saved.{Saved}
use Rattle.domain_trail.specs.declared.Mark.{Mark}
use Rattle.domain_trail.specs.Trails.{sets_of, undo, at_mark, stores_below, is_saved, IsSince, IsTrail}
use Rattle.domain_trail.proofs.TrailUndo.{undo-append, length-undo, take-undo, undo_over, is_saved-append}

-- the trail, where what it shows of the stores below is unchanged
pub record IsKept (ms : List Mark) (es es' : List Saved) (cs cs' : List Cell) (stamp : ℕ) : Type 0 where
  pub trail : IsTrail ms es' cs' stamp
  pub below : stores_below ms es' cs' ≡ stores_below ms es cs

put_back : (cs : List Cell) (k : ℕ) (c old : Cell) → k < length cs → old ≡ get_or cs k old → set (set cs k c) k old ≡ cs
put_back [] k c old h e = absurd (omega arith)
put_back (x ∷ xs) zero c old h e = ap (λ y. y ∷ xs) e
put_back (x ∷ xs) (suc k) c old h e = ap (λ l. x ∷ l) (put_back xs k c old (omega arith) e)

pub since_other : (cs : List Cell) (j k s : ℕ) (c : Cell) → (k ≡ j → ⊥) → IsSince cs k s → IsSince (set cs j c) k s
since_other cs j k s c n h d = subst (λ x. s ≤ x.stamp) (sym (get_or-set_other cs j k c d n)) (h d)

-- a cell that is written at the stamp
still_stamped : (cs : List Cell) (k j stamp : ℕ) (c : Cell) → IsSince cs k stamp → IsSince (set cs k c) j stamp → IsSince cs j stamp
still_stamped cs k j stamp c h g d =
    elim (cases_Bool (j == k)) [
      | inl e ↦ subst (λ i. stamp ≤ (get_or cs i d).stamp) (sym (eqb-true j k e)) (h d)
      | inr e ↦ subst (λ x. stamp ≤ x.stamp) (get_or-set_other cs k j c d (eqb-false j k e)) (g d)
    ]

same_at_mark : (m : Mark) (es : List Saved) (cs : List Cell) (k : ℕ) (c : Cell) → (k < m.vars → is_saved k (drop m.saved es) ≡ true) → at_mark m es (set cs k c) ≡ at_mark m es cs
same_at_mark m es cs k c h = elim (cases_lt k m.vars) [
  | inl l ↦ ap (take m.vars) (undo_over (drop m.saved es) cs k c (h l))
  | inr l ↦ take-undo m.vars (drop m.saved es) (set cs k c) ∙ ap (undo (drop m.saved es)) (take-set-le m.vars cs k c l) ∙ sym (take-undo m.vars (drop m.saved es) cs)
]

-- a change where there is no mark
pub changed_alone : (es : List Saved) (cs : List Cell) (stamp k : ℕ) (c : Cell) → IsTrail [] es cs stamp → IsKept [] es es cs (set cs k c) stamp
changed_alone es cs stamp k c t = record { trail = subst (λ n. All (λ e. e.var < n) es) (sym (length-set cs k c)) t; below = refl }

pub changed_in_place : (ms : List Mark) (es : List Saved) (cs : List Cell) (stamp k : ℕ) (c : Cell) → IsSince cs k stamp → stamp < 2 ^ 64 - 1
    → IsTrail ms es cs stamp → IsKept ms es es cs (set cs k c) stamp
changed_in_place [] es cs stamp k c h l t = record { trail = subst (λ n. All (λ e. e.var < n) es) (sym (length-set cs k c)) t; below = refl }
changed_in_place (m ∷ ms) es cs stamp k c h l t =
    let same : at_mark m es (set cs k c) ≡ at_mark m es cs = same_at_mark m es cs k c (λ less. t.3 k less h l) in
    record {
      trail = (
        subst (λ n. All (λ e. e.var < n) es) (sym (length-set cs k c)) t.0,
        t.1,
        omega (arith, t.2, length-set cs k c),
        (λ j less g low. t.3 j less (still_stamped cs k j stamp c h g) low),
        subst (λ q. IsTrail ms (take m.saved es) q m.stamp) (sym same) t.4,
      );
      below = ap (λ q. sets_of q ∷ stores_below ms (take m.saved es) q) same;
    }

all_less : (es : List Saved) (m n : ℕ) → m ≤ n → All (λ e. e.var < m) es → All (λ e. e.var < n) es
all_less es m n l h k d less = omega (arith, h k d less)

pub changed : (ms : List Mark) (es : List Saved) (cs : List Cell) (stamp k : ℕ) (c old : Cell) → k < length cs → old ≡ get_or cs k old → IsTrail ms es cs stamp
    → IsKept ms es (es ++ record { var = k; cell = old } ∷ []) cs (set cs k c) stamp
changed [] es cs stamp k c old l e t = record {
  trail = subst (λ n. All (λ x. x.var < n) (es ++ record { var = k; cell = old } ∷ [])) (sym (length-set cs k c)) (All-push (λ x. x.var < length cs) es (record { var = k; cell = old }) t l);
  below = refl;
}
changed (m ∷ ms) es cs stamp k c old l e t =
    let new : Saved = record { var = k; cell = old } in
    let later : drop m.saved (es ++ new ∷ []) ≡ drop m.saved es ++ new ∷ [] = drop-append-le m.saved es (new ∷ []) t.1 in
    let front : take m.saved (es ++ new ∷ []) ≡ take m.saved es = take-append-le m.saved es (new ∷ []) t.1 in
    let same : at_mark m (es ++ new ∷ []) (set cs k c) ≡ at_mark m es cs =
    ap (λ q. take m.vars (undo q (set cs k c))) later
    ∙ ap (take m.vars) (undo-append (drop m.saved es) (new ∷ []) (set cs k c))
    ∙ ap (λ q. take m.vars (undo (drop m.saved es) q)) (put_back cs k c old l e) in
    record {
      trail = (
        subst (λ n. All (λ x. x.var < n) (es ++ new ∷ [])) (sym (length-set cs k c)) (All-push (λ x. x.var < length cs) es new t.0 l),
        omega (arith, t.1, length-append es (new ∷ [])),
        omega (arith, t.2, length-set cs k c),
        (λ j less g low. subst (λ q. is_saved j q ≡ true) (sym later)
            (is_saved-append j (drop m.saved es) (new ∷ []) ∙ covered j (is_saved j (drop m.saved es))
            (λ n. t.3 j less (λ d. subst (λ x. stamp ≤ x.stamp) (get_or-set_other cs k j c d n) (g d)) low))),
        subst (λ p. IsTrail ms p (at_mark m (es ++ new ∷ []) (set cs k c)) m.stamp) (sym front) (subst (λ q. IsTrail ms (take m.saved es) q m.stamp) (sym same) t.4),
      );
      below = ap (λ p. sets_of (at_mark m (es ++ new ∷ []) (set cs k c)) ∷ stores_below ms p (at_mark m (es ++ new ∷ []) (set cs k c))) front
          ∙ ap (λ q. sets_of q ∷ stores_below ms (take m.saved es) q) same;
    }
  where
    covered : (j : ℕ) (b : Bool) → ((j ≡ k → ⊥) → b ≡ true) → (b || ((k == j) || false)) ≡ true
    covered j b h = elim (cases_Bool (k == j)) [
      | inl f ↦ or_right b ((k == j) || false) (or_left (k == j) false f)
      | inr f ↦ or_left b ((k == j) || false) (h (λ q. eqb-false k j f (sym q)))
    ]

pub one_more : (ms : List Mark) (es : List Saved) (cs : List Cell) (stamp : ℕ) (c : Cell) → IsTrail ms es cs stamp → IsKept ms es es cs (cs ++ c ∷ []) stamp
one_more [] es cs stamp c t = record { trail = all_less es (length cs) (length (cs ++ c ∷ [])) (omega (arith, length-append cs (c ∷ []))) t; below = refl }
one_more (m ∷ ms) es cs stamp c t =
    let same : at_mark m es (cs ++ c ∷ []) ≡ at_mark m es cs =
    take-undo m.vars (drop m.saved es) (cs ++ c ∷ []) ∙ ap (undo (drop m.saved es)) (take-append-le m.vars cs (c ∷ []) t.2) ∙ sym (take-undo m.vars (drop m.saved es) cs) in
    record {
      trail = (
        all_less es (length cs) (length (cs ++ c ∷ [])) (omega (arith, length-append cs (c ∷ []))) t.0,
        t.1,
        omega (arith, t.2, length-append cs (c ∷ [])),
        (λ j less g low. t.3 j less (λ d. let within : j < length cs = omega (arith, t.2, less) in subst (λ x. stamp ≤ x.stamp) (get_or_append_left cs (c ∷ []) d j within) (g d)) low),
        subst (λ q. IsTrail ms (take m.saved es) q m.stamp) (sym same) t.4,
      );
      below = ap (λ q. sets_of q ∷ stores_below ms (take m.saved es) q) same;
    }

-- a new mark, with a stamp that no cell has, or the last one
pub marked : (ms : List Mark) (es : List Saved) (cs : List Cell) (stamp fresh : ℕ) (m : Mark) → m ≡ record { saved = length es; vars = length cs; stamp = stamp }
    → ((k : ℕ) → k < length cs → IsSince cs k fresh → fresh < 2 ^ 64 - 1 → ⊥) → IsTrail ms es cs stamp
    → IsTrail (m ∷ ms) es cs fresh × (stores_below (m ∷ ms) es cs ≡ sets_of cs ∷ stores_below ms es cs)
marked ms es cs stamp fresh m e none t = subst (λ n. IsTrail (n ∷ ms) es cs fresh × (stores_below (n ∷ ms) es cs ≡ sets_of cs ∷ stores_below ms es cs)) (sym e) (
    let n : Mark = record { saved = length es; vars = length cs; stamp = stamp } in
    let same : at_mark n es cs ≡ cs = ap (λ q. take (length cs) (undo q cs)) (drop_all (length es) es (omega arith)) ∙ take_all (length cs) cs (omega arith) in
    let front : take (length es) es ≡ es = take_all (length es) es (omega arith) in (
      (
        vars_of ms es cs stamp t,
        omega arith,
        omega arith,
        (λ k less g low. absurd (none k less g low)),
        subst (λ p. IsTrail ms p (at_mark n es cs) stamp) (sym front) (subst (λ q. IsTrail ms es q stamp) (sym same) t),
      ),
      ap (λ p. sets_of (at_mark n es cs) ∷ stores_below ms p (at_mark n es cs)) front ∙ ap (λ q. sets_of q ∷ stores_below ms es q) same,
    ))
  where
    vars_of : (ms : List Mark) (es : List Saved) (cs : List Cell) (stamp : ℕ) → IsTrail ms es cs stamp → All (λ e. e.var < length cs) es
    vars_of [] es cs stamp t = t
    vars_of (m ∷ ms) es cs stamp t = t.0

-- what is put back of other variables
pub since_before : (es : List Saved) (cs : List Cell) (k s : ℕ) → is_saved k es ≡ false → IsSince cs k s → IsSince (undo es cs) k s
since_before [] cs k s n h = h
since_before (e ∷ es) cs k s n h = elim (cases_Bool (e.var == k)) [
  | inl f ↦ absurd (true≢false (sym (or_left (e.var == k) (is_saved k es) f) ∙ n))
  | inr f ↦ elim (cases_Bool (is_saved k es)) [
    | inl g ↦ absurd (true≢false (sym (or_right (e.var == k) (is_saved k es) g) ∙ n))
    | inr g ↦ since_other (undo es cs) e.var k s e.cell (λ q. eqb-false e.var k f (sym q)) (since_before es cs k s g h)
  ]
]

-- the newest mark goes, and the stamp before it is given back
dropped_one : (m n : Mark) (ms : List Mark) (es : List Saved) (cs : List Cell) (stamp : ℕ) → IsTrail (m ∷ n ∷ ms) es cs stamp
    → IsTrail (n ∷ ms) es cs m.stamp × (stores_below (n ∷ ms) es cs ≡ stores_below (n ∷ ms) (take m.saved es) (at_mark m es cs))
dropped_one m n ms es cs stamp t =
    let below : n.saved ≤ m.saved = omega (arith, t.4.1, length-take-le m.saved es t.1) in
    let old : n.vars ≤ m.vars = omega (arith, t.4.2, length-take-le m.vars (undo (drop m.saved es) cs) (omega (arith, t.2, length-undo (drop m.saved es) cs))) in
    let parts : drop n.saved es ≡ drop n.saved (take m.saved es) ++ drop m.saved es =
    ap (drop n.saved) (sym (take-append-drop m.saved es)) ∙ drop-append-le n.saved (take m.saved es) (drop m.saved es) (omega (arith, t.4.1)) in
    let same : at_mark n es cs ≡ at_mark n (take m.saved es) (at_mark m es cs) =
    ap (λ q. take n.vars (undo q cs)) parts
    ∙ ap (take n.vars) (undo-append (drop n.saved (take m.saved es)) (drop m.saved es) cs)
    ∙ take-undo n.vars (drop n.saved (take m.saved es)) (undo (drop m.saved es) cs)
    ∙ ap (undo (drop n.saved (take m.saved es))) (sym (take-take n.vars m.vars (undo (drop m.saved es) cs) old))
    ∙ sym (take-undo n.vars (drop n.saved (take m.saved es)) (at_mark m es cs)) in
    let front : take n.saved es ≡ take n.saved (take m.saved es) = sym (take-take n.saved m.saved es below) in (
      (
        t.0,
        omega (arith, t.1, below),
        omega (arith, t.2, old),
        (λ k less g low. subst (λ q. is_saved k q ≡ true) (sym parts) (is_saved-append k (drop n.saved (take m.saved es)) (drop m.saved es) ∙ covered old k less g low)),
        subst (λ p. IsTrail ms p (at_mark n es cs) n.stamp) (sym front) (subst (λ q. IsTrail ms (take n.saved (take m.saved es)) q n.stamp) (sym same) t.4.4),
      ),
      ap (λ p. sets_of (at_mark n es cs) ∷ stores_below ms p (at_mark n es cs)) front ∙ ap (λ q. sets_of q ∷ stores_below ms (take n.saved (take m.saved es)) q) same,
    ) where
      covered : n.vars ≤ m.vars → (k : ℕ) → k < n.vars → IsSince cs k m.stamp → m.stamp < 2 ^ 64 - 1 → (is_saved k (drop n.saved (take m.saved es)) || is_saved k (drop m.saved es)) ≡ true
      covered old k less g low = elim (cases_Bool (is_saved k (drop m.saved es))) [
        | inl y ↦ or_right (is_saved k (drop n.saved (take m.saved es))) (is_saved k (drop m.saved es)) y
        | inr out ↦ or_left (is_saved k (drop n.saved (take m.saved es))) (is_saved k (drop m.saved es))
            (t.4.3 k less (λ d. subst (λ x. m.stamp ≤ x.stamp) (sym (get_or-take m.vars (undo (drop m.saved es) cs) k d (omega (arith, less, old))))
            (since_before (drop m.saved es) cs k m.stamp out g d)) low)
      ]

-- the newest mark goes, whatever stays
pub given_back : (m : Mark) (ms : List Mark) (es : List Saved) (cs : List Cell) (stamp : ℕ) → IsTrail (m ∷ ms) es cs stamp
    → IsTrail ms es cs m.stamp × (stores_below ms es cs ≡ stores_below ms (take m.saved es) (at_mark m es cs))
given_back m [] es cs stamp t = (t.0, refl)
given_back m (n ∷ ms) es cs stamp t = dropped_one m n ms es cs stamp t

-- the newest marks go
pub dropped : (n : ℕ) (ms : List Mark) (es : List Saved) (cs : List Cell) (stamp : ℕ) → IsTrail ms es cs stamp
    → (s : ℕ) × IsTrail (drop n ms) es cs s × (stores_below (drop n ms) es cs ≡ drop n (stores_below ms es cs))
dropped zero ms es cs stamp t = (stamp, t, refl)
dropped (suc n) [] es cs stamp t = (stamp, t, refl)
dropped (suc n) (m ∷ ms) es cs stamp t =
    let one = given_back m ms es cs stamp t in
    let later = dropped n ms es cs m.stamp one.0 in
    (later.0, later.1, later.2 ∙ ap (drop n) one.1)

pub length-stores_below : (ms : List Mark) (es : List Saved) (cs : List Cell) → length (stores_below ms es cs) ≡ length ms
length-stores_below [] es cs = refl
length-stores_below (m ∷ ms) es cs = ap suc (length-stores_below ms (take m.saved es) (at_mark m es cs))
