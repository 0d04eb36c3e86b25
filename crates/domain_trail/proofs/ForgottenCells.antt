-- Saved cells that are forgotten when marks are dropped, since an older one of the same variable stays.
use Rattle.std.proofs.Common.{◌≡◌, ℕ, ◌+◌, ◌<◌, ◌≤◌, ◌-◌, ◌^◌, true, false, ◌||◌, ◌==◌, cond, List, [], ◌∷◌, ◌++◌, length, get_or, set, take, drop, refl, ap}
use Rattle.std.proofs.Common.{sym, ◌∙◌, subst, inl, inr, ◌⊎◌, arith, eqb-true, All, append_assoc, append-nil}
use Rattle.std.specs.Prelude.{filter, nat_lt}
use Rattle.std.proofs.lemmas.Bool.{or_cases, or_left, or_right, cases_Bool, eqb-false, ltb-false, lt-ltb, le-ltb, cases_lt}
use Rattle.std.proofs.lemmas.List.{length-set, length-append, length-take-le, take-set-le, take-append-le, drop-append-le, take-append-drop, drop-drop}
use Rattle.std.proofs.lemmas.List.{get_or-set_same, get_or-take, get_or-drop, set-set, take_more_set, drop-set-lt, length-drop}
use Rattle.std.specs.List.{SwappedAt}
use Rattle.std.proofs.Math.Seq.{take-add}
use Rattle.std.proofs.lemmas.List.Elements.{All-take, All-drop, All-filter, All-append, filter_more}
use Rattle.std.proofs.lemmas.Grind.{drop_more_same}
use Rattle.domain_trail.specs.declared.Cell.{Cell}
use Rattle.domain_trail.specs.declared.Saved.{Saved}
use Rattle.domain_trail.specs.declared.Mark.{Mark}
use Rattle.domain_trail.specs.Trails.{sets_of, undo, sift, at_mark, stores_below, is_saved, IsSince, IsTrail}
use Rattle.domain_trail.proofs.KeptStores.{since_before, since_other}
use Rattle.domain_trail.proofs.TrailUndo.{undo-append, length-undo, take-undo, undo_over, is_saved-append}

pub all_sifted : (P : Saved → Type 0) (from stamp : ℕ) (es : List Saved) → All P es → All P (sift from stamp es)
all_sifted P from stamp es h =
    All-append P (take from es) (filter (λ e. nat_lt e.cell.stamp stamp) (drop from es)) (All-take P from es h)
    (All-filter (λ e. nat_lt e.cell.stamp stamp) P (drop from es) (All-drop P from es h))

-- each older variable whose cell was written since the stamp, before what is saved in G, is saved in P
abbrev IsCovered : ℕ → ℕ → List Saved → List Saved → List Cell → Type 0
IsCovered vars s P G cs = (k : ℕ) → k < vars → IsSince (undo G cs) k s → is_saved k P ≡ true

-- what forgetting keeps: the stores, and which variables are saved
record IsThinned (vars : ℕ) (es es' : List Saved) (cs : List Cell) : Type 0 where
  undone : take vars (undo es' cs) ≡ take vars (undo es cs)
  saved : (k : ℕ) → k < vars → is_saved k es ≡ true → is_saved k es' ≡ true

-- its first saved cell is forgotten
forgotten : (vars s : ℕ) (P G : List Saved) (e : Saved) (cs : List Cell) → (e.var < vars → is_saved e.var P ≡ true) → IsThinned vars (P ++ e ∷ G) (P ++ G) cs
forgotten vars s P G e cs h = record {
  undone = ap (take vars) (undo-append P G cs) ∙ sym over ∙ ap (take vars) (sym (undo-append P (e ∷ G) cs));
  saved = λ k l g. is_saved-append k P G ∙ still k l (or_cases (is_saved k P) ((e.var == k) || is_saved k G) (sym (is_saved-append k P (e ∷ G)) ∙ g));
} where
  over : take vars (undo P (set (undo G cs) e.var e.cell)) ≡ take vars (undo P (undo G cs))
  over = elim (cases_lt e.var vars) [
    | inl l ↦ ap (take vars) (undo_over P (undo G cs) e.var e.cell (h l))
    | inr r ↦ take-undo vars P (set (undo G cs) e.var e.cell) ∙ ap (undo P) (take-set-le vars (undo G cs) e.var e.cell r) ∙ sym (take-undo vars P (undo G cs))
  ]

  still : (k : ℕ) → k < vars → (is_saved k P ≡ true) ⊎ (((e.var == k) || is_saved k G) ≡ true) → (is_saved k P || is_saved k G) ≡ true
  still k l o = elim o [
    | inl a ↦ or_left (is_saved k P) (is_saved k G) a
    | inr b ↦ elim (or_cases (e.var == k) (is_saved k G) b) [
      | inl f ↦ let is : e.var ≡ k = eqb-true e.var k f in or_left (is_saved k P) (is_saved k G) (subst (λ v. is_saved v P ≡ true) is (h (omega (arith, is, l))))
      | inr g ↦ or_right (is_saved k P) (is_saved k G) g
    ]
  ]

thinned_trans : (vars : ℕ) (es es' es'' : List Saved) (cs : List Cell) → IsThinned vars es es' cs → IsThinned vars es' es'' cs → IsThinned vars es es'' cs
thinned_trans vars es es' es'' cs a b = record { undone = b.undone ∙ a.undone; saved = λ k l h. b.saved k l (a.saved k l h) }

thinned : (vars s : ℕ) (P G : List Saved) (cs : List Cell) → vars ≤ length cs → IsCovered vars s P G cs → IsThinned vars (P ++ G) (P ++ filter (λ e. nat_lt e.cell.stamp s) G) cs
thinned vars s P [] cs le c = record { undone = refl; saved = λ k l h. h }
thinned vars s P (e ∷ G) cs le c = elim (cases_Bool (nat_lt e.cell.stamp s)) [
  | inl y ↦
      let rest = thinned vars s (P ++ e ∷ []) G cs le (λ k l h. is_saved-append k P (e ∷ []) ∙ elim (cases_Bool (e.var == k)) [
        | inl f ↦ or_right (is_saved k P) ((e.var == k) || false) (or_left (e.var == k) false f)
        | inr f ↦ or_left (is_saved k P) ((e.var == k) || false) (c k l (since_other (undo G cs) e.var k s e.cell (λ q. eqb-false e.var k f (sym q)) h))
      ]) in
      subst (λ b. IsThinned vars (P ++ e ∷ G) (P ++ cond b (e ∷ filter (λ x. nat_lt x.cell.stamp s) G) (filter (λ x. nat_lt x.cell.stamp s) G)) cs) (sym y)
      (subst (λ q. IsThinned vars q (P ++ e ∷ filter (λ x. nat_lt x.cell.stamp s) G) cs) (append_assoc P (e ∷ []) G)
      (subst (λ q. IsThinned vars ((P ++ e ∷ []) ++ G) q cs) (append_assoc P (e ∷ []) (filter (λ x. nat_lt x.cell.stamp s) G)) rest))
  | inr n ↦
      let late : s ≤ e.cell.stamp = ltb-false e.cell.stamp s n in
      let here : e.var < vars → is_saved e.var P ≡ true =
      (λ l. c e.var l (λ d. subst (λ x. s ≤ x.stamp) (sym (get_or-set_same (undo G cs) e.var e.cell d (omega (arith, l, le, length-undo G cs)))) late)) in
      let rest = thinned vars s P G cs le (λ k l h. elim (cases_Bool (e.var == k)) [
        | inl f ↦ let is : e.var ≡ k = eqb-true e.var k f in subst (λ v. is_saved v P ≡ true) is (here (omega (arith, is, l)))
        | inr f ↦ c k l (since_other (undo G cs) e.var k s e.cell (λ q. eqb-false e.var k f (sym q)) h)
      ]) in
      subst (λ b. IsThinned vars (P ++ e ∷ G) (P ++ cond b (e ∷ filter (λ x. nat_lt x.cell.stamp s) G) (filter (λ x. nat_lt x.cell.stamp s) G)) cs) (sym n)
      (thinned_trans vars (P ++ e ∷ G) (P ++ G) (P ++ filter (λ x. nat_lt x.cell.stamp s) G) cs (forgotten vars s P G e cs here) rest)
]

-- The newest mark m goes, and what was saved from a place above it on and written since the stamp that m gives back.
sifted_one : (m n : Mark) (ms : List Mark) (es : List Saved) (cs : List Cell) (stamp from : ℕ) → m.stamp < 2 ^ 64 - 1 → m.saved ≤ from → (stamp' : ℕ)
    → IsTrail (m ∷ n ∷ ms) es cs stamp' → IsTrail (n ∷ ms) es cs stamp
    → IsTrail (n ∷ ms) (sift from m.stamp es) cs stamp × (stores_below (n ∷ ms) (sift from m.stamp es) cs ≡ stores_below (n ∷ ms) es cs)
sifted_one m n ms es cs stamp from low le stamp' t u = (
  (
    all_sifted (λ e. e.var < length cs) from m.stamp es u.0,
    omega (arith, ap length new, length-append (take m.saved es) (F ++ G'), inside),
    u.2,
    (λ k less g high. subst (λ q. is_saved k q ≡ true) (sym after) (thin.saved k less (subst (λ q. is_saved k q ≡ true) before (u.3 k less g high)))),
    subst (λ p. IsTrail ms p (at_mark n (sift from m.stamp es) cs) n.stamp) (sym front) (subst (λ q. IsTrail ms (take n.saved es) q n.stamp) (sym same) u.4),
  ),
  ap (λ p. sets_of (at_mark n (sift from m.stamp es) cs) ∷ stores_below ms p (at_mark n (sift from m.stamp es) cs)) front ∙ ap (λ q. sets_of q ∷ stores_below ms (take n.saved es) q) same,
) where
  more : ℕ
  more = from - m.saved

  F : List Saved
  F = take more (drop m.saved es)

  G : List Saved
  G = drop more (drop m.saved es)

  G' : List Saved
  G' = filter (λ e. nat_lt e.cell.stamp m.stamp) G

  A : List Saved
  A = drop n.saved (take m.saved es)

  inside : n.saved ≤ length (take m.saved es)
  inside = t.4.1

  is_from : m.saved + more ≡ from
  is_from = omega (arith, le)

  old : es ≡ take m.saved es ++ (F ++ G)
  old = sym (take-append-drop m.saved es) ∙ ap (λ q. take m.saved es ++ q) (sym (take-append-drop more (drop m.saved es)))

  new : sift from m.stamp es ≡ take m.saved es ++ (F ++ G')
  new =
      ap (λ i. take i es ++ filter (λ e. nat_lt e.cell.stamp m.stamp) (drop i es)) (sym is_from)
      ∙ ap (λ q. q ++ filter (λ e. nat_lt e.cell.stamp m.stamp) (drop (m.saved + more) es)) (take-add m.saved more es)
      ∙ ap (λ q. (take m.saved es ++ F) ++ filter (λ e. nat_lt e.cell.stamp m.stamp) q) (sym (drop-drop more m.saved es))
      ∙ append_assoc (take m.saved es) F G'

  before : drop n.saved es ≡ (A ++ F) ++ G
  before = ap (drop n.saved) old ∙ drop-append-le n.saved (take m.saved es) (F ++ G) inside ∙ sym (append_assoc A F G)

  after : drop n.saved (sift from m.stamp es) ≡ (A ++ F) ++ G'
  after = ap (drop n.saved) new ∙ drop-append-le n.saved (take m.saved es) (F ++ G') inside ∙ sym (append_assoc A F G')

  front : take n.saved (sift from m.stamp es) ≡ take n.saved es
  front = ap (take n.saved) new ∙ take-append-le n.saved (take m.saved es) (F ++ G') inside ∙ sym (ap (take n.saved) old ∙ take-append-le n.saved (take m.saved es) (F ++ G) inside)

  parts : drop m.saved es ≡ F ++ G
  parts = sym (take-append-drop more (drop m.saved es))

  fewer : n.vars ≤ m.vars
  fewer = omega (arith, t.4.2, length-take-le m.vars (undo (drop m.saved es) cs) (omega (arith, t.2, length-undo (drop m.saved es) cs)))

  covered : IsCovered n.vars m.stamp (A ++ F) G cs
  covered k l h = is_saved-append k A F ∙ elim (cases_Bool (is_saved k F)) [
    | inl y ↦ or_right (is_saved k A) (is_saved k F) y
    | inr out ↦ or_left (is_saved k A) (is_saved k F) (t.4.3 k l (λ d. subst (λ x. m.stamp ≤ x.stamp) (sym (get_or-take m.vars (undo (drop m.saved es) cs) k d (omega (arith, l, fewer))))
        (subst (λ q. m.stamp ≤ (get_or (undo q cs) k d).stamp) (sym parts)
        (subst (λ q. m.stamp ≤ (get_or q k d).stamp) (sym (undo-append F G cs)) (since_before F (undo G cs) k m.stamp out h d)))) low)
  ]

  thin : IsThinned n.vars ((A ++ F) ++ G) ((A ++ F) ++ G') cs
  thin = thinned n.vars m.stamp (A ++ F) G cs u.2 covered

  same : at_mark n (sift from m.stamp es) cs ≡ at_mark n es cs
  same = ap (λ q. take n.vars (undo q cs)) after ∙ thin.undone ∙ ap (λ q. take n.vars (undo q cs)) (sym before)

pub sifted : (m : Mark) (rest : List Mark) (es : List Saved) (cs : List Cell) (stamp from : ℕ) → m.stamp < 2 ^ 64 - 1 → m.saved ≤ from → IsTrail (m ∷ rest) es cs stamp → IsTrail rest es cs m.stamp
    → IsTrail rest (sift from m.stamp es) cs m.stamp × (stores_below rest (sift from m.stamp es) cs ≡ stores_below rest es cs)
sifted m [] es cs stamp from low le t u = (all_sifted (λ e. e.var < length cs) from m.stamp es u, refl)
sifted m (n ∷ ms) es cs stamp from low le t u = sifted_one m n ms es cs m.stamp from low le stamp t u

-- the loop that forgets, where `now` was `old`: what stays stands in the first k places
pub record IsSifting (from stamp : ℕ) (old now : List Saved) (k i : ℕ) : Type 0 where
  pub front : take k now ≡ take from old ++ filter (λ e. nat_lt e.cell.stamp stamp) (take (i - from) (drop from old))
  pub rest : drop i now ≡ drop i old
  pub behind : k ≤ i
  pub after : from ≤ i
  pub long : length now ≡ length old

-- the element at the place is the one that was there
same_place : (from : ℕ) (old now : List Saved) (i : ℕ) (x : Saved) → drop i now ≡ drop i old → from ≤ i → x ≡ get_or now i x → get_or (drop from old) (i - from) x ≡ x
same_place from old now i x e le h =
    get_or-drop from old (i - from) x ∙ ap (λ n. get_or old n x) (omega (arith, le)) ∙ sym (get_or-drop i old 0 x) ∙ ap (λ q. get_or q 0 x) (sym e)
    ∙ get_or-drop i now 0 x ∙ ap (λ n. get_or now n x) (omega arith) ∙ sym h

sifted_more : (from stamp : ℕ) (old now : List Saved) (i : ℕ) (x : Saved) → drop i now ≡ drop i old → from ≤ i → length now ≡ length old → i < length now → x ≡ get_or now i x
    → filter (λ e. nat_lt e.cell.stamp stamp) (take (i + 1 - from) (drop from old)) ≡ filter (λ e. nat_lt e.cell.stamp stamp) (take (i - from) (drop from old))
    ++ cond (nat_lt x.cell.stamp stamp) (x ∷ []) []
sifted_more from stamp old now i x e le long less h =
    ap (λ n. filter (λ e. nat_lt e.cell.stamp stamp) (take n (drop from old))) (omega (arith, le))
    ∙ filter_more (λ e. nat_lt e.cell.stamp stamp) (drop from old) (i - from) x (omega (arith, length-drop from old, le, long, less))
    ∙ ap (λ y. filter (λ e. nat_lt e.cell.stamp stamp) (take (i - from) (drop from old)) ++ cond (nat_lt y.cell.stamp stamp) (y ∷ []) []) (same_place from old now i x e le h)

-- the element at the place is forgotten
pub sifting_out : (from stamp : ℕ) (old now : List Saved) (k i : ℕ) (x : Saved) → IsSifting from stamp old now k i → i < length now → x ≡ get_or now i x
    → stamp ≤ x.cell.stamp → IsSifting from stamp old now k (i + 1)
sifting_out from stamp old now k i x s less h late = record {
  front = s.front ∙ ap (λ q. take from old ++ q) (sym (append-nil (filter (λ e. nat_lt e.cell.stamp stamp) (take (i - from) (drop from old))))
      ∙ ap (λ b. filter (λ e. nat_lt e.cell.stamp stamp) (take (i - from) (drop from old)) ++ cond b (x ∷ []) []) (sym (le-ltb x.cell.stamp stamp late))
      ∙ sym (sifted_more from stamp old now i x s.rest s.after s.long less h));
  rest = drop_more_same now old i s.rest;
  behind = omega (arith, s.behind);
  after = omega (arith, s.after);
  long = s.long;
}

-- the element at the place stays
pub sifting_in : (from stamp : ℕ) (old now zs : List Saved) (k i : ℕ) (x : Saved) → IsSifting from stamp old now k i → i < length now → x ≡ get_or now i x
    → x.cell.stamp < stamp → SwappedAt now zs k i → IsSifting from stamp old zs (k + 1) (i + 1)
sifting_in from stamp old now zs k i x s less h early w =
    let is : zs ≡ set (set now k x) i (get_or now k x) = w.3 x ∙ ap (λ y. set (set now k y) i (get_or now k x)) (sym h) in
    record {
      front = ap (take (k + 1)) is ∙ moved ∙ ap (λ q. q ++ x ∷ []) s.front ∙ append_assoc (take from old) (filter (λ e. nat_lt e.cell.stamp stamp) (take (i - from) (drop from old))) (x ∷ [])
          ∙ ap (λ q. take from old ++ q) (ap (λ b. filter (λ e. nat_lt e.cell.stamp stamp) (take (i - from) (drop from old)) ++ cond b (x ∷ []) [])
          (sym (lt-ltb x.cell.stamp stamp early)) ∙ sym (sifted_more from stamp old now i x s.rest s.after s.long less h));
      rest = ap (drop (i + 1)) is ∙ drop-set-lt (i + 1) (set now k x) i (get_or now k x) (omega arith) ∙ drop-set-lt (i + 1) now k x (omega (arith, s.behind)) ∙ drop_more_same now old i s.rest;
      behind = omega (arith, s.behind);
      after = omega (arith, s.after);
      long = ap length is ∙ length-set (set now k x) i (get_or now k x) ∙ length-set now k x ∙ s.long;
    }
  where
    moved : take (k + 1) (set (set now k x) i (get_or now k x)) ≡ take k now ++ x ∷ []
    moved = elim (cases_Bool (k == i)) [
      | inl e ↦ let same : k ≡ i = eqb-true k i e in
          ap (λ y. take (k + 1) (set (set now k x) i y)) (ap (λ n. get_or now n x) same ∙ sym h)
          ∙ ap (λ n. take (k + 1) (set (set now k x) n x)) (sym same)
          ∙ ap (take (k + 1)) (set-set now k x x)
          ∙ take_more_set now k x (omega (arith, same, less))
      | inr e ↦ let other : k ≡ i → ⊥ = eqb-false k i e in
          take-set-le (k + 1) (set now k x) i (get_or now k x) (omega (arith, s.behind, other)) ∙ take_more_set now k x (omega (arith, s.behind, less))
    ]
