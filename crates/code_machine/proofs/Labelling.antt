-- The labels of choice points, and what is left at each.
use Rattle.std.proofs.Common.{◌≡◌, ℕ, zero, suc, ◌+◌, ◌<◌, ◌≤◌, ◌==◌, ltb, if◌then◌else◌, true, false, List, [], ◌∷◌, length, drop, refl, ap, sym, ◌∙◌, subst}
use Rattle.std.proofs.Common.{inl, inr, arith, eq-eqb, Bool, ne_eqb}
use Rattle.std.proofs.lemmas.Bool.{lt-ltb, le-ltb}
use Rattle.heap_cells.specs.Cells.{Cells}
use Rattle.wam_code.specs.Area.{Area}
use Rattle.code_areas.specs.Areas.{Point}
use Rattle.code_meaning.specs.MachineStates.{Left, resume, values}
use Rattle.code_goals.specs.declared.labels.ValuesLeft.{ValuesLeft}
use Rattle.code_safety.specs.Work.{values_work}
use Rattle.code_goals.specs.Values.{IsOpen, left_of}
use Rattle.code_machine.specs.declared.run.Label.{Label}
use Rattle.code_machine.specs.Labels.{labels_below, lefts_by, AreLabels}

-- the newest label's point is there
pub newest_low : (area : Area) (ps : List Point) (hs : List Cells) (l : Label) (ls : List Label) → AreLabels area ps hs (l ∷ ls) → l.point < length ps
newest_low area [] hs l ls own = absurd own
newest_low area (p ∷ ps) [] l ls own = absurd own
newest_low area (p ∷ ps) (h ∷ hs) l ls (inl own) = (let e = own.0 in omega (arith, e))
newest_low area (p ∷ ps) (h ∷ hs) l ls (inr own) = (let e = own.0 in omega (arith, e))

-- a newer point without a label
pub labels_more : (area : Area) (p : Point) (ps : List Point) (h : Cells) (hs : List Cells) (ls : List Label) → AreLabels area ps hs ls → AreLabels area (p ∷ ps) (h ∷ hs) ls
labels_more area p ps h hs [] own = tt
labels_more area p ps h hs (l ∷ ls) own = inr (newest_low area ps hs l ls own, own)

if_true : (b : Bool) (x y : List Left) → b ≡ true → (if b then x else y) ≡ x
if_true true x y e = refl
if_true false x y e = absurd (cc)

if_false : (b : Bool) (x y : List Left) → b ≡ false → (if b then x else y) ≡ y
if_false true x y e = absurd (cc)
if_false false x y e = refl

-- a newer point that isn't the newest label's is to be resumed
pub lefts_more : (p : Point) (ps : List Point) (ls : List Label) → ((l : Label) (rest : List Label) → ls ≡ l ∷ rest → l.point ≡ length ps → ⊥) → lefts_by (p ∷ ps) ls ≡ resume p.place ∷ lefts_by ps ls
lefts_more p ps [] apart = refl
lefts_more p ps (l ∷ ls) apart = if_false (l.point == length ps) (left_of p.place l.values ∷ lefts_by ps ls) (resume p.place ∷ lefts_by ps (l ∷ ls)) (ne_eqb l.point (length ps) (apart l ls refl))

-- that of the newest label has its values
pub lefts_values : (p : Point) (ps : List Point) (v : ValuesLeft) (ls : List Label) → lefts_by (p ∷ ps) (record { point = length ps; values = v } ∷ ls) ≡ left_of p.place v ∷ lefts_by ps ls
lefts_values p ps v ls = if_true (length ps == length ps) (left_of p.place v ∷ lefts_by ps ls)
    (resume p.place ∷ lefts_by ps (record { point = length ps; values = v } ∷ ls)) (eq-eqb (length ps) (length ps) refl)

same_label : (l m : Label) (ls ms : List Label) → l ∷ ls ≡ m ∷ ms → l ≡ m
same_label l m ls ms e = cc

-- where all labels are older
pub no_newest : (area : Area) (ps : List Point) (hs : List Cells) (ls : List Label) → AreLabels area ps hs ls → (l : Label) (rest : List Label) → ls ≡ l ∷ rest → l.point ≡ length ps → ⊥
no_newest area ps hs [] own l rest e at = absurd (cc)
no_newest area ps hs (m ∷ ms) own l rest e at =
    let low = newest_low area ps hs m ms own in
    let same : m.point ≡ l.point = ap (λ (x : Label). x.point) (same_label m l ms rest e) in
    omega (arith, low, same, at)

-- the point is gone, and had no label
pub labels_less : (area : Area) (p : Point) (ps : List Point) (h : Cells) (hs : List Cells) (ls : List Label)
    → ((l : Label) (rest : List Label) → ls ≡ l ∷ rest → l.point ≡ length ps → ⊥) → AreLabels area (p ∷ ps) (h ∷ hs) ls → AreLabels area ps hs ls
labels_less area p ps h hs [] apart own = tt
labels_less area p ps h hs (l ∷ ls) apart (inl own) = absurd (apart l ls refl own.0)
labels_less area p ps h hs (l ∷ ls) apart (inr own) = own.1

-- or it had this one
pub label_gone : (area : Area) (p : Point) (ps : List Point) (h : Cells) (hs : List Cells) (v : ValuesLeft) (ls : List Label)
    → AreLabels area (p ∷ ps) (h ∷ hs) (record { point = length ps; values = v } ∷ ls) → IsOpen area h v × AreLabels area ps hs ls
label_gone area p ps h hs v ls (inl own) = (own.1, own.2)
label_gone area p ps h hs v ls (inr own) = (let low = own.0 in absurd (omega (arith, low)))

-- ---- at each point something is left

either_long : (b : Bool) (xs ys : List Left) (n : ℕ) → length xs ≡ n → length ys ≡ n → length (if b then xs else ys) ≡ n
either_long true xs ys n e f = e
either_long false xs ys n e f = f

pub lefts_long : (ps : List Point) (ls : List Label) → length (lefts_by ps ls) ≡ length ps
lefts_long [] ls = refl
lefts_long (p ∷ ps) [] = ap suc (lefts_long ps [])
lefts_long (p ∷ ps) (l ∷ ls) = either_long (l.point == length ps) (left_of p.place l.values ∷ lefts_by ps ls) (resume p.place ∷ lefts_by ps (l ∷ ls))
    (suc (length ps)) (ap suc (lefts_long ps ls)) (ap suc (lefts_long ps (l ∷ ls)))

-- ---- the newest points are dropped

if_labels : (b : Bool) (xs ys : List Label) → b ≡ true → (if b then xs else ys) ≡ xs
if_labels true xs ys e = refl
if_labels false xs ys e = absurd (cc)

else_labels : (b : Bool) (xs ys : List Label) → b ≡ false → (if b then xs else ys) ≡ ys
else_labels true xs ys e = absurd (cc)
else_labels false xs ys e = refl

-- a label of an older point stays, with all behind it
pub label_stays : (n : ℕ) (l : Label) (ls : List Label) → l.point < n → labels_below n (l ∷ ls) ≡ l ∷ ls
label_stays n l ls low = if_labels (ltb l.point n) (l ∷ ls) (labels_below n ls) (lt-ltb l.point n low)

-- that of a newer one goes
pub label_goes : (n : ℕ) (l : Label) (ls : List Label) → n ≤ l.point → labels_below n (l ∷ ls) ≡ labels_below n ls
label_goes n l ls high = else_labels (ltb l.point n) (l ∷ ls) (labels_below n ls) (le-ltb l.point n high)

-- where no point is dropped, no label is
all_stay : (area : Area) (ps : List Point) (hs : List Cells) (ls : List Label) (n : ℕ) → AreLabels area ps hs ls → length ps ≤ n → labels_below n ls ≡ ls
all_stay area ps hs [] n own low = refl
all_stay area ps hs (l ∷ ls) n own low = let m = newest_low area ps hs l ls own in label_stays n l ls (omega (arith, m, low))

-- The labels of the k points that are left are theirs.
pub labels_oldest : (area : Area) (n k : ℕ) (ps : List Point) (hs : List Cells) (ls : List Label) → k + n ≡ length ps → AreLabels area ps hs ls
    → AreLabels area (drop n ps) (drop n hs) (labels_below k ls)
labels_oldest area zero k ps hs ls e own = subst (AreLabels area ps hs) (sym (all_stay area ps hs ls k own (omega (arith, e)))) own
labels_oldest area (suc n) k [] hs ls e own = absurd (omega (arith, e))
labels_oldest area (suc n) k (p ∷ ps) hs [] e own = tt
labels_oldest area (suc n) k (p ∷ ps) [] (l ∷ ls) e own = absurd own
labels_oldest area (suc n) k (p ∷ ps) (h ∷ hs) (l ∷ ls) e (inl own) =
    let at = own.0 in
    subst (AreLabels area (drop n ps) (drop n hs)) (sym (label_goes k l ls (omega (arith, e, at)))) (labels_oldest area n k ps hs ls (omega (arith, e)) own.2)
labels_oldest area (suc n) k (p ∷ ps) (h ∷ hs) (l ∷ ls) e (inr own) = labels_oldest area n k ps hs (l ∷ ls) (omega (arith, e)) own.1

-- and so is what is left there
pub lefts_oldest : (area : Area) (n k : ℕ) (ps : List Point) (hs : List Cells) (ls : List Label) → k + n ≡ length ps → AreLabels area ps hs ls
    → drop n (lefts_by ps ls) ≡ lefts_by (drop n ps) (labels_below k ls)
lefts_oldest area zero k ps hs ls e own = ap (lefts_by ps) (sym (all_stay area ps hs ls k own (omega (arith, e))))
lefts_oldest area (suc n) k [] hs ls e own = absurd (omega (arith, e))
lefts_oldest area (suc n) k (p ∷ ps) hs [] e own = lefts_oldest area n k ps [] [] (omega (arith, e)) tt
lefts_oldest area (suc n) k (p ∷ ps) [] (l ∷ ls) e own = absurd own
lefts_oldest area (suc n) k (p ∷ ps) (h ∷ hs) (l ∷ ls) e (inl own) =
    let at = own.0 in
    ap (drop (suc n)) (if_true (l.point == length ps) (left_of p.place l.values ∷ lefts_by ps ls) (resume p.place ∷ lefts_by ps (l ∷ ls)) (eq-eqb l.point (length ps) at))
    ∙ lefts_oldest area n k ps hs ls (omega (arith, e)) own.2 ∙ ap (lefts_by (drop n ps)) (sym (label_goes k l ls (omega (arith, e, at))))
lefts_oldest area (suc n) k (p ∷ ps) (h ∷ hs) (l ∷ ls) e (inr own) =
    let low = own.0 in
    ap (drop (suc n)) (if_false (l.point == length ps) (left_of p.place l.values ∷ lefts_by ps ls) (resume p.place ∷ lefts_by ps (l ∷ ls)) (ne_eqb l.point (length ps) (λ i. omega (arith, i, low))))
    ∙ lefts_oldest area n k ps hs (l ∷ ls) (omega (arith, e)) own.1

-- the values that are left are no more
pub values_oldest : (area : Area) (n : ℕ) (ps : List Point) (ls : List Left) → values_work area (drop n ps) (drop n ls) ≤ values_work area ps ls
values_oldest area zero ps ls = omega arith
values_oldest area (suc n) [] ls = omega arith
values_oldest area (suc n) (p ∷ ps) [] = none (drop n ps)
  where
    none : (qs : List Point) → values_work area qs [] ≤ 0
    none [] = omega arith
    none (q ∷ qs) = omega arith
values_oldest area (suc n) (p ∷ ps) (resume to ∷ ls) = values_oldest area n ps ls
values_oldest area (suc n) (p ∷ ps) (values ns v at ∷ ls) = let l = values_oldest area n ps ls in omega (arith, l)
