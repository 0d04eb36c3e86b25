-- Choice points and the branches for which they stand, level by level.
use Rattle.std.proofs.Common.{◌≡◌, ℕ, zero, suc, ◌-◌, ◌≤◌, cond, ltb, length, drop, List, [], ◌∷◌, ◌++◌, refl, ap, sym, ◌∙◌, subst, inl, inr, arith, ltb-true}
use Rattle.std.proofs.Common.{ltb-false, lt-ltb, le-ltb}
use Rattle.std.proofs.lemmas.Bool.{cases_Bool}
use Rattle.std.proofs.lemmas.List.{append_assoc}
use Rattle.fd_model.specs.Goal.{Branch}
use Rattle.fd_model.specs.Children.{Kept}
use Rattle.fd_model.proofs.Lemmas.{kept_once}
use Rattle.branch_meaning.specs.RemainingEvents.{AllWait, at_level, at_top, oldest}

none_dropped : {X : Type 0} (n : ℕ) (xs : List X) → n ≡ 0 → drop n xs ≡ xs
none_dropped zero xs e = refl
none_dropped (suc n) xs e = absurd (omega arith)

-- all are the oldest, as many as there are or more
pub oldest_all : {X : Type 0} (l : ℕ) (xs : List X) → length xs ≤ l → oldest l xs ≡ xs
oldest_all l xs h = none_dropped (length xs - l) xs (omega arith)

one_dropped : {X : Type 0} (n : ℕ) (x : X) (xs : List X) (m : ℕ) → n ≡ suc m → drop n (x ∷ xs) ≡ drop m xs
one_dropped zero x xs m e = absurd (omega arith)
one_dropped (suc n) x xs m e = ap (λ i. drop i xs) (let k : n ≡ m = omega arith in k)

pub oldest_fewer : {X : Type 0} (l : ℕ) (x : X) (xs : List X) → l ≤ length xs → oldest l (x ∷ xs) ≡ oldest l xs
oldest_fewer l x xs h = one_dropped (length (x ∷ xs) - l) x xs (length xs - l) (omega arith)

-- at a level that the older choice points have, a newer one changes nothing
pub level_stays : (n : ℕ) (ns : List ℕ) (l : ℕ) → l ≤ length ns → at_level (n ∷ ns) l ≡ at_level ns l
level_stays n ns l h = ap (λ t. cond t n (at_level ns l)) (le-ltb (length ns) l h)

-- and where there are no more choice points, all branches count
pub level_above : (ns : List ℕ) (l : ℕ) → length ns ≤ l → at_level ns l ≡ at_top ns
level_above [] l h = refl
level_above (n ∷ ns) l h = ap (λ t. cond t n (at_level ns l)) (lt-ltb (length ns) l (omega arith))

pub level_top : (ns : List ℕ) → at_level ns (length ns) ≡ at_top ns
level_top ns = level_above ns (length ns) (omega arith)

-- the kept ones of a list's later part
pub later_kept : (M N : ℕ) (xs ys cs : List Branch) → Kept M N (xs ++ ys) cs → (ds : List Branch) × Kept M N ys ds
later_kept M N [] ys cs h = (cs, h)
later_kept M N (x ∷ xs) ys cs (inl h) = later_kept M N xs ys h.1.0 h.1.2
later_kept M N (x ∷ xs) ys cs (inr h) = later_kept M N xs ys cs h.1

module _ (M N : ℕ) (C : Type 0) (Waits : List ℕ → C → List Branch → Type 0) where
  abbrev All : List C → List Branch → List ℕ → Type 0
  All cs raw marks = AllWait M N C Waits cs raw marks

  -- as many marks as choice points
  pub wait_length : (cs : List C) (raw : List Branch) (marks : List ℕ) → All cs raw marks → length marks ≡ length cs
  wait_length [] raw marks w = ap length w.1
  wait_length (c ∷ cs) raw marks w = ap length w.8 ∙ ap suc (wait_length cs w.1 w.2 w.5)

  -- the newest mark counts the consistent ones of all branches
  pub wait_top : (cs : List C) (raw : List Branch) (marks : List ℕ) → All cs raw marks → (ds : List Branch) → Kept M N raw ds → length ds ≡ at_top marks
  wait_top [] raw marks w ds k = ap length (subst (λ l. Kept M N l ds) w.0 k) ∙ sym (ap at_top w.1)
  wait_top (c ∷ cs) raw marks w ds k = ap length (kept_once M N raw ds w.3 k w.7) ∙ sym (ap at_top w.8)

  -- What stands below a level: the oldest choice points, the last of the branches, and how many of these are consistent.
  pub record IsBelow (l : ℕ) (cs : List C) (raw : List Branch) (marks : List ℕ) : Type 0 where
    pub before : List Branch
    pub behind : List Branch
    pub parts : raw ≡ before ++ behind
    pub older : List ℕ
    pub older_is : older ≡ oldest l marks
    pub wait : All (oldest l cs) behind older
    pub kept : List Branch
    pub kept_is : Kept M N behind kept
    pub counted : length kept ≡ at_level marks l

  whole : (l : ℕ) (cs : List C) (raw : List Branch) (marks : List ℕ) (w : All cs raw marks) (ds : List Branch) → Kept M N raw ds → length cs ≤ l → IsBelow l cs raw marks
  whole l cs raw marks w ds k h = record {
    before = [];
    behind = raw;
    parts = refl;
    older = marks;
    older_is = sym (oldest_all l marks (let e = wait_length cs raw marks w in omega (arith, e, h)));
    wait = subst (λ ds. All ds raw marks) (sym (oldest_all l cs h)) w;
    kept = ds;
    kept_is = k;
    counted = wait_top cs raw marks w ds k ∙ sym (level_above marks l (let e = wait_length cs raw marks w in omega (arith, e, h)));
  }

  -- with a newer choice point above the level
  newer : (l : ℕ) (c : C) (cs : List C) (raw : List Branch) (marks : List ℕ) (w : All (c ∷ cs) raw marks) → l ≤ length cs → IsBelow l cs w.1 w.2 → IsBelow l (c ∷ cs) raw marks
  newer l c cs raw marks w low r = record {
    before = w.0 ++ r.before;
    behind = r.behind;
    parts = w.6 ∙ ap (λ b. w.0 ++ b) r.parts ∙ sym (append_assoc w.0 r.before r.behind);
    older = r.older;
    older_is = r.older_is ∙ sym (ap (oldest l) w.8 ∙ oldest_fewer l (length w.3) w.2 (let e = wait_length cs w.1 w.2 w.5 in omega (arith, e, low)));
    wait = subst (λ ds. All ds r.behind r.older) (sym (oldest_fewer l c cs low)) r.wait;
    kept = r.kept;
    kept_is = r.kept_is;
    counted = r.counted ∙ sym (ap (λ ms. at_level ms l) w.8 ∙ level_stays (length w.3) w.2 l (let e = wait_length cs w.1 w.2 w.5 in omega (arith, e, low)));
  }

  pub wait_below : (l : ℕ) (cs : List C) (raw : List Branch) (marks : List ℕ) (w : All cs raw marks) (ds : List Branch) → Kept M N raw ds → IsBelow l cs raw marks
  wait_below l [] raw marks w ds k = whole l [] raw marks w ds k (omega arith)
  wait_below l (c ∷ cs) raw marks w ds k =
      let h = later_kept M N w.0 w.1 ds (subst (λ b. Kept M N b ds) w.6 k) in
      let r = wait_below l cs w.1 w.2 w.5 h.0 h.1 in
      elim (cases_Bool (ltb (length cs) l)) [
        | inl e ↦ whole l (c ∷ cs) raw marks w ds k (let i = ltb-true (length cs) l e in omega (arith, i))
        | inr e ↦ newer l c cs raw marks w (ltb-false (length cs) l e) r
      ]

  -- older marks are no greater
  abbrev pub AreFalling : List ℕ → Type 0
  AreFalling [] = Unit {0}
  AreFalling (n ∷ ns) = (at_top ns ≤ n) × AreFalling ns

  fewer_later : (xs ys ds es : List Branch) → Kept M N (xs ++ ys) ds → Kept M N ys es → length es ≤ length ds
  fewer_later [] ys ds es h k = let e = ap length (kept_once M N ys ds es h k) in omega (arith, e)
  fewer_later (x ∷ xs) ys ds es (inl h) k = let l = fewer_later xs ys h.1.0 es h.1.2 k in let e = ap length h.1.1 in omega (arith, l, e)
  fewer_later (x ∷ xs) ys ds es (inr h) k = fewer_later xs ys ds es h.1 k

  pub falling : (cs : List C) (raw : List Branch) (marks : List ℕ) → All cs raw marks → AreFalling marks
  falling [] raw marks w = subst AreFalling (sym w.1) tt
  falling (c ∷ cs) raw marks w =
      let h = later_kept M N w.0 w.1 w.3 (subst (λ l. Kept M N l w.3) w.6 w.7) in
      let top = wait_top cs w.1 w.2 w.5 h.0 h.1 in
      let l = fewer_later w.0 w.1 w.3 h.0 (subst (λ l. Kept M N l w.3) w.6 w.7) h.1 in
      subst AreFalling (sym w.8) (omega (arith, top, l), falling cs w.1 w.2 w.5)

  level_low : (ns : List ℕ) (l : ℕ) → AreFalling ns → at_level ns l ≤ at_top ns
  level_low [] l h = omega arith
  level_low (n ∷ ns) l h = elim (cases_Bool (ltb (length ns) l)) [
    | inl e ↦ (let k : at_level (n ∷ ns) l ≡ n = ap (λ t. cond t n (at_level ns l)) e in omega (arith, k))
    | inr e ↦ (let k : at_level (n ∷ ns) l ≡ at_level ns l = ap (λ t. cond t n (at_level ns l)) e in let i = level_low ns l h.1 in let j = h.0 in omega (arith, k, i, j))
  ]

pub level_most : (M N : ℕ) (C : Type 0) (Waits : List ℕ → C → List Branch → Type 0) (ns : List ℕ) (l : ℕ) (kept : List Branch) → length kept ≡ at_level ns l
    → AreFalling M N C Waits ns → length kept ≤ at_top ns
level_most M N C Waits ns l kept e h = let k = level_low M N C Waits ns l h in omega (arith, e, k)
