-- How what levels mean is carried through a machine's steps: slots that are set, calls and returns, choice points that come and go, tests and cuts.
use Rattle.std.proofs.Common.{◌≡◌, ◌⊎◌, ℕ, suc, ◌≤◌, Bool, true, false, ◌==◌, if◌then◌else◌, List, [], ◌∷◌, Option, Some, None, length, refl, ap, sym, ◌∙◌}
use Rattle.std.proofs.Common.{subst, inl, inr, arith, eq-eqb}
use Rattle.std.proofs.lemmas.Bool.{cases_eq, true≢false}
use Rattle.branch_meaning.specs.RemainingEvents.{at_top, oldest}
use Rattle.wam_code.specs.Places.{Depth, no_depth, one_deeper, Places, put_at, drop_at, IsSettled, AreWithin}
use Rattle.wam_code.specs.CodeMeaning.{Return}
use Rattle.wam_code.proofs.Lemmas.{put_here, put_else}
use Rattle.code_meaning.specs.Registers.{Registers, Saved, AreSame, AreSameElse, IsMarked}
use Rattle.code_meaning.specs.Depths.{IsDepth, depth_of, AreDepths, IsFloor, IsCounted, AllLeveled, IsLeveled}
use Rattle.code_meaning.proofs.Depths.{depth_here, depth_pushed, depth_deeper, depth_cut}

-- a depth in the slot n is that one, and the others are as before
put_cases : {A : Type 0} (n : ℕ) (x : A) (f : ℕ → Option A) (m : ℕ) (y : A) → put_at n x f m ≡ Some y → ((m ≡ n) × (x ≡ y)) ⊎ ((m ≡ n → ⊥) × (f m ≡ Some y))
put_cases n x f m y h = elim (cases_eq m n) [
  | inl e ↦ inl (e, (let same : Some x ≡ Some y = sym (put_here n x f) ∙ ap (put_at n x f) (sym e) ∙ h in cc))
  | inr d ↦ inr (d, sym (put_else n x f m d) ∙ h)
]

-- a slot that is dropped has none
pub drop_cases : {A : Type 0} (n : ℕ) (f : ℕ → Option A) (m : ℕ) (y : A) → drop_at n f m ≡ Some y → (m ≡ n → ⊥) × (f m ≡ Some y)
drop_cases n f m y h = by (m == n) refl h
  where
    by : (b : Bool) → (m == n) ≡ b → (if b then None else f m) ≡ Some y → (m ≡ n → ⊥) × (f m ≡ Some y)
    by true e g = absurd (cc)
    by false e g = ((λ d. true≢false (sym (eq-eqb m n d) ∙ e)), g)

-- ---- all continuations

-- The depth of all choice points is above those of all continuations.
pub saved_floor : (marks : List ℕ) (rs : List Return) (ss : List Saved) → AllLeveled marks rs ss → IsFloor (depth_of marks) rs
saved_floor marks [] ss h = tt
saved_floor marks (r ∷ rs) [] h = absurd h
saved_floor marks (r ∷ rs) (s ∷ ss) h = ((λ n e g. (h.0 n e g).1.points), saved_floor marks rs ss h.2)

floor_up : (d e : Depth) → d.points ≤ e.points → (rs : List Return) → IsFloor d rs → IsFloor e rs
floor_up d e l [] h = tt
floor_up d e l (r ∷ rs) h = ((λ n x g. let k = h.0 n x g in omega (arith, k, l)), floor_up d e l rs h.1)

depths_pushed : (n : ℕ) (marks : List ℕ) (f : ℕ → Option Depth) (s : ℕ → Option ℕ) → AreDepths marks f s → AreDepths (n ∷ marks) f s
depths_pushed n marks f s h = λ m d g. let w = h m d g in (w.0, depth_pushed n marks d w.1)

saved_pushed : (n : ℕ) (marks : List ℕ) (rs : List Return) (ss : List Saved) → AllLeveled marks rs ss → AllLeveled (n ∷ marks) rs ss
saved_pushed n marks [] [] h = tt
saved_pushed n marks [] (s ∷ ss) h = absurd h
saved_pushed n marks (r ∷ rs) [] h = absurd h
saved_pushed n marks (r ∷ rs) (s ∷ ss) h = (depths_pushed n marks r.levels s.levels h.0, h.1, saved_pushed n marks rs ss h.2)

saved_cut : (marks : List ℕ) (d : Depth) → IsDepth marks d → (rs : List Return) (ss : List Saved) → IsFloor d rs → AllLeveled marks rs ss → AllLeveled (oldest d.points marks) rs ss
saved_cut marks d k [] [] f h = tt
saved_cut marks d k [] (s ∷ ss) f h = absurd h
saved_cut marks d k (r ∷ rs) [] f h = absurd h
saved_cut marks d k (r ∷ rs) (s ∷ ss) f h = ((λ m e g. let w = h.0 m e g in (w.0, depth_cut marks d e k w.1 (f.0 m e g))), h.1, saved_cut marks d k rs ss f.1 h.2)

module _ (marks : List ℕ) (f : ℕ → Option Depth) (o : Option Depth) (c : Registers) (rs : List Return) (ss : List Saved) (h : IsLeveled marks f o c rs ss) where
  -- ---- at a goal, and where slots are written

  -- The machine has the same numbers.
  pub leveled_same : (c' : Registers) → AreSame c.levels c'.levels → c'.noted ≡ c.noted → IsLeveled marks f o c' rs ss
  leveled_same c' same noted = record {
    levels = λ n d e. (let w = h.levels n d e in (same n ∙ w.0, w.1));
    noted = λ d e. (let w = h.noted d e in
        (noted ∙ w.0, w.1));
    above = h.above;
    saved = h.saved;
  }

  -- Fewer depths are counted on.
  pub leveled_fewer : (g : ℕ → Option Depth) (p : Option Depth) → ((n : ℕ) (d : Depth) → g n ≡ Some d → f n ≡ Some d) → ((d : Depth) → p ≡ Some d → o ≡ Some d) → IsLeveled marks g p c rs ss
  leveled_fewer g p i j = record { levels = λ n d e. h.levels n d (i n d e); noted = λ d e. h.noted d (j d e); above = λ d k. h.above d (by d k); saved = h.saved }
    where
      by : (d : Depth) → IsCounted g p d → IsCounted f o d
      by d (inl w) = inl (w.0, i w.0 d w.1)
      by d (inr e) = inr (j d e)

  -- None is counted on in slots, which may be anything.
  pub leveled_no_slots : (c' : Registers) → c'.noted ≡ c.noted → IsLeveled marks (λ n. None) o c' rs ss
  leveled_no_slots c' e = record { levels = λ n d g. absurd (cc); noted = λ d g. (let w = h.noted d g in (e ∙ w.0, w.1)); above = λ d k. by d k; saved = h.saved }
    where
      by : (d : Depth) → IsCounted (λ n. None) o d → IsFloor d rs
      by d (inl w) = absurd (let none : None ≡ Some d = w.1 in cc)
      by d (inr g) = h.above d (inr g)

  -- A slot takes a depth of the search.
  pub leveled_put : (n : ℕ) (d : Depth) (c' : Registers) → IsDepth marks d → IsFloor d rs → IsMarked c n d.points c' → IsLeveled marks (put_at n d f) o c' rs ss
  leveled_put n d c' k g m = record {
    levels = λ j e i. elim (put_cases n d f j e i) [
      | inl w ↦ (ap c'.levels w.0 ∙ m.here ∙ ap (λ x. Some x.points) w.1, subst (IsDepth marks) w.1 k)
      | inr w ↦ let v = h.levels j e w.1 in (m.else j w.0 ∙ v.0, v.1)
    ];
    noted = λ e i. let v = h.noted e i in (m.noted ∙ v.0, v.1);
    above = λ e i. by e i;
    saved = h.saved;
  }
    where
      by : (e : Depth) → IsCounted (put_at n d f) o e → IsFloor e rs
      by e (inl w) = elim (put_cases n d f w.0 e w.1) [
        | inl i ↦ subst (λ x. IsFloor x rs) i.1 g
        | inr i ↦ h.above e (inl (w.0, i.1))
      ]
      by e (inr i) = h.above e (inr i)

  -- A slot isn't counted on, whatever it has.
  pub leveled_drop : (n : ℕ) (c' : Registers) → AreSameElse n c.levels c'.levels → c'.noted ≡ c.noted → IsLeveled marks (drop_at n f) o c' rs ss
  leveled_drop n c' same noted = record {
    levels = λ j e i. (let w = drop_cases n f j e i in let v = h.levels j e w.1 in (same j w.0 ∙ v.0, v.1));
    noted = λ e i. let v = h.noted e i in (noted ∙ v.0, v.1);
    above = λ e i. by e i;
    saved = h.saved;
  }
    where
      by : (e : Depth) → IsCounted (drop_at n f) o e → IsFloor e rs
      by e (inl w) = let i = drop_cases n f w.0 e w.1 in h.above e (inl (w.0, i.1))
      by e (inr i) = h.above e (inr i)

  -- ---- the four instructions

  -- Level: the slot takes what was noted.
  pub leveled_level : (n : ℕ) (d : Depth) (c' : Registers) → o ≡ Some d → IsMarked c n c.noted c' → IsLeveled marks (put_at n d f) o c' rs ss
  leveled_level n d c' e m = let w = h.noted d e in leveled_put n d c' w.1 (h.above d (inr e)) (subst (λ k. IsMarked c n k c') w.0 m)

  -- TestOnly: the slot takes the number of choice points.
  pub leveled_test : (n : ℕ) (c' : Registers) → IsMarked c n (length marks) c' → IsLeveled marks (put_at n (depth_of marks) f) o c' rs ss
  leveled_test n c' m = leveled_put n (depth_of marks) c' (depth_here marks) (saved_floor marks rs ss h.saved) m

  -- ---- choice points

  -- One comes: all is as it was.
  pub leveled_pushed : (n : ℕ) → IsLeveled (n ∷ marks) f o c rs ss
  leveled_pushed n = record {
    levels = depths_pushed n marks f c.levels h.levels;
    noted = λ d e. let w = h.noted d e in (w.0, depth_pushed n marks d w.1);
    above = h.above;
    saved = saved_pushed n marks rs ss h.saved;
  }

  -- ---- calls

  -- A call: the slots are the newest continuation's, and all choice points are noted.
  pub leveled_call : (r : Return) (s : Saved) (c' : Registers) → ((n : ℕ) (d : Depth) → r.levels n ≡ Some d → f n ≡ Some d) → AreSame c.levels s.levels → c'.noted ≡ length marks
      → IsLeveled marks (λ n. None) (Some (depth_of marks)) c' (r ∷ rs) (s ∷ ss)
  leveled_call r s c' i same e = record {
    levels = λ n d g. absurd (cc);
    noted = λ d g. (let one : depth_of marks ≡ d = cc in (e ∙ ap (λ y. y.points) one, subst (IsDepth marks) one (depth_here marks)));
    above = λ d g. by d g;
    saved = ((λ n d g. let w = h.levels n d (i n d g) in (same n ∙ w.0, w.1)), (λ n d g. h.above d (inl (n, i n d g))), h.saved);
  }
    where
      all : IsFloor (depth_of marks) (r ∷ rs)
      all = ((λ n d g. (h.levels n d (i n d g)).1.points), saved_floor marks rs ss h.saved)

      by : (d : Depth) → IsCounted (λ n. None) (Some (depth_of marks)) d → IsFloor d (r ∷ rs)
      by d (inl w) = absurd (let none : None ≡ Some d = w.1 in cc)
      by d (inr g) = let one : depth_of marks ≡ d = cc in subst (λ y. IsFloor y (r ∷ rs)) one all

  -- The last call of a clause: no continuation comes.
  pub leveled_execute : (c' : Registers) → c'.noted ≡ length marks → IsLeveled marks (λ n. None) (Some (depth_of marks)) c' rs ss
  leveled_execute c' e = record {
    levels = λ n d g. absurd (cc);
    noted = λ d g. (let one : depth_of marks ≡ d = cc in (e ∙ ap (λ y. y.points) one, subst (IsDepth marks) one (depth_here marks)));
    above = λ d g. by d g;
    saved = h.saved;
  }
    where
      by : (d : Depth) → IsCounted (λ n. None) (Some (depth_of marks)) d → IsFloor d rs
      by d (inl w) = absurd (let none : None ≡ Some d = w.1 in cc)
      by d (inr g) = let one : depth_of marks ≡ d = cc in subst (λ y. IsFloor y rs) one (saved_floor marks rs ss h.saved)

  -- CutTo: the choice points above the slot's number go, and what is no deeper is still counted on.
  pub leveled_cut : (n : ℕ) (d : Depth) → f n ≡ Some d → (q : Places) → IsLeveled marks q.levels q.noted c rs ss → AreWithin q d → IsLeveled (oldest d.points marks) q.levels q.noted c rs ss
  leveled_cut n d e q g w =
      let k = (h.levels n d e).1 in
      record {
        levels = λ m x i. (let v = g.levels m x i in (v.0, depth_cut marks d x k v.1 (w.levels m x i)));
        noted = λ x i. (let v = g.noted x i in (v.0, depth_cut marks d x k v.1 (w.noted x i)));
        above = g.above;
        saved = saved_cut marks d k rs ss (h.above d (inl (n, e))) h.saved;
      }

-- At a goal any depths may be kept.
pub leveled_settled : (marks : List ℕ) (p q : Places) (c : Registers) (rs : List Return) (ss : List Saved) → IsLeveled marks p.levels p.noted c rs ss → IsSettled p q
    → IsLeveled marks q.levels q.noted c rs ss
leveled_settled marks p q c rs ss h s = leveled_fewer marks p.levels p.noted c rs ss h q.levels q.noted s.levels s.noted

-- A return: the newest continuation's slots are the current ones, whatever was noted.
pub leveled_return : (marks : List ℕ) (f : ℕ → Option Depth) (o : Option Depth) (c : Registers) (r : Return) (rs : List Return) (s : Saved) (ss : List Saved)
    → IsLeveled marks f o c (r ∷ rs) (s ∷ ss) → (c' : Registers) → AreSame s.levels c'.levels → IsLeveled marks r.levels None c' rs ss
leveled_return marks f o c r rs s ss h c' same = record {
  levels = λ n d e. let w = h.saved.0 n d e in (same n ∙ w.0, w.1);
  noted = λ d e. absurd (cc);
  above = λ d k. by d k;
  saved = h.saved.2;
}
  where
    by : (d : Depth) → IsCounted r.levels None d → IsFloor d rs
    by d (inl w) = h.saved.1 w.0 d w.1
    by d (inr e) = absurd (cc)

-- EnterTest: in the test, the second slot's depth counts the new choice point, which stands for one branch.
pub leveled_enter : (marks : List ℕ) (f : ℕ → Option Depth) (o : Option Depth) (c : Registers) (rs : List Return) (ss : List Saved) → IsLeveled marks f o c rs ss → (n m : ℕ) (c' c'' : Registers)
    → IsMarked c n (length marks) c' → IsMarked c' m (suc (length marks)) c''
    → (k : ℕ) → k ≡ suc (at_top marks) → IsLeveled (k ∷ marks) (put_at m (one_deeper (depth_of marks)) (put_at n (depth_of marks) f)) o c'' rs ss
leveled_enter marks f o c rs ss h n m c' c'' g i k is =
    let one = leveled_test marks f o c rs ss h n c' g in
    let two = leveled_pushed marks (put_at n (depth_of marks) f) o c' rs ss one k in
    leveled_put (k ∷ marks) (put_at n (depth_of marks) f) o c' rs ss two m (one_deeper (depth_of marks)) c'' (depth_deeper k marks is)
    (floor_up (depth_of marks) (one_deeper (depth_of marks)) (omega arith) rs (saved_floor marks rs ss h.saved)) i

-- And at the other way's place, without the new choice point, the second slot isn't counted on, whatever it has.
pub leveled_other : (marks : List ℕ) (f : ℕ → Option Depth) (o : Option Depth) (c : Registers) (rs : List Return) (ss : List Saved) → IsLeveled marks f o c rs ss → (n m : ℕ) (c' c'' : Registers)
    → IsMarked c n (length marks) c' → IsMarked c' m (suc (length marks)) c''
    → IsLeveled marks (drop_at m (put_at n (depth_of marks) f)) o c'' rs ss
leveled_other marks f o c rs ss h n m c' c'' g i = leveled_drop marks (put_at n (depth_of marks) f) o c' rs ss (leveled_test marks f o c rs ss h n c' g) m c'' i.else i.noted

-- At the start of a query there is no choice point.
pub leveled_start : (c : Registers) → c.noted ≡ 0 → IsLeveled [] (λ n. None) (Some no_depth) c [] []
leveled_start c e = record {
  levels = λ n d g. absurd (cc);
  noted = λ d g. (let same : no_depth ≡ d = cc in (e ∙ ap (λ x. x.points) same, subst (IsDepth []) same (record { points = omega arith; branches = refl })));
  above = λ d k. tt;
  saved = tt;
}
