-- What a search answers, where the children of a branch part what the branch allows.
use Rattle.std.proofs.Common.{◌≡◌, ℕ, List, [], ◌∷◌, ◌++◌, length, subst, Option, refl, sym, inl, inr, ◌⊎◌}
use Rattle.fd_language.specs.Term.{Substitution}
use Rattle.fd_language.specs.Family.{Family}
use Rattle.fd_model.specs.Goal.{Goal, Program, Query, Branch, Event, End, Budget, Limit, Fault}
use Rattle.fd_model.specs.Lines.{says}
use Rattle.fd_model.specs.BranchViews.{IsView}
use Rattle.fd_model.specs.Children.{Gives, Children, kept_by, last_of}
use Rattle.fd_model.specs.Run.{Run, over, last, fewer, any, spent, faulty, taken}
use Rattle.fd_language.specs.Lists.{Each}
use Rattle.fd_model.specs.Answers.{answers, EndsWith, Shows, EachShows, Somewhere, InOrder}
use Rattle.fd_model.proofs.CutBranches.{last_whole}
use Rattle.fd_model.proofs.Lists.{each_map, each_both, each_at, each_itself, some_left, some_right, some_either, order_both}

-- from the first branches by answers and children to those that are left
pub data Search (M N : ℕ) (prog : Program) : List Branch → List Branch → List Branch → Type 0 where
  stops : {bs : List Branch} → Search M N prog bs [] bs
  finds : {b : Branch} {bs found left : List Branch} (s : Substitution) (D : Family) → b.goals ≡ [] → IsView M N b.equations b.posted s D
      → Search M N prog bs found left → Search M N prog (b ∷ bs) (b ∷ found) left
  takes : {b : Branch} {bs found left : List Branch} (g : Goal) (rest : List Goal) (s : Substitution) (D : Family) (cs : List Branch) → b.goals ≡ g ∷ rest
      → Children M N prog (length bs) b g rest s D (Gives cs) → Search M N prog (cs ++ last_of (kept_by (length bs) g) bs) found left → Search M N prog (b ∷ bs) found left

-- a run is a search, and one that ends with End leaves nothing
abbrev IsSome : List Event → Type 0
IsSome [] = ⊥
IsSome (x ∷ xs) = Unit {0}

some_later : (xs ys : List Event) → IsSome ys → IsSome (xs ++ ys)
some_later [] ys h = h
some_later (x ∷ xs) ys h = tt

ends_later : (e : Event) (xs ys : List Event) → IsSome ys → EndsWith e (xs ++ ys) → EndsWith e ys
ends_later e [] ys s h = h
ends_later e (x ∷ []) [] s h = absurd s
ends_later e (x ∷ []) (y ∷ ys) s h = h
ends_later e (x ∷ z ∷ xs) ys s h = ends_later e (z ∷ xs) ys s h

module _ (M N : ℕ) (prog : Program) (q : Query) where
  abbrev Searched : {n : ℕ} {k : Option ℕ} {bs : List Branch} {es : List Event} {r : ℕ} → Run M N prog q n k bs es r → Type 0
  Searched {bs = bs} {es = es} run = (left : List Branch) × Search M N prog bs (answers run) left × (EndsWith End es → left ≡ []) × IsSome es

  pub searched : {n : ℕ} {k : Option ℕ} {bs : List Branch} {es : List Event} {r : ℕ} (run : Run M N prog q n k bs es r) → Searched run
  searched over = ([], stops, λ h. refl, tt)
  searched (last {b = b} {bs = bs} s D e v) = (bs, finds s D e v stops, λ h. absurd (let h' : Limit ≡ End = h in cc), tt)
  searched (fewer s D e v more) = let later = searched more in (later.0, finds s D e v later.1, λ h. later.2 (ends_later End (_ ∷ []) _ later.3 h), tt)
  searched (any s D e v more) = let later = searched more in (later.0, finds s D e v later.1, λ h. later.2 (ends_later End (_ ∷ []) _ later.3 h), tt)
  searched (spent {b = b} {bs = bs} g rest e) = (b ∷ bs, stops, λ h. absurd (let h' : Budget ≡ End = h in cc), tt)
  searched (faulty {b = b} {bs = bs} {f = f} g rest s D e c) = (b ∷ bs, stops, λ h. absurd (let h' : Fault f ≡ End = h in cc), tt)
  searched (taken {b = b} {es = es} g rest s D cs e c more) = let later = searched more in
      (later.0, takes g rest s D cs e c later.1, λ h. later.2 (ends_later End (says s D b g) es later.3 h), some_later (says s D b g) es later.3)

module _ (M N : ℕ) (prog : Program) (vs : List ℕ) (R : List ℕ → List ℕ → Type 0) (Good : Branch → Type 0) (Allows : Branch → List ℕ → Type 0) where
  -- what an earlier branch allows comes before what a later one allows
  abbrev pub Before : Branch → Branch → Type 0
  Before b c = (ms ns : List ℕ) → Allows b ms → Allows c ns → R ms ns

  pub record IsParted (b : Branch) (cs : List Branch) : Type 0 where
    pub good : Each Good cs
    pub into : (ns : List ℕ) → Allows b ns → Somewhere (λ c. Allows c ns) cs
    pub out : Each (λ c. (ns : List ℕ) → Allows c ns → Allows b ns) cs
    pub order : InOrder Before cs

  pub record IsLeaf (b : Branch) : Type 0 where
    pub values : List ℕ
    pub shown : Shows M N vs b values
    pub allowed : Allows b values
    pub only : (ns : List ℕ) → Allows b ns → ns ≡ values

  -- ns is allowed by one of the branches
  abbrev pub AllowedBy : List Branch → List ℕ → Type 0
  AllowedBy bs ns = Somewhere (λ b. Allows b ns) bs

  pub record IsFound (bs found left : List Branch) : Type 0 where
    pub values : List (List ℕ)
    pub shown : EachShows M N vs found values
    pub allowed : Each (AllowedBy bs) values
    pub complete : (ns : List ℕ) → AllowedBy bs ns → Somewhere (λ ms. ms ≡ ns) values ⊎ AllowedBy left ns
    pub order : InOrder R values
    pub later : Each (λ ms. Each (λ b. (ns : List ℕ) → Allows b ns → R ms ns) left) values
    pub inside : Each (λ c. (ns : List ℕ) → Allows c ns → AllowedBy bs ns) left

  module _ (leaf : (b : Branch) (s : Substitution) (D : Family) → Good b → b.goals ≡ [] → IsView M N b.equations b.posted s D → IsLeaf b)
      (part : (m : ℕ) (b : Branch) (g : Goal) (rest : List Goal) (s : Substitution) (D : Family) (cs : List Branch) → Good b → b.goals ≡ g ∷ rest
      → Children M N prog m b g rest s D (Gives cs) → IsParted b cs)
      (whole : (b : Branch) (g : Goal) (rest : List Goal) → Good b → b.goals ≡ g ∷ rest → (m : ℕ) → kept_by m g ≡ m) where
    pub found_by : {bs found left : List Branch} → Search M N prog bs found left → Each Good bs → InOrder Before bs → IsFound bs found left
    found_by (stops {bs = bs}) good order = record {
      values = [];
      shown = tt;
      allowed = tt;
      complete = λ ns h. inr h;
      order = tt;
      later = tt;
      inside = each_itself Allows bs;
    }
    found_by (finds {b = b} {bs = bs} {left = left} s D e v more) good order =
        let f = found_by more good.1 order.1 in
        let l = leaf b s D good.0 e v in
        let after : (ns : List ℕ) → AllowedBy bs ns → R l.values ns = λ ns h. each_at (Before b) bs (λ c. Allows c ns) (R l.values ns) order.0 h (λ c k g. k l.values ns l.allowed g) in
        record {
          values = l.values ∷ f.values;
          shown = (l.shown, f.shown);
          allowed = (inl l.allowed, each_map (AllowedBy bs) (AllowedBy (b ∷ bs)) (λ ns h. inr h) f.values f.allowed);
          complete = λ ns h. elim h [
            | inl k ↦ inl (inl (sym (l.only ns k)))
            | inr k ↦ elim (f.complete ns k) [ inl g ↦ inl (inr g) | inr g ↦ inr g ]
          ];
          order = (each_map (AllowedBy bs) (R l.values) after f.values f.allowed, f.order);
          later = (each_map (λ c. (ns : List ℕ) → Allows c ns → AllowedBy bs ns) (λ c. (ns : List ℕ) → Allows c ns → R l.values ns) (λ c h ns k. after ns (h ns k)) left f.inside, f.later);
          inside = each_map (λ c. (ns : List ℕ) → Allows c ns → AllowedBy bs ns) (λ c. (ns : List ℕ) → Allows c ns → AllowedBy (b ∷ bs) ns) (λ c h ns k. inr (h ns k)) left f.inside;
        }
    found_by (takes {b = b} {bs = bs} {found = there} {left = left} g rest s D cs e c more) good order =
        let p = part (length bs) b g rest s D cs good.0 e c in
        let outer : (ns : List ℕ) → AllowedBy cs ns → Allows b ns = λ ns h. each_at (λ c. (ms : List ℕ) → Allows c ms → Allows b ms) cs (λ c. Allows c ns) (Allows b ns) p.out h (λ c k g. k ns g) in
        let same = last_whole g bs (whole b g rest good.0 e (length bs)) in
        let both : Each Good (cs ++ bs) × InOrder Before (cs ++ bs) = (
          each_both Good cs bs p.good good.1,
          order_both Before cs bs p.order order.1 (each_map (λ c. (ns : List ℕ) → Allows c ns → Allows b ns) (λ c. Each (Before c) bs)
              (λ c h. each_map (Before b) (Before c) (λ d k ms ns i j. k ms ns (h ms i) j) bs order.0) cs p.out),
        ) in
        let found = found_by more (subst (λ l. Each Good (cs ++ l)) (sym same) both.0) (subst (λ l. InOrder Before (cs ++ l)) (sym same) both.1) in
        let f = subst (λ l. IsFound (cs ++ l) there left) same found in
        let back : (ns : List ℕ) → AllowedBy (cs ++ bs) ns → AllowedBy (b ∷ bs) ns = λ ns h. elim (some_either (λ c. Allows c ns) cs bs h) [ inl k ↦ inl (outer ns k) | inr k ↦ inr k ] in
        let onto : (ns : List ℕ) → AllowedBy (b ∷ bs) ns
        → AllowedBy (cs ++ bs) ns = λ ns h. elim h [
          | inl k ↦ some_left (λ c. Allows c ns) cs bs (p.into ns k)
          | inr k ↦ some_right (λ c. Allows c ns) cs bs k
        ] in
        record {
          values = f.values;
          shown = f.shown;
          allowed = each_map (AllowedBy (cs ++ bs)) (AllowedBy (b ∷ bs)) back f.values f.allowed;
          complete = λ ns h. f.complete ns (onto ns h);
          order = f.order;
          later = f.later;
          inside = each_map (λ c. (ns : List ℕ) → Allows c ns → AllowedBy (cs ++ bs) ns) (λ c. (ns : List ℕ) → Allows c ns → AllowedBy (b ∷ bs) ns) (λ c h ns k. back ns (h ns k)) left f.inside;
        }
