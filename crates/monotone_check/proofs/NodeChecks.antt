-- Each node that is read leaves what is kept true of what waits.
use Rattle.std.proofs.Common.{◌≡◌, ℕ, ℤ, suc, ◌+◌, ◌-◌, List, [], ◌∷◌, ◌++◌, Option, Some, None, refl, sym, ◌∙◌, ap, subst, arith, ◌⊎◌, inl, inr}
use Rattle.std.specs.Prelude.{Result, IfOk}
use Rattle.std.proofs.lemmas.Result.{IfOk-weaker}
use Rattle.fd_language.specs.declared.TheConstants.{INFINITY}
use Rattle.fd_language.specs.declared.range_node.RangeNode.{RangeNode}
use Rattle.fd_language.specs.declared.range_node.RangeNode.TheVariants as node
use Rattle.fd_language.specs.Range.{Range, Span, One, Union, Inter, Outside, Plus, Minus, Times, Over, Expr, Number, Infinity, Param, Min, Max, Val, Add, Sub}
use Rattle.fd_language.specs.Range.{Mul, DivDown, DivUp}
use Rattle.fd_language.specs.PostfixRanges.{term_alone, term_of_terms, range_of_ranges, range_of_both, put, built, built_behind}
use Rattle.fd_language.specs.RangeVerdict.{expr_size, range_size}
use Rattle.monotone_check.specs.declared.summary.TermCheck.{TermCheck}
use Rattle.monotone_check.specs.declared.summary.RangeCheck.{RangeCheck}
use Rattle.monotone_check.specs.declared.pending_checks.Pending.{Pending}
use Rattle.monotone_check.specs.Summary.{IsTerm, IsRange, IsLeaf, IsOperated, IsCombined, IsPointwise}
use Rattle.monotone_check.specs.PendingChecks.{AreTerms, AreRanges, before_terms, IsPending, Follows}
use Rattle.monotone_check.specs.Steps.{PushesLeaf, PushesOperated, PushesSpan, PushesSingle, PushesCombined, PushesComplement, PushesPointwise}
use Rattle.monotone_check.proofs.Operators.{add_is, sub_is, mul_is, div_down_is, div_up_is}
use Rattle.monotone_check.proofs.Ranges.{span_is, one_is, union_is, inter_is, outside_is, plus_is, minus_is, times_is, over_is}

pub follows : (M : ℕ) (at : ℕ → ℕ) (n : ℕ) (ns : List RangeNode) (rs : List Range) (ts : List Expr) (o : Option Range) (p : Pending) → o ≡ built ns rs ts
    → IsPending M at (suc n) rs ts p → Follows M at n ns o p
follows M at n ns rs ts None p e i = tt
follows M at n ns rs ts (Some r) p e i = (rs, ts, e, i)

swapped : (n k : ℕ) → (n - k) - 1 ≡ (n - 1) - k
swapped n k = omega arith

one_less : (n : ℕ) → n ≡ suc n - 1
one_less n = omega arith

two_less : (n a b : ℕ) → (n - b) - a ≡ suc n - suc (a + b)
two_less n a b = omega arith

less : (n a : ℕ) → n - a ≡ suc n - suc a
less n a = omega arith

module _ (at : ℕ → ℕ) (n : ℕ) (ns : List RangeNode) (old new : Pending) where
  put_term : (rs : List Range) (ts : List Expr) (front : List TermCheck) (e : Expr) (s : TermCheck) (before : ℕ) → new.terms.items ≡ front ++ s ∷ [] → IsTerm INFINITY at n e s →
      before ≡ suc n - expr_size e → AreTerms INFINITY at before ts front → AreRanges INFINITY at (before_terms before ts) rs new.ranges.items → IsPending INFINITY at (suc n) rs (e ∷ ts) new
  put_term rs ts front e s before i t l a r = record {
    terms = (front, s, i, subst (λ k. IsTerm INFINITY at k e s) (one_less n) t, subst (λ k. AreTerms INFINITY at k ts front) l a);
    ranges = subst (λ k. AreRanges INFINITY at (before_terms k ts) rs new.ranges.items) l r;
  }

  put_range : (rs : List Range) (front : List RangeCheck) (r : Range) (s : RangeCheck) (before : ℕ) → new.terms.items ≡ [] → new.ranges.items ≡ front ++ s ∷ [] → IsRange INFINITY at n r s →
      before ≡ suc n - range_size r → AreRanges INFINITY at before rs front → IsPending INFINITY at (suc n) (r ∷ rs) [] new
  put_range rs front r s before e i t l a = record {
    terms = e;
    ranges = (front, s, i, subst (λ k. IsRange INFINITY at k r s) (one_less n) t, subst (λ k. AreRanges INFINITY at k rs front) l a);
  }

  leaf_at : (rs : List Range) (ts : List Expr) (e : Expr) (s : TermCheck) → expr_size e ≡ 1 → IsPending INFINITY at n rs ts old
      → new.terms.items ≡ old.terms.items ++ s ∷ [] → new.ranges.items ≡ old.ranges.items → IsTerm INFINITY at n e s
      → IsPending INFINITY at (suc n) rs (e ∷ ts) new
  leaf_at rs ts e s k p i j t = put_term rs ts old.terms.items e s n i t (here (expr_size e) k) p.terms (subst (λ l. AreRanges INFINITY at (before_terms n ts) rs l) (sym j) p.ranges) where
    here : (m : ℕ) → m ≡ 1 → n ≡ suc n - m
    here m h = omega arith

  read_leaf : (m : RangeNode) (e : Expr) → expr_size e ≡ 1 → ((s : TermCheck) → IsLeaf INFINITY m (at n) s → IsTerm INFINITY at n e s)
      → (rs : List Range) (ts : List Expr) → IsPending INFINITY at n rs ts old → PushesLeaf m (at n) old new
      → Follows INFINITY at n ns (built_behind ns (put (term_alone e) rs ts)) new
  read_leaf m e one is rs ts p (s, i, j, t) = follows INFINITY at n ns rs (e ∷ ts) (built ns rs (e ∷ ts)) new refl (leaf_at rs ts e s one p i j (is s t))

  -- an operator of two terms, that makes as many nodes as its operands have and one
  read_operator : (m : RangeNode) (make : Expr → Expr → Expr) → ((a b : Expr) → expr_size (make a b) ≡ suc (expr_size a + expr_size b))
      → ((a b : Expr) (s t u : TermCheck) → IsTerm INFINITY at (n - 1 - expr_size b) a s → IsTerm INFINITY at (n - 1) b t → IsOperated INFINITY m s t (at n) u → IsTerm INFINITY at n (make a b) u)
      → (rs : List Range) (ts : List Expr) → IsPending INFINITY at n rs ts old → PushesOperated m (at n) old new → Follows INFINITY at n ns (built_behind ns (put (term_of_terms make) rs ts)) new
  read_operator m make size is rs [] p f = tt
  read_operator m make size is rs (b ∷ []) p f = tt
  read_operator m make size is rs (b ∷ a ∷ ts) p f =
      let (front, t, e, j, more) = p.terms in
      let (front2, s, g, i, rest) = more in
      let r = p.ranges in
      let made = f front2 s t (e ∙ ap (λ l. l ++ t ∷ []) g) in
      follows INFINITY at n ns rs (make a b ∷ ts) (built ns rs (make a b ∷ ts)) new refl
      (put_term rs ts front2 (make a b) made.0 ((n - expr_size b) - expr_size a) made.1
      (is a b s t made.0 (subst (λ k. IsTerm INFINITY at k a s) (swapped n (expr_size b)) i) j made.3)
      (two_less n (expr_size a) (expr_size b) ∙ ap (λ k. suc n - k) (sym (size a b))) rest (subst (λ l. AreRanges INFINITY at (before_terms n (b ∷ a ∷ ts)) rs l) (sym made.2) r))

  pub read_span : (rs : List Range) (ts : List Expr) → IsPending INFINITY at n rs ts old → PushesSpan old new → Follows INFINITY at n ns (built (node.Span ∷ ns) rs ts) new
  read_span rs [] p f = tt
  read_span rs (b ∷ []) p f = tt
  read_span rs (b ∷ a ∷ c ∷ ts) p f = tt
  read_span rs (b ∷ a ∷ []) p f =
      let (front, t, e, j, more) = p.terms in
      let (front2, s, g, i, rest) = more in
      let r = p.ranges in
      let made = f front2 s t (e ∙ ap (λ l. l ++ t ∷ []) g) in
      follows INFINITY at n ns (Span a b ∷ rs) [] (built ns (Span a b ∷ rs) []) new refl
      (put_range rs old.ranges.items (Span a b) made.0 ((n - expr_size b) - expr_size a) (made.1 ∙ rest) made.2
      (span_is INFINITY at n a b s t made.0 (subst (λ k. IsTerm INFINITY at k a s) (swapped n (expr_size b)) i) j made.3)
      (two_less n (expr_size a) (expr_size b)) r)

  pub read_one : (rs : List Range) (ts : List Expr) → IsPending INFINITY at n rs ts old → PushesSingle old new → Follows INFINITY at n ns (built (node.One ∷ ns) rs ts) new
  read_one rs [] p f = tt
  read_one rs (b ∷ a ∷ ts) p f = tt
  read_one rs (a ∷ []) p f =
      let (front, s, e, i, rest) = p.terms in
      let r = p.ranges in
      let made = f front s e in
      follows INFINITY at n ns (One a ∷ rs) [] (built ns (One a ∷ rs) []) new refl
      (put_range rs old.ranges.items (One a) made.0 (n - expr_size a) (made.1 ∙ rest) made.2 (one_is INFINITY at n a s made.0 i made.3) (less n (expr_size a)) r)

  -- an operator of two ranges
  read_combined : (make : Range → Range → Range) → ((r q : Range) → range_size (make r q) ≡ suc (range_size r + range_size q))
      → ((r q : Range) (s t u : RangeCheck) → IsRange INFINITY at (n - 1 - range_size q) r s → IsRange INFINITY at (n - 1) q t → IsCombined s t u → IsRange INFINITY at n (make r q) u)
      → (rs : List Range) (ts : List Expr) → IsPending INFINITY at n rs ts old → PushesCombined old new → Follows INFINITY at n ns (built_behind ns (put (range_of_ranges make) rs ts)) new
  read_combined make size is [] [] p f = tt
  read_combined make size is (q ∷ []) [] p f = tt
  read_combined make size is [] (a ∷ ts) p f = tt
  read_combined make size is (q ∷ []) (a ∷ ts) p f = tt
  read_combined make size is (q ∷ r ∷ rs) (a ∷ ts) p f = tt
  read_combined make size is (q ∷ r ∷ rs) [] p f =
      let none = p.terms in
      let (front, t, e, j, more) = p.ranges in
      let (front2, s, g, i, rest) = more in
      let made = f front2 s t (e ∙ ap (λ l. l ++ t ∷ []) g) in
      follows INFINITY at n ns (make r q ∷ rs) [] (built ns (make r q ∷ rs) []) new refl
      (put_range rs front2 (make r q) made.0 ((n - range_size q) - range_size r) (made.1 ∙ none) made.2
      (is r q s t made.0 (subst (λ k. IsRange INFINITY at k r s) (swapped n (range_size q)) i) j made.3)
      (two_less n (range_size r) (range_size q) ∙ ap (λ k. suc n - k) (sym (size r q))) rest)

  pub read_outside : (rs : List Range) (ts : List Expr) → IsPending INFINITY at n rs ts old → PushesComplement old new → Follows INFINITY at n ns (built (node.Outside ∷ ns) rs ts) new
  read_outside [] [] p f = tt
  read_outside [] (a ∷ ts) p f = tt
  read_outside (r ∷ rs) (a ∷ ts) p f = tt
  read_outside (r ∷ rs) [] p f =
      let none = p.terms in
      let (front, s, e, i, rest) = p.ranges in
      let made = f front s e in
      follows INFINITY at n ns (Outside r ∷ rs) [] (built ns (Outside r ∷ rs) []) new refl
      (put_range rs front (Outside r) made.0 (n - range_size r) (made.1 ∙ none) made.2 (outside_is INFINITY at n r s made.0 i made.3) (less n (range_size r)) rest)

  -- an operator of a range and a term
  read_pointwise : (m : RangeNode) (make : Range → Expr → Range) → ((r : Range) (c : Expr) → range_size (make r c) ≡ suc (range_size r + expr_size c))
      → ((r : Range) (c : Expr) (s : RangeCheck) (t : TermCheck) (u : RangeCheck) → IsRange INFINITY at (n - 1 - expr_size c) r s
      → IsTerm INFINITY at (n - 1) c t → IsPointwise INFINITY m s t (at n) u → IsRange INFINITY at n (make r c) u)
      → (rs : List Range) (ts : List Expr) → IsPending INFINITY at n rs ts old → PushesPointwise m (at n) old new → Follows INFINITY at n ns (built_behind ns (put (range_of_both make) rs ts)) new
  read_pointwise m make size is [] [] p f = tt
  read_pointwise m make size is [] (a ∷ []) p f = tt
  read_pointwise m make size is [] (b ∷ a ∷ ts) p f = tt
  read_pointwise m make size is (r ∷ rs) [] p f = tt
  read_pointwise m make size is (r ∷ rs) (b ∷ a ∷ ts) p f = tt
  read_pointwise m make size is (r ∷ rs) (c ∷ []) p f =
      let (before, t, e, j, none) = p.terms in
      let (front, s, g, i, rest) = p.ranges in
      let made = f before front s t e g in
      follows INFINITY at n ns (make r c ∷ rs) [] (built ns (make r c ∷ rs) []) new refl
      (put_range rs front (make r c) made.0 ((n - expr_size c) - range_size r) (made.1 ∙ none) made.2
      (is r c s t made.0 (subst (λ k. IsRange INFINITY at k r s) (swapped n (expr_size c)) i) j made.3)
      (two_less n (range_size r) (expr_size c) ∙ ap (λ k. suc n - k) (sym (size r c))) rest)

-- the same for each kind of node that the code tells apart
abbrev pub Taken : RangeNode → ℕ → Pending → Pending → Type 0
Taken m place old new = (at : ℕ → ℕ) (n : ℕ) (ns : List RangeNode) (rs : List Range) (ts : List Expr) → at n ≡ place → IsPending INFINITY at n rs ts old
    → Follows INFINITY at n ns (built (m ∷ ns) rs ts) new

placed : (m : RangeNode) (place : ℕ) (old new : Pending) (P : RangeNode → ℕ → Pending → Pending → Type 0) →
    ((at : ℕ → ℕ) (n : ℕ) (ns : List RangeNode) (rs : List Range) (ts : List Expr) → IsPending INFINITY at n rs ts old → P m (at n) old new → Follows INFINITY at n ns (built (m ∷ ns) rs ts) new) →
    (k : RangeNode) → k ≡ m → P k place old new → Taken k place old new
placed m place old new P f k e h = λ at n ns rs ts i p.
    subst (λ j. Follows INFINITY at n ns (built (j ∷ ns) rs ts) new) (sym e) (f at n ns rs ts p (subst (λ q. P m q old new) (sym i) (subst (λ j. P j place old new) e h)))

pub leaf_taken : (m : RangeNode) (place : ℕ) (old new : Pending)
    → (((z : ℤ) × (m ≡ node.Int z)) ⊎ ((m ≡ node.Infinity)
    ⊎ (((x : ℕ) × (m ≡ node.Param x)) ⊎ (((y : ℕ) × (m ≡ node.Min y)) ⊎ (((y : ℕ) × (m ≡ node.Max y)) ⊎ ((y : ℕ) × (m ≡ node.Val y)))))))
    → PushesLeaf m place old new → Taken m place old new
leaf_taken m place old new is f = elim is [
  | inl e0 ↦ placed (node.Int e0.0) place old new PushesLeaf
      (λ at n ns rs ts. read_leaf at n ns old new (node.Int e0.0) (Number e0.0) refl (λ s t. t.leaf at n refl) rs ts) m e0.1 f
  | inr h0 ↦ elim h0 [
    | inl e1 ↦ placed node.Infinity place old new PushesLeaf
        (λ at n ns rs ts. read_leaf at n ns old new node.Infinity Infinity refl (λ s t. t.leaf at n refl) rs ts) m e1 f
    | inr h1 ↦ elim h1 [
      | inl e2 ↦ placed (node.Param e2.0) place old new PushesLeaf
          (λ at n ns rs ts. read_leaf at n ns old new (node.Param e2.0) (Param e2.0) refl (λ s t. t.leaf at n refl) rs ts) m e2.1 f
      | inr h2 ↦ elim h2 [
        | inl e3 ↦ placed (node.Min e3.0) place old new PushesLeaf
            (λ at n ns rs ts. read_leaf at n ns old new (node.Min e3.0) (Min e3.0) refl (λ s t. t.leaf at n refl) rs ts) m e3.1 f
        | inr h3 ↦ elim h3 [
          | inl e4 ↦ placed (node.Max e4.0) place old new PushesLeaf
              (λ at n ns rs ts. read_leaf at n ns old new (node.Max e4.0) (Max e4.0) refl (λ s t. t.leaf at n refl) rs ts) m e4.1 f
          | inr h4 ↦ placed (node.Val h4.0) place old new PushesLeaf
              (λ at n ns rs ts. read_leaf at n ns old new (node.Val h4.0) (Val h4.0) refl (λ s t. t.leaf at n refl) rs ts) m h4.1 f
        ]
      ]
    ]
  ]
]

pub operator_taken : (m : RangeNode) (place : ℕ) (old new : Pending)
    → ((m ≡ node.Add) ⊎ ((m ≡ node.Sub) ⊎ ((m ≡ node.Mul) ⊎ ((m ≡ node.DivDown) ⊎ (m ≡ node.DivUp))))) → PushesOperated m place old new → Taken m place old new
operator_taken m place old new is f = elim is [
  | inl e0 ↦ placed node.Add place old new PushesOperated
      (λ at n ns rs ts. read_operator at n ns old new node.Add Add (λ a b. refl) (λ a b s t u. add_is INFINITY at n a b s t u) rs ts) m e0 f
  | inr h0 ↦ elim h0 [
    | inl e1 ↦ placed node.Sub place old new PushesOperated
        (λ at n ns rs ts. read_operator at n ns old new node.Sub Sub (λ a b. refl) (λ a b s t u. sub_is INFINITY at n a b s t u) rs ts) m e1 f
    | inr h1 ↦ elim h1 [
      | inl e2 ↦ placed node.Mul place old new PushesOperated
          (λ at n ns rs ts. read_operator at n ns old new node.Mul Mul (λ a b. refl) (λ a b s t u. mul_is INFINITY at n a b s t u) rs ts) m e2 f
      | inr h2 ↦ elim h2 [
        | inl e3 ↦ placed node.DivDown place old new PushesOperated
            (λ at n ns rs ts. read_operator at n ns old new node.DivDown DivDown (λ a b. refl) (λ a b s t u. div_down_is INFINITY at n a b s t u) rs ts) m e3 f
        | inr h3 ↦ placed node.DivUp place old new PushesOperated
            (λ at n ns rs ts. read_operator at n ns old new node.DivUp DivUp (λ a b. refl) (λ a b s t u. div_up_is INFINITY at n a b s t u) rs ts) m h3 f
      ]
    ]
  ]
]

pub span_taken : (m : RangeNode) (place : ℕ) (old new : Pending) → m ≡ node.Span → PushesSpan old new → Taken m place old new
span_taken m place old new is f = placed node.Span place old new (λ _ _ o k. PushesSpan o k) (λ at n ns rs ts. read_span at n ns old new rs ts) m is f

pub one_taken : (m : RangeNode) (place : ℕ) (old new : Pending) → m ≡ node.One → PushesSingle old new → Taken m place old new
one_taken m place old new is f = placed node.One place old new (λ _ _ o k. PushesSingle o k) (λ at n ns rs ts. read_one at n ns old new rs ts) m is f

pub outside_taken : (m : RangeNode) (place : ℕ) (old new : Pending) → m ≡ node.Outside → PushesComplement old new → Taken m place old new
outside_taken m place old new is f = placed node.Outside place old new (λ _ _ o k. PushesComplement o k) (λ at n ns rs ts. read_outside at n ns old new rs ts) m is f

pub combined_taken : (m : RangeNode) (place : ℕ) (old new : Pending) → ((m ≡ node.Union) ⊎ (m ≡ node.Inter)) → PushesCombined old new → Taken m place old new
combined_taken m place old new is f = elim is [
  | inl e0 ↦ placed node.Union place old new (λ _ _ o k. PushesCombined o k)
      (λ at n ns rs ts. read_combined at n ns old new Union (λ r q. refl) (union_is INFINITY at n) rs ts) m e0 f
  | inr h0 ↦ placed node.Inter place old new (λ _ _ o k. PushesCombined o k)
      (λ at n ns rs ts. read_combined at n ns old new Inter (λ r q. refl) (inter_is INFINITY at n) rs ts) m h0 f
]

pub pointwise_taken : (m : RangeNode) (place : ℕ) (old new : Pending) → ((m ≡ node.Plus) ⊎ ((m ≡ node.Minus) ⊎ ((m ≡ node.Times) ⊎ (m ≡ node.Over))))
    → PushesPointwise m place old new → Taken m place old new
pointwise_taken m place old new is f = elim is [
  | inl e0 ↦ placed node.Plus place old new PushesPointwise
      (λ at n ns rs ts. read_pointwise at n ns old new node.Plus Plus (λ r c. refl) (plus_is INFINITY at n) rs ts) m e0 f
  | inr h0 ↦ elim h0 [
    | inl e1 ↦ placed node.Minus place old new PushesPointwise
        (λ at n ns rs ts. read_pointwise at n ns old new node.Minus Minus (λ r c. refl) (minus_is INFINITY at n) rs ts) m e1 f
    | inr h1 ↦ elim h1 [
      | inl e2 ↦ placed node.Times place old new PushesPointwise
          (λ at n ns rs ts. read_pointwise at n ns old new node.Times Times (λ r c. refl) (times_is INFINITY at n) rs ts) m e2 f
      | inr h2 ↦ placed node.Over place old new PushesPointwise
          (λ at n ns rs ts. read_pointwise at n ns old new node.Over Over (λ r c. refl) (over_is INFINITY at n) rs ts) m h2 f
    ]
  ]
]

pub ok_taken : {X Y : Type 0} (r : Result X Y) (m : RangeNode) (place : ℕ) (old new : Pending) (P : Type 0) → (P → Taken m place old new) → IfOk r (λ _. P) → IfOk r (λ _. Taken m place old new)
ok_taken r m place old new P f h = IfOk-weaker r (λ _. P) (λ _. Taken m place old new) (λ _ p. f p) h
