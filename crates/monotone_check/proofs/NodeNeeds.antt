-- What is asked stays told as nodes are read.
use Rattle.std.proofs.Common.{◌≡◌, ℕ, ℤ, suc, ◌+◌, ◌<◌, ◌≤◌, Bool, true, false, cond, ◌||◌, ◌&&◌, nat_lt, List, [], ◌∷◌, ◌++◌, length, Option, Some, None, refl}
use Rattle.std.proofs.Common.{sym, ◌∙◌, ap, subst, arith, ◌⊎◌, inl, inr}
use Rattle.std.proofs.lemmas.Bool.{true≢false, and_parts}
use Rattle.fd_language.specs.declared.range_node.Need.{Need}
use Rattle.fd_language.specs.declared.range_node.Need.TheVariants.{Whole, Natural, Divisor}
use Rattle.fd_language.specs.declared.range_node.RangeNode.{RangeNode}
use Rattle.fd_language.specs.declared.range_node.RangeNode.TheVariants as node
use Rattle.fd_language.specs.Range.{Range, Expr, Number, Infinity, Param, Min, Max, Val, Add, Sub, Mul, DivDown, DivUp}
use Rattle.fd_language.specs.Needs.{is_literal, quotient_asks, expr_asks, asks}
use Rattle.fd_language.specs.Check.{is_parameter}
use Rattle.fd_language.specs.PostfixRanges.{term_alone, term_of_terms, put, built, built_behind, spelled_range, IsSpelled}
use Rattle.std.proofs.Common.{get_or, drop}
use Rattle.std.proofs.lemmas.List.{at_drop_more, drop_all, append-nil, append_assoc}
use Rattle.std.proofs.lemmas.Option.{same_Some}
use Rattle.monotone_check.specs.declared.parameter_places.Asked.{Asked}
use Rattle.monotone_check.specs.declared.parameter_asks.OpenTerm.{OpenTerm}
use Rattle.monotone_check.specs.declared.parameter_asks.AskReader.{AskReader}
use Rattle.monotone_check.specs.PlaceNeeds.{joins, AsksOf, raise, raise_all, told, raised, asks_now, Opens, OpensParameter, Operates}
use Rattle.monotone_check.specs.OpenTerms.{IsAsking, FollowsAsking, TakesAsks, IsAskedSoFar}
use Rattle.monotone_check.proofs.NodeWalk.{builds_all}

length-told : (i : ℕ) (es : List Asked) → length (told i es) ≡ length es
length-told i [] = refl
length-told i (e ∷ es) = ap suc (length-told (suc i) es)

-- a natural term asks for at least natural everywhere
raise_two : (xs ys us vs : List (ℕ × Need)) → xs ≡ raise_all us → ys ≡ raise_all vs → xs ++ ys ≡ raise_all (us ++ vs)
raise_two xs ys us vs e f = ap (λ l. l ++ ys) e ∙ (ap (λ l. raise_all us ++ l) f ∙ joined us vs) where
  joined : (us vs : List (ℕ × Need)) → raise_all us ++ raise_all vs ≡ raise_all (us ++ vs)
  joined [] vs = refl
  joined (u ∷ us) vs = ap (λ l. (u.0, raise u.1) ∷ l) (joined us vs)

raise_again : (xs : List (ℕ × Need)) → raise_all (raise_all xs) ≡ raise_all xs
raise_again [] = refl
raise_again (x ∷ xs) = ap (λ n. (x.0, n) ∷ raise_all (raise_all xs)) (twice x.1) ∙ ap (λ l. (x.0, raise x.1) ∷ l) (raise_again xs) where
  twice : (n : Need) → raise (raise n) ≡ raise n
  twice Whole = refl
  twice Natural = refl
  twice Divisor = refl

either_raised : (c : Bool) (xs ys us : List (ℕ × Need)) → xs ≡ raise_all us → ys ≡ raise_all ys → cond c xs ys ≡ raise_all (cond c us ys)
either_raised true xs ys us e f = e
either_raised false xs ys us e f = f

stays_raised : (xs us : List (ℕ × Need)) → xs ≡ raise_all us → xs ≡ raise_all xs
stays_raised xs us e = e ∙ (sym (raise_again us) ∙ ap raise_all (sym e))

raised_quotient : (b : Expr) (plain left right us : List (ℕ × Need)) → plain ≡ raise_all us → left ++ right ≡ raise_all (left ++ right)
    → quotient_asks b plain left right ≡ raise_all (quotient_asks b us left right)
raised_quotient (Param x) plain left right us e f = raise_two plain ((x, Divisor) ∷ []) us ((x, Divisor) ∷ []) e refl
raised_quotient b plain left right us e f = either_raised (is_literal b) plain (left ++ right) us e f

natural_asks : (e : Expr) → expr_asks e true ≡ raise_all (expr_asks e false)
natural_asks (Add a b) = raise_two (expr_asks a true) (expr_asks b true) (expr_asks a false) (expr_asks b false) (natural_asks a) (natural_asks b)
natural_asks (Sub a b) = raise_two (expr_asks a true) (expr_asks b true) (expr_asks a false) (expr_asks b false) (natural_asks a) (natural_asks b)
natural_asks (Mul a b) =
    let both = raise_two (expr_asks a true) (expr_asks b true) (expr_asks a false) (expr_asks b false) (natural_asks a) (natural_asks b) in
    either_raised (is_literal a || is_literal b) (expr_asks a true ++ expr_asks b true) (expr_asks a true ++ expr_asks b true)
    (expr_asks a false ++ expr_asks b false) both (stays_raised (expr_asks a true ++ expr_asks b true) (expr_asks a false ++ expr_asks b false) both)
natural_asks (DivDown a b) =
    let both = raise_two (expr_asks a true) (expr_asks b true) (expr_asks a false) (expr_asks b false) (natural_asks a) (natural_asks b) in
    raised_quotient b (expr_asks a true) (expr_asks a true) (expr_asks b true) (expr_asks a false) (natural_asks a)
    (stays_raised (expr_asks a true ++ expr_asks b true) (expr_asks a false ++ expr_asks b false) both)
natural_asks (DivUp a b) =
    let both = raise_two (expr_asks a true) (expr_asks b true) (expr_asks a false) (expr_asks b false) (natural_asks a) (natural_asks b) in
    raised_quotient b (expr_asks a true) (expr_asks a true) (expr_asks b true) (expr_asks a false) (natural_asks a)
    (stays_raised (expr_asks a true ++ expr_asks b true) (expr_asks a false ++ expr_asks b false) both)
natural_asks e = refl

literal_asks : (e : Expr) → is_literal e ≡ true → expr_asks e false ≡ []
literal_asks (Number z) h = refl
literal_asks Infinity h = refl
literal_asks (Add a b) h = ap (λ l. l ++ expr_asks b false) (literal_asks a ((and_parts (is_literal a) (is_literal b) h).0)) ∙ literal_asks b ((and_parts (is_literal a) (is_literal b) h).1)
literal_asks (Sub a b) h = ap (λ l. l ++ expr_asks b false) (literal_asks a ((and_parts (is_literal a) (is_literal b) h).0)) ∙ literal_asks b ((and_parts (is_literal a) (is_literal b) h).1)
literal_asks (Mul a b) h =
    let l = (and_parts (is_literal a) (is_literal b) h).0 in
    ap (λ c. cond (c || is_literal b) (expr_asks a false ++ expr_asks b false) (expr_asks a true ++ expr_asks b true)) l
    ∙ (ap (λ k. k ++ expr_asks b false) (literal_asks a l) ∙ literal_asks b ((and_parts (is_literal a) (is_literal b) h).1))
literal_asks e h = absurd (true≢false (sym h))

-- what is raised from a number on
raised_front : (i f : ℕ) (xs ys : List (ℕ × Need)) → i + length xs ≡ f → raised f i (xs ++ ys) ≡ xs ++ raise_all ys
raised_front i f [] ys h = behind i f ys (from i f h) where
  from : (i f : ℕ) → i + 0 ≡ f → f ≤ i
  from i f h = omega arith

  not_below : (i f : ℕ) → f ≤ i → nat_lt i f ≡ false
  not_below i f h = grind arith

  further : (i f : ℕ) → f ≤ i → f ≤ suc i
  further i f h = omega arith

  behind : (i f : ℕ) (ys : List (ℕ × Need)) → f ≤ i → raised f i ys ≡ raise_all ys
  behind i f [] h = refl
  behind i f (y ∷ ys) h = ap (λ b. (y.0, cond b y.1 (raise y.1)) ∷ raised f (suc i) ys) (not_below i f h) ∙ ap (λ l. (y.0, raise y.1) ∷ l) (behind (suc i) f ys (further i f h))
raised_front i f (x ∷ xs) ys h = ap (λ b. (x.0, cond b x.1 (raise x.1)) ∷ raised f (suc i) (xs ++ ys)) (below i (length xs) f h)
    ∙ ap (λ l. x ∷ l) (raised_front (suc i) f xs ys (next i (length xs) f h)) where
      below : (i n f : ℕ) → i + suc n ≡ f → nat_lt i f ≡ true
      below i n f h = grind arith

      next : (i n f : ℕ) → i + suc n ≡ f → suc i + n ≡ f
      next i n f h = omega arith

raised_both : (mid : List (ℕ × Need)) (f : ℕ) (a b : Expr) (now : List (ℕ × Need)) → f ≡ length mid → now ≡ mid ++ (expr_asks a false ++ expr_asks b false)
    → raised f 0 now ≡ mid ++ (expr_asks a true ++ expr_asks b true)
raised_both mid f a b now h e =
    ap (λ l. raised f 0 l) e ∙ (raised_front 0 f mid (expr_asks a false ++ expr_asks b false) (from (length mid) f h)
    ∙ ap (λ l. mid ++ l) (sym (raise_two (expr_asks a true) (expr_asks b true) (expr_asks a false) (expr_asks b false) (natural_asks a) (natural_asks b))))
  where
    from : (n f : ℕ) → f ≡ n → 0 + n ≡ f
    from n f h = omega arith

product_now : (c : Bool) (mid now new : List (ℕ × Need)) (f : ℕ) (a b : Expr) → f ≡ length mid → now ≡ mid ++ (expr_asks a false ++ expr_asks b false) → new ≡ cond c now (raised f 0 now) →
    new ≡ mid ++ cond c (expr_asks a false ++ expr_asks b false) (expr_asks a true ++ expr_asks b true)
product_now true mid now new f a b h e g = g ∙ e
product_now false mid now new f a b h e g = g ∙ raised_both mid f a b now h e

plain_now : (c : Bool) (mid now new : List (ℕ × Need)) (f : ℕ) (a b : Expr) → f ≡ length mid → now ≡ mid ++ (expr_asks a false ++ expr_asks b false)
    → (c ≡ true → expr_asks b false ≡ []) → new ≡ cond c now (raised f 0 now) →
    new ≡ mid ++ cond c (expr_asks a false) (expr_asks a true ++ expr_asks b true)
plain_now true mid now new f a b h e k g = g ∙ (e ∙ ap (λ l. mid ++ l) (ap (λ l. expr_asks a false ++ l) (k refl) ∙ append-nil (expr_asks a false)))
plain_now false mid now new f a b h e k g = g ∙ raised_both mid f a b now h e

quotient_now : (b : Expr) (lit par : Bool) (mid now new : List (ℕ × Need)) (f : ℕ) (a : Expr) → f ≡ length mid
    → now ≡ mid ++ (expr_asks a false ++ expr_asks b false) → lit ≡ is_literal b → par ≡ is_parameter b →
    (par ≡ true → (front : List (ℕ × Need)) (x : ℕ) (n : Need) → now ≡ front ++ (x, n) ∷ [] → new ≡ front ++ (x, Divisor) ∷ []) → (par ≡ false → new ≡ cond lit now (raised f 0 now)) →
    new ≡ mid ++ quotient_asks b (expr_asks a false) (expr_asks a true) (expr_asks b true)
quotient_now (Param x) lit par mid now new f a h e l q g k = g q (mid ++ expr_asks a false) x Whole
    (e ∙ sym (append_assoc mid (expr_asks a false) ((x, Whole) ∷ []))) ∙ append_assoc mid (expr_asks a false) ((x, Divisor) ∷ [])
quotient_now (Add c d) lit par mid now new f a h e l q g k = plain_now (is_literal (Add c d)) mid now new f a (Add c d) h e (literal_asks (Add c d)) (k q ∙ ap (λ c. cond c now (raised f 0 now)) l)
quotient_now (Sub c d) lit par mid now new f a h e l q g k = plain_now (is_literal (Sub c d)) mid now new f a (Sub c d) h e (literal_asks (Sub c d)) (k q ∙ ap (λ c. cond c now (raised f 0 now)) l)
quotient_now (Mul c d) lit par mid now new f a h e l q g k = plain_now (is_literal (Mul c d)) mid now new f a (Mul c d) h e (literal_asks (Mul c d)) (k q ∙ ap (λ c. cond c now (raised f 0 now)) l)
quotient_now (DivDown c d) lit par mid now new f a h e l q g k = plain_now (is_literal (DivDown c d)) mid now new f a (DivDown c d) h e
    (literal_asks (DivDown c d)) (k q ∙ ap (λ c. cond c now (raised f 0 now)) l)
quotient_now (DivUp c d) lit par mid now new f a h e l q g k = plain_now (is_literal (DivUp c d)) mid now new f a (DivUp c d) h e (literal_asks (DivUp c d))
    (k q ∙ ap (λ c. cond c now (raised f 0 now)) l)
quotient_now b lit par mid now new f a h e l q g k = plain_now (is_literal b) mid now new f a b h e (literal_asks b) (k q ∙ ap (λ c. cond c now (raised f 0 now)) l)

follows : (ns : List RangeNode) (rs : List Range) (ts : List Expr) (o : Option Range) (q : AskReader) → o ≡ built ns rs ts → IsAsking rs ts q → FollowsAsking ns o q
follows ns rs ts None q e i = tt
follows ns rs ts (Some r) q e i = (rs, ts, e, i)

both_same : (s t a b : Bool) → s ≡ a → t ≡ b → (true && (s && t)) ≡ (a && b)
both_same s t a b e f = cc

either_same : (s t a b : Bool) (xs ys : List (ℕ × Need)) → s ≡ a → t ≡ b → cond (s || t) xs ys ≡ cond (a || b) xs ys
either_same s t a b xs ys e f = cc

module _ (ns : List RangeNode) (old new : AskReader) where
  opened : (rs : List Range) (ts : List Expr) (e : Expr) (literal : Bool) → expr_asks e false ≡ [] → literal ≡ is_literal e → false ≡ is_parameter e
      → IsAsking rs ts old → Opens literal old new → IsAsking rs (e ∷ ts) new
  opened rs ts e literal none l q i (s, terms, lit, par, from, now) = (
    old.terms.items,
    s,
    asks_now old,
    terms,
    now ∙ (sym (append-nil (asks_now old)) ∙ ap (λ k. asks_now old ++ k) (sym none)),
    from ∙ sym (length-told 0 old.asking.places.items),
    lit ∙ l,
    par ∙ q,
    i,
  )

  ask_leaf : (e : Expr) (literal : Bool) → expr_asks e false ≡ [] → literal ≡ is_literal e → false ≡ is_parameter e → (rs : List Range) (ts : List Expr) → IsAsking rs ts old → Opens literal old new
      → FollowsAsking ns (built_behind ns (put (term_alone e) rs ts)) new
  ask_leaf e literal none l q rs ts i f = follows ns rs (e ∷ ts) (built ns rs (e ∷ ts)) new refl (opened rs ts e literal none l q i f)

  ask_param : (x : ℕ) (rs : List Range) (ts : List Expr) → IsAsking rs ts old → OpensParameter x old new → FollowsAsking ns (built (node.Param x ∷ ns) rs ts) new
  ask_param x rs ts i (s, terms, lit, par, from, now) = follows ns rs (Param x ∷ ts) (built ns rs (Param x ∷ ts)) new refl
      (old.terms.items, s, asks_now old, terms, now, from ∙ sym (length-told 0 old.asking.places.items), lit, par, i)

  -- An operator of two terms: what it asks comes from what its operands ask, and it is a literal where its node joins literals.
  ask_operator : (m : RangeNode) (make : Expr → Expr → Expr)
      → ((a b : Expr) (s t : OpenTerm) (mid now later : List (ℕ × Need)) → s.from ≡ length mid → now ≡ mid ++ (expr_asks a false ++ expr_asks b false)
      → s.literal ≡ is_literal a → t.literal ≡ is_literal b → t.parameter ≡ is_parameter b
      → AsksOf m s t now later → later ≡ mid ++ expr_asks (make a b) false)
      → ((a b : Expr) (k l : Bool) → k ≡ is_literal a → l ≡ is_literal b → (joins m && (k && l)) ≡ is_literal (make a b)) → ((a b : Expr) → false ≡ is_parameter (make a b))
      → (rs : List Range) (ts : List Expr) → IsAsking rs ts old → Operates m old new → FollowsAsking ns (built_behind ns (put (term_of_terms make) rs ts)) new
  ask_operator m make asked literal other rs [] i f = tt
  ask_operator m make asked literal other rs (b ∷ []) i f = tt
  ask_operator m make asked literal other rs (b ∷ a ∷ ts) i f =
      let (front, t, mid, terms, now, tf, tl, tp, more) = i in
      let (front2, s, mid2, terms2, now2, sf, sl, sp, rest) = more in
      let made = f front2 s t (terms ∙ ap (λ l. l ++ t ∷ []) terms2) in
      let whole : asks_now old ≡ mid2 ++ (expr_asks a false ++ expr_asks b false) = now ∙ (ap (λ l. l ++ expr_asks b false) now2 ∙ append_assoc mid2 (expr_asks a false) (expr_asks b false)) in
      follows ns rs (make a b ∷ ts) (built ns rs (make a b ∷ ts)) new refl
      (front2, made.0, mid2, made.1, asked a b s t mid2 (asks_now old) (asks_now new) sf whole sl tl tp made.5, made.4 ∙ sf, made.2 ∙ literal a b s.literal t.literal sl tl, made.3 ∙ other a b, rest)

  ask_add : (rs : List Range) (ts : List Expr) → IsAsking rs ts old → Operates node.Add old new → FollowsAsking ns (built (node.Add ∷ ns) rs ts) new
  ask_add rs ts i f = ask_operator node.Add Add (λ a b s t mid now later h e k l q g. g ∙ e) (λ a b k l e g. both_same k l (is_literal a) (is_literal b) e g) (λ a b. refl) rs ts i f

  ask_sub : (rs : List Range) (ts : List Expr) → IsAsking rs ts old → Operates node.Sub old new → FollowsAsking ns (built (node.Sub ∷ ns) rs ts) new
  ask_sub rs ts i f = ask_operator node.Sub Sub (λ a b s t mid now later h e k l q g. g ∙ e) (λ a b k l e g. both_same k l (is_literal a) (is_literal b) e g) (λ a b. refl) rs ts i f

  ask_mul : (rs : List Range) (ts : List Expr) → IsAsking rs ts old → Operates node.Mul old new → FollowsAsking ns (built (node.Mul ∷ ns) rs ts) new
  ask_mul rs ts i f = ask_operator node.Mul Mul
      (λ a b s t mid now later h e k l q g. product_now (is_literal a || is_literal b) mid now later s.from a b h e
      (g ∙ either_same s.literal t.literal (is_literal a) (is_literal b) now (raised s.from 0 now) k l))
      (λ a b k l e g. both_same k l (is_literal a) (is_literal b) e g) (λ a b. refl) rs ts i f

  ask_div_down : (rs : List Range) (ts : List Expr) → IsAsking rs ts old → Operates node.DivDown old new → FollowsAsking ns (built (node.DivDown ∷ ns) rs ts) new
  ask_div_down rs ts i f = ask_operator node.DivDown DivDown
      (λ a b s t mid now later h e k l q g. quotient_now b t.literal t.parameter mid now later s.from a h e l q g.0 g.1) (λ a b k l e g. refl)
      (λ a b. refl) rs ts i f

  ask_div_up : (rs : List Range) (ts : List Expr) → IsAsking rs ts old → Operates node.DivUp old new → FollowsAsking ns (built (node.DivUp ∷ ns) rs ts) new
  ask_div_up rs ts i f = ask_operator node.DivUp DivUp
      (λ a b s t mid now later h e k l q g. quotient_now b t.literal t.parameter mid now later s.from a h e l q g.0 g.1) (λ a b k l e g. refl)
      (λ a b. refl) rs ts i f

via : (m k : RangeNode) (old new : AskReader) → k ≡ m → TakesAsks m old new → TakesAsks k old new
via m k old new e f = subst (λ j. TakesAsks j old new) (sym e) f

pub open_true_takes : (m : RangeNode) (old new : AskReader) → (((z : ℤ) × (m ≡ node.Int z)) ⊎ (m ≡ node.Infinity)) → Opens true old new → TakesAsks m old new
open_true_takes m old new is f = elim is [
  | inl e0 ↦ via (node.Int e0.0) m old new e0.1
      (λ ns rs ts i. ask_leaf ns old new (Number e0.0) true refl refl refl rs ts i f)
  | inr h0 ↦ via node.Infinity m old new h0 (λ ns rs ts i. ask_leaf ns old new Infinity true refl refl refl rs ts i f)
]

pub open_false_takes : (m : RangeNode) (old new : AskReader) → (((y : ℕ) × (m ≡ node.Min y)) ⊎ (((y : ℕ) × (m ≡ node.Max y)) ⊎ ((y : ℕ) × (m ≡ node.Val y))))
    → Opens false old new → TakesAsks m old new
open_false_takes m old new is f = elim is [
  | inl e0 ↦ via (node.Min e0.0) m old new e0.1
      (λ ns rs ts i. ask_leaf ns old new (Min e0.0) false refl refl refl rs ts i f)
  | inr h0 ↦ elim h0 [
    | inl e1 ↦ via (node.Max e1.0) m old new e1.1 (λ ns rs ts i. ask_leaf ns old new (Max e1.0) false refl refl refl rs ts i f)
    | inr h1 ↦ via (node.Val h1.0) m old new h1.1 (λ ns rs ts i. ask_leaf ns old new (Val h1.0) false refl refl refl rs ts i f)
  ]
]

pub operate_takes : (m : RangeNode) (old new : AskReader) → ((m ≡ node.Add) ⊎ ((m ≡ node.Sub) ⊎ ((m ≡ node.Mul) ⊎ ((m ≡ node.DivDown) ⊎ (m ≡ node.DivUp))))) → Operates m old new → TakesAsks m old new
operate_takes m old new is f = elim is [
  | inl e0 ↦ via node.Add m old new e0 (λ ns rs ts i. ask_add ns old new rs ts i (subst (λ j. Operates j old new) e0 f))
  | inr h0 ↦ elim h0 [
    | inl e1 ↦ via node.Sub m old new e1 (λ ns rs ts i. ask_sub ns old new rs ts i (subst (λ j. Operates j old new) e1 f))
    | inr h1 ↦ elim h1 [
      | inl e2 ↦ via node.Mul m old new e2 (λ ns rs ts i. ask_mul ns old new rs ts i (subst (λ j. Operates j old new) e2 f))
      | inr h2 ↦ elim h2 [
        | inl e3 ↦ via node.DivDown m old new e3 (λ ns rs ts i. ask_div_down ns old new rs ts i (subst (λ j. Operates j old new) e3 f))
        | inr h3 ↦ via node.DivUp m old new h3 (λ ns rs ts i. ask_div_up ns old new rs ts i (subst (λ j. Operates j old new) h3 f))
      ]
    ]
  ]
]

pub param_takes : (m : RangeNode) (x : ℕ) (old new : AskReader) → m ≡ node.Param x → OpensParameter x old new → TakesAsks m old new
param_takes m x old new e f = via (node.Param x) m old new e (λ ns rs ts i. ask_param ns old new x rs ts i f)

pub asks_start : (nodes : List RangeNode) (q : AskReader) → IsSpelled nodes → q.terms.items ≡ [] → q.asking.places.items ≡ [] → IsAskedSoFar 0 nodes q
asks_start nodes q s t p = ([], [], builds_all nodes s, (t, ap (λ l. told 0 l) p))

from_follows : (ns : List RangeNode) (r : Range) (o : Option Range) (q : AskReader) → Some r ≡ o → FollowsAsking ns o q
    → (rs : List Range) × (ts : List Expr) × (Some r ≡ built ns rs ts) × IsAsking rs ts q
from_follows ns r o q e f = subst (λ p. FollowsAsking ns p q) (sym e) f

pub asks_step : (i : ℕ) (nodes : List RangeNode) (d : RangeNode) (old new : AskReader) → i < length nodes → IsAskedSoFar i nodes old
    → TakesAsks (get_or nodes i d) old new → IsAskedSoFar (i + 1) nodes new
asks_step i nodes d old new l (rs, ts, e, p) f =
    let g : Some (spelled_range nodes) ≡ built (get_or nodes i d ∷ drop (i + 1) nodes) rs ts = e ∙ at_drop_more (λ ns. built ns rs ts) nodes i d l in
    from_follows (drop (i + 1) nodes) (spelled_range nodes) _ new g (f (drop (i + 1) nodes) rs ts p)

alone : (r : Range) (rs : List Range) (ts : List Expr) (q : AskReader) → Some r ≡ built [] rs ts → IsAsking rs ts q → asks_now q ≡ asks r
alone r [] [] q e i = absurd cc
alone r [] (t ∷ ts) q e i = absurd cc
alone r (p ∷ []) (t ∷ ts) q e i = absurd cc
alone r (p ∷ x ∷ rs) [] q e i = absurd cc
alone r (p ∷ x ∷ rs) (t ∷ ts) q e i = absurd cc
alone r (p ∷ []) [] q e i = i.1 ∙ ap asks (sym (same_Some r p e))

pub asks_end : (i : ℕ) (nodes : List RangeNode) (q : AskReader) → length nodes ≤ i → IsAskedSoFar i nodes q → asks_now q ≡ asks (spelled_range nodes)
asks_end i nodes q l (rs, ts, e, h) = alone (spelled_range nodes) rs ts q (e ∙ ap (λ ns. built ns rs ts) (drop_all i nodes l)) h
