-- The members of a list as the store has them for a search, one by one.
use Rattle.std.proofs.Common.{◌≡◌, ◌⊎◌, ℕ, zero, suc, ◌+◌, ◌<◌, ◌≤◌, Bool, true, false, ◌||◌, ◌==◌, cond, eq-eqb, eqb-true, ℤ, List, [], ◌∷◌, ◌++◌, length, map}
use Rattle.std.proofs.Common.{get_or, take, Some, None, inl, inr, refl, ap, sym, ◌∙◌, subst, arith, append-nil}
use Rattle.std.proofs.lemmas.Bool.{or_left, true≢false}
use Rattle.std.proofs.lemmas.List.{map-append}
use Rattle.std.proofs.lemmas.List.Elements.{All-push}
use Rattle.fd_language.specs.Family.{has}
use Rattle.fd_language.proofs.Lemmas.{has_either, in_right}
use Rattle.fd_model.specs.Labelling.{open_ones}
use Rattle.fd_model.specs.Members as seen
use Rattle.heap_cells.specs.Cells.{Cells}
use Rattle.heap_cells.specs.Terms.{Naming}
use Rattle.branch_lemmas.specs.Frames.{link_in}
use Rattle.sought_leaves.specs.LeafSearch.{owned}
use Rattle.bound_search.specs.Members.{IsOwn, member_of}
use Rattle.label_search.specs.declared.Member.{Member}
use Rattle.label_search.specs.declared.Member.TheVariants as member
use Rattle.branch_goals.specs.Searches.{firsts, own_by, IsOpenCell, AreNamed}
use Rattle.bound_search.proofs.Lemmas.{open_both}

-- ---- the variables of the store of some of the heap

pub own_front : (ps qs : List (ℕ × ℕ)) (c : ℕ) → has (firsts ps) c ≡ true → own_by (ps ++ qs) c ≡ own_by ps c
own_front [] qs c h = absurd (true≢false (sym h))
own_front (p ∷ ps) qs c h = by_test (p.0 == c) h (λ k. own_front ps qs c k) where
  by_test : (b : Bool) → (b || has (firsts ps) c) ≡ true → (has (firsts ps) c ≡ true → own_by (ps ++ qs) c ≡ own_by ps c) → cond b p.1 (own_by (ps ++ qs) c) ≡ cond b p.1 (own_by ps c)
  by_test true k rest = refl
  by_test false k rest = rest k

pub own_last : (ps : List (ℕ × ℕ)) (c k : ℕ) → has (firsts ps) c ≡ false → own_by (ps ++ (c, k) ∷ []) c ≡ k
own_last [] c k h = ap (λ b. cond b k 0) (eq-eqb c c refl)
own_last (p ∷ ps) c k h = by_test (p.0 == c) h (λ e. own_last ps c k e) where
  by_test : (b : Bool) → (b || has (firsts ps) c) ≡ false → (has (firsts ps) c ≡ false → own_by (ps ++ (c, k) ∷ []) c ≡ k) → cond b p.1 (own_by (ps ++ (c, k) ∷ []) c) ≡ k
  by_test true e rest = absurd (true≢false e)
  by_test false e rest = rest e

-- the first i of them don't have the variable, and the next one isn't it or is
pub looked_more : (ps : List (ℕ × ℕ)) (i : ℕ) (d : ℕ × ℕ) (v : ℕ) → i < length ps → ((get_or ps i d).0 ≡ v → ⊥) → has (firsts (take i ps)) v ≡ false → has (firsts (take (i + 1) ps)) v ≡ false
looked_more [] i d v l n h = absurd (omega (arith, l))
looked_more (q ∷ ps) zero d v l n h = by_test (q.0 == v) refl where
  by_test : (b : Bool) → (q.0 == v) ≡ b → (b || false) ≡ false
  by_test true f = absurd (n (eqb-true q.0 v f))
  by_test false f = refl
looked_more (q ∷ ps) (suc i) d v l n h =
    subst (λ k. has (firsts (take k (q ∷ ps))) v ≡ false) (let f : suc (i + 1) ≡ suc i + 1 = omega arith in f)
    (by_test (q.0 == v) h (λ k. looked_more ps i d v (omega (arith, l)) n k)) where
      by_test : (b : Bool) → (b || has (firsts (take i ps)) v) ≡ false → (has (firsts (take i ps)) v ≡ false → has (firsts (take (i + 1) ps)) v ≡ false)
          → (b || has (firsts (take (i + 1) ps)) v) ≡ false
      by_test true k rest = absurd (true≢false k)
      by_test false k rest = rest k

pub looked_here : (ps : List (ℕ × ℕ)) (i : ℕ) (d : ℕ × ℕ) (v : ℕ) → i < length ps → (get_or ps i d).0 ≡ v → has (firsts (take i ps)) v ≡ false
    → (has (firsts ps) v ≡ true) × ((get_or ps i d).1 ≡ own_by ps v)
looked_here [] i d v l f h = absurd (omega (arith, l))
looked_here (q ∷ ps) zero d v l f h =
    let t : (q.0 == v) ≡ true = eq-eqb q.0 v f in (
      or_left (q.0 == v) (has (firsts ps) v) t,
      sym (ap (λ b. cond b q.1 (own_by ps v)) t),
    )
looked_here (q ∷ ps) (suc i) d v l f h = by_test (q.0 == v) h (λ k. looked_here ps i d v (omega (arith, l)) f k) where
  by_test : (b : Bool) → (b || has (firsts (take i ps)) v) ≡ false
      → (has (firsts (take i ps)) v ≡ false → (has (firsts ps) v ≡ true) × ((get_or ps i d).1 ≡ own_by ps v))
      → ((b || has (firsts ps) v) ≡ true) × ((get_or ps i d).1 ≡ cond b q.1 (own_by ps v))
  by_test true k rest = absurd (true≢false k)
  by_test false k rest = rest k

pub firsts_more : (ps : List (ℕ × ℕ)) (c k : ℕ) → firsts (ps ++ (c, k) ∷ []) ≡ firsts ps ++ c ∷ []
firsts_more ps c k = map-append (λ (p : ℕ × ℕ). p.0) ps ((c, k) ∷ [])

-- what is among those with one more is among those, or it is the last
last_or : (xs : List ℕ) (c d : ℕ) → has (xs ++ c ∷ []) d ≡ true → (has xs d ≡ true) ⊎ (c ≡ d)
last_or xs c d h = elim (has_either xs (c ∷ []) d h) [
  | inl a ↦ inl a
  | inr b ↦ inr (only (c == d) refl b)
] where
  only : (b : Bool) → (c == d) ≡ b → (b || false) ≡ true → c ≡ d
  only true e f = eqb-true c d e
  only false e f = absurd (true≢false (sym f))

-- other variables of the store on open members that have the same
owned_same : (f g : ℕ → ℕ) (ms : List seen.Member) → ((c : ℕ) → has (open_ones ms) c ≡ true → f c ≡ g c) → map (owned f) ms ≡ map (owned g) ms
owned_same f g [] h = refl
owned_same f g (seen.Known z ∷ ms) h = ap (λ l. seen.Known z ∷ l) (owned_same f g ms h)
owned_same f g (seen.Open x ∷ ms) h =
    ap (λ k. seen.Open k ∷ map (owned f) ms) (h x (or_left (x == x) (has (open_ones ms) x) (eq-eqb x x refl)))
    ∙ ap (λ l. seen.Open (g x) ∷ l) (owned_same f g ms (λ c e. h c (in_right (x ∷ []) (open_ones ms) c e)))

-- the variables of the store of members
pub owned_open : (own : ℕ → ℕ) (ms : List seen.Member) → open_ones (map (owned own) ms) ≡ map own (open_ones ms)
owned_open own [] = refl
owned_open own (seen.Open x ∷ ms) = ap (λ l. own x ∷ l) (owned_open own ms)
owned_open own (seen.Known z ∷ ms) = owned_open own ms

own_wider : (n m : ℕ) → n ≤ m → (x : Member) → IsOwn n x → IsOwn m x
own_wider n m l (member.Fixed z) o = tt
own_wider n m l (member.Var k) o = omega (arith, l, o)
own_wider n m l member.Free o = absurd o

module _ (name : Naming) (h : Cells) (n : ℕ) where
  -- no member yet
  pub named_none : AreNamed name h n [] [] [] n
  named_none = record {
    open_are = refl;
    members = refl;
    more = omega arith;
    own = λ i d l. absurd (omega (arith, l));
    linked = λ c k e i. absurd (true≢false (sym e));
    new = λ c e i. absurd (true≢false (sym e));
    apart = λ c d e f i j g. absurd (true≢false (sym e));
    cells = λ c e. absurd (true≢false (sym e));
  }

  module _ (ms : List seen.Member) (list : List Member) (ps : List (ℕ × ℕ)) (next : ℕ) (a : AreNamed name h n ms list ps next) where
    -- an integer
    pub named_known : (z : ℤ) → AreNamed name h n (ms ++ seen.Known z ∷ []) (list ++ member.Fixed z ∷ []) ps next
    named_known z =
        let same : open_ones (ms ++ seen.Known z ∷ []) ≡ open_ones ms = open_both ms (seen.Known z ∷ []) ∙ append-nil (open_ones ms) in
        let back : (c : ℕ) → has (open_ones (ms ++ seen.Known z ∷ [])) c ≡ true → has (open_ones ms) c ≡ true = (λ c e. subst (λ xs. has xs c ≡ true) same e) in
        record {
          open_are = a.open_are ∙ sym same;
          members = map-append member_of list (member.Fixed z ∷ []) ∙ ap (λ l. l ++ seen.Known z ∷ []) a.members ∙ sym (map-append (owned (own_by ps)) ms (seen.Known z ∷ []));
          more = a.more;
          own = All-push (IsOwn next) list (member.Fixed z) a.own tt;
          linked = λ c k e i. a.linked c k (back c e) i;
          new = λ c e i. a.new c (back c e) i;
          apart = λ c d e f i j g. a.apart c d (back c e) (back d f) i j g;
          cells = λ c e. a.cells c (back c e);
        }

    -- An open member in the variable c of the heap, which has the variable k of the store.
    module _ (c k next' : ℕ) (up : next ≤ next') (low : k < next') (cell_open : IsOpenCell name h c)
        (is : (has (firsts ps) c ≡ true) × (own_by ps c ≡ k) ⊎ (has (firsts ps) c ≡ false))
        (by_link : (j : ℕ) → link_in h c ≡ Some j → k ≡ j)
        (is_new : link_in h c ≡ None → (n ≤ k) × ((has (firsts ps) c ≡ false) → next ≤ k)) where
      ps' : List (ℕ × ℕ)
      ps' = ps ++ (c, k) ∷ []

      grown : open_ones (ms ++ seen.Open c ∷ []) ≡ open_ones ms ++ c ∷ []
      grown = open_both ms (seen.Open c ∷ [])

      still : (d : ℕ) → has (open_ones ms) d ≡ true → own_by (ps ++ (c, k) ∷ []) d ≡ own_by ps d
      still d e = own_front ps ((c, k) ∷ []) d (subst (λ xs. has xs d ≡ true) (sym a.open_are) e)

      here : own_by (ps ++ (c, k) ∷ []) c ≡ k
      here = elim is [
        | inl b ↦ own_front ps ((c, k) ∷ []) c b.0 ∙ b.1
        | inr f ↦ own_last ps c k f
      ]

      -- which of the members a variable is
      among : (d : ℕ) → has (open_ones (ms ++ seen.Open c ∷ [])) d ≡ true → (has (open_ones ms) d ≡ true) ⊎ (c ≡ d)
      among d e = last_or (open_ones ms) c d (subst (λ xs. has xs d ≡ true) grown e)

      link_now : (d j : ℕ) → has (open_ones (ms ++ seen.Open c ∷ [])) d ≡ true → link_in h d ≡ Some j → own_by (ps ++ (c, k) ∷ []) d ≡ j
      link_now d j e i = elim (among d e) [
        | inl b ↦ still d b ∙ a.linked d j b i
        | inr g ↦ ap (own_by (ps ++ (c, k) ∷ [])) (sym g) ∙ here ∙ by_link j (ap (link_in h) g ∙ i)
      ]

      new_now : (d : ℕ) → has (open_ones (ms ++ seen.Open c ∷ [])) d ≡ true → link_in h d ≡ None → (n ≤ own_by (ps ++ (c, k) ∷ []) d) × (own_by (ps ++ (c, k) ∷ []) d < next')
      new_now d e i = elim (among d e) [
        | inl b ↦ let w = a.new d b i in let s = still d b in (omega (arith, w.0, s), omega (arith, w.1, s, up))
        | inr g ↦
            let s : own_by (ps ++ (c, k) ∷ []) d ≡ k = ap (own_by (ps ++ (c, k) ∷ [])) (sym g) ∙ here in
            let w = (is_new (ap (link_in h) g ∙ i)).0 in
            (omega (arith, w, s), omega (arith, low, s))
      ]

      -- a new one is no other's
      alone : (d : ℕ) → has (open_ones ms) d ≡ true → link_in h d ≡ None → link_in h c ≡ None → own_by ps d ≡ k → d ≡ c
      alone d b i j g = elim is [
        | inl s ↦ a.apart d c b (subst (λ xs. has xs c ≡ true) a.open_are s.0) i j (g ∙ sym s.1)
        | inr f ↦ let w = a.new d b i in let l = (is_new j).1 f in absurd (omega (arith, w.1, l, g))
      ]

      apart_now : (d e : ℕ) → has (open_ones (ms ++ seen.Open c ∷ [])) d ≡ true → has (open_ones (ms ++ seen.Open c ∷ [])) e ≡ true → link_in h d ≡ None → link_in h e ≡ None
          → own_by (ps ++ (c, k) ∷ []) d ≡ own_by (ps ++ (c, k) ∷ []) e → d ≡ e
      apart_now d e p q i j g = elim (among d p) [
        | inl b ↦ elim (among e q) [
          | inl f ↦ a.apart d e b f i j (sym (still d b) ∙ g ∙ still e f)
          | inr f ↦ alone d b i (ap (link_in h) f ∙ j) (sym (still d b) ∙ g ∙ ap (own_by (ps ++ (c, k) ∷ [])) (sym f) ∙ here) ∙ f
        ]
        | inr b ↦ elim (among e q) [
          | inl f ↦ sym b ∙ sym (alone e f j (ap (link_in h) b ∙ i) (sym (still e f) ∙ sym g ∙ ap (own_by (ps ++ (c, k) ∷ [])) (sym b) ∙ here))
          | inr f ↦ sym b ∙ f
        ]
      ]

      pub named_open : AreNamed name h n (ms ++ seen.Open c ∷ []) (list ++ member.Var k ∷ []) (ps ++ (c, k) ∷ []) next'
      named_open = record {
        open_are = firsts_more ps c k ∙ ap (λ xs. xs ++ c ∷ []) a.open_are ∙ sym grown;
        members = map-append member_of list (member.Var k ∷ [])
            ∙ ap (λ l. l ++ seen.Open k ∷ []) (a.members ∙ owned_same (own_by ps) (own_by (ps ++ (c, k) ∷ [])) ms (λ d e. sym (still d e)))
            ∙ ap (λ j. map (owned (own_by (ps ++ (c, k) ∷ []))) ms ++ seen.Open j ∷ []) (sym here)
            ∙ sym (map-append (owned (own_by (ps ++ (c, k) ∷ []))) ms (seen.Open c ∷ []));
        more = (let m = a.more in omega (arith, m, up));
        own = All-push (IsOwn next') list (member.Var k) (λ i d l. own_wider next next' up _ (a.own i d l)) low;
        linked = link_now;
        new = new_now;
        apart = apart_now;
        cells = λ d e. elim (among d e) [ inl b ↦ a.cells d b | inr g ↦ subst (IsOpenCell name h) g cell_open ];
      }
