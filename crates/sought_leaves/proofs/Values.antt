-- Models of posted ranges in which a variable has one value, and models of consistent ranges and branches.
use Rattle.std.proofs.Common.{◌≡◌, ℕ, suc, ◌++◌, ◌≤◌, ◌==◌, true, false, cond, pos, List, [], ◌∷◌, refl, ap, sym, ◌∙◌, subst, inl, inr, arith, eq-eqb, ne_eqb}
use Rattle.std.proofs.lemmas.Bool.{cases_eq, or_left, true≢false}
use Rattle.fd_language.specs.Family.{Family, has, universe, IsInside, IsRising, IsSubset}
use Rattle.fd_language.specs.Monotonicity.{IsMonotone}
use Rattle.fd_language.specs.Range.{Indexical, set_of}
use Rattle.fd_language.specs.Term.{Var}
use Rattle.fd_language.specs.Unifier.{Equation}
use Rattle.fd_language.proofs.Lemmas.{has_high, identity, in_universe, rising_same, universe_rising}
use Rattle.fd_model.specs.Bounds.{bound}
use Rattle.fd_model.specs.ClosedFamilies.{AllPosted, constrained, IsClosed}
use Rattle.fd_model.specs.Models.{IsModel}
use Rattle.fd_model.specs.PostedLeaves.{AreLeft, exactly, with_value}
use Rattle.fd_model.specs.BranchViews.{IsConsistent}
use Rattle.fd_model.proofs.Lemmas.{AllMonotone, closed_either, closed_without, greatest_for, has_view, left_once, left_some, named_right, only_member}
use Rattle.fd_model.proofs.Lemmas.{posted_both, posted_right, whole}
use Rattle.branch_meaning.specs.Store.{Value}
use Rattle.branch_meaning.proofs.Lemmas.{as_equations, as_posts, extended, front, holds_agree, set_term, set_term_int}
use Rattle.branch_lemmas.specs.VariableBounds.{AreBounds}
use Rattle.branch_lemmas.proofs.Lemmas.{bound_in, bound_low}

-- ---- x in n..n

-- In a model the variable has that value.
pub exact_value : (M N : ℕ) (ps : List Indexical) (k n : ℕ) (T : Family) → IsModel M N [] (with_value ps k n) T → T k ≡ n ∷ []
exact_value M N ps k n T m =
    let only : (j : ℕ) → has (k ∷ []) j ≡ true → (i : ℕ) × (has (T j) i ≡ true) = λ j e. m.full j (named_right ps (exactly k n ∷ []) j e) in
    let holds = posted_right (λ p. IsSubset (T p.target) (set_of M T p.range)) ps (exactly k n ∷ []) m.closed.posted in
    let one = as_equations M T m.closed.family (Value k (pos n) ∷ []) only holds in
    let w = set_term_int (T k) (pos n) one.0 in
    w.1 ∙ ap (λ i. i ∷ []) (let e : w.0 ≡ n = cc (w.2) in e)

-- And a model in which it has the value is one with the range.
pub with_exact : (M N : ℕ) (ps : List Indexical) (k n : ℕ) (T : Family) → n ≤ N → IsModel M N [] ps T → T k ≡ n ∷ [] → IsModel M N [] (with_value ps k n) T
with_exact M N ps k n T l m e =
    extended M N ps (exactly k n ∷ []) T m (as_posts M T m.closed.family (Value k (pos n) ∷ []) (ap set_term e, tt))
    (λ j i c g. (let w = only_member n i (subst (λ l. has l i ≡ true) (ap T (sym (only_member k j c)) ∙ e) g) in omega (arith, w, l)))
    (λ j c. (n, subst (λ l. has l n ≡ true) (sym (ap T (sym (only_member k j c)) ∙ e)) (or_left (n == n) false (eq-eqb n n refl))))

-- ---- another value of a variable that no range names

abbrev pub put_value : ℕ → ℕ → Family → Family
put_value k n T j = cond (j == k) (n ∷ []) (T j)

pub value_here : (k n : ℕ) (T : Family) → put_value k n T k ≡ n ∷ []
value_here k n T = ap (λ b. cond b (n ∷ []) (T k)) (eq-eqb k k refl)

pub value_else : (k n : ℕ) (T : Family) (j : ℕ) → (j ≡ k → ⊥) → put_value k n T j ≡ T j
value_else k n T j d = ap (λ b. cond b (n ∷ []) (T j)) (ne_eqb j k d)

pub other_value : (M : ℕ) (ps : List Indexical) (k n : ℕ) (T : Family) → n ≤ M → has (constrained ps) k ≡ false → IsModel M M [] ps T → IsModel M M [] ps (put_value k n T)
other_value M ps k n T l none m =
    let same : (j : ℕ) → has (constrained ps) j ≡ true → put_value k n T j ≡ T j = λ j c. value_else k n T j (λ e. true≢false (sym c ∙ ap (has (constrained ps)) e ∙ none)) in
    let rising : (j : ℕ) → IsRising 0 M (put_value k n T j) = λ j. elim (cases_eq j k) [
      | inl e ↦ subst (IsRising 0 M) (sym (ap (put_value k n T) e ∙ value_here k n T)) (omega arith, l, tt)
      | inr d ↦ subst (IsRising 0 M) (sym (value_else k n T j d)) (m.closed.family.rising j)
    ] in
    record {
      unifier = Var;
      general = identity;
      closed = closed_without M M ps (put_value k n T) (record { rising = rising }) (holds_agree M (put_value k n T) T ps same m.closed.posted)
          (λ j i c g. m.closed.within j i c (subst (λ l. has l i ≡ true) (same j c) g));
      full = λ j c. (let f = m.full j c in (f.0, subst (λ l. has l f.0 ≡ true) (sym (same j c)) f.1));
    }

-- ---- consistent ranges, and branches

-- The sets that consistent ranges leave are their greatest model.
pub left_model : (M : ℕ) (ps : List Indexical) (D : Family) → AllMonotone M ps → IsConsistent M M [] ps → AreLeft M ps D → IsModel M M [] ps D
left_model M ps D mono c a =
    let g = greatest_for M M Var ps mono in
    let left : AreLeft M ps g.0 = record {
      family = g.1.family;
      domains = λ x n. (
        (λ h. record { unifier = Var; general = identity; family = g.0; closed = g.1; member = h }),
        (λ e. ((g.2 e.family (closed_either M M [] Var e.unifier ps e.family identity e.general e.closed)).at x).each n e.member),
      );
    } in
    let same = left_once M ps g.0 D left a in
    record { unifier = Var; general = identity; closed = subst (λ S. IsClosed M M Var ps S) same g.1; full = λ x k. left_some M ps D c a x }

pub left_most : (M : ℕ) (ps : List Indexical) (D R : Family) → AreLeft M ps D → IsModel M M [] ps R → IsInside R D
left_most M ps D R a m = record { at = λ x. record { each = λ n h. (a.domains x n).1 (record { unifier = m.unifier; general = m.general; family = R; closed = m.closed; member = h }) } }

-- A consistent branch has a model.
pub branch_model : (M N : ℕ) (es : List Equation) (ps : List Indexical) → AllMonotone M ps → IsConsistent M N es ps → (S : Family) × IsModel M N es ps S
branch_model M N es ps mono c =
    let v = has_view M N es ps mono c in (
      v.1,
      record {
        unifier = v.0;
        general = v.2.general;
        closed = v.2.closed;
        full = λ x k.
            (let g = c.some x k in (g.0, ((v.2.contains g.1.family (closed_either M N es v.0 g.1.unifier ps g.1.family v.2.general g.1.general g.1.closed)).at x).each g.0 g.1.member));
      },
    )

-- Posted ranges that have a model have a greatest one.
pub greatest_model : (M N : ℕ) (ps : List Indexical) → AllMonotone M ps → (S : Family) → IsModel M N [] ps S → (D : Family) × IsModel M N [] ps D × ((R : Family) → IsModel M N [] ps R → IsInside R D)
greatest_model M N ps mono S m =
    let g = greatest_for M N Var ps mono in
    let inside : (R : Family) → IsModel M N [] ps R → IsInside R g.0 = λ R r. g.2 R (closed_either M N [] Var r.unifier ps R identity r.general r.closed) in (
      g.0,
      record { unifier = Var; general = identity; closed = g.1; full = λ x c. (let f = m.full x c in (f.0, ((inside S m).at x).each f.0 f.1)) },
      inside,
    )

rising_wider : (low N M : ℕ) (xs : List ℕ) → N ≤ M → IsRising low N xs → IsRising low M xs
rising_wider low N M [] l r = tt
rising_wider low N M (x ∷ xs) l r = (r.0, (let i = r.1 in omega (arith, i, l)), rising_wider (suc x) N M xs l r.2)

-- A variable that may have any number up to N keeps these numbers.
pub left_free : (M N : ℕ) (ps : List Indexical) (D : Family) (k : ℕ) → N ≤ M → AreLeft M ps D → ((n : ℕ) → has (D k) n ≡ true → n ≤ N)
    → ((n : ℕ) → n ≤ N → IsModel M M [] ps (put_value k n D)) → D k ≡ universe N
left_free M N ps D k within a low put =
    rising_same 0 M (D k) (universe N) (a.family.rising k) (rising_wider 0 N M (universe N) within (universe_rising N))
    (record { each = λ n h. in_universe N n (low n h) })
    (record {
      each = λ n h. ((left_most M ps D (put_value k n D) a (put n (has_high 0 N (universe N) n (universe_rising N) h))).at k).each n
          (subst (λ xs. has xs n ≡ true) (sym (value_here k n D)) (or_left (n == n) false (eq-eqb n n refl)));
    })

-- ---- bounds

-- A bound only shrinks, since it stays as it is.
pub bounds_monotone : (M N : ℕ) (bs : List Indexical) → AreBounds N bs → AllMonotone M bs
bounds_monotone M N [] a = tt
bounds_monotone M N (q ∷ bs) a = (subst (λ (p : Indexical). IsMonotone M p.range) (sym a.0.1) (record { grows = λ S T f g i. record { each = λ n h. h } }), bounds_monotone M N bs a.1)

-- A variable that only bounds name may have any number up to theirs.
pub bounds_put : (M N : ℕ) (k n : ℕ) (T : Family) → n ≤ N → N ≤ M → (bs : List Indexical) → AreBounds N bs
    → AllPosted (λ p. IsSubset (T p.target) (set_of M T p.range)) bs
    → AllPosted (λ p. IsSubset (put_value k n T p.target) (set_of M (put_value k n T) p.range)) bs
bounds_put M N k n T l within [] a h = tt
bounds_put M N k n T l within (q ∷ bs) a h = (
  subst (λ (p : Indexical). IsSubset (put_value k n T p.target) (set_of M (put_value k n T) p.range)) (sym a.0.1) (record {
    each = λ i g. bound_in M N i (put_value k n T) a.0.0 (elim (cases_eq a.0.0 k) [
      | inl e ↦ (let w = only_member n i (subst (λ xs. has xs i ≡ true) (ap (put_value k n T) e ∙ value_here k n T) g) in omega (arith, w, l))
      | inr d ↦ bound_low M N i T a.0.0 (here.each i (subst (λ xs. has xs i ≡ true) (value_else k n T a.0.0 d) g))
    ]) within;
  }),
  bounds_put M N k n T l within bs a.1 h.1,
) where
  here : IsSubset (T a.0.0) (set_of M T (bound N a.0.0).range)
  here = subst (λ (p : Indexical). IsSubset (T p.target) (set_of M T p.range)) a.0.1 h.0

pub put_begun : (M N : ℕ) (qs bs : List Indexical) (k n : ℕ) (T : Family) → n ≤ N → N ≤ M → AreBounds N bs → has (constrained qs) k ≡ false
    → IsModel M M [] (qs ++ bs) T → IsModel M M [] (qs ++ bs) (put_value k n T)
put_begun M N qs bs k n T l within a none m =
    let old = other_value M qs k n T (let i = within in omega (arith, l, i)) none (front M M qs bs T m) in
    let R = put_value k n T in
    record {
      unifier = Var;
      general = identity;
      closed = whole M (qs ++ bs) R old.closed.family (posted_both (λ p. IsSubset (R p.target) (set_of M R p.range)) qs bs old.closed.posted
          (bounds_put M N k n T l within bs a (posted_right (λ p. IsSubset (T p.target) (set_of M T p.range)) qs bs m.closed.posted)));
      full = λ j c. elim (cases_eq j k) [
        | inl e ↦ (n, subst (λ xs. has xs n ≡ true) (sym (ap R e ∙ value_here k n T)) (or_left (n == n) false (eq-eqb n n refl)))
        | inr d ↦ (let f = m.full j c in (f.0, subst (λ xs. has xs f.0 ≡ true) (sym (value_else k n T j d)) f.1))
      ];
    }
