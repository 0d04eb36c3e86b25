-- The branches of a labelling: the list is read in each of them, and fewer of its members are open in a child.
use Rattle.std.proofs.Common.{◌≡◌, ℕ, suc, ◌≤◌, ◌<◌, true, cond, ◌==◌, pos, List, [], ◌∷◌, Option, Some, Ok, ◌⊎◌, refl, ap, sym, ◌∙◌, subst, inl, inr, arith}
use Rattle.std.proofs.Common.{eqb-true, eq-eqb}
use Rattle.std.proofs.lemmas.Bool.{or_cases, or_right, cases_Bool, true≢false}
use Rattle.fd_language.specs.Term.{Term, Var, Int, Atom, Comp, Substitution, apply, after}
use Rattle.fd_language.specs.Unifier.{Unifies}
use Rattle.fd_language.specs.Family.{Family, has}
use Rattle.fd_model.specs.ClosedFamilies.{constrained}
use Rattle.fd_model.specs.Goal.{Branch}
use Rattle.fd_model.specs.BranchViews.{IsConsistent, IsView, set_at, by_set}
use Rattle.fd_model.specs.Members.{Member, Open, Known}
use Rattle.fd_model.specs.Labelling.{read_list, open_ones}
use Rattle.fd_model.specs.Branches.{by_value, look_in}
use Rattle.fd_language.proofs.Lemmas.{still_unifies, through_term}
use Rattle.fd_model.proofs.ModelSubstitutions.{Heeds, heeds_weaker, look_heeds, look_open, open_fixed, through_look, first_member}
use Rattle.fd_model.proofs.SubstitutedLists.{read_members, with_member_back, list_under, plain_members}
use Rattle.fd_model.proofs.PickedMembers.{IsInt, AllInts, Element, element_of, Among}

-- u goes through base
abbrev pub Follows : Substitution → Substitution → Type 0
Follows base u = (y : ℕ) → apply u (base y) ≡ u y

-- the open members of a list that is read again as it is
open_by : (u : Substitution) (x y : ℕ) (ms rest : List Member) → Element (u x) rest (Open x ∷ ms) → (rest ≡ ms → has (open_ones ms) y ≡ true → u y ≡ Var y)
    → has (x ∷ open_ones ms) y ≡ true → u y ≡ Var y
open_by u x y ms rest (inl e) later h = elim (or_cases (x == y) (has (open_ones ms) y) h) [
  | inl k ↦ subst (λ w. u w ≡ Var w) (eqb-true x y k) (e.1 ∙ ap Var (let i = e.2 in let j : e.0 ≡ x = cc in j))
  | inr k ↦ later (let i = e.2 in let j : rest ≡ ms = cc in j) k
]
open_by u x y ms rest (inr e) later h = absurd (let i = e.2 in cc)

opens_fixed : (u : Substitution) (ms : List Member) → read_members u ms ≡ Ok ms → (y : ℕ) → has (open_ones ms) y ≡ true → u y ≡ Var y
opens_fixed u [] e y h = absurd (true≢false (sym h))
opens_fixed u (Known z ∷ ms) e y h =
    let m = with_member_back (Known z) (read_members u ms) (Known z ∷ ms) e in
    opens_fixed u ms (m.2 ∙ ap Ok (let i = m.1 in let j : m.0 ≡ ms = cc in j)) y h
opens_fixed u (Open x ∷ ms) e y h =
    let m = element_of (u x) (read_members u ms) (Open x ∷ ms) e in
    open_by u x y ms m.0 m.2 (λ k i. opens_fixed u ms (m.1 ∙ ap Ok k) y i) h

-- where a list is read in a consistent branch
module _ (M N : ℕ) (b : Branch) (s : Substitution) (D : Family) (v : IsView M N b.equations b.posted s D) (ok : IsConsistent M N b.equations b.posted)
    (t : Term) (ms : List Member) (read : read_list (apply (look_in b s D) t) ≡ Ok ms) where
  abbrev seen : Substitution
  seen = look_in b s D

  read_again : read_members seen ms ≡ Ok ms
  read_again =
      sym (list_under seen (apply seen t) ms read) ∙ ap read_list (through_term seen seen (through_look M N b s D v ok seen (look_heeds M N b s D v ok)) t) ∙ read

  pub open_var : (y : ℕ) → has (open_ones ms) y ≡ true → s y ≡ Var y
  open_var y h = look_open M N b s D v ok y y (opens_fixed seen ms read_again y h)

  pub zero_ground : (u : Substitution) × Unifies u b.equations × AllInts u (open_ones ms)
  zero_ground = (after (λ x. Int (pos 0)) s, still_unifies (λ x. Int (pos 0)) s b.equations v.general.unifies, λ y h. (pos 0, ap (apply (λ x. Int (pos 0))) (open_var y h)))

-- how many of the variables are no integers
abbrev open_count_by : Term → ℕ → ℕ
open_count_by (Int z) n = n
open_count_by _ n = suc n

pub open_count : Substitution → List ℕ → ℕ
open_count u [] = 0
open_count u (y ∷ ys) = open_count_by (u y) (open_count u ys)

count_low : (t : Term) (n : ℕ) → n ≤ open_count_by t n
count_low (Int z) n = omega arith
count_low (Var x) n = omega arith
count_low (Atom a) n = omega arith
count_low (Comp f ts) n = omega arith

count_high : (t : Term) (n : ℕ) → open_count_by t n ≤ suc n
count_high (Int z) n = omega arith
count_high (Var x) n = omega arith
count_high (Atom a) n = omega arith
count_high (Comp f ts) n = omega arith

-- integers stay
count_step : (t r : Term) (n m : ℕ) → (IsInt t → IsInt r) → n ≤ m → open_count_by r n ≤ open_count_by t m
count_step (Int z) r n m keep l = subst (λ w. open_count_by w n ≤ m) (sym (keep (z, refl)).1) l
count_step (Var x) r n m keep l = let k = count_high r n in omega (arith, k)
count_step (Atom a) r n m keep l = let k = count_high r n in omega (arith, k)
count_step (Comp f ts) r n m keep l = let k = count_high r n in omega (arith, k)

count_fewer : (u w : Substitution) (ys : List ℕ) → ((y : ℕ) → has ys y ≡ true → IsInt (u y) → IsInt (w y)) → open_count w ys ≤ open_count u ys
unfolding open_count
count_fewer u w [] keep = omega arith
count_fewer u w (y ∷ ys) keep = count_step (u y) (w y) (open_count w ys) (open_count u ys) (keep y (first_member y ys)) (count_fewer u w ys (λ z h. keep z (or_right (y == z) (has ys z) h)))

-- and one more becomes one
count_here : (t r : Term) (x n m : ℕ) → t ≡ Var x → IsInt r → n ≤ m → open_count_by r n < open_count_by t m
count_here t r x n m e i l = subst (λ w. open_count_by r n < open_count_by w m) (sym e) (subst (λ w. open_count_by w n < suc m) (sym i.1) (omega arith))

count_later : (t r : Term) (n m : ℕ) → (IsInt t → IsInt r) → n < m → open_count_by r n < open_count_by t m
count_later (Int z) r n m keep l = subst (λ w. open_count_by w n < m) (sym (keep (z, refl)).1) l
count_later (Var x) r n m keep l = let k = count_high r n in omega (arith, k)
count_later (Atom a) r n m keep l = let k = count_high r n in omega (arith, k)
count_later (Comp f ts) r n m keep l = let k = count_high r n in omega (arith, k)

count_less : (u w : Substitution) (ys : List ℕ) (y x : ℕ) → has ys y ≡ true → u y ≡ Var x → IsInt (w y) → ((z : ℕ) → has ys z ≡ true → IsInt (u z) → IsInt (w z)) → open_count w ys < open_count u ys
unfolding open_count
count_less u w [] y x h e i keep = absurd (true≢false (sym h))
count_less u w (z ∷ ys) y x h e i keep =
    let more : (a : ℕ) → has ys a ≡ true → IsInt (u a) → IsInt (w a) = λ a k. keep a (or_right (z == a) (has ys a) k) in
    elim (or_cases (z == y) (has ys y) h) [
      | inl k ↦ let same = eqb-true z y k in count_here (u z) (w z) x (open_count w ys) (open_count u ys) (subst (λ a. u a ≡ Var x) (sym same) e)
          (subst (λ a. IsInt (w a)) (sym same) i) (count_fewer u w ys more)
      | inr k ↦ count_later (u z) (w z) (open_count w ys) (open_count u ys) (keep z (first_member z ys)) (count_less u w ys y x k e i more)
    ]

pub some_open : (u : Substitution) (ys : List ℕ) (y x : ℕ) → has ys y ≡ true → u y ≡ Var x → open_count u ys ≤ 0 → ⊥
unfolding open_count
some_open u [] y x h e l = true≢false (sym h)
some_open u (z ∷ ys) y x h e l = elim (or_cases (z == y) (has ys y) h) [
  | inl k ↦ (let i : suc (open_count u ys) ≤ 0 = subst (λ w. open_count_by w (open_count u ys) ≤ 0) (subst (λ a. u a ≡ Var x) (sym (eqb-true z y k)) e) l in omega (arith, i))
  | inr k ↦ some_open u ys y x k e (let low = count_low (u z) (open_count u ys) in omega (arith, l, low))
]

module _ (M N : ℕ) (t : Term) (ms : List Member) (base : Substitution) (listed : read_list (apply base t) ≡ Ok ms) where
  abbrev vs : List ℕ
  vs = open_ones ms

  -- what unifies the branch goes through what was seen first, and some unifier gives integers to all members
  pub record IsGrounded (b : Branch) : Type 0 where
    pub consistent : IsConsistent M N b.equations b.posted
    pub follows : (u : Substitution) → Heeds M N b.equations b.posted u → Follows base u
    pub ground : (u : Substitution) × Unifies u b.equations × AllInts u vs

  plain_term : (u : Substitution) (r : Term) → IsInt (apply u r) → ((w : ℕ) × (r ≡ Var w)) ⊎ IsInt r
  plain_term u (Var w) h = inl (w, refl)
  plain_term u (Int z) h = inr (z, refl)
  plain_term u (Atom a) h = absurd (let e = h.1 in cc)
  plain_term u (Comp f ts) h = absurd (let e = h.1 in cc)

  plain_option : (w : ℕ) (r : Option (List ℕ)) → ((y : ℕ) × (by_set r w ≡ Var y)) ⊎ IsInt (by_set r w)
  plain_option w (Some (n ∷ [])) = inr (pos n, refl)
  plain_option w _ = inl (w, refl)

  module _ (b : Branch) (s : Substitution) (D : Family) (grounded : IsGrounded b) (v : IsView M N b.equations b.posted s D) where
    abbrev look : Substitution
    look = look_in b s D

    heeds : Heeds M N b.equations b.posted look
    heeds = look_heeds M N b s D v grounded.consistent

    -- the list as it is read in the branch
    pub list_read : read_list (apply look t) ≡ read_members look ms
    list_read = sym (ap read_list (through_term base look (grounded.follows look heeds) t)) ∙ list_under look (apply base t) ms listed

    pub seen_plain : (y : ℕ) → has vs y ≡ true → ((w : ℕ) × (look y ≡ Var w)) ⊎ IsInt (look y)
    seen_plain y h =
        let k = grounded.ground.2 y h in
        let single : Substitution = λ w. by_set (set_at s D (constrained b.posted) w) w in
        elim (plain_term grounded.ground.0 (s y) (k.0, v.general.general grounded.ground.0 y grounded.ground.1 ∙ k.1)) [
          | inl e ↦ elim (plain_option e.0 (set_at s D (constrained b.posted) e.0)) [ inl g ↦ inl (g.0, ap (apply single) e.1 ∙ g.1) | inr g ↦ inr (g.0, ap (apply single) e.1 ∙ g.1) ]
          | inr e ↦ inr (e.0, ap (apply single) e.1)
        ]

    -- it is read without fault
    pub is_read : (new : List Member) × (read_members look ms ≡ Ok new)
    is_read = plain_members look ms seen_plain

    -- a member that is seen as x gets a number
    module _ (x : ℕ) (among : Among look vs x) where
      pub open_self : s x ≡ Var x
      open_self = open_fixed M N b s D v grounded.consistent among.0 x (look_open M N b s D v grounded.consistent among.0 x among.2)

      -- some unifier of the child gives integers to all of them
      unfoldable ground_at : ℕ → Substitution
      ground_at n w = cond (w == x) (Int (pos n)) (grounded.ground.0 w)

      ground_here : (n : ℕ) → ground_at n x ≡ Int (pos n)
      unfolding ground_at
      ground_here n = rw (eq-eqb x x refl) refl

      ground_var : (n w : ℕ) → IsInt (grounded.ground.0 w) → IsInt (ground_at n w)
      unfolding ground_at
      ground_var n w h = elim (cases_Bool (w == x)) [ inl e ↦ (pos n, rw e refl) | inr e ↦ (h.0, rw e h.1) ]

      ground_term : (n : ℕ) (r : Term) → IsInt (apply grounded.ground.0 r) → IsInt (apply (ground_at n) r)
      ground_term n (Var w) h = ground_var n w h
      ground_term n (Int z) h = (z, refl)
      ground_term n (Atom a) h = absurd (let e = h.1 in cc)
      ground_term n (Comp f ts) h = absurd (let e = h.1 in cc)

      module _ (n : ℕ) where
        abbrev child : Branch
        child = by_value b b.goals x n

        heeds_less : (u : Substitution) → Heeds M N child.equations b.posted u → Heeds M N b.equations b.posted u
        heeds_less u h = heeds_weaker M N child.equations b.equations b.posted u (λ r k. k.1) h

        pub child_ground : (u : Substitution) × Unifies u child.equations × AllInts u vs
        child_ground = (
          after (ground_at n) s,
          (ap (apply (ground_at n)) open_self ∙ ground_here n, still_unifies (ground_at n) s b.equations v.general.unifies),
          λ y h. ground_term n (s y) (let k = grounded.ground.2 y h in (k.0, v.general.general grounded.ground.0 y grounded.ground.1 ∙ k.1)),
        )

        pub child_grounded : IsConsistent M N child.equations child.posted → IsGrounded child
        child_grounded c = record { consistent = c; follows = λ u h. grounded.follows u (heeds_less u h); ground = child_ground }

        -- and fewer of them are open
        pub child_fewer : (c : IsConsistent M N child.equations child.posted) (s' : Substitution) (D' : Family) → IsView M N child.equations child.posted s' D'
            → open_count (look_in child s' D') vs < open_count look vs
        child_fewer c s' D' v' =
            let later = look_in child s' D' in
            let own : Heeds M N child.equations child.posted later = look_heeds M N child s' D' v' c in
            let through : (y : ℕ) → apply later (look y) ≡ later y = through_look M N b s D v grounded.consistent later (heeds_less later own) in
            let here : later x ≡ Int (pos n) = own.unifies.0 in
            count_less look later vs among.0 x among.1 among.2 (pos n, sym (through among.0) ∙ ap (apply later) among.2 ∙ here) (λ z h i. (i.0, sym (through z) ∙ ap (apply later) i.1))
