-- The member that is picked, among those under a substitution.
use Rattle.std.proofs.Common.{◌≡◌, ℕ, Bool, true, false, cond, ◌==◌, ltb, length, ℤ, List, [], ◌∷◌, Option, Some, None, ◌⊎◌, refl, ap, sym, ◌∙◌, subst, inl}
use Rattle.std.proofs.Common.{inr, eq-eqb, eqb-true, Result, Ok}
use Rattle.std.proofs.lemmas.Bool.{or_cases, or_left, or_right, true≢false}
use Rattle.fd_model.specs.declared.kinds.QueryFault.{QueryFault}
use Rattle.fd_model.specs.declared.kinds.Order.{Order}
use Rattle.fd_model.specs.declared.kinds.Order.TheVariants.{Leftmost, FirstFail}
use Rattle.fd_language.specs.Term.{Term, Var, Int, Atom, Comp, Substitution}
use Rattle.fd_language.specs.Family.{has}
use Rattle.fd_model.specs.Labelling.{first_open, fewest, unless_fewer, pick, open_ones}
use Rattle.fd_model.specs.Members.{Member, Open, Known}
use Rattle.fd_model.proofs.ModelSubstitutions.{first_member}
use Rattle.fd_model.proofs.SubstitutedLists.{with_element, read_members, with_member_back}

abbrev pub IsInt : Term → Type 0
IsInt t = (z : ℤ) × (t ≡ Int z)

-- an element that reads, and the rest
abbrev pub Element : Term → List Member → List Member → Type 0
Element t rest ms = ((x : ℕ) × (t ≡ Var x) × (ms ≡ Open x ∷ rest)) ⊎ ((z : ℤ) × (t ≡ Int z) × (ms ≡ Known z ∷ rest))

pub element_of : (t : Term) (l : Result (List Member) QueryFault) (ms : List Member) → with_element t l ≡ Ok ms → (rest : List Member) × (l ≡ Ok rest) × Element t rest ms
element_of (Var x) l ms e = let h = with_member_back (Open x) l ms e in (h.0, h.2, inl (x, refl, h.1))
element_of (Int z) l ms e = let h = with_member_back (Known z) l ms e in (h.0, h.2, inr (z, refl, h.1))
element_of (Atom a) l ms e = absurd (cc)
element_of (Comp f ts) l ms e = absurd (cc)

-- u takes the first of them that it doesn't make an integer to x
abbrev pub First : Substitution → List ℕ → ℕ → Type 0
First u [] x = ⊥
First u (y ∷ ys) x = (u y ≡ Var x) ⊎ (IsInt (u y) × First u ys x)

-- u takes one of them to x
abbrev pub Among : Substitution → List ℕ → ℕ → Type 0
Among u ys x = (y : ℕ) × (has ys y ≡ true) × (u y ≡ Var x)

abbrev pub AllInts : Substitution → List ℕ → Type 0
AllInts u ys = (y : ℕ) → has ys y ≡ true → IsInt (u y)

ints_more : (u : Substitution) (x : ℕ) (ys : List ℕ) → IsInt (u x) → AllInts u ys → AllInts u (x ∷ ys)
ints_more u x ys i h y k = elim (or_cases (x == y) (has ys y) k) [ inl e ↦ subst (λ w. IsInt (u w)) (eqb-true x y e) i | inr e ↦ h y e ]

among_more : (u : Substitution) (w x : ℕ) (ys : List ℕ) → Among u ys x → Among u (w ∷ ys) x
among_more u w x ys a = (a.0, or_right (w == a.0) (has ys a.0) a.1, a.2)

first_among : (u : Substitution) (ys : List ℕ) (x : ℕ) → First u ys x → Among u ys x
first_among u [] x h = absurd h
first_among u (y ∷ ys) x (inl e) = (y, first_member y ys, e)
first_among u (y ∷ ys) x (inr h) = among_more u y x ys (first_among u ys x h.1)

no_some : {A : Type 0} (x : A) → Some x ≡ None → ⊥
no_some x e = cc

module _ (u : Substitution) where
  none_by : (x : ℕ) (ms : List Member) (rest new : List Member) → Element (u x) rest new → first_open new ≡ None → (first_open rest ≡ None → AllInts u (open_ones ms)) → AllInts u (x ∷ open_ones ms)
  none_by x ms rest new (inl h) e later = absurd (no_some h.0 (sym (ap first_open h.2) ∙ e))
  none_by x ms rest new (inr h) e later = ints_more u x (open_ones ms) (h.0, h.1) (later (sym (ap first_open h.2) ∙ e))

  ints_of : (ms new : List Member) → read_members u ms ≡ Ok new → first_open new ≡ None → AllInts u (open_ones ms)
  ints_of [] new e h = λ y k. absurd (true≢false (sym k))
  ints_of (Known z ∷ ms) new e h = let m = with_member_back (Known z) (read_members u ms) new e in ints_of ms m.0 m.2 (sym (ap first_open m.1) ∙ h)
  ints_of (Open x ∷ ms) new e h = let m = element_of (u x) (read_members u ms) new e in none_by x ms m.0 new m.2 h (λ k. ints_of ms m.0 m.1 k)

  some_by : (x y : ℕ) (ms : List Member) (rest new : List Member) → Element (u x) rest new → first_open new ≡ Some y
      → (first_open rest ≡ Some y → First u (open_ones ms) y) → First u (x ∷ open_ones ms) y
  some_by x y ms rest new (inl h) e later = inl (h.1 ∙ ap Var (let k = sym (ap first_open h.2) ∙ e in let j : h.0 ≡ y = cc in j))
  some_by x y ms rest new (inr h) e later = inr ((h.0, h.1), later (sym (ap first_open h.2) ∙ e))

  first_of : (ms new : List Member) (y : ℕ) → read_members u ms ≡ Ok new → first_open new ≡ Some y → First u (open_ones ms) y
  first_of [] new y e h = absurd (let k : [] ≡ new = cc in no_some y (sym h ∙ sym (ap first_open k)))
  first_of (Known z ∷ ms) new y e h = let m = with_member_back (Known z) (read_members u ms) new e in first_of ms m.0 y m.2 (sym (ap first_open m.1) ∙ h)
  first_of (Open x ∷ ms) new y e h = let m = element_of (u x) (read_members u ms) new e in some_by x y ms m.0 new m.2 h (λ k. first_of ms m.0 y m.1 k)

  among_by : (x y : ℕ) (ms : List Member) (rest new : List Member) → Element (u x) rest new → has (open_ones new) y ≡ true
      → (has (open_ones rest) y ≡ true → Among u (open_ones ms) y) → Among u (x ∷ open_ones ms) y
  among_by x y ms rest new (inl h) e later = elim (or_cases (h.0 == y) (has (open_ones rest) y) (subst (λ l. has (open_ones l) y ≡ true) h.2 e)) [
    | inl k ↦ (x, first_member x (open_ones ms), h.1 ∙ ap Var (eqb-true h.0 y k))
    | inr k ↦ among_more u x y (open_ones ms) (later k)
  ]
  among_by x y ms rest new (inr h) e later = among_more u x y (open_ones ms) (later (subst (λ l. has (open_ones l) y ≡ true) h.2 e))

  among_of : (ms new : List Member) (y : ℕ) → read_members u ms ≡ Ok new → has (open_ones new) y ≡ true → Among u (open_ones ms) y
  among_of [] new y e h = absurd (let k : new ≡ [] = cc in true≢false (sym (subst (λ l. has (open_ones l) y ≡ true) k h)))
  among_of (Known z ∷ ms) new y e h = let m = with_member_back (Known z) (read_members u ms) new e in among_of ms m.0 y m.2 (subst (λ l. has (open_ones l) y ≡ true) m.1 h)
  among_of (Open x ∷ ms) new y e h = let m = element_of (u x) (read_members u ms) new e in among_by x y ms m.0 new m.2 h (λ k. among_of ms m.0 y m.1 k)

-- the one with the fewest values
fewest_none : (values : ℕ → List ℕ) (ms : List Member) → fewest values ms ≡ None → first_open ms ≡ None
fewest_none values [] e = refl
fewest_none values (Known z ∷ ms) e = fewest_none values ms e
fewest_none values (Open x ∷ ms) e = absurd (no_some _ e)

fewer_by : (values : ℕ → List ℕ) (x y : ℕ) (b : Bool) (ys : List ℕ) → has ys y ≡ true → has (x ∷ ys) (cond b y x) ≡ true
fewer_by values x y true ys h = or_right (x == y) (has ys y) h
fewer_by values x y false ys h = first_member x ys

fewer_there : (values : ℕ → List ℕ) (x : ℕ) (o : Option ℕ) (ys : List ℕ) → ((y : ℕ) → o ≡ Some y → has ys y ≡ true) → has (x ∷ ys) (unless_fewer values x o) ≡ true
fewer_there values x None ys h = first_member x ys
fewer_there values x (Some y) ys h = fewer_by values x y (ltb (length (values y)) (length (values x))) ys (h y refl)

fewest_there : (values : ℕ → List ℕ) (ms : List Member) (y : ℕ) → fewest values ms ≡ Some y → has (open_ones ms) y ≡ true
fewest_there values [] y e = absurd (no_some y (sym e))
fewest_there values (Known z ∷ ms) y e = fewest_there values ms y e
fewest_there values (Open x ∷ ms) y e =
    let k : unless_fewer values x (fewest values ms) ≡ y = cc in
    subst (λ w. has (x ∷ open_ones ms) w ≡ true) k (fewer_there values x (fewest values ms) (open_ones ms) (λ w f. fewest_there values ms w f))

first_there : (ms : List Member) (x : ℕ) → first_open ms ≡ Some x → has (open_ones ms) x ≡ true
first_there [] x e = absurd (cc)
first_there (Known z ∷ ms) x e = first_there ms x e
first_there (Open y ∷ ms) x e = let k : y ≡ x = cc in or_left (y == x) (has (open_ones ms) x) (eq-eqb y x k)

-- the picked variable is one of the open members
pub among_picked : (o : Order) (values : ℕ → List ℕ) (ms : List Member) (x : ℕ) → pick o values ms ≡ Some x → has (open_ones ms) x ≡ true
among_picked Leftmost values ms x e = first_there ms x e
among_picked FirstFail values ms x e = fewest_there values ms x e

-- how the picked member stands in the list, by the order
abbrev pub Picked : Order → Substitution → List ℕ → ℕ → Type 0
Picked Leftmost u ys x = First u ys x
Picked FirstFail u ys x = Among u ys x

pub picked_among : (o : Order) (u : Substitution) (ys : List ℕ) (x : ℕ) → Picked o u ys x → Among u ys x
picked_among Leftmost u ys x h = first_among u ys x h
picked_among FirstFail u ys x h = h

pub pick_none : (o : Order) (values : ℕ → List ℕ) (u : Substitution) (ms new : List Member) → read_members u ms ≡ Ok new → pick o values new ≡ None → AllInts u (open_ones ms)
pick_none Leftmost values u ms new e h = ints_of u ms new e h
pick_none FirstFail values u ms new e h = ints_of u ms new e (fewest_none values new h)

pub pick_some : (o : Order) (values : ℕ → List ℕ) (u : Substitution) (ms new : List Member) (x : ℕ) → read_members u ms ≡ Ok new → pick o values new ≡ Some x → Picked o u (open_ones ms) x
pick_some Leftmost values u ms new x e h = first_of u ms new x e h
pick_some FirstFail values u ms new x e h = among_of u ms new x e (fewest_there values new x h)
