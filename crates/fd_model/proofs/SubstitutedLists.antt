-- A list under a substitution.
use Rattle.std.proofs.Common.{◌≡◌, ℕ, Bool, true, false, cond, ◌==◌, ℤ, List, [], ◌∷◌, ◌⊎◌, refl, ap, sym, ◌∙◌, inl, inr, eq-eqb, Result, Err, Ok}
use Rattle.std.proofs.lemmas.Bool.{or_left, or_right}
use Rattle.std.specs.Str.{bytes_eq}
use Rattle.std.specs.Prelude.{codes}
use Rattle.fd_model.specs.declared.kinds.QueryFault.{QueryFault}
use Rattle.fd_language.specs.Term.{Term, Var, Int, Atom, Comp, Substitution, apply, no_terms, term}
use Rattle.fd_language.specs.Family.{has}
use Rattle.fd_model.specs.Linear.{of_both}
use Rattle.fd_model.specs.Labelling.{read_list, open_ones}
use Rattle.fd_model.specs.Members.{Member, Open, Known, as_member, prepend}

-- a member, and an element, before the rest
abbrev pub with_member : Member → Result (List Member) QueryFault → Result (List Member) QueryFault
with_member m l = of_both prepend (Ok m) l

abbrev pub with_element : Term → Result (List Member) QueryFault → Result (List Member) QueryFault
with_element t l = of_both prepend (as_member t) l

-- the terms of the members under u
abbrev pub read_members : Substitution → List Member → Result (List Member) QueryFault
read_members u [] = Ok []
read_members u (Known z ∷ ms) = with_element (Int z) (read_members u ms)
read_members u (Open x ∷ ms) = with_element (u x) (read_members u ms)

-- a member of each open one and each integer
with_plain : (t : Term) (l : Result (List Member) QueryFault) (rest : List Member) → ((w : ℕ) × (t ≡ Var w)) ⊎ ((z : ℤ) × (t ≡ Int z)) → l ≡ Ok rest → (ms : List Member) × (with_element t l ≡ Ok ms)
with_plain t l rest (inl h) e = (Open h.0 ∷ rest, ap (λ r. with_element r l) h.1 ∙ ap (with_member (Open h.0)) e)
with_plain t l rest (inr h) e = (Known h.0 ∷ rest, ap (λ r. with_element r l) h.1 ∙ ap (with_member (Known h.0)) e)

pub plain_members : (u : Substitution) (ms : List Member) → ((y : ℕ) → has (open_ones ms) y ≡ true → ((w : ℕ) × (u y ≡ Var w)) ⊎ ((z : ℤ) × (u y ≡ Int z)))
    → (new : List Member) × (read_members u ms ≡ Ok new)
plain_members u [] h = ([], refl)
plain_members u (Known z ∷ ms) h = let later = plain_members u ms h in with_plain (Int z) (read_members u ms) later.0 (inr (z, refl)) later.1
plain_members u (Open x ∷ ms) h =
    let later = plain_members u ms (λ y i. h y (or_right (x == y) (has (open_ones ms) y) i)) in
    with_plain (u x) (read_members u ms) later.0 (h x (or_left (x == x) (has (open_ones ms) x) (eq-eqb x x refl))) later.1

no_members : (f : QueryFault) (ms : List Member) → Err f ≡ Ok ms → ⊥
no_members f ms e = cc

-- what stands before the rest of a list that reads
pub data Cell (ms : List Member) (l : Result (List Member) QueryFault) : Term → Type 0 where
  variable : (x : ℕ) (rest : List Member) → ms ≡ Open x ∷ rest → l ≡ Ok rest → Cell ms l (Var x)
  integer : (z : ℤ) (rest : List Member) → ms ≡ Known z ∷ rest → l ≡ Ok rest → Cell ms l (Int z)

pub with_member_back : (m : Member) (l : Result (List Member) QueryFault) (ms : List Member) → with_member m l ≡ Ok ms → (rest : List Member) × (ms ≡ m ∷ rest) × (l ≡ Ok rest)
with_member_back m (Err f) ms e = absurd (no_members f ms e)
with_member_back m (Ok rest) ms e = (rest, let h : ms ≡ m ∷ rest = cc in h, refl)

pub cell_of : (t : Term) (l : Result (List Member) QueryFault) (ms : List Member) → with_element t l ≡ Ok ms → Cell ms l t
cell_of (Var x) l ms e = let h = with_member_back (Open x) l ms e in variable x h.0 h.1 h.2
cell_of (Int z) l ms e = let h = with_member_back (Known z) l ms e in integer z h.0 h.1 h.2
cell_of (Atom a) l ms e = absurd (cc)
cell_of (Comp f ts) l ms e = absurd (cc)

if_members : (b : Bool) (l : Result (List Member) QueryFault) (f : QueryFault) (ms : List Member) → cond b l (Err f) ≡ Ok ms → (b ≡ true) × (l ≡ Ok ms)
if_members true l f ms e = (refl, e)
if_members false l f ms e = absurd (no_members f ms e)

module _ (u : Substitution) where
  cell_under : (ms : List Member) (l k : Result (List Member) QueryFault) (t : Term) → Cell ms l t
      → ((rest : List Member) → l ≡ Ok rest → k ≡ read_members u rest) → with_element (apply u t) k ≡ read_members u ms
  cell_under ms l k t (variable x rest e f) h = ap (with_element (u x)) (h rest f) ∙ ap (read_members u) (sym e)
  cell_under ms l k t (integer z rest e f) h = ap (with_element (Int z)) (h rest f) ∙ ap (read_members u) (sym e)

  -- where a list reads, so does it under u, as far as its members do
  pub list_under : (t : Term) (ms : List Member) → read_list t ≡ Ok ms → read_list (apply u t) ≡ read_members u ms
  list_under (Atom a) ms e = let h = if_members (bytes_eq a (codes "[]")) (Ok []) _ ms e in rw h.0 (let k : [] ≡ ms = (let g = h.1 in cc) in ap (read_members u) k)
  list_under (Comp f (term h (term t no_terms))) ms e =
      let g = if_members (bytes_eq f (codes ".")) (with_element h (read_list t)) _ ms e in
      rw g.0 (cell_under ms (read_list t) (read_list (apply u t)) h (cell_of h (read_list t) ms g.1) (λ rest k. list_under t rest k))
  list_under _ ms e = absurd (cc)
