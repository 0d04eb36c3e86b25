-- Members of a list where some of its variables are bound to integers, and what is picked of members that are alike.
use Rattle.std.proofs.Common.{◌≡◌, ◌⊎◌, ℕ, ◌==◌, Bool, true, false, cond, ltb, ℤ, List, [], ◌∷◌, map, length, Option, Some, None, Result, Ok, Err, codes, refl}
use Rattle.std.proofs.Common.{ap, sym, ◌∙◌, subst, inl, inr, eq-eqb}
use Rattle.std.proofs.lemmas.Bool.{or_left, or_right}
use Rattle.std.specs.Str.{bytes_eq}
use Rattle.fd_language.specs.Family.{Family, has}
use Rattle.fd_language.specs.Term.{Term, Var, Int, Atom, Comp, no_terms, term, Substitution, apply}
use Rattle.fd_language.proofs.Lemmas.{two}
use Rattle.fd_model.specs.declared.kinds.Order.{Order}
use Rattle.fd_model.specs.declared.kinds.Order.TheVariants.{Leftmost, FirstFail}
use Rattle.fd_model.specs.declared.kinds.QueryFault.{QueryFault}
use Rattle.fd_model.specs.declared.kinds.QueryFault.TheVariants.{BadType}
use Rattle.fd_model.specs.Labelling.{read_list, first_open, unless_fewer, fewest, pick, open_ones}
use Rattle.fd_model.specs.Linear.{of_both}
use Rattle.fd_model.specs.Members.{Member, Open, Known, as_member, prepend}
use Rattle.fd_model.specs.PostedLeaves.{seen_in}
use Rattle.sought_leaves.specs.LeafSearch.{owned}

-- ---- read where variables are bound

-- a variable or an integer as a member
abbrev pub as_one : Term → Member
as_one (Var d) = Open d
as_one (Int z) = Known z
as_one t = Open 0

abbrev pub under : Substitution → Member → Member
under w (Open c) = as_one (w c)
under w (Known z) = Known z

-- each variable stays, or is an integer
abbrev pub IsPlain : Substitution → Type 0
IsPlain w = (c : ℕ) → (w c ≡ Var c) ⊎ ((z : ℤ) × (w c ≡ Int z))

plain_member : (c : ℕ) (t : Term) → (t ≡ Var c) ⊎ ((z : ℤ) × (t ≡ Int z)) → as_member t ≡ Ok (as_one t)
plain_member c t (inl e) = ap as_member e ∙ ap (λ u. Ok (as_one u)) (sym e)
plain_member c t (inr e) = ap as_member e.1 ∙ ap (λ u. Ok (as_one u)) (sym e.1)

pub member_under : (w : Substitution) → IsPlain w → (t : Term) (x : Member) → as_member t ≡ Ok x → as_member (apply w t) ≡ Ok (under w x)
member_under w p (Var c) x e = let same : Open c ≡ x = cc in subst (λ y. as_member (w c) ≡ Ok (under w y)) same (plain_member c (w c) (p c))
member_under w p (Int z) x e = let same : Known z ≡ x = cc in subst (λ y. as_member (Int z) ≡ Ok (under w y)) same refl
member_under w p (Atom a) x e = absurd (cc)
member_under w p (Comp f ts) x e = absurd (cc)

-- the first element, and the list behind it
pub list_parts : (b : Bool) (m : Result Member QueryFault) (l : Result (List Member) QueryFault) (ms : List Member) → cond b (of_both prepend m l) (Err BadType) ≡ Ok ms
    → (x : Member) × (xs : List Member) × (b ≡ true) × (m ≡ Ok x) × (l ≡ Ok xs) × (ms ≡ x ∷ xs)
list_parts false m l ms e = absurd (cc)
list_parts true (Err f) l ms e = absurd (cc)
list_parts true (Ok x) (Err f) ms e = absurd (cc)
list_parts true (Ok x) (Ok xs) ms e = (x, xs, refl, refl, refl, (cc))

pub list_under : (w : Substitution) → IsPlain w → (t : Term) (ms : List Member) → read_list t ≡ Ok ms → read_list (apply w t) ≡ Ok (map (under w) ms)
list_under w p (Var c) ms e = absurd (cc)
list_under w p (Int z) ms e = absurd (cc)
list_under w p (Atom a) ms e = at_end (bytes_eq a (codes "[]")) e
  where
    at_end : (b : Bool) → ◌≡◌ {A = Result (List Member) QueryFault} (cond b (Ok []) (Err BadType)) (Ok ms)
        → ◌≡◌ {A = Result (List Member) QueryFault} (cond b (Ok []) (Err BadType)) (Ok (map (under w) ms))
    at_end true i = let same : [] ≡ ms = cc in subst (λ l. ◌≡◌ {A = Result (List Member) QueryFault} (Ok []) (Ok (map (under w) l))) same refl
    at_end false i = absurd (cc)
list_under w p (Comp f no_terms) ms e = absurd (cc)
list_under w p (Comp f (term a no_terms)) ms e = absurd (cc)
list_under w p (Comp f (term a (term t no_terms))) ms e =
    let k = list_parts (bytes_eq f (codes ".")) (as_member a) (read_list t) ms e in
    ap (λ b. cond b (of_both prepend (as_member (apply w a)) (read_list (apply w t))) (Err BadType)) k.2
    ∙ two (of_both prepend) (member_under w p a k.0 k.3) (list_under w p t k.1 k.4)
    ∙ ap (λ l. Ok (map (under w) l)) (sym k.5)
list_under w p (Comp f (term a (term t (term u us)))) ms e = absurd (cc)

-- ---- members that are alike

module _ (here : ℕ → List ℕ) (there : Family) (Is : ℕ → ℕ → Type 0) (same : (c k : ℕ) → Is c k → here c ≡ there k) where
  abbrev pub Alike : Member → Member → Type 0
  Alike (Known z) (Known y) = z ≡ y
  Alike (Open c) (Open k) = Is c k
  Alike _ _ = ⊥

  abbrev pub AreAlike : List Member → List Member → Type 0
  AreAlike [] [] = Unit {0}
  AreAlike (m ∷ ms) (k ∷ ks) = Alike m k × AreAlike ms ks
  AreAlike _ _ = ⊥

  abbrev pub SamePick : Option ℕ → Option ℕ → Type 0
  SamePick None None = Unit {0}
  SamePick (Some c) (Some k) = Is c k
  SamePick _ _ = ⊥

  first_alike : (ms ks : List Member) → AreAlike ms ks → SamePick (first_open ms) (first_open ks)
  first_alike [] [] a = tt
  first_alike [] (k ∷ ks) a = absurd a
  first_alike (m ∷ ms) [] a = absurd a
  first_alike (Known z ∷ ms) (Known y ∷ ks) a = first_alike ms ks a.1
  first_alike (Known z ∷ ms) (Open k ∷ ks) a = absurd a.0
  first_alike (Open c ∷ ms) (Known y ∷ ks) a = absurd a.0
  first_alike (Open c ∷ ms) (Open k ∷ ks) a = a.0

  fewest_alike : (ms ks : List Member) → AreAlike ms ks → SamePick (fewest here ms) (fewest there ks)
  fewest_alike [] [] a = tt
  fewest_alike [] (k ∷ ks) a = absurd a
  fewest_alike (m ∷ ms) [] a = absurd a
  fewest_alike (Known z ∷ ms) (Known y ∷ ks) a = fewest_alike ms ks a.1
  fewest_alike (Known z ∷ ms) (Open k ∷ ks) a = absurd a.0
  fewest_alike (Open c ∷ ms) (Known y ∷ ks) a = absurd a.0
  fewest_alike (Open c ∷ ms) (Open k ∷ ks) a = by_rest (fewest here ms) (fewest there ks) (fewest_alike ms ks a.1)
    where
      by_test : (p q : Bool) (d j : ℕ) → p ≡ q → Is d j → SamePick (Some (cond p d c)) (Some (cond q j k))
      by_test true true d j e i = i
      by_test false false d j e i = a.0
      by_test true false d j e i = absurd (cc)
      by_test false true d j e i = absurd (cc)

      by_rest : (p q : Option ℕ) → SamePick p q → SamePick (Some (unless_fewer here c p)) (Some (unless_fewer there k q))
      by_rest None None i = a.0
      by_rest None (Some j) i = absurd i
      by_rest (Some d) None i = absurd i
      by_rest (Some d) (Some j) i = by_test (ltb (length (here d)) (length (here c))) (ltb (length (there j)) (length (there k))) d j
          (two (λ x y. ltb (length x) (length y)) (same d j i) (same c k a.0)) i

  -- The same is picked of members that are alike.
  pub pick_alike : (o : Order) (ms ks : List Member) → AreAlike ms ks → SamePick (pick o here ms) (pick o there ks)
  pick_alike Leftmost ms ks a = first_alike ms ks a
  pick_alike FirstFail ms ks a = fewest_alike ms ks a

  pub none_alike : (p q : Option ℕ) → SamePick p q → q ≡ None → p ≡ None
  none_alike None None a e = refl
  none_alike None (Some k) a e = absurd a
  none_alike (Some c) None a e = absurd a
  none_alike (Some c) (Some k) a e = absurd (cc)

  pub some_alike : (p q : Option ℕ) (k : ℕ) → SamePick p q → q ≡ Some k → (c : ℕ) × (p ≡ Some c) × Is c k
  some_alike None None k a e = absurd (cc)
  some_alike None (Some j) k a e = absurd a
  some_alike (Some c) None k a e = absurd a
  some_alike (Some c) (Some j) k a e = (c, refl, (let i : j ≡ k = cc in subst (Is c) i a))

  -- Members as a heap and as a store show them are alike where each open one is.
  pub shown_alike : (w : Substitution) (own : ℕ → ℕ) (ms : List Member) → ((c : ℕ) → has (open_ones ms) c ≡ true → Alike (as_one (w c)) (seen_in there (Open (own c))))
      → AreAlike (map (under w) ms) (map (seen_in there) (map (owned own) ms))
  shown_alike w own [] a = tt
  shown_alike w own (Known z ∷ ms) a = (refl, shown_alike w own ms a)
  shown_alike w own (Open c ∷ ms) a = (a c (or_left (c == c) (has (open_ones ms) c) (eq-eqb c c refl)), shown_alike w own ms (λ d i. a d (or_right (c == d) (has (open_ones ms) d) i)))
