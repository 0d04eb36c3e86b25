-- A labelling by other names of the open variables, which have the same values.
use Rattle.std.proofs.Common.{◌≡◌, ℕ, Bool, true, false, cond, ltb, ◌==◌, List, [], ◌∷◌, length, Option, Some, None, Result, Ok, Err, codes, refl, ap, sym, ◌∙◌}
use Rattle.std.proofs.Common.{eq-eqb, inl, inr}
use Rattle.std.proofs.lemmas.Bool.{or_cases, or_left, or_right}
use Rattle.std.specs.Str.{bytes_eq}
use Rattle.fd_model.specs.declared.kinds.Order.{Order}
use Rattle.fd_model.specs.declared.kinds.Order.TheVariants.{Leftmost, FirstFail}
use Rattle.fd_language.specs.Term.{Term, Var, Int, Atom, Comp, no_terms, term, Substitution, apply}
use Rattle.fd_model.specs.declared.kinds.QueryFault.{QueryFault}
use Rattle.fd_model.specs.declared.kinds.QueryFault.TheVariants.{BadType}
use Rattle.fd_model.specs.Linear.{of_both}
use Rattle.fd_language.specs.Family.{has}
use Rattle.fd_language.specs.Variables.{variables_of, variables_of_all}
use Rattle.fd_language.proofs.Lemmas.{two, first_member, in_left, in_right}
use Rattle.fd_model.proofs.Lemmas.{among_picked}
use Rattle.fd_model.specs.Members.{Member, Open, Known, as_member, prepend}
use Rattle.fd_model.specs.Labelling.{read_list, first_open, unless_fewer, fewest, open_ones, pick}
use Rattle.branch_meaning.specs.Labelling.{by_picked, by_listing, labels, labelled, rename_labelled}

abbrev pub rename_member : (ℕ → ℕ) → Member → Member
rename_member f (Open x) = Open (f x)
rename_member f (Known z) = Known z

abbrev pub rename_members : (ℕ → ℕ) → List Member → List Member
rename_members f [] = []
rename_members f (m ∷ ms) = rename_member f m ∷ rename_members f ms

abbrev pub rename_one : (ℕ → ℕ) → Result Member QueryFault → Result Member QueryFault
rename_one f (Err e) = Err e
rename_one f (Ok m) = Ok (rename_member f m)

abbrev pub rename_listing : (ℕ → ℕ) → Result (List Member) QueryFault → Result (List Member) QueryFault
rename_listing f (Err e) = Err e
rename_listing f (Ok ms) = Ok (rename_members f ms)

-- the open members stand among vs
abbrev pub AllIn : List ℕ → List Member → Type 0
AllIn vs ms = (y : ℕ) → has (open_ones ms) y ≡ true → has vs y ≡ true

abbrev pub ListedIn : List ℕ → Result (List Member) QueryFault → Type 0
ListedIn vs (Err e) = Unit {0}
ListedIn vs (Ok ms) = AllIn vs ms

listed_more : (vs ws : List ℕ) → ((y : ℕ) → has vs y ≡ true → has ws y ≡ true) → (l : Result (List Member) QueryFault) → ListedIn vs l → ListedIn ws l
listed_more vs ws h (Err e) i = tt
listed_more vs ws h (Ok ms) i = λ y c. h y (i y c)

both_in : (vs : List ℕ) (t : Term) → ((y : ℕ) → has (variables_of t) y ≡ true → has vs y ≡ true) → (l : Result (List Member) QueryFault) → ListedIn vs l
    → ListedIn vs (of_both prepend (as_member t) l)
both_in vs (Var x) h (Err e) i = tt
both_in vs (Var x) h (Ok ms) i = λ y c. elim (or_cases (x == y) (has (open_ones ms) y) c) [ inl e ↦ h y (or_left (x == y) false e) | inr e ↦ i y e ]
both_in vs (Int z) h (Err e) i = tt
both_in vs (Int z) h (Ok ms) i = i
both_in vs (Atom a) h l i = tt
both_in vs (Comp g ts) h l i = tt

by_name_in : (vs : List ℕ) (b : Bool) (l m : Result (List Member) QueryFault) → ListedIn vs l → ListedIn vs m → ListedIn vs (cond b l m)
by_name_in vs true l m i j = i
by_name_in vs false l m i j = j

pub list_in : (t : Term) → ListedIn (variables_of t) (read_list t)
list_in (Var x) = tt
list_in (Int z) = tt
list_in (Atom a) = by_name_in [] (bytes_eq a (codes "[]")) (Ok []) (Err BadType) (λ y c. c) tt
list_in (Comp g no_terms) = tt
list_in (Comp g (term t no_terms)) = tt
list_in (Comp g (term t (term r no_terms))) =
    let vs = variables_of_all (term t (term r no_terms)) in
    by_name_in vs (bytes_eq g (codes ".")) (of_both prepend (as_member t) (read_list r)) (Err BadType)
    (both_in vs t (λ y c. in_left (variables_of t) (variables_of_all (term r no_terms)) y c) (read_list r)
    (listed_more (variables_of r) vs (λ y c. in_right (variables_of t) (variables_of_all (term r no_terms)) y (in_left (variables_of r) [] y c))
    (read_list r) (list_in r)))
    tt
list_in (Comp g (term t (term r (term x xs)))) = tt

module _ (u : Substitution) (f : ℕ → ℕ) where
  abbrev Named : List ℕ → Type 0
  Named vs = (y : ℕ) → has vs y ≡ true → u y ≡ Var (f y)

  pub one_renamed : (t : Term) → Named (variables_of t) → as_member (apply u t) ≡ rename_one f (as_member t)
  one_renamed (Var x) h = ap as_member (h x (or_left (x == x) false (eq-eqb x x refl)))
  one_renamed (Int z) h = refl
  one_renamed (Atom a) h = refl
  one_renamed (Comp g ts) h = refl

  both_renamed : (m : Result Member QueryFault) (l : Result (List Member) QueryFault) → of_both prepend (rename_one f m) (rename_listing f l) ≡ rename_listing f (of_both prepend m l)
  both_renamed (Err e) l = refl
  both_renamed (Ok m) (Err e) = refl
  both_renamed (Ok m) (Ok ms) = refl

  by_name : (b : Bool) (l k m : Result (List Member) QueryFault) → l ≡ rename_listing f k → m ≡ rename_listing f m → cond b l m ≡ rename_listing f (cond b k m)
  by_name true l k m e i = e
  by_name false l k m e i = i

  pub list_renamed : (t : Term) → Named (variables_of t) → read_list (apply u t) ≡ rename_listing f (read_list t)
  list_renamed (Var x) h = ap read_list (h x (or_left (x == x) false (eq-eqb x x refl)))
  list_renamed (Int z) h = refl
  list_renamed (Atom a) h = by_name (bytes_eq a (codes "[]")) (Ok []) (Ok []) (Err BadType) refl refl
  list_renamed (Comp g no_terms) h = refl
  list_renamed (Comp g (term t no_terms)) h = refl
  list_renamed (Comp g (term t (term r no_terms))) h =
      by_name (bytes_eq g (codes ".")) (of_both prepend (as_member (apply u t)) (read_list (apply u r))) (of_both prepend (as_member t) (read_list r)) (Err BadType)
      (two (of_both prepend) (one_renamed t (λ y c. h y (in_left (variables_of t) (variables_of_all (term r no_terms)) y c)))
      (list_renamed r (λ y c. h y (in_right (variables_of t) (variables_of_all (term r no_terms)) y (in_left (variables_of r) [] y c))))
      ∙ both_renamed (as_member t) (read_list r))
      refl
  list_renamed (Comp g (term t (term r (term x xs)))) h = refl

  module _ (here there : ℕ → List ℕ) where
    abbrev Same : List Member → Type 0
    Same ms = (y : ℕ) → has (open_ones ms) y ≡ true → there (f y) ≡ here y

    first_renamed : (ms : List Member) → Same ms → by_picked there (first_open (rename_members f ms)) ≡ rename_labelled f (by_picked here (first_open ms))
    first_renamed [] h = refl
    first_renamed (Open x ∷ ms) h = ap (labels (f x)) (h x (first_member x (open_ones ms)))
    first_renamed (Known z ∷ ms) h = first_renamed ms h

    -- the picked member and its values
    Kept : Option ℕ → Option ℕ → Type 0
    Kept None None = Unit {0}
    Kept (Some x) (Some y) = (y ≡ f x) × (there y ≡ here x)
    Kept _ _ = ⊥

    fewest_kept : (ms : List Member) → Same ms → Kept (fewest here ms) (fewest there (rename_members f ms))
    unfolding Kept
    fewest_kept [] h = tt
    fewest_kept (Known z ∷ ms) h = fewest_kept ms h
    fewest_kept (Open x ∷ ms) h = by_rest (fewest here ms) (fewest there (rename_members f ms)) (fewest_kept ms (λ y c. h y (or_right (x == y) (has (open_ones ms) y) c)))
      where
        one : there (f x) ≡ here x
        one = h x (first_member x (open_ones ms))

        by_test : (b c : Bool) (y z : ℕ) → b ≡ c → (z ≡ f y) × (there z ≡ here y) → Kept (Some (cond b y x)) (Some (cond c z (f x)))
        by_test true true y z e k = k
        by_test false false y z e k = (refl, one)
        by_test true false y z e k = absurd (cc)
        by_test false true y z e k = absurd (cc)

        by_rest : (o k : Option ℕ) → Kept o k → Kept (Some (unless_fewer here x o)) (Some (unless_fewer there (f x) k))
        by_rest None None i = (refl, one)
        by_rest None (Some z) i = absurd i
        by_rest (Some y) None i = absurd i
        by_rest (Some y) (Some z) i = by_test (ltb (length (here y)) (length (here x))) (ltb (length (there z)) (length (there (f x)))) y z
            (two (λ a b. ltb (length a) (length b)) (sym i.1) (sym one)) i

    from_kept : (o k : Option ℕ) → Kept o k → by_picked there k ≡ rename_labelled f (by_picked here o)
    unfolding Kept
    from_kept None None i = refl
    from_kept None (Some z) i = absurd i
    from_kept (Some y) None i = absurd i
    from_kept (Some y) (Some z) i = two labels i.0 i.1

    members_renamed : (o : Order) (ms : List Member) → Same ms → by_picked there (pick o there (rename_members f ms)) ≡ rename_labelled f (by_picked here (pick o here ms))
    members_renamed Leftmost ms h = first_renamed ms h
    members_renamed FirstFail ms h = from_kept (fewest here ms) (fewest there (rename_members f ms)) (fewest_kept ms h)

    listing_renamed : (o : Order) (vs : List ℕ) → ((y : ℕ) → has vs y ≡ true → there (f y) ≡ here y) → (l : Result (List Member) QueryFault) → ListedIn vs l
        → by_listing o there (rename_listing f l) ≡ rename_labelled f (by_listing o here l)
    listing_renamed o vs h (Err e) i = refl
    listing_renamed o vs h (Ok ms) i = members_renamed o ms (λ y c. h y (i y c))

    -- a labelling of the renamed list picks the renamed variable, with the same values
    pub labelled_renamed : (o : Order) (t : Term) → Named (variables_of t) → ((y : ℕ) → has (variables_of t) y ≡ true → there (f y) ≡ here y)
        → labelled o there (apply u t) ≡ rename_labelled f (labelled o here t)
    labelled_renamed o t h i = ap (by_listing o there) (list_renamed t h) ∙ listing_renamed o (variables_of t) i (read_list t) (list_in t)

-- the picked variable stands in the list
from_listing : (o : Order) (values : ℕ → List ℕ) (vs : List ℕ) (l : Result (List Member) QueryFault) → ListedIn vs l → (x : ℕ) (ns : List ℕ)
    → by_listing o values l ≡ labels x ns → has vs x ≡ true
from_listing o values vs (Err e) i x ns h = absurd (cc)
from_listing o values vs (Ok ms) i x ns h = by_pick (pick o values ms) refl h
  where
    by_pick : (k : Option ℕ) → pick o values ms ≡ k → by_picked values k ≡ labels x ns → has vs x ≡ true
    by_pick None e g = absurd (cc)
    by_pick (Some y) e g = let same : y ≡ x = cc in i x (among_picked o values ms x (e ∙ ap Some same))

pub label_in : (o : Order) (values : ℕ → List ℕ) (t : Term) (x : ℕ) (ns : List ℕ) → labelled o values t ≡ labels x ns → has (variables_of t) x ≡ true
label_in o values t x ns e = from_listing o values (variables_of t) (read_list t) (list_in t) x ns e
