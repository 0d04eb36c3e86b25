-- The arguments of a range, slot by slot, and the range that they make of it.
use Rattle.std.proofs.Common.{◌≡◌, ℕ, zero, suc, ◌+◌, ◌<◌, Bool, true, false, cond, not, ◌||◌, ◌==◌, nat_eq, ℤ, List, [], ◌∷◌, length, map, get_or, Option}
use Rattle.std.proofs.Common.{Some, None, refl, ap, sym, ◌∙◌, subst, inl, inr, arith, eqb-true, eq-eqb, IsTrue}
use Rattle.std.specs.List.{position_or_len}
use Rattle.std.proofs.lemmas.Bool.{cases_Bool, or_cases, or_left, or_right, true≢false}
use Rattle.std.proofs.Math.Numerals.{one-add}
use Rattle.fd_model.specs.declared.kinds.QueryFault.{QueryFault}
use Rattle.fd_model.specs.declared.kinds.QueryFault.TheVariants.{Parameter}
use Rattle.fd_language.specs.declared.range_node.Need.{Need}
use Rattle.fd_language.specs.Family.{has}
use Rattle.fd_language.specs.Lists.{Each}
use Rattle.fd_language.specs.Range.{Range, Number, Min, Max, Val, Role, a_parameter, a_min, a_max, a_val, a_dom, is_parameter_role, params}
use Rattle.fd_language.specs.RangeRenaming.{renaming, rename_range}
use Rattle.fd_language.specs.Check.{filling, fill_range}
use Rattle.fd_language.specs.Term.{Substitution}
use Rattle.fd_language.specs.Needs.{meets, need_of}
use Rattle.fd_language.specs.Occurrences.{Occurrence, range_occurrences}
use Rattle.fd_language.proofs.Lemmas.{Agree, both_new, new_twice, occurrences_agree}
use Rattle.range_code.specs.declared.frame.Arg.{Arg}
use Rattle.range_code.specs.Slots.{slots_of, slot_of, slot_needs, need_at}
use Rattle.range_code.specs.Frames.{IsArg, AreArgs, arg_at, variable_of, arg_integer, slot_variable, slot_integer, posted}
use Rattle.range_code.proofs.Lemmas.{has_once}
use Rattle.fd_model.specs.Posting.{or_later}
use Rattle.fd_model.specs.Posting as seen
use Rattle.branch_state.specs.CellVariables.{slots_open}
use Rattle.branch_state.specs.StoreVariables.{offence, first_in, StandsIn, AllStand}
use Rattle.branch_state.proofs.Occurrences.{AreSettled, variables}

pub none_both : (a b : Option QueryFault) → or_later a b ≡ None → (a ≡ None) × (b ≡ None)
none_both (Some x) b h = absurd (cc)
none_both None b h = (refl, h)

-- two ways to fill and rename a range, which agree at its occurrences
module _ (f g : ℕ → ℕ) (p q : ℕ → ℤ) where
  abbrev pub Agrees : Occurrence → Type 0
  Agrees x = (x.parameter ≡ true → p x.variable ≡ q x.variable) × (x.parameter ≡ false → f x.variable ≡ g x.variable)

  pub range_same : (r : Range) → Each Agrees (range_occurrences r) → rename_range f (fill_range p r) ≡ rename_range g (fill_range q r)
  range_same r h =
      new_twice (renaming f) (filling p) r
      ∙ occurrences_agree (both_new (renaming f) (filling p)) (both_new (renaming g) (filling q)) Agrees by_role r h
      ∙ sym (new_twice (renaming g) (filling q) r)
    where
      by_role : (k : Role) (y : ℕ) → Agrees (record { variable = y; parameter = is_parameter_role k }) → Agree (both_new (renaming f) (filling p)) (both_new (renaming g) (filling q)) k y
      by_role a_parameter y e = ap Number (e.0 refl)
      by_role a_min y e = ap Min (e.1 refl)
      by_role a_max y e = ap Max (e.1 refl)
      by_role a_val y e = ap Val (e.1 refl)
      by_role a_dom y e = e.1 refl

-- the place of a member
first_place : (xs : List ℕ) (y : ℕ) (d : ℕ) → has xs y ≡ true → (position_or_len (nat_eq y) xs < length xs) × (get_or xs (position_or_len (nat_eq y) xs) d ≡ y)
first_place [] y d h = absurd (true≢false (sym h))
first_place (x ∷ xs) y d h = elim (cases_Bool (nat_eq y x)) [
  | inl e ↦
      let i : position_or_len (nat_eq y) (x ∷ xs) ≡ 0 = ap (λ c. cond (not c) (1 + position_or_len (nat_eq y) xs) 0) e in
      (subst (λ n. n < suc (length xs)) (sym i) (omega arith), ap (λ n. get_or (x ∷ xs) n d) i ∙ sym (eqb-true y x e))
  | inr e ↦
      let i : position_or_len (nat_eq y) (x ∷ xs) ≡ suc (position_or_len (nat_eq y) xs) = ap (λ c. cond (not c) (1 + position_or_len (nat_eq y) xs) 0) e ∙ one-add (position_or_len (nat_eq y) xs) in
      let k = first_place xs y d (later x y xs e h) in
      (subst (λ n. n < suc (length xs)) (sym i) (let l = k.0 in omega (arith, l)), ap (λ n. get_or (x ∷ xs) n d) i ∙ k.1)
] where
  later : (x y : ℕ) (xs : List ℕ) → nat_eq y x ≡ false → ((x == y) || has xs y) ≡ true → has xs y ≡ true
  later x y xs e h = elim (or_cases (x == y) (has xs y) h) [ inl i ↦ absurd (true≢false (sym (eq-eqb y x (sym (eqb-true x y i))) ∙ e)) | inr i ↦ i ]

stands_at : (s : Substitution) (of : ℕ → ℕ) (need : ℕ → Option Need) (ys : List ℕ) (as' : List Arg) → AllStand s of ys (map need ys) as' → (i d : ℕ)
    → i < length ys → StandsIn s of (get_or ys i d) (need (get_or ys i d)) (arg_at as' i)
stands_at s of need [] as' h i d l = absurd (omega (arith, l))
stands_at s of need (y ∷ ys) [] h i d l = absurd h
stands_at s of need (y ∷ ys) (a ∷ as') h zero d l = h.0
stands_at s of need (y ∷ ys) (a ∷ as') h (suc i) d l = stands_at s of need ys as' h.1 i d (omega (arith, l))

module _ (s : Substitution) (of : ℕ → ℕ) (r : Range) (as' : List Arg) (stand : AllStand s of (slots_of r) (slot_needs r) as') where
  at_variable : (y : ℕ) → has (slots_of r) y ≡ true → StandsIn s of y (need_at r y) (arg_at as' (slot_of r y))
  at_variable y h =
      let i = first_place (slots_of r) y 0 h in
      subst (λ x. StandsIn s of x (need_at r x) (arg_at as' (slot_of r y))) i.1 (stands_at s of (need_at r) (slots_of r) as' stand (slot_of r y) 0 i.0)

  by_parameter : (y : ℕ) → has (params r) y ≡ true → StandsIn s of y (need_at r y) (arg_at as' (slot_of r y)) → slot_integer as' (slot_of r y) ≡ seen.integer_of (s y)
  by_parameter y h t =
      let k : StandsIn s of y (Some (need_of r y)) (arg_at as' (slot_of r y)) = subst (λ n. StandsIn s of y n (arg_at as' (slot_of r y))) (ap (λ b. cond b (Some (need_of r y)) None) h) t in
      ap arg_integer k.2 ∙ sym (ap seen.integer_of k.1)

  by_cell : (y : ℕ) → has (params r) y ≡ false → StandsIn s of y (need_at r y) (arg_at as' (slot_of r y)) → slot_variable as' (slot_of r y) ≡ of y
  by_cell y h t =
      let k : StandsIn s of y None (arg_at as' (slot_of r y)) = subst (λ n. StandsIn s of y n (arg_at as' (slot_of r y))) (ap (λ b. cond b (Some (need_of r y)) None) h) t in
      ap variable_of k

  each_agrees : (qs : List Occurrence) → AreSettled (params r) qs → ((y : ℕ) → has (variables qs) y ≡ true → has (slots_of r) y ≡ true)
      → Each (Agrees (λ y. slot_variable as' (slot_of r y)) of (λ y. slot_integer as' (slot_of r y)) (λ y. seen.integer_of (s y))) qs
  each_agrees [] h k = tt
  each_agrees (x ∷ qs) h k = (
    (
      λ e. by_parameter x.variable (sym h.0 ∙ e) (at_variable x.variable (k x.variable (here x.variable (variables qs)))),
      λ e. by_cell x.variable (sym h.0 ∙ e) (at_variable x.variable (k x.variable (here x.variable (variables qs)))),
    ),
    each_agrees qs h.1 (λ y l. k y (or_right (x.variable == y) (has (variables qs) y) l)),
  ) where
    here : (x : ℕ) (xs : List ℕ) → has (x ∷ xs) x ≡ true
    here x xs = or_left (x == x) (has xs x) (eq-eqb x x refl)

  -- the range that these arguments make
  pub posted_is : AreSettled (params r) (range_occurrences r) → posted r as' ≡ rename_range of (fill_range (λ y. seen.integer_of (s y)) r)
  posted_is h = range_same (λ y. slot_variable as' (slot_of r y)) of (λ y. slot_integer as' (slot_of r y)) (λ y. seen.integer_of (s y)) r
      (each_agrees (range_occurrences r) h (λ y k. has_once (variables (range_occurrences r)) y ∙ k))

-- they are arguments of the range, where no parameter offends
pub are_args : (count : ℕ) (s : Substitution) (of : ℕ → ℕ) (ys : List ℕ) (ns : List (Option Need)) (as' : List Arg) → AllStand s of ys ns as'
    → first_in s ys ns ≡ None → ((y : ℕ) → has (slots_open ys ns) y ≡ true → offence None (s y) ≡ None → of y < count) → AreArgs count ns as'
are_args count s of [] [] [] h e l = tt
are_args count s of [] [] (a ∷ as') h e l = absurd h
are_args count s of [] (n ∷ ns) as' h e l = absurd h
are_args count s of (y ∷ ys) [] as' h e l = absurd h
are_args count s of (y ∷ ys) (n ∷ ns) [] h e l = absurd h
are_args count s of (y ∷ ys) (None ∷ ns) (a ∷ as') h e l =
    let t = none_both (offence None (s y)) (first_in s ys ns) e in (
      subst (IsArg count None) (sym h.0) (l y (or_left (y == y) (has (slots_open ys ns) y) (eq-eqb y y refl)) t.0),
      are_args count s of ys ns as' h.1 t.1 (λ z k. l z (or_right (y == z) (has (slots_open ys ns) z) k)),
    )
are_args count s of (y ∷ ys) (Some need ∷ ns) (a ∷ as') h e l =
    let t = none_both (offence (Some need) (s y)) (first_in s ys ns) e in
    (subst (IsArg count (Some need)) (sym h.0.2) (meets_it need h.0.0 (meets need h.0.0) refl (sym (ap (offence (Some need)) h.0.1) ∙ t.0)), are_args count s of ys ns as' h.1 t.1 l)
  where
    meets_it : (need : Need) (z : ℤ) (b : Bool) → meets need z ≡ b → cond b None (Some Parameter) ≡ None → IsTrue (meets need z)
    meets_it need z true e h = e
    meets_it need z false e h = absurd (cc)
