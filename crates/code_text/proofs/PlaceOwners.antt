-- The query that each place is in.
use Rattle.std.proofs.Common.{◌≡◌, ◌≢◌, ◌⊎◌, ℕ, zero, suc, ◌+◌, ◌-◌, ◌<◌, ◌≤◌, List, [], ◌∷◌, ◌++◌, map, set, length, replicate, get_or, slice_get, Option}
use Rattle.std.proofs.Common.{Some, None, option_map, refl, sym, ap, ◌∙◌, subst, inl, inr, arith, length-append}
use Rattle.std.proofs.lemmas.List.{length-map, get_or_append_left, get_or-append_right, get_or-set_same, get_or-set_other, get_or_past}
use Rattle.std.proofs.lemmas.Option.{slice_get-map, slice_get_read, slice_get_within}
use Rattle.std.proofs.lemmas.Bool.{cases_eq, cases_order}
use Rattle.wam_code.specs.declared.parts.QueryEntry.{QueryEntry}
use Rattle.wam_code.specs.Area.{State, Span, Area, HasQuery, span_of}
use Rattle.wam_code.specs.VerifiedCode.{IsIn}
use Rattle.code_flow.specs.PlaceConditions.{FitsAt}
use Rattle.code_text.specs.FaultPlaces.{IsTold, Tells}
use Rattle.code_text.specs.Owners.{owner_at, BeginsAt, AreBegins, AreOwners, GoesOn, IsOwnersPlace, IsOwnerTold}
use Rattle.code_text.proofs.FaultPlaces.{tells_as}

-- ---- queries by their numbers

pub has_query : (qs : List QueryEntry) (n : ℕ) (q : QueryEntry) → n < length qs → q ≡ get_or qs n q → slice_get (map span_of qs) n ≡ Some (span_of q)
has_query qs n q h e = slice_get-map span_of qs n ∙ ap (option_map span_of) (slice_get_read qs (length qs) n q refl h e)

pub query_within : (a : Area) (n : ℕ) (q : Span) → HasQuery a n q → n < length a.queries
query_within a n q h = slice_get_within a.queries n q h

-- there is one with a number
pub one_query : (a : Area) (n : ℕ) (p q : Span) → HasQuery a n p → HasQuery a n q → p ≡ q
one_query a n p q h g = let e : Some p ≡ Some q = sym h ∙ g in cc (e)

some_is : {A : Type 0} (o : Option A) (x y : A) → o ≡ Some x → o ≡ Some y → x ≡ y
some_is o x y e f = let g : Some x ≡ Some y = sym e ∙ f in cc (g)

none_is : {A : Type 0} (o : Option A) (x : A) → o ≡ None → o ≡ Some x → ⊥
none_is o x e f = let g : None ≡ Some x = sym e ∙ f in absurd (cc (g))

-- what isn't free is a query's
pub taken : (o : Option ℕ) → ¬ (o ≡ None) → (m : ℕ) × (o ≡ Some m)
taken None never = absurd (never refl)
taken (Some m) never = (m, refl)

-- ---- where queries begin

pub no_begins : (a : Area) (told : Option ℕ) (count : ℕ) → AreBegins a 0 told (replicate count None)
no_begins a told count = record {
  begin = λ p n e. absurd (none_is (owner_at (replicate count None) p) n (nowhere p) e);
  found = λ n q h. absurd (let z : ⊥ = omega (arith, h) in z);
  some = λ n q h. absurd (let z : ⊥ = omega (arith, h) in z);
}
  where
    nowhere : (p : ℕ) → owner_at (replicate count None) p ≡ None
    nowhere p = go count p
      where
        go : (c p : ℕ) → owner_at (replicate c None) p ≡ None
        go zero p = refl
        go (suc c) zero = refl
        go (suc c) (suc p) = go c p

-- A query that isn't there, or that is empty or behind the code, adds nothing.
pub begins_skip : (a : Area) (k : ℕ) (told : Option ℕ) (begins : List (Option ℕ)) → ((q : Span) → HasQuery a k q → q.at < q.end → q.at < length a.code → ⊥)
    → AreBegins a k told begins → AreBegins a (k + 1) told begins
begins_skip a k told begins never b = record {
  begin = λ p n e. (let f = b.begin p n e in (omega (arith, f.0), f.1));
  found = λ n q h hq s w. (let l : n < k = below n q h hq s w in b.found n q l hq s w);
  some = λ n q h hq s w. (let l : n < k = below n q h hq s w in b.some n q l hq s w);
}
  where
    below : (n : ℕ) (q : Span) → n < k + 1 → HasQuery a n q → q.at < q.end → q.at < length a.code → n < k
    below n q h hq s w = omega (arith, h, other)
      where
        other : n ≢ k
        other e = never q (subst (λ m. HasQuery a m q) e hq) s w

-- The begin of the query is noted where none was.
module _ (a : Area) (k : ℕ) (told : Option ℕ) (begins : List (Option ℕ)) (q : Span) (hq : HasQuery a k q) (some : q.at < q.end) (within : q.at < length begins)
    (size : length begins ≡ length a.code) (b : AreBegins a k told begins) where
  is_new : (r : Span) → HasQuery a k r → r ≡ q
  is_new r h = one_query a k r q h hq

  at_new : owner_at (set begins q.at (Some k)) q.at ≡ Some k
  at_new = get_or-set_same begins q.at (Some k) None within

  at_other : (p : ℕ) → p ≢ q.at → owner_at (set begins q.at (Some k)) p ≡ owner_at begins p
  at_other p h = get_or-set_other begins q.at p (Some k) None h

  pub begins_put : owner_at begins q.at ≡ None → AreBegins a (k + 1) told (set begins q.at (Some k))
  begins_put free = record { begin = begin; found = found; some = some_there }
    where
      by : (p : ℕ) → (p ≡ q.at) ⊎ (p ≢ q.at)
      by p = cases_eq p q.at

      begin : (p n : ℕ) → owner_at (set begins q.at (Some k)) p ≡ Some n → (n < k + 1) × BeginsAt a n p
      begin p n e = go (by p)
        where
          go : (p ≡ q.at) ⊎ (p ≢ q.at) → (n < k + 1) × BeginsAt a n p
          go (inl f) =
              let is : n ≡ k = some_is (owner_at (set begins q.at (Some k)) q.at) n k (subst (λ x. owner_at (set begins q.at (Some k)) x ≡ Some n) f e) at_new in
              (omega (arith, is), (q, subst (λ m. HasQuery a m q) (sym is) hq, sym f, some))
          go (inr f) = let g = b.begin p n (sym (at_other p f) ∙ e) in (omega (arith, g.0), g.1)

      -- another place's begin stays
      found : (n : ℕ) (r : Span) → n < k + 1 → HasQuery a n r → r.at < r.end → r.at < length a.code → (owner_at (set begins q.at (Some k)) r.at ≡ Some n) ⊎ IsTold told r.at
      found n r h hr s w = go (cases_eq n k)
        where
          old : n < k → (r.at ≡ q.at) ⊎ (r.at ≢ q.at) → (owner_at (set begins q.at (Some k)) r.at ≡ Some n) ⊎ IsTold told r.at
          old l (inl f) = absurd (let g = b.some n r l hr s w in none_is (owner_at begins q.at) g.0 free (subst (λ x. owner_at begins x ≡ Some g.0) f g.1))
          old l (inr f) = kept (b.found n r l hr s w)
            where
              kept : (owner_at begins r.at ≡ Some n) ⊎ IsTold told r.at → (owner_at (set begins q.at (Some k)) r.at ≡ Some n) ⊎ IsTold told r.at
              kept (inl e) = inl (at_other r.at f ∙ e)
              kept (inr t) = inr t

          go : (n ≡ k) ⊎ (n ≢ k) → (owner_at (set begins q.at (Some k)) r.at ≡ Some n) ⊎ IsTold told r.at
          go (inl e) =
              let is : r ≡ q = is_new r (subst (λ m. HasQuery a m r) e hr) in
              inl (ap (λ (x : Span). owner_at (set begins q.at (Some k)) x.at) is ∙ at_new ∙ ap (λ m. Some m) (sym e))
          go (inr e) = old (omega (arith, h, e)) (by r.at)

      some_there : (n : ℕ) (r : Span) → n < k + 1 → HasQuery a n r → r.at < r.end → r.at < length a.code → (m : ℕ) × (owner_at (set begins q.at (Some k)) r.at ≡ Some m)
      some_there n r h hr s w = go (by r.at)
        where
          go : (r.at ≡ q.at) ⊎ (r.at ≢ q.at) → (m : ℕ) × (owner_at (set begins q.at (Some k)) r.at ≡ Some m)
          go (inl f) = (k, ap (owner_at (set begins q.at (Some k))) f ∙ at_new)
          go (inr f) = old (cases_eq n k)
            where
              old : (n ≡ k) ⊎ (n ≢ k) → (m : ℕ) × (owner_at (set begins q.at (Some k)) r.at ≡ Some m)
              old (inl e) = absurd (f (ap (λ (x : Span). x.at) (is_new r (subst (λ m. HasQuery a m r) e hr))))
              old (inr e) = let g = b.some n r (omega (arith, h, e)) hr s w in (g.0, at_other r.at f ∙ g.1)

  -- Where one begins there already, both are in the place.
  module _ (m : ℕ) (there : owner_at begins q.at ≡ Some m) where
    pub begins_told : (new : Option ℕ) → IsTold new q.at → ((p : ℕ) → IsTold told p → IsTold new p) → AreBegins a (k + 1) new begins
    begins_told new here kept = record {
      begin = λ p n e. (let f = b.begin p n e in (omega (arith, f.0), f.1));
      found = found;
      some = some_there;
    }
      where
        found : (n : ℕ) (r : Span) → n < k + 1 → HasQuery a n r → r.at < r.end → r.at < length a.code → (owner_at begins r.at ≡ Some n) ⊎ IsTold new r.at
        found n r h hr s w = go (cases_eq n k)
          where
            go : (n ≡ k) ⊎ (n ≢ k) → (owner_at begins r.at ≡ Some n) ⊎ IsTold new r.at
            go (inl e) = inr (subst (λ (x : Span). IsTold new x.at) (sym (is_new r (subst (λ m. HasQuery a m r) e hr))) here)
            go (inr e) = more (b.found n r (omega (arith, h, e)) hr s w)
              where
                more : (owner_at begins r.at ≡ Some n) ⊎ IsTold told r.at → (owner_at begins r.at ≡ Some n) ⊎ IsTold new r.at
                more (inl f) = inl f
                more (inr t) = inr (kept r.at t)

        some_there : (n : ℕ) (r : Span) → n < k + 1 → HasQuery a n r → r.at < r.end → r.at < length a.code → (m : ℕ) × (owner_at begins r.at ≡ Some m)
        some_there n r h hr s w = go (cases_eq n k)
          where
            go : (n ≡ k) ⊎ (n ≢ k) → (m : ℕ) × (owner_at begins r.at ≡ Some m)
            go (inl e) = (m, ap (λ (x : Span). owner_at begins x.at) (is_new r (subst (λ m. HasQuery a m r) e hr)) ∙ there)
            go (inr e) = b.some n r (omega (arith, h, e)) hr s w

    -- so they aren't apart
    pub begins_clash : (ss : List State) → ¬ FitsAt a ss q.at
    begins_clash ss f =
        let g = b.begin q.at m there in
        let r = g.1.0 in
        let same : k ≡ m = (f.queries k q hq refl).apart m q.at r g.1.1 (omega arith, some) (omega (arith, g.1.2), omega (arith, g.1.2, g.1.3)) in
        omega (arith, same, g.0)

-- ---- place by place

-- What is told more is told of these too.
pub begins_kept : (a : Area) (k : ℕ) (old new : Option ℕ) (begins : List (Option ℕ)) → ((p : ℕ) → IsTold old p → IsTold new p) → AreBegins a k old begins → AreBegins a k new begins
begins_kept a k old new begins kept b = record { begin = b.begin; found = λ n q h hq s w. go n q (b.found n q h hq s w); some = b.some }
  where
    go : (n : ℕ) (q : Span) → (owner_at begins q.at ≡ Some n) ⊎ IsTold old q.at → (owner_at begins q.at ≡ Some n) ⊎ IsTold new q.at
    go n q (inl e) = inl e
    go n q (inr t) = inr (kept q.at t)

pub owners_kept : (a : Area) (k : ℕ) (old new : Option ℕ) (own : List (Option ℕ)) → ((p : ℕ) → IsTold old p → IsTold new p) → AreOwners a k old own → AreOwners a k new own
owners_kept a k old new own kept o = record { owner = o.owner; found = λ p n q h hq i. go p n q (o.found p n q h hq i); first = o.first }
  where
    go : (p n : ℕ) (q : Span) → (owner_at own p ≡ Some n) ⊎ IsTold old q.at → (owner_at own p ≡ Some n) ⊎ IsTold new q.at
    go p n q (inl e) = inl e
    go p n q (inr t) = inr (kept q.at t)

pub no_owner : (a : Area) (told : Option ℕ) → AreOwners a 0 told []
no_owner a told = record {
  owner = λ p n e. absurd (none_is (owner_at [] p) n refl e);
  found = λ p n q h. absurd (let z : ⊥ = omega (arith, h) in z);
  first = λ n q h s l. absurd (let z : ⊥ = omega (arith, l) in z);
}

-- the owner of the place before
pub record IsBefore (own : List (Option ℕ)) (at : ℕ) (last : Option ℕ) : Type 0 where
  pub none : at ≡ 0 → last ≡ None
  pub some : (p : ℕ) → at ≡ suc p → last ≡ owner_at own p

module _ (a : Area) (told new : Option ℕ) (begins own : List (Option ℕ)) (last stays x : Option ℕ) (at : ℕ) where
  -- what was found for the place
  pub record IsFound : Type 0 where
    pub begun : (n : ℕ) → owner_at begins at ≡ Some n → x ≡ Some n
    pub stayed : owner_at begins at ≡ None → x ≡ stays
    pub tells : (n : ℕ) → owner_at begins at ≡ Some n → IsOwnerTold a stays new
    pub kept : (p : ℕ) → IsTold told p → IsTold new p

  module _ (size : length own ≡ at) (there : at < length a.code) (b : AreBegins a (length a.queries) told begins) (o : AreOwners a at told own)
      (l : IsBefore own at last) (g : GoesOn a last at stays) (f : IsFound) where
    at_old : (p : ℕ) → p < at → owner_at (own ++ x ∷ []) p ≡ owner_at own p
    at_old p h = get_or_append_left own (x ∷ []) None p (omega (arith, h, size))

    new_at : owner_at (own ++ x ∷ []) at ≡ x
    new_at = get_or-append_right own (x ∷ []) at at None size (omega arith) ∙ ap (λ k. get_or (x ∷ []) k None) (let z : at - at ≡ 0 = omega arith in z)

    past : (p : ℕ) → at < p → owner_at (own ++ x ∷ []) p ≡ None
    past p h = get_or_past (own ++ x ∷ []) p None (omega (arith, h, size, length-append own (x ∷ [])))

    -- the place before is in the query that goes on
    pub goes_from : (n : ℕ) → stays ≡ Some n → (q : Span) × HasQuery a n q × (q.at < at) × (at < q.end)
    goes_from n e = go at refl
      where
        s : (q : Span) × (last ≡ Some n) × HasQuery a n q × (at < q.end)
        s = g.query n e

        go : (k : ℕ) → at ≡ k → (q : Span) × HasQuery a n q × (q.at < at) × (at < q.end)
        go zero z = absurd (none_is last n (l.none z) s.1)
        go (suc p) z =
            let h = o.owner p n (sym (l.some p z) ∙ s.1) in
            let same : s.0 ≡ h.0 = one_query a n s.0 h.0 s.2 h.1 in
            (s.0, s.2, subst (λ (r : Span). r.at < at) (sym same) (omega (arith, z, h.2)), s.3)

    begin_is : (o : Option ℕ) → owner_at begins at ≡ o → (x ≡ stays) ⊎ ((n : ℕ) × (owner_at begins at ≡ Some n) × (x ≡ Some n))
    begin_is None e = inl (f.stayed e)
    begin_is (Some n) e = inr (n, e, f.begun n e)

    owner_new : (n : ℕ) → x ≡ Some n → (q : Span) × HasQuery a n q × IsIn q at
    owner_new n e = go (begin_is (owner_at begins at) refl)
      where
        go : (x ≡ stays) ⊎ ((m : ℕ) × (owner_at begins at ≡ Some m) × (x ≡ Some m)) → (q : Span) × HasQuery a n q × IsIn q at
        go (inl s) = let h = goes_from n (sym s ∙ e) in (h.0, h.1, (omega (arith, h.2), h.3))
        go (inr (m, bm, xm)) =
            let is : m ≡ n = some_is x m n xm e in
            let h = (b.begin at m bm).1 in
            (h.0, subst (λ k. HasQuery a k h.0) is h.1, (omega (arith, h.2), omega (arith, h.2, h.3)))

    found_new : (n : ℕ) (q : Span) → HasQuery a n q → IsIn q at → (x ≡ Some n) ⊎ IsTold new q.at
    found_new n q hq i = go (cases_eq q.at at)
      where
        begun : (owner_at begins q.at ≡ Some n) ⊎ IsTold told q.at → q.at ≡ at → (x ≡ Some n) ⊎ IsTold new q.at
        begun (inl e) z = inl (f.begun n (ap (owner_at begins) (sym z) ∙ e))
        begun (inr t) z = inr (f.kept q.at t)

        stay : (k : ℕ) → at ≡ k → q.at < at → (x ≡ Some n) ⊎ IsTold new q.at
        stay zero z h = absurd (let y : ⊥ = omega (arith, z, h) in y)
        stay (suc p) z h = on (o.found p n q (omega (arith, z)) hq (omega (arith, z, h), omega (arith, z, i.1)))
          where
            on : (owner_at own p ≡ Some n) ⊎ IsTold told q.at → (x ≡ Some n) ⊎ IsTold new q.at
            on (inr t) = inr (f.kept q.at t)
            on (inl e) = at_last (g.found n q (l.some p z ∙ e) hq i.1) (begin_is (owner_at begins at) refl)
              where
                at_last : stays ≡ Some n → (x ≡ stays) ⊎ ((m : ℕ) × (owner_at begins at ≡ Some m) × (x ≡ Some m)) → (x ≡ Some n) ⊎ IsTold new q.at
                at_last s (inl y) = inl (y ∙ s)
                at_last s (inr (m, bm, xm)) = inr (f.tells m bm n q s hq)

        go : (q.at ≡ at) ⊎ (q.at ≢ at) → (x ≡ Some n) ⊎ IsTold new q.at
        go (inl z) = begun (b.found n q (query_within a n q hq) hq (omega (arith, i.0, i.1, z)) (omega (arith, z, there))) z
        go (inr z) = stay at refl (omega (arith, i.0, z))

    first_new : (n : ℕ) (q : Span) → HasQuery a n q → q.at < q.end → q.at ≡ at → (m : ℕ) × (x ≡ Some m) × BeginsAt a m at
    first_new n q hq s z =
        let h = b.some n q (query_within a n q hq) hq s (omega (arith, z, there)) in
        let e : owner_at begins at ≡ Some h.0 = ap (owner_at begins) (sym z) ∙ h.1 in
        (h.0, f.begun h.0 e, (b.begin at h.0 e).1)

    pub owners_step : AreOwners a (at + 1) new (own ++ x ∷ [])
    owners_step = record { owner = owner; found = found; first = first }
      where
        owner : (p n : ℕ) → owner_at (own ++ x ∷ []) p ≡ Some n → (q : Span) × HasQuery a n q × IsIn q p
        owner p n e = go (cases_order p at)
          where
            go : (p ≡ at) ⊎ ((p < at) ⊎ (at < p)) → (q : Span) × HasQuery a n q × IsIn q p
            go (inl z) =
                let h = owner_new n (sym new_at ∙ ap (owner_at (own ++ x ∷ [])) (sym z) ∙ e) in
                (h.0, h.1, subst (IsIn h.0) (sym z) h.2)
            go (inr (inl h)) = o.owner p n (sym (at_old p h) ∙ e)
            go (inr (inr h)) = absurd (none_is (owner_at (own ++ x ∷ []) p) n (past p h) e)

        found : (p n : ℕ) (q : Span) → p < at + 1 → HasQuery a n q → IsIn q p → (owner_at (own ++ x ∷ []) p ≡ Some n) ⊎ IsTold new q.at
        found p n q h hq i = go (cases_eq p at)
          where
            new_place : (x ≡ Some n) ⊎ IsTold new q.at → p ≡ at → (owner_at (own ++ x ∷ []) p ≡ Some n) ⊎ IsTold new q.at
            new_place (inl e) z = inl (ap (owner_at (own ++ x ∷ [])) z ∙ new_at ∙ e)
            new_place (inr t) z = inr t

            old_place : p < at → (owner_at own p ≡ Some n) ⊎ IsTold told q.at → (owner_at (own ++ x ∷ []) p ≡ Some n) ⊎ IsTold new q.at
            old_place l (inl e) = inl (at_old p l ∙ e)
            old_place l (inr t) = inr (f.kept q.at t)

            go : (p ≡ at) ⊎ (p ≢ at) → (owner_at (own ++ x ∷ []) p ≡ Some n) ⊎ IsTold new q.at
            go (inl z) = new_place (found_new n q hq (subst (IsIn q) z i)) z
            go (inr z) = let l : p < at = omega (arith, h, z) in old_place l (o.found p n q l hq i)

        first : (n : ℕ) (q : Span) → HasQuery a n q → q.at < q.end → q.at < at + 1 → (m : ℕ) × (owner_at (own ++ x ∷ []) q.at ≡ Some m) × BeginsAt a m q.at
        first n q hq s h = go (cases_eq q.at at)
          where
            go : (q.at ≡ at) ⊎ (q.at ≢ at) → (m : ℕ) × (owner_at (own ++ x ∷ []) q.at ≡ Some m) × BeginsAt a m q.at
            go (inl z) = let g = first_new n q hq s z in (g.0, ap (owner_at (own ++ x ∷ [])) z ∙ new_at ∙ g.1, subst (BeginsAt a g.0) (sym z) g.2)
            go (inr z) = let l : q.at < at = omega (arith, h, z) in let g = o.first n q hq s l in (g.0, at_old q.at l ∙ g.1, g.2)

    pub before_step : IsBefore (own ++ x ∷ []) (at + 1) x
    before_step = record { none = λ e. absurd (let z : ⊥ = omega (arith, e) in z); some = λ p e. sym (ap (owner_at (own ++ x ∷ [])) (let z : p ≡ at = omega (arith, e) in z) ∙ new_at) }

    -- what is told newly overlaps with the query that begins here
    pub owner_clash : (ss : List State) (p : ℕ) → ((n : ℕ) × (owner_at begins at ≡ Some n)) × IsOwnersPlace a stays p → ¬ FitsAt a ss p
    owner_clash ss p ((m, bm), (n, q, s, hq, e)) fits =
        let h = goes_from n s in
        let r = (b.begin at m bm).1 in
        let is : h.0 ≡ q = one_query a n h.0 q h.1 hq in
        let here : IsIn h.0 at = (omega (arith, h.2), h.3) in
        let inside : IsIn q at = subst (λ (y : Span). IsIn y at) is here in
        let same : n ≡ m = (fits.queries n q hq (sym e)).apart m at r.0 r.1 inside (omega (arith, r.2), omega (arith, r.2, r.3)) in
        let one : r.0 ≡ h.0 = one_query a n r.0 h.0 (subst (λ k. HasQuery a k r.0) (sym same) r.1) h.1 in
        let low : r.0.at < at = subst (λ (y : Span). y.at < at) (sym one) h.2 in
        omega (arith, low, r.2)

-- ---- the owner of a place is told

pub no_query : (qs : List QueryEntry) (n : ℕ) → length qs ≤ n → (q : Span) → slice_get (map span_of qs) n ≡ Some q → ⊥
no_query qs n h q e = omega (arith, h, slice_get_within (map span_of qs) n q e, length-map qs span_of)

-- a query that has no place, and one that begins behind the code
pub empty_query : (a : Area) (n : ℕ) (p : Span) → HasQuery a n p → p.end ≤ p.at → (q : Span) → HasQuery a n q → q.at < q.end → q.at < length a.code → ⊥
empty_query a n p h l q g s w = let e = subst (λ (x : Span). x.end ≤ x.at) (one_query a n p q h g) l in omega (arith, e, s)

pub late_query : (a : Area) (n : ℕ) (p : Span) → HasQuery a n p → length a.code ≤ p.at → (q : Span) → HasQuery a n q → q.at < q.end → q.at < length a.code → ⊥
late_query a n p h l q g s w = let e = subst (λ (x : Span). length a.code ≤ x.at) (one_query a n p q h g) l in omega (arith, e, w)

pub number_told : (a : Area) (n : ℕ) (q : Span) (new : Option ℕ) → HasQuery a n q → IsTold new q.at → (r : Span) → HasQuery a n r → IsTold new r.at
number_told a n q new h t r g = subst (λ (x : Span). IsTold new x.at) (one_query a n q r h g) t

pub number_tells : (a : Area) (n : ℕ) (q : Span) (old new : Option ℕ) → HasQuery a n q → Tells (λ p. p ≡ q.at) old new → Tells (λ p. (r : Span) × HasQuery a n r × (p ≡ r.at)) old new
number_tells a n q old new h t = tells_as (λ p. p ≡ q.at) (λ p. (r : Span) × HasQuery a n r × (p ≡ r.at)) old new (λ p z. (q, h, z)) t

pub owner_none : (a : Area) (owner told : Option ℕ) → owner ≡ None → IsOwnerTold a owner told
owner_none a owner told e n q f h = absurd (none_is owner n e f)

pub owner_told : (a : Area) (owner : Option ℕ) (n : ℕ) (new : Option ℕ) → owner ≡ Some n → ((q : Span) → HasQuery a n q → IsTold new q.at) → IsOwnerTold a owner new
owner_told a owner n new e t m q f h = t q (subst (λ k. HasQuery a k q) (some_is owner m n f e) h)

pub owner_tells : (a : Area) (owner : Option ℕ) (n : ℕ) (old new : Option ℕ) → owner ≡ Some n → Tells (λ p. (q : Span) × HasQuery a n q × (p ≡ q.at)) old new → Tells (IsOwnersPlace a owner) old new
owner_tells a owner n old new e t = tells_as (λ p. (q : Span) × HasQuery a n q × (p ≡ q.at)) (IsOwnersPlace a owner) old new (λ p (q, h, z). (n, q, e, h, z)) t

-- ---- the query that goes on

module _ (a : Area) (last : Option ℕ) (at : ℕ) where
  pub goes_none : last ≡ None → GoesOn a last at None
  goes_none e = record { query = λ n f. absurd (let g : None ≡ Some n = f in cc (g)); found = λ n q f h l. absurd (none_is last n e f) }

  module _ (n : ℕ) (e : last ≡ Some n) where
    is_last : (m : ℕ) → last ≡ Some m → n ≡ m
    is_last m f = some_is last n m e f

    pub goes_unknown : ((q : Span) → HasQuery a n q → ⊥) → GoesOn a last at None
    goes_unknown never = record { query = λ m f. absurd (let g : None ≡ Some m = f in cc (g)); found = λ m q f h l. absurd (never q (subst (λ k. HasQuery a k q) (sym (is_last m f)) h)) }

    module _ (q : Span) (h : HasQuery a n q) where
      is_query : (m : ℕ) (r : Span) → last ≡ Some m → HasQuery a m r → q ≡ r
      is_query m r f g = one_query a n q r h (subst (λ k. HasQuery a k r) (sym (is_last m f)) g)

      pub goes_end : q.end ≤ at → GoesOn a last at None
      goes_end l = record {
        query = λ m f. absurd (let g : None ≡ Some m = f in
            cc (g));
        found = λ m r f g low. absurd (let k = subst (λ (x : Span). x.end ≤ at) (is_query m r f g) l in let z : ⊥ = omega (arith, k, low) in z);
      }

      pub goes_far : at < q.end → GoesOn a last at (Some n)
      goes_far l = record { query = λ m f. query m (cc (f)); found = λ m r f g low. ap (λ k. Some k) (is_last m f) }
        where
          query : (m : ℕ) → n ≡ m → (r : Span) × (last ≡ Some m) × HasQuery a m r × (at < r.end)
          query m z = (q, e ∙ ap (λ k. Some k) z, subst (λ k. HasQuery a k q) z h, l)
