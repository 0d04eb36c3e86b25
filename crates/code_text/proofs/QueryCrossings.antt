-- Queries that instructions leave or enter.
use Rattle.std.proofs.Common.{◌≡◌, ◌≢◌, ◌⊎◌, ℕ, suc, ◌<◌, ◌≤◌, true, false, List, length, Option, Some, None, refl, sym, ap, ◌∙◌, subst, inl, inr, arith}
use Rattle.std.proofs.lemmas.Bool.{cases_eq, cases_lt}
use Rattle.std.proofs.lemmas.Option.{slice_get_within}
use Rattle.wam_code.specs.declared.instruction.Code.{Code}
use Rattle.wam_code.specs.declared.instruction.Code.TheVariants.{AnswerNow, Proceed, Execute}
use Rattle.wam_code.specs.declared.parts.Entry.{Entry}
use Rattle.wam_code.specs.Area.{State, Span, Area, Holds, HasQuery, HasEntry}
use Rattle.wam_code.specs.VerifiedCode.{Names, Falls, IsIn, HoldsOne, goes_on}
use Rattle.code_text.specs.LocalConditions.{FitsAlone}
use Rattle.code_flow.specs.PlaceConditions.{FitsAt, IsSpan, FitsQuery}
use Rattle.code_text.specs.FaultPlaces.{IsTold}
use Rattle.code_text.specs.Owners.{owner_at, AreOwners, IsCrossing, IsOwnersPlace, IsOwnerTold, IsCrossed, leaves, AreCrossings}
use Rattle.code_text.proofs.PlaceOwners.{one_query}
use Rattle.code_text.proofs.FaultPlaces.{told_below}

module _ (a : Area) (own : List (Option ℕ)) (told : Option ℕ) (o : AreOwners a (length a.code) told own) where
  -- a place is in the query that owns it
  inside : (at n : ℕ) (q : Span) → HasQuery a n q → owner_at own at ≡ Some n → IsIn q at
  inside at n q hq e =
      let h = o.owner at n e in
      subst (λ (r : Span). IsIn r at) (one_query a n h.0 q h.1 hq) h.2

  -- and what isn't told owns its places
  owned : (at n : ℕ) (q : Span) → at < length a.code → HasQuery a n q → ¬ IsTold told q.at → IsIn q at → owner_at own at ≡ Some n
  owned at n q h hq never i = go (o.found at n q h hq i)
    where
      go : (owner_at own at ≡ Some n) ⊎ IsTold told q.at → owner_at own at ≡ Some n
      go (inl e) = e
      go (inr t) = absurd (never t)

  -- ---- what is told fails

  module _ (ss : List State) (p : ℕ) (never : ¬ IsTold told p) (fits : FitsAt a ss p) where
    fits_query : (n : ℕ) (q : Span) → HasQuery a n q → p ≡ q.at → FitsQuery a ss n q
    fits_query n q hq e = fits.queries n q hq (sym e)

    not_told : (q : Span) → p ≡ q.at → ¬ IsTold told q.at
    not_told q e t = never (subst (IsTold told) (sym e) t)

    pub leaving_fails : (at : ℕ) → HoldsOne a leaves at → IsOwnersPlace a (owner_at own at) p → ⊥
    leaving_fails at (i, h, t) (n, q, s, hq, e) = go i h t
      where
        span : IsSpan a q
        span = (fits_query n q hq e).span

        go : (i : Code) → Holds a at i → leaves i ≡ true → ⊥
        go Proceed h t = span.no_proceed at (inside at n q hq s) h
        go (Execute x) h t = span.no_execute at x (inside at n q hq s) h
        go i h t = cc (t)

    -- the query of the place that is gone from
    pub from_fails : (at to : ℕ) → Names a at to ⊎ Falls a at to → ¬ (owner_at own at ≡ owner_at own to) → IsOwnersPlace a (owner_at own at) p → ⊥
    from_fails at to step differ (n, q, s, hq, e) = go step
      where
        f : FitsQuery a ss n q
        f = fits_query n q hq e

        stay : IsIn q to → ⊥
        stay i =
            let within : q.end ≤ length a.code = f.span.within in
            differ (s ∙ sym (owned to n q (omega (arith, within, i.1)) hq (not_told q e) i))

        fall : Falls a at to → ⊥
        fall (i, h, g, z) = by (cases_lt (suc at) q.end)
          where
            in_at : IsIn q at
            in_at = inside at n q hq s

            by : (suc at < q.end) ⊎ (q.end ≤ suc at) → ⊥
            by (inl l) = stay (omega (arith, z, in_at.0), omega (arith, z, l))
            by (inr l) =
                let is : suc at ≡ q.end = omega (arith, l, in_at.1) in
                let last : Holds a at AnswerNow = f.span.last at is in
                let same : Some i ≡ Some AnswerNow = sym h ∙ last in
                let which : i ≡ AnswerNow = cc (same) in
                let never : false ≡ true = sym (ap goes_on which) ∙ g in
                cc (never)

        go : Names a at to ⊎ Falls a at to → ⊥
        go (inl x) = stay (f.span.stays at to (inside at n q hq s) x)
        go (inr x) = fall x

    -- the query of the place that is gone to
    pub into_fails : (at to : ℕ) → Names a at to ⊎ Falls a at to → ¬ (owner_at own at ≡ owner_at own to) → IsOwnersPlace a (owner_at own to) p → ⊥
    into_fails at to step differ (n, q, s, hq, e) = go step
      where
        f : FitsQuery a ss n q
        f = fits_query n q hq e

        out : (i : Code) → Holds a at i → IsIn q at → ⊥
        out i h x = differ (owned at n q (slice_get_within a.code at i h) hq (not_told q e) x ∙ sym s)

        go : Names a at to ⊎ Falls a at to → ⊥
        go (inl x) = f.span.not_named at to (out x.0 x.1) x (inside to n q hq s)
        go (inr x) = f.span.not_fallen at to (out x.0 x.1) x (inside to n q hq s)

    pub crossed_fails : (at to : ℕ) → Names a at to ⊎ Falls a at to → IsCrossed a own at to p → ⊥
    crossed_fails at to step (differ, side) = go side
      where
        go : IsOwnersPlace a (owner_at own at) p ⊎ IsOwnersPlace a (owner_at own to) p → ⊥
        go (inl x) = from_fails at to step differ x
        go (inr x) = into_fails at to step differ x

    pub entry_fails : (k : ℕ) (e : Entry) → HasEntry a k e → IsOwnersPlace a (owner_at own e.at) p → ⊥
    entry_fails k e he (n, q, s, hq, z) = (fits_query n q hq z).span.no_entry k e he (inside e.at n q hq s)

  -- ---- what isn't told fits

  module _ (ss : List State) (steps : (at : ℕ) → at < length a.code → AreCrossings a own told at) (entries : (k : ℕ) (e : Entry) → HasEntry a k e
      → IsOwnerTold a (owner_at own e.at) told) (n : ℕ) (q : Span) (hq : HasQuery a n q) (never : ¬ IsTold told q.at) (alone : FitsAlone a ss q) where
    low : (at : ℕ) → IsIn q at → at < length a.code
    low at i = let within = alone.within in omega (arith, within, i.1)

    own_it : (at : ℕ) → IsIn q at → owner_at own at ≡ Some n
    own_it at i = owned at n q (low at i) hq never i

    goes_to : (at to : ℕ) → IsCrossing a own told at to → owner_at own at ≡ Some n → IsIn q to
    goes_to at to c e = go (owner_at own to) refl
      where
        go : (x : Option ℕ) → owner_at own to ≡ x → IsIn q to
        go None z = absurd (never (c.from n q hq e (λ f. (let g : None ≡ Some n = sym z ∙ f in cc (g)))))
        go (Some m) z = by (cases_eq m n)
          where
            by : (m ≡ n) ⊎ (m ≢ n) → IsIn q to
            by (inl s) = inside to n q hq (z ∙ ap (λ k. Some k) s)
            by (inr s) = absurd (never (c.from n q hq e (λ f. (let g : Some m ≡ Some n = sym z ∙ f in s (cc (g))))))

    comes_from : (at to : ℕ) → IsCrossing a own told at to → ¬ IsIn q at → ¬ IsIn q to
    comes_from at to c out i = never (c.into n q hq (by_low i) (λ e. out (inside at n q hq e)))
      where
        by_low : IsIn q to → owner_at own to ≡ Some n
        by_low i = own_it to i

    apart_from : (m at : ℕ) (p : Span) → HasQuery a m p → IsIn q at → IsIn p at → n ≡ m
    apart_from m at p hp i j = go (o.found at m p (low at i) hp j)
      where
        -- one that is told begins in the query, which is not told
        go : (owner_at own at ≡ Some m) ⊎ IsTold told p.at → n ≡ m
        go (inl e) = let f : Some n ≡ Some m = sym (own_it at i) ∙ e in cc (f)
        go (inr t) = by (cases_lt q.at p.at)
          where
            by : (q.at < p.at) ⊎ (p.at ≤ q.at) → n ≡ m
            by (inr l) = absurd (never (told_below told p.at q.at l t))
            by (inl l) =
                let inner : IsIn q p.at = (omega (arith, l), omega (arith, i.1, j.0)) in
                let g = o.first m p hp (omega (arith, j.0, j.1)) (low p.at inner) in
                let e : Some n ≡ Some g.0 = sym (own_it p.at inner) ∙ g.1 in
                let s : n ≡ g.0 = cc (e) in
                let r = g.2 in
                let one : r.0 ≡ q = one_query a n r.0 q (subst (λ k. HasQuery a k r.0) (sym s) r.1) hq in
                absurd (let z : q.at ≡ p.at = sym (ap (λ (x : Span). x.at) one) ∙ r.2 in let y : ⊥ = omega (arith, z, l) in y)

    pub query_fits : FitsQuery a ss n q
    query_fits = record {
      begins = alone.begins;
      span = record {
        some = alone.some;
        within = alone.within;
        last = alone.last;
        no_proceed = λ at i h. never ((steps at (low at i)).leaving (Proceed, h, refl) n q (own_it at i) hq);
        no_execute = λ at e i h. never ((steps at (low at i)).leaving (Execute e, h, refl) n q (own_it at i) hq);
        no_entry = λ k e he i. never (entries k e he n q (own_it e.at i) hq);
        stays = λ at to i x. goes_to at to ((steps at (low at i)).names to x) (own_it at i);
        not_named = λ at to out x. comes_from at to ((steps at (slice_get_within a.code at x.0 x.1)).names to x) out;
        not_fallen = λ at to out x. comes_from at to ((steps at (slice_get_within a.code at x.0 x.1)).falls to x) out;
      };
      apart = apart_from;
      names = alone.names;
    }
