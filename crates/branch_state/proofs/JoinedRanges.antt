-- Ranges that are joined one after the other, where each variable that they name is linked in the end.
use Rattle.std.proofs.Common.{◌≡◌, ℕ, Bool, true, false, cond, List, [], ◌∷◌, ◌++◌, map, Option, Some, None, refl, ap, sym, ◌∙◌, subst, inl, inr, ◌⊎◌}
use Rattle.std.proofs.Common.{append-nil, append_assoc}
use Rattle.std.proofs.lemmas.Bool.{cases_Bool, true≢false}
use Rattle.std.proofs.lemmas.Option.{none-some}
use Rattle.fd_language.specs.Family.{has}
use Rattle.fd_language.specs.Range.{Indexical}
use Rattle.fd_language.specs.RangeRenaming.{rename_indexical}
use Rattle.fd_language.proofs.Lemmas.{has_either, in_left, in_right, reads_map}
use Rattle.fd_model.specs.ClosedFamilies.{constrained}
use Rattle.fd_model.proofs.Lemmas.{constrained_either, map_has}
use Rattle.branch_meaning.specs.Rows.{IsJoined, AreJoined}
use Rattle.branch_meaning.specs.Store.{names}
use Rattle.branch_meaning.proofs.Lemmas.{functions}

module _ (link last : ℕ → Option ℕ) (g : ℕ → ℕ) (keep : (c k : ℕ) → link c ≡ Some k → last c ≡ Some k) (one : (c d k : ℕ) → last c ≡ Some k → last d ≡ Some k → c ≡ d) where
  -- what is linked once these are named
  abbrev upto : List ℕ → ℕ → Option ℕ
  upto ds c = cond (has ds c) (last c) (link c)

  to_last : (ds : List ℕ) (c k : ℕ) → upto ds c ≡ Some k → last c ≡ Some k
  to_last ds c k e = by_test (has ds c) e where
    by_test : (b : Bool) → cond b (last c) (link c) ≡ Some k → last c ≡ Some k
    by_test true e = e
    by_test false e = keep c k e

  from_last : (ds : List ℕ) (c k : ℕ) → last c ≡ Some k → (has ds c ≡ true) ⊎ (link c ≡ Some k) → upto ds c ≡ Some k
  from_last ds c k e h = elim h [ inl i ↦ ap (λ b. cond b (last c) (link c)) i ∙ e | inr i ↦ by_test (has ds c) i ] where
    by_test : (b : Bool) → link c ≡ Some k → cond b (last c) (link c) ≡ Some k
    by_test true i = e
    by_test false i = i

  abbrev New : List ℕ → List Indexical → Type 0
  New ds qs = (c k : ℕ) → last c ≡ Some k → (link c ≡ Some k) ⊎ ((has ds c ≡ true) ⊎ (has (constrained qs) k ≡ false))

  step : (ds : List ℕ) (qs : List Indexical) (p : Indexical) → New ds qs → ((c : ℕ) → has (names p) c ≡ true → last c ≡ Some (g c)) → IsJoined (upto ds) qs p g (upto (names p ++ ds))
  step ds qs p new named = record {
    cell = λ c i. from_last (names p ++ ds) c (g c) (named c i) (inl (in_left (names p) ds c i));
    keep = λ c k e. stays c k (has ds c) refl e;
    fresh = λ c k e.
        let l = to_last (names p ++ ds) c k e in
        elim (new c k l) [
          | inl a ↦ inl (from_last ds c k l (inr a))
          | inr a ↦ elim a [
            | inl b ↦ inl (from_last ds c k l (inl b))
            | inr b ↦ elim (cases_Bool (has (names p) c)) [
              | inl i ↦ inr (i, b)
              | inr i ↦ inl (before c k l i e)
            ]
          ]
        ];
    one = λ c d k e f. one c d k (to_last (names p ++ ds) c k e) (to_last (names p ++ ds) d k f);
  } where
    stays : (c k : ℕ) (b : Bool) → has ds c ≡ b → cond b (last c) (link c) ≡ Some k → upto (names p ++ ds) c ≡ Some k
    stays c k true i e = from_last (names p ++ ds) c k e (inl (in_right (names p) ds c i))
    stays c k false i e = from_last (names p ++ ds) c k (keep c k e) (inr e)

    before : (c k : ℕ) → last c ≡ Some k → has (names p) c ≡ false → upto (names p ++ ds) c ≡ Some k → upto ds c ≡ Some k
    before c k l i e = by_test (has (names p ++ ds) c) refl e where
      by_test : (b : Bool) → has (names p ++ ds) c ≡ b → cond b (last c) (link c) ≡ Some k → upto ds c ≡ Some k
      by_test true j e = elim (has_either (names p) ds c j) [ inl m ↦ absurd (true≢false (sym m ∙ i)) | inr m ↦ from_last ds c k l (inl m) ]
      by_test false j e = from_last ds c k l (inr e)

  new_next : (ds : List ℕ) (qs : List Indexical) (p : Indexical) → New ds qs → ((c : ℕ) → has (names p) c ≡ true → last c ≡ Some (g c)) → New (names p ++ ds) (qs ++ rename_indexical g p ∷ [])
  new_next ds qs p new named c k l = elim (new c k l) [
    | inl a ↦ inl a
    | inr a ↦ elim a [
      | inl b ↦ inr (inl (in_right (names p) ds c b))
      | inr b ↦ elim (cases_Bool (has (names p) c)) [
        | inl i ↦ inr (inl (in_left (names p) ds c i))
        | inr i ↦ inr (inr (unnamed b i))
      ]
    ]
  ] where
    renamed : (k : ℕ) → has (constrained (rename_indexical g p ∷ [])) k ≡ true → (d : ℕ) × (has (names p) d ≡ true) × (g d ≡ k)
    renamed k e = map_has g (names p) k (subst (λ l. has l k ≡ true) (append-nil (names (rename_indexical g p)) ∙ ap (λ l. g p.target ∷ l) (reads_map g p.range)) e)

    unnamed : has (constrained qs) k ≡ false → has (names p) c ≡ false → has (constrained (qs ++ rename_indexical g p ∷ [])) k ≡ false
    unnamed b i = elim (cases_Bool (has (constrained (qs ++ rename_indexical g p ∷ [])) k)) [
      | inl e ↦ absurd (elim (constrained_either qs (rename_indexical g p ∷ []) k e) [
        | inl m ↦ true≢false (sym m ∙ b)
        | inr m ↦
            let d = renamed k m in
            let same : d.0 ≡ c = one d.0 c k (named d.0 d.1 ∙ ap Some d.2) l in
            true≢false (sym d.1 ∙ ap (has (names p)) same ∙ i)
      ])
      | inr e ↦ e
    ]

  -- all that is named then
  abbrev gathered : List ℕ → List Indexical → List ℕ
  gathered ds [] = ds
  gathered ds (p ∷ ps) = gathered (names p ++ ds) ps

  there : (ds : List ℕ) (ps : List Indexical) (c : ℕ) → (has ds c ≡ true) ⊎ (has (constrained ps) c ≡ true) → has (gathered ds ps) c ≡ true
  there ds [] c h = elim h [ inl i ↦ i | inr i ↦ absurd (true≢false (sym i)) ]
  there ds (p ∷ ps) c h = there (names p ++ ds) ps c (elim h [
    | inl i ↦ inl (in_right (names p) ds c i)
    | inr i ↦ elim (has_either (names p) (constrained ps) c i) [ inl j ↦ inl (in_left (names p) ds c j) | inr j ↦ inr j ]
  ])

  joined_from : (ds : List ℕ) (qs ps : List Indexical) → New ds qs → ((c : ℕ) → has (constrained ps) c ≡ true → last c ≡ Some (g c))
      → ((c : ℕ) → upto (gathered ds ps) c ≡ last c) → AreJoined (upto ds) qs ps last (qs ++ map (rename_indexical g) ps)
  joined_from ds qs [] new named all = (functions all, sym (append-nil qs))
  joined_from ds qs (p ∷ ps) new named all =
      let here : (c : ℕ) → has (names p) c ≡ true → last c ≡ Some (g c) = λ c i. named c (in_left (names p) (constrained ps) c i) in (
        g,
        upto (names p ++ ds),
        step ds qs p new here,
        subst (AreJoined (upto (names p ++ ds)) (qs ++ rename_indexical g p ∷ []) ps last) (append_assoc qs (rename_indexical g p ∷ []) (map (rename_indexical g) ps))
            (joined_from (names p ++ ds) (qs ++ rename_indexical g p ∷ []) ps (new_next ds qs p new here) (λ c i. named c (in_right (names p) (constrained ps) c i)) all),
      )

  -- Each variable that the ranges name is linked in the end, and g gives it its variable of the store. What is new is named, and its variable of the store
  -- wasn't.
  pub all_joined : (qs ps : List Indexical) → ((c : ℕ) → has (constrained ps) c ≡ true → last c ≡ Some (g c))
      → ((c k : ℕ) → last c ≡ Some k → (link c ≡ Some k) ⊎ ((has (constrained ps) c ≡ true) × (has (constrained qs) k ≡ false)))
      → AreJoined link qs ps last (qs ++ map (rename_indexical g) ps)
  all_joined qs ps named new = joined_from [] qs ps
      (λ c k e. elim (new c k e) [ inl a ↦ inl a | inr a ↦ inr (inr a.1) ])
      named
      (λ c. at_end c (last c) refl)
    where
      none : (c : ℕ) → last c ≡ None → (b : Bool) (o : Option ℕ) → link c ≡ o → cond b (last c) (link c) ≡ None
      none c e true o f = e
      none c e false None f = f
      none c e false (Some k) f = absurd (none-some k (sym e ∙ keep c k f))

      at_end : (c : ℕ) (o : Option ℕ) → last c ≡ o → upto (gathered [] ps) c ≡ last c
      at_end c None e = none c e (has (gathered [] ps) c) (link c) refl ∙ sym e
      at_end c (Some k) e = from_last (gathered [] ps) c k e (elim (new c k e) [ inl a ↦ inr a | inr a ↦ inl (there [] ps c (inr a.0)) ]) ∙ sym e
