-- The events of a flat query are the lines of its assignments.
use Rattle.std.proofs.Common.{◌≡◌, ℕ, ◌<◌, true, ◌==◌, List, [], ◌∷◌, ◌++◌, map, refl, ap, sym, ◌∙◌, subst, inl, inr, eqb-true}
use Rattle.std.proofs.lemmas.Bool.{or_cases, true≢false}
use Rattle.fd_language.specs.Family.{has}
use Rattle.fd_model.specs.Goal.{Goal, Event, Answer, End}
use Rattle.fd_model.specs.RunnablePrograms.{NumbersBelow}
use Rattle.fd_model.specs.Labelling.{open_ones}
use Rattle.fd_language.specs.Lists.{Each}
use Rattle.fd_model.specs.Answers.{answers, EndsWith, Somewhere, InOrder, Comes, EachShows}
use Rattle.fd_model.specs.Satisfaction.{Assignment}
use Rattle.fd_model.specs.FlatLines.{IsAssigned, assigned_line, IsSatisfying, FlatEvents}
use Rattle.fd_model.proofs.Events.{lines_shown}
use Rattle.fd_model.proofs.FlatQueries.{answers_of, lines}

-- what holds of what a function makes
module _ {X Y : Type 0} (f : X → Y) where
  each_mapped : (H : Y → Type 0) (xs : List X) → Each H (map f xs) → Each (λ x. H (f x)) xs
  each_mapped H [] h = tt
  each_mapped H (x ∷ xs) h = (h.0, each_mapped H xs h.1)

  some_mapped : (H : Y → Type 0) (xs : List X) → Somewhere H (map f xs) → Somewhere (λ x. H (f x)) xs
  some_mapped H [] h = h
  some_mapped H (x ∷ xs) (inl h) = inl h
  some_mapped H (x ∷ xs) (inr h) = inr (some_mapped H xs h)

  order_mapped : (R : Y → Y → Type 0) (xs : List X) → InOrder R (map f xs) → InOrder (λ x y. R (f x) (f y)) xs
  order_mapped R [] h = tt
  order_mapped R (x ∷ xs) h = (each_mapped (R (f x)) xs h.0, order_mapped R xs h.1)

  map_map : {Z : Type 0} (g : Y → Z) (xs : List X) → map g (map f xs) ≡ map (λ x. g (f x)) xs
  map_map g [] = refl
  map_map g (x ∷ xs) = ap (λ l. g (f x) ∷ l) (map_map g xs)

ends_there : (e d : Event) (xs : List Event) → d ≡ e → EndsWith e (xs ++ d ∷ [])
ends_there e d [] h = h
ends_there e d (x ∷ []) h = h
ends_there e d (x ∷ y ∷ xs) h = ends_there e d (y ∷ xs) h

numbers_below : (n : ℕ) (xs : List ℕ) (x : ℕ) → NumbersBelow n xs → has xs x ≡ true → x < n
numbers_below n [] x h i = absurd (true≢false (sym i))
numbers_below n (y ∷ xs) x h i = elim (or_cases (y == x) (has xs x) i) [ inl e ↦ subst (λ z. z < n) (eqb-true y x e) h.0 | inr e ↦ numbers_below n xs x h.1 e ]

-- the assignments of lists of values
assigned : (M N : ℕ) (gs : List Goal) (vs : List ℕ) (nss : List (List ℕ)) → Each (IsAssigned M N gs vs) nss
    → (found : List Assignment) × (map (λ a. map a vs) found ≡ nss) × Each (IsSatisfying M N gs) found
assigned M N gs vs [] h = ([], refl, tt)
assigned M N gs vs (ns ∷ nss) h =
    let later = assigned M N gs vs nss h.1 in
    let one = h.0 in
    (one.0 ∷ later.0, let e = sym one.3 in let more = later.1 in cc, (record { bounded = one.1; each = one.2 }, later.2))

pub flat_events : FlatEvents
flat_events M N prog q n k es r gs o ms positive within scoped shown_below f run =
    let vs = open_ones ms in
    let values : Assignment → List ℕ = λ a. map a vs in
    let a = answers_of M N positive within prog q gs o ms f scoped n k es r run in
    let l = lines M N positive within prog q gs o ms f scoped n k es r run in
    let c = assigned M N gs vs a.values a.allowed in
    let shown : EachShows M N vs (answers run) (map values c.0) = subst (EachShows M N vs (answers run)) (sym c.1) a.shown in
    let texts : l.lines ≡ map (assigned_line q) c.0 = lines_shown M N q vs (λ v h. f.every v (numbers_below q.variables q.shown v shown_below h)) (answers run) l.lines c.0 l.each shown in
    let sorted : InOrder (Comes o) (map values c.0) = subst (InOrder (Comes o)) (sym c.1) a.order in
    record {
      found = c.0;
      last = l.last;
      events = l.events ∙ ap (λ ds. map Answer ds ++ l.last ∷ []) texts ∙ ap (λ ds. ds ++ l.last ∷ []) (map_map (assigned_line q) Answer c.0);
      ends = l.ends;
      satisfy = c.2;
      order = order_mapped values (Comes o) c.0 sorted;
      missing = λ d h. elim (a.missing (values d) (d, h.bounded, h.each, refl)) [
        | inl i ↦ inl (some_mapped values (λ ns. ns ≡ values d) c.0 (subst (Somewhere (λ ns. ns ≡ values d)) (sym c.1) i))
        | inr i ↦ inr (each_mapped values (λ ns. Comes o ns (values d)) c.0 (subst (Each (λ ns. Comes o ns (values d))) (sym c.1) i))
      ];
      complete = λ e d h.
          some_mapped values (λ ns. ns ≡ values d) c.0 (subst (Somewhere (λ ns. ns ≡ values d)) (sym c.1)
          (a.complete (subst (EndsWith End) (sym l.events) (ends_there End l.last (map Answer l.lines) e)) (values d) (d, h.bounded, h.each, refl)));
    }
