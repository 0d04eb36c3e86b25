-- Ranges where each variable has its one value.
use Rattle.std.proofs.Common.{◌≡◌, ℕ, ◌≤◌, Bool, true, false, List, [], ◌∷◌, ◌++◌, refl, sym, ◌∙◌, arith}
use Rattle.std.specs.List.{list_any}
use Rattle.std.specs.Cmp.{both_ways}
use Rattle.fd_language.specs.Family.{has, universe}
use Rattle.fd_language.specs.Range.{Range, Indexical, in_range, in_set, set_of, reads, vals, is_none_left, is_several}
use Rattle.fd_model.specs.ClosedFamilies.{AllPosted}
use Rattle.fd_language.proofs.Lemmas.{has-filter, has-filter_back, in_universe}
use Rattle.fd_model.specs.Satisfaction.{Assignment, singles}

-- numbers up to N are in the universe
pub up_to : (M N : ℕ) → N ≤ M → (b : Assignment) → ((v : ℕ) → b v ≤ N) → (v : ℕ) → b v ≤ M
up_to M N h b small v = let s = small v in omega arith

never : (f : ℕ → Bool) → ((y : ℕ) → f y ≡ false) → (xs : List ℕ) → list_any f xs ≡ false
never f h [] = refl
never f h (x ∷ xs) = rw (h x, never f h xs) refl

module _ (M : ℕ) (b : Assignment) where
  in_singles : (r : Range) (n : ℕ) → in_set M (singles b) r n ≡ in_range M (singles b) r n
  in_singles r n = rw (never (λ y. is_none_left (singles b y)) (λ y. refl) (reads r), never (λ y. is_several (singles b y)) (λ y. refl) (vals r)) refl

  -- where nothing else than the range itself decides
  pub set_singles : (r : Range) (n : ℕ) → n ≤ M → has (set_of M (singles b) r) n ≡ in_range M (singles b) r n
  set_singles r n h = both_ways (has (set_of M (singles b) r) n) (in_range M (singles b) r n)
      (λ e. sym (in_singles r n) ∙ (has-filter_back (in_set M (singles b) r) (universe M) n e).1)
      (λ e. has-filter (in_set M (singles b) r) (universe M) n (in_universe M n h) (in_singles r n ∙ e))

  -- the target of each range lies in it
  abbrev pub Inside : List Indexical → Type 0
  Inside ps = AllPosted (λ p. has (set_of M (singles b) p.range) (b p.target) ≡ true) ps

  pub inside_append : (ps qs : List Indexical) → Inside ps → Inside qs → Inside (ps ++ qs)
  inside_append [] qs h g = g
  inside_append (p ∷ ps) qs h g = (h.0, inside_append ps qs h.1 g)

  pub inside_left : (ps qs : List Indexical) → Inside (ps ++ qs) → Inside ps
  inside_left [] qs h = tt
  inside_left (p ∷ ps) qs h = (h.0, inside_left ps qs h.1)

  pub inside_right : (ps qs : List Indexical) → Inside (ps ++ qs) → Inside qs
  inside_right [] qs h = h
  inside_right (p ∷ ps) qs h = inside_right ps qs h.1
