-- The sums of a comparison that is told, one by one.
use Rattle.std.proofs.Common.{◌≡◌, ℕ, suc, ◌≤◌, ◌<◌, true, ℤ, pos, negsuc, ◌+ℤ◌, ◌-ℤ◌, neg_ℤ, List, [], ◌∷◌, ◌++◌, refl, subst, inl, inr, ◌⊎◌, arith, Ok}
use Rattle.fd_language.specs.Range.{Indexical}
use Rattle.fd_model.specs.ClosedFamilies.{AllPosted}
use Rattle.fd_model.specs.Linear.{Linear, Comparison, IsEqual, IsOther, IsAtMost, turned, scaled, with_product, in_integers}
use Rattle.fd_model.specs.LinearRows.{rows_behind}
use Rattle.fd_model.specs.ReifiedRows.{reach, reified_sums, reified_end}
use Rattle.fd_model.specs.Splitting.{sum_rows}
use Rattle.fd_model.proofs.AddedRanges.{posted_both}
use Rattle.fd_model.proofs.Splits.{IsAgain, IsTold, told_ok, both_told_ok}

abbrev pub AllSums : (Linear → Type 0) → List Linear → Type 0
AllSums G [] = Unit {0}
AllSums G (l ∷ ls) = G l × AllSums G ls

sums_append : (G : Linear → Type 0) (ls ms : List Linear) → AllSums G ls → AllSums G ms → AllSums G (ls ++ ms)
sums_append G [] ms h g = g
sums_append G (l ∷ ls) ms h g = (h.0, sums_append G ls ms h.1 g)

-- what holds of the two sums by which f tells of l
told_each : (G : Linear → Type 0) (f : ℕ) (w : ℤ) (l : Linear) (ls : List Linear) → IsTold f w l ls
    → ((m : Linear) → IsAgain (with_product l.products f w) (l.constant +ℤ w) m → G m)
    → ((m : Linear) → IsAgain (scaled (negsuc 0) (with_product l.products f w)) (neg_ℤ l.constant -ℤ pos 1) m → G m) → AllSums G ls
told_each G f w l ls i over under = subst (AllSums G) i.are (over i.over i.from_over, (under i.under i.from_under, tt))

-- what tells: the teller itself, or an added variable
abbrev pub IsTeller : Comparison → ℕ → ℕ → ℕ → Type 0
IsTeller c x m f = (f ≡ x) ⊎ ((m ≤ f) × (f < reified_end c m))

-- what holds of all sums, where l is the form
module _ (G : Linear → Type 0) (M : ℕ) (x m : ℕ) (l : Linear) where
  abbrev pub EachTold : Comparison → Type 0
  EachTold c =
      (f : ℕ) (k : Linear) → IsTeller c x m f → (k ≡ l) ⊎ (k ≡ turned l) → in_integers (pos (reach M l)) ≡ true
      → ((u : Linear) → IsAgain (with_product k.products f (pos (reach M l))) (k.constant +ℤ pos (reach M l)) u → G u)
      × ((u : Linear) → IsAgain (scaled (negsuc 0) (with_product k.products f (pos (reach M l)))) (neg_ℤ k.constant -ℤ pos 1) u → G u)

  pub sums_each : (c : Comparison) (ls : List Linear) → reified_sums M c x m l ≡ Ok ls → EachTold c → AllSums G ls
  sums_each IsAtMost ls e each = let i = told_ok x (pos (reach M l)) l ls e in let g = each x l (inl refl) (inl refl) i.within in told_each G x (pos (reach M l)) l ls i g.0 g.1
  sums_each IsEqual ls e each =
      let i = both_told_ok m (suc m) (pos (reach M l)) l ls e in
      let g = each m l (inr (omega arith, omega arith)) (inl refl) i.from_first.within in
      let h = each (suc m) (turned l) (inr (omega arith, omega arith)) (inr refl) i.from_second.within in
      subst (AllSums G) i.are (sums_append G i.first i.second (told_each G m (pos (reach M l)) l i.first i.from_first g.0 g.1)
      (told_each G (suc m) (pos (reach M l)) (turned l) i.second i.from_second h.0 h.1))
  sums_each IsOther ls e each =
      let i = both_told_ok (suc m) (suc (suc m)) (pos (reach M l)) l ls e in
      let g = each (suc m) l (inr (omega arith, omega arith)) (inl refl) i.from_first.within in
      let h = each (suc (suc m)) (turned l) (inr (omega arith, omega arith)) (inr refl) i.from_second.within in
      subst (AllSums G) i.are
      (sums_append G i.first i.second (told_each G (suc m) (pos (reach M l)) l i.first i.from_first g.0 g.1) (told_each G (suc (suc m)) (pos (reach M l)) (turned l) i.second i.from_second h.0 h.1))

-- what holds of the rows of each
pub sums_posted : (H : Indexical → Type 0) (G : Linear → Type 0) → ((l : Linear) → G l → AllPosted H (rows_behind IsAtMost l.constant [] l.products))
    → (ls : List Linear) → AllSums G ls → AllPosted H (sum_rows ls)
sums_posted H G f [] h = tt
sums_posted H G f (l ∷ ls) h = posted_both H (rows_behind IsAtMost l.constant [] l.products) (sum_rows ls) (f l h.0) (sums_posted H G f ls h.1)
