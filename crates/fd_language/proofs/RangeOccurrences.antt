-- Public lemmas: the occurrences of variables in a range against what it reads and its parameters.
use Rattle.std.proofs.Common.{◌≡◌, ℕ, Bool, true, false, cond, ◌==◌, List, [], ◌∷◌, ◌++◌, map, refl, ap, sym, ◌∙◌, subst, inl, inr, eqb-true}
use Rattle.std.specs.Prelude.{flat_map}
use Rattle.std.proofs.lemmas.Bool.{or_cases, true≢false}
use Rattle.fd_language.specs.Family.{has}
use Rattle.fd_language.specs.Lists.{Each}
use Rattle.fd_language.specs.Range.{Range, Leaf, leaf, leaves, is_parameter_role, reads, read_at, params, param_at}
use Rattle.fd_language.specs.Occurrences.{Occurrence, occurrence_at, range_occurrences}
use Rattle.fd_language.specs.RangeRenaming.{rename_range}
use Rattle.fd_language.proofs.Sets.{has_either}
use Rattle.fd_language.proofs.Leaves.{range_leaves, renamed_leaves, first_nil, second_nil}

-- What holds of the variable of each occurrence holds of each that is read.
pub reads_occur : (H : ℕ → Type 0) (r : Range) → Each (λ p. H p.variable) (range_occurrences r) → (v : ℕ) → has (reads r) v ≡ true → H v
reads_occur H r h v e = go (leaves r) (subst (Each (λ p. H p.variable)) (range_leaves occurrence_at r) h) (subst (λ xs. has xs v ≡ true) (range_leaves read_at r) e) where
  here : (b : Bool) (y : ℕ) → has (cond b [] (y ∷ [])) v ≡ true → y ≡ v
  here true y i = absurd (true≢false (sym i))
  here false y i = elim (or_cases (y == v) false i) [ inl k ↦ eqb-true y v k | inr k ↦ absurd (true≢false (sym k)) ]

  go : (ls : List Leaf) → Each (λ p. H p.variable) (flat_map occurrence_at ls) → has (flat_map read_at ls) v ≡ true → H v
  go [] k i = absurd (true≢false (sym i))
  go (l ∷ ls) k i = elim (has_either (read_at l) (flat_map read_at ls) v i) [ inl j ↦ subst H (here (is_parameter_role l.role) l.variable j) k.0 | inr j ↦ go ls k.1 j ]

-- what holds of the occurrence of a parameter
abbrev pub OfParameter : (Occurrence → Type 0) → ℕ → Type 0
OfParameter H x = H (record { variable = x; parameter = true })

-- What holds of each occurrence holds of each parameter.
pub params_occur : (H : Occurrence → Type 0) (r : Range) → Each H (range_occurrences r) → Each (OfParameter H) (params r)
params_occur H r h = subst (Each (OfParameter H)) (sym (range_leaves param_at r)) (go (leaves r) (subst (Each H) (range_leaves occurrence_at r) h)) where
  here : (b : Bool) (x : ℕ) (xs : List ℕ) → H (record { variable = x; parameter = b }) → Each (OfParameter H) xs → Each (OfParameter H) (cond b (x ∷ []) [] ++ xs)
  here true x xs k i = (k, i)
  here false x xs k i = i

  go : (ls : List Leaf) → Each H (flat_map occurrence_at ls) → Each (OfParameter H) (flat_map param_at ls)
  go [] k = tt
  go (l ∷ ls) k = here (is_parameter_role l.role) l.variable (flat_map param_at ls) k.0 (go ls k.1)

-- Without parameters no occurrence is that of a parameter.
pub none_parameter : (r : Range) → params r ≡ [] → Each (λ p. p.parameter ≡ false) (range_occurrences r)
none_parameter r e = subst (Each (λ p. p.parameter ≡ false)) (sym (range_leaves occurrence_at r)) (go (leaves r) (sym (range_leaves param_at r) ∙ e)) where
  here : (b : Bool) (x : ℕ) → cond b (x ∷ []) [] ≡ [] → b ≡ false
  here true x i = absurd (cc)
  here false x i = refl

  go : (ls : List Leaf) → flat_map param_at ls ≡ [] → Each (λ p. p.parameter ≡ false) (flat_map occurrence_at ls)
  go [] i = tt
  go (l ∷ ls) i = (here (is_parameter_role l.role) l.variable (first_nil (param_at l) (flat_map param_at ls) i), go ls (second_nil (param_at l) (flat_map param_at ls) i))

-- And then the variables that occur are those that are read.
pub free_occurrences_read : (r : Range) → Each (λ p. p.parameter ≡ false) (range_occurrences r) → map (λ p. p.variable) (range_occurrences r) ≡ reads r
free_occurrences_read r h =
    ap (map (λ (p : Occurrence). p.variable)) (range_leaves occurrence_at r)
    ∙ (go (leaves r) (subst (Each (λ p. p.parameter ≡ false)) (range_leaves occurrence_at r) h) ∙ sym (range_leaves read_at r)) where
      here : (b : Bool) (x : ℕ) (xs : List ℕ) → b ≡ false → x ∷ xs ≡ cond b [] (x ∷ []) ++ xs
      here true x xs i = absurd (true≢false i)
      here false x xs i = refl

      go : (ls : List Leaf) → Each (λ p. p.parameter ≡ false) (flat_map occurrence_at ls) → map (λ p. p.variable) (flat_map occurrence_at ls) ≡ flat_map read_at ls
      go [] k = refl
      go (l ∷ ls) k = ap (λ xs. l.variable ∷ xs) (go ls k.1) ∙ here (is_parameter_role l.role) l.variable (flat_map read_at ls) k.0

-- What holds of the variables that occur holds of their new ones in the renamed range.
pub renamed_occurrences : (H G : ℕ → Type 0) (f : ℕ → ℕ) → ((x : ℕ) → H x → G (f x)) → (r : Range) → Each (λ p. H p.variable) (range_occurrences r)
    → Each (λ p. G p.variable) (range_occurrences (rename_range f r))
renamed_occurrences H G f g r h = subst (Each (λ p. G p.variable))
    (sym (renamed_leaves occurrence_at f r ∙ range_leaves (λ l. occurrence_at (leaf l.role (f l.variable))) r))
    (go (leaves r) (subst (Each (λ p. H p.variable)) (range_leaves occurrence_at r) h)) where
      go : (ls : List Leaf) → Each (λ p. H p.variable) (flat_map occurrence_at ls) → Each (λ p. G p.variable) (flat_map (λ l. occurrence_at (leaf l.role (f l.variable))) ls)
      go [] k = tt
      go (l ∷ ls) k = (g l.variable k.0, go ls k.1)
