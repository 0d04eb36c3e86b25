-- Facts of the variables that occur in a range, and the first offence of a range that is renamed.
use Rattle.std.proofs.Common.{◌≡◌, ℕ, true, cond, not, ◌||◌, ◌==◌, ℤ, List, [], ◌∷◌, ◌++◌, map, Some, None, refl, ap, sym, ◌∙◌, subst, inl, inr, eqb-true}
use Rattle.std.proofs.Common.{eq-eqb}
use Rattle.std.specs.Prelude.{flat_map}
use Rattle.std.proofs.lemmas.Bool.{cases_Bool, or_cases, or_left, or_right, true≢false}
use Rattle.fd_language.specs.declared.range_node.Need.{Need}
use Rattle.fd_language.specs.Check.{fill_range, filling}
use Rattle.fd_language.specs.Family.{has}
use Rattle.fd_language.specs.Lists.{Each}
use Rattle.fd_language.specs.Needs.{need_of, meets}
use Rattle.fd_language.specs.Occurrences.{Occurrence, occurrence_at, range_occurrences}
use Rattle.fd_language.specs.Range.{Range, Leaf, Role, a_parameter, a_min, a_max, a_val, a_dom, leaves}
use Rattle.fd_language.specs.RangeRenaming.{rename_range}
use Rattle.fd_language.specs.Term.{Term, Var, Int, Atom, Comp, Substitution}
use Rattle.fd_language.proofs.Lemmas.{two, range_leaves, from_new, new_leaves}
use Rattle.fd_model.specs.Posting.{or_later, first_offence, offence_at}
use Rattle.fd_model.specs.declared.kinds.QueryFault.TheVariants.{Parameter}
use Rattle.branch_meaning.proofs.Lemmas.{need_renamed, occurrences_renamed, plain}

abbrev rename_occurrence : (ℕ → ℕ) → Occurrence → Occurrence
rename_occurrence g p = record { variable = g p.variable; parameter = p.parameter }

-- the property holds of the variable of each occurrence
abbrev pub EachAt : (ℕ → Type 0) → List Occurrence → Type 0
EachAt Q ps = Each (λ p. Q p.variable) ps

pub each_at : (Q : ℕ → Type 0) (ps : List Occurrence) → ((y : ℕ) → has (map (λ p. p.variable) ps) y ≡ true → Q y) → EachAt Q ps
each_at Q [] h = tt
each_at Q (p ∷ ps) h = (
  h p.variable (or_left (p.variable == p.variable) (has (map (λ q. q.variable) ps) p.variable) (eq-eqb p.variable p.variable refl)),
  each_at Q ps (λ y i. h y (or_right (p.variable == y) (has (map (λ q. q.variable) ps) y) i)),
)

pub plain_at : (Q : ℕ → Type 0) (ps : List Occurrence) → EachAt Q ps → (y : ℕ) → has (plain ps) y ≡ true → Q y
plain_at Q [] e y h = absurd (true≢false (sym h))
plain_at Q (p ∷ ps) e y h = elim (cases_Bool p.parameter) [
  | inl i ↦ plain_at Q ps e.1 y (sym (ap (λ b. has (cond b (plain ps) (p.variable ∷ plain ps)) y) i) ∙ h)
  | inr i ↦ elim (or_cases (p.variable == y) (has (plain ps) y) (sym (ap (λ b. has (cond b (plain ps) (p.variable ∷ plain ps)) y) i) ∙ h)) [
    | inl j ↦ subst Q (eqb-true p.variable y j) e.0
    | inr j ↦ plain_at Q ps e.1 y j
  ]
]

pub each_both : (A B C : ℕ → Type 0) → ((y : ℕ) → A y → B y → C y) → (ps : List Occurrence) → EachAt A ps → EachAt B ps → EachAt C ps
each_both A B C h [] a b = tt
each_both A B C h (p ∷ ps) a b = (h p.variable a.0 b.0, each_both A B C h ps a.1 b.1)

each_back : (Q : ℕ → Type 0) (f : ℕ → ℕ) (ps : List Occurrence) → EachAt Q (map (rename_occurrence f) ps) → EachAt (λ y. Q (f y)) ps
each_back Q f [] e = tt
each_back Q f (p ∷ ps) e = (e.0, each_back Q f ps e.1)

-- the occurrences in a range that is renamed
pub each_renamed : (Q : ℕ → Type 0) (f : ℕ → ℕ) → ((x y : ℕ) → f x ≡ f y → x ≡ y) → (r : Range) → EachAt Q (range_occurrences (rename_range f r)) → EachAt (λ y. Q (f y)) (range_occurrences r)
each_renamed Q f apart r e = each_back Q f (range_occurrences r) (subst (EachAt Q) (occurrences_renamed f apart r) e)

-- and of one whose parameters are filled
module _ (Q : ℕ → Type 0) (f : ℕ → ℤ) where
  pub each_filled : (r : Range) → EachAt Q (range_occurrences r) → EachAt Q (range_occurrences (fill_range f r))
  each_filled r e = subst (EachAt Q) (sym (new_leaves occurrence_at (filling f) r ∙ range_leaves (λ l. from_new occurrence_at (filling f) l.role l.variable) r))
      (of_leaves (leaves r) (subst (EachAt Q) (range_leaves occurrence_at r) e)) where
        by_role : (k : Role) (y : ℕ) (ps : List Occurrence) → Q y → EachAt Q ps → EachAt Q (from_new occurrence_at (filling f) k y ++ ps)
        by_role a_parameter y ps q b = b
        by_role a_min y ps q b = (q, b)
        by_role a_max y ps q b = (q, b)
        by_role a_val y ps q b = (q, b)
        by_role a_dom y ps q b = (q, b)

        of_leaves : (ls : List Leaf) → EachAt Q (flat_map occurrence_at ls) → EachAt Q (flat_map (λ l. from_new occurrence_at (filling f) l.role l.variable) ls)
        of_leaves [] b = tt
        of_leaves (l ∷ ls) b = by_role l.role l.variable (flat_map (λ l. from_new occurrence_at (filling f) l.role l.variable) ls) b.0 (of_leaves ls b.1)

-- a variable that is renamed offends as it did
module _ (f : ℕ → ℕ) (look see : Substitution) where
  abbrev Seen : ℕ → Type 0
  Seen y = look (f y) ≡ see y

  renamed_offence : (need' need : ℕ → Need) → ((x : ℕ) → need' (f x) ≡ need x) → (ps : List Occurrence) → EachAt Seen ps
      → first_offence need' look (map (rename_occurrence f) ps) ≡ first_offence need see ps
  renamed_offence need' need h [] e = refl
  renamed_offence need' need h (p ∷ ps) e = two or_later (ap (offence_at need' (rename_occurrence f p)) e.0 ∙ one (see p.variable)) (renamed_offence need' need h ps e.1)
    where
      one : (t : Term) → offence_at need' (rename_occurrence f p) t ≡ offence_at need p t
      one (Var y) = refl
      one (Int z) = ap (λ n. cond (not p.parameter || meets n z) None (Some Parameter)) (h p.variable)
      one (Atom a) = refl
      one (Comp g ts) = refl

  pub range_offence : ((x y : ℕ) → f x ≡ f y → x ≡ y) → (r : Range) → EachAt Seen (range_occurrences r)
      → first_offence (need_of (rename_range f r)) look (range_occurrences (rename_range f r)) ≡ first_offence (need_of r) see (range_occurrences r)
  range_offence apart r e = ap (first_offence (need_of (rename_range f r)) look) (occurrences_renamed f apart r)
      ∙ renamed_offence (need_of (rename_range f r)) (need_of r) (need_renamed f apart r) (range_occurrences r) e
