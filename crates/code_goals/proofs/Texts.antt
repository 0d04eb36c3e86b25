-- The texts of terms that a branch shows.
use Rattle.std.proofs.Common.{◌≡◌, ℕ, ◌==◌, Bool, true, false, cond, ◌||◌, List, [], ◌∷◌, ◌++◌, length, Option, Some, None, codes, refl, ap, sym}
use Rattle.std.proofs.Common.{◌∙◌, eqb-true, eq-eqb}
use Rattle.std.proofs.lemmas.List.{length-map}
use Rattle.std.proofs.lemmas.Bool.{or_left, true≢false}
use Rattle.fd_language.proofs.Lemmas.{in_left, in_right, two}
use Rattle.fd_language.specs.Family.{Family, has}
use Rattle.fd_language.specs.Range.{Indexical}
use Rattle.fd_language.specs.Term.{Name, Term, Terms, Var, Int, Atom, Comp, no_terms, term}
use Rattle.fd_language.specs.Variables.{variables_of, variables_of_all, distinct}
use Rattle.fd_language.specs.TermTexts.{Mode, Quoted, Plain, TermText, spelled, spelled_each, spelled_compound, spelled_alone, term_text}
use Rattle.fd_model.specs.Lines.{place_in, open_part, as_terms, joined, equals_text, line_of}
use Rattle.heap_cells.specs.declared.Cell.{Cell}
use Rattle.heap_cells.specs.Cells.{Cells}
use Rattle.heap_cells.specs.Terms.{term_of}
use Rattle.term_pool.specs.Terms.{term_of as pool_term}
use Rattle.range_code.specs.Frames.{family_of}
use Rattle.branch_meaning.specs.HeldBranches.{HeldState, fixed_held}
use Rattle.branch_meaning.specs.AnswerTexts.{cell_text}
use Rattle.branch_lemmas.specs.Frames.{held_of}
use Rattle.branch_lemmas.specs.AtomNames.{full}
use Rattle.branch_lemmas.specs.SeenHeap.{read_term}
use Rattle.machine_events.specs.declared.Shown.{Shown}
use Rattle.machine_events.specs.Events.{set_in, variable_text, shown_line, first_term, written_term}
use Rattle.branch_state.specs.ShownTerms.{open_set, with_set, with_sets, terms_read, IsShown}
use Rattle.fd_language.proofs.Lemmas.{has_distinct}

-- ---- texts agree where the texts of the variables that occur agree

module _ (here there : ℕ → List ℕ) where
  mutual
    spelled_agree : (mode : Mode) (t : Term) → ((y : ℕ) → has (variables_of t) y ≡ true → here y ≡ there y) → spelled mode here t ≡ spelled mode there t
    spelled_agree mode (Var x) h = ap spelled_alone (h x (or_left (x == x) false (eq-eqb x x refl)))
    spelled_agree mode (Int z) h = refl
    spelled_agree mode (Atom a) h = refl
    spelled_agree mode (Comp f ts) h = ap (spelled_compound mode f) (each_agree mode ts h)

    each_agree : (mode : Mode) (ts : Terms) → ((y : ℕ) → has (variables_of_all ts) y ≡ true → here y ≡ there y) → spelled_each mode here ts ≡ spelled_each mode there ts
    each_agree mode no_terms h = refl
    each_agree mode (term t ts) h =
        let one = spelled_agree mode t (λ y c. h y (in_left (variables_of t) (variables_of_all ts) y c)) in
        let others = each_agree mode ts (λ y c. h y (in_right (variables_of t) (variables_of_all ts) y c)) in
        ap (λ x. x ∷ spelled_each mode here ts) one ∙ ap (λ xs. spelled mode there t ∷ xs) others

  -- the text of a term
  pub text_agree : (mode : Mode) (limit : ℕ) (t : Term) → ((y : ℕ) → has (variables_of t) y ≡ true → here y ≡ there y) → term_text mode here limit t ≡ term_text mode there limit t
  text_agree mode limit t h = ap (λ (x : TermText). x.at limit) (spelled_agree mode t h)

  equals_agree : (names : List Name) (ts : List Term) → ((y : ℕ) → has (variables_of_all (as_terms ts)) y ≡ true → here y ≡ there y) → equals_text here names ts ≡ equals_text there names ts
  equals_agree [] ts h = refl
  equals_agree (n ∷ ns) [] h = refl
  equals_agree (n ∷ ns) (t ∷ ts) h =
      let one = text_agree Quoted 699 t (λ y c. h y (in_left (variables_of t) (variables_of_all (as_terms ts)) y c)) in
      let others = equals_agree ns ts (λ y c. h y (in_right (variables_of t) (variables_of_all (as_terms ts)) y c)) in
      two (λ (x : List ℕ) (l : List (List ℕ)). (n ++ (codes " = " ++ x)) ∷ l) one others

  -- and of an answer
  pub line_agree : (names : List Name) (ts : List Term) → ((y : ℕ) → has (variables_of_all (as_terms ts)) y ≡ true → here y ≡ there y) → line_of here names ts ≡ line_of there names ts
  line_agree [] ts h = refl
  line_agree (n ∷ ns) ts h = ap (joined (codes ", ")) (equals_agree (n ∷ ns) ts h)

-- ---- the sets beside

module _ (set : ℕ → Option (List ℕ)) where
  none_in : (xs : List ℕ) (y : ℕ) → set y ≡ None → set_in (with_sets set xs) y ≡ None
  none_in [] y n = refl
  none_in (x ∷ xs) y n = by (set x) refl (x == y) refl (none_in xs y n) where
    by : (o : Option (List ℕ)) → set x ≡ o → (b : Bool) → (x == y) ≡ b → set_in (with_sets set xs) y ≡ None → set_in (with_set x o (with_sets set xs)) y ≡ None
    by None i b e later = later
    by (Some ys) i true e later = ap (λ b. cond b (Some ys) (set_in (with_sets set xs) y)) e ∙ sym i ∙ ap set (eqb-true x y e) ∙ n
    by (Some ys) i false e later = ap (λ b. cond b (Some ys) (set_in (with_sets set xs) y)) e ∙ later

  there_in : (xs : List ℕ) (y : ℕ) → has xs y ≡ true → set_in (with_sets set xs) y ≡ set y
  there_in [] y h = absurd (true≢false (sym h))
  there_in (x ∷ xs) y h = by (set x) refl (x == y) refl h (there_in xs y) where
    by : (o : Option (List ℕ)) → set x ≡ o → (b : Bool) → (x == y) ≡ b → (b || has xs y) ≡ true → (has xs y ≡ true → set_in (with_sets set xs) y ≡ set y)
        → set_in (with_set x o (with_sets set xs)) y ≡ set y
    by None i true e k later = let n : set y ≡ None = ap set (sym (eqb-true x y e)) ∙ i in none_in xs y n ∙ sym n
    by None i false e k later = later k
    by (Some ys) i true e k later = ap (λ b. cond b (Some ys) (set_in (with_sets set xs) y)) e ∙ sym i ∙ ap set (eqb-true x y e)
    by (Some ys) i false e k later = ap (λ b. cond b (Some ys) (set_in (with_sets set xs) y)) e ∙ later k

module _ (names : List Name) (h : Cells) (sets : List (List ℕ)) (qs : List Indexical) (cells : List Cell) (x : Shown) (shown : IsShown names h sets cells x) where
  abbrev G : Family
  G = family_of sets

  abbrev F : HeldState
  F = fixed_held (held_of (full names) h qs) G

  abbrev ts : List Term
  ts = terms_read names h sets cells

  agrees : (y : ℕ) → has (variables_of_all (as_terms ts)) y ≡ true → variable_text x (as_terms ts) y ≡ cell_text F G (as_terms ts) y
  agrees y i =
      ap (open_part (place_in (distinct (variables_of_all (as_terms ts))) y))
      (ap (λ ps. set_in ps y) shown.sets_of ∙ there_in (open_set h sets) (distinct (variables_of_all (as_terms ts))) y (has_distinct (variables_of_all (as_terms ts)) y i))

  -- the line of what is shown is that of the cells
  pub line_shown : (ns : List Name) → shown_line ns x ≡ line_of (cell_text F G (as_terms ts)) ns ts
  line_shown ns = ap (λ us. line_of (variable_text x (as_terms us)) ns us) shown.terms ∙ line_agree (variable_text x (as_terms ts)) (cell_text F G (as_terms ts)) ns ts agrees

-- as many terms as cells
pub shown_length : (names : List Name) (h : Cells) (sets : List (List ℕ)) (cells : List Cell) (x : Shown) → IsShown names h sets cells x → length x.terms.items ≡ length cells
shown_length names h sets cells x s = sym (length-map x.terms.items (pool_term x.pool)) ∙ ap length s.terms ∙ length-map cells (λ c. read_term h (family_of sets) (term_of (full names) h c))

-- one cell that is written
pub written_shown : (names : List Name) (h : Cells) (sets : List (List ℕ)) (qs : List Indexical) (d : Cell) (x : Shown) → IsShown names h sets (d ∷ []) x
    → written_term x ≡ term_text Plain (cell_text (fixed_held (held_of (full names) h qs) (family_of sets)) (family_of sets)
    (term (read_term h (family_of sets) (term_of (full names) h d)) no_terms)) 1200 (read_term h (family_of sets) (term_of (full names) h d))
written_shown names h sets qs d x s =
    let t = read_term h (family_of sets) (term_of (full names) h d) in
    ap (λ us. term_text Plain (variable_text x (term (first_term us) no_terms)) 1200 (first_term us)) s.terms
    ∙ text_agree (variable_text x (term t no_terms)) (cell_text (fixed_held (held_of (full names) h qs) (family_of sets)) (family_of sets) (term t no_terms)) Plain 1200 t
    (λ y i. agrees names h sets qs (d ∷ []) x s y (in_left (variables_of t) [] y i))
