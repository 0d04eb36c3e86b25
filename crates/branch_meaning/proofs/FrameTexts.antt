-- The texts, labellings and rows of constraints by a frame whose store is at rest are those by the branch's view.
use Rattle.fd_model.specs.declared.kinds.BuiltinKind.{BuiltinKind}
use Rattle.fd_model.specs.Builtins.{found}
use Rattle.fd_model.proofs.Lemmas.{SameFinding, found_renamed, first_member, number, one_for_all, spelled_same, place_same, variables_apply_all}
use Rattle.std.proofs.Common.{◌≡◌, ℕ, suc, ◌<◌, ◌≤◌, arith, true, List, [], ◌∷◌, ◌++◌, map, Option, Some, None, codes, refl, ap, sym, subst, ◌∙◌}
use Rattle.std.proofs.lemmas.Bool.{true≢false}
use Rattle.fd_model.specs.declared.kinds.ConstraintKind.{ConstraintKind}
use Rattle.fd_model.specs.declared.kinds.Order.{Order}
use Rattle.fd_model.specs.declared.kinds.QueryFault.{QueryFault}
use Rattle.fd_language.specs.Term.{Name, Term, Terms, Var, Int, Atom, Comp, no_terms, term, Substitution, apply, apply_all}
use Rattle.fd_language.specs.Unifier.{Equation}
use Rattle.fd_language.specs.Family.{Family, has}
use Rattle.fd_language.specs.Range.{Indexical}
use Rattle.fd_model.specs.ClosedFamilies.{constrained}
use Rattle.fd_model.specs.BranchViews.{IsConsistent, IsView, seen, set_at, by_set}
use Rattle.fd_language.specs.TermTexts.{Mode, Quoted, Plain, TermText, term_text}
use Rattle.fd_language.specs.Variables.{variables_of, variables_of_all, distinct}
use Rattle.fd_model.specs.Lines.{place_in, open_part, open_text, as_terms, joined, equals_text, line_of, written_text}
use Rattle.fd_model.specs.ConstraintExpansion.{arguments, expand}
use Rattle.fd_language.proofs.Lemmas.{two, in_left, in_right}
use Rattle.fd_model.specs.Labelling.{values_by}
use Rattle.branch_meaning.specs.Heap.{Of, AllOf}
use Rattle.branch_meaning.specs.HeldBranches.{HeldState, IsHeld, IsAtRest}
use Rattle.branch_meaning.specs.AnswerTexts.{cell_set, cell_text}
use Rattle.branch_meaning.specs.Labelling.{Labelled, faults, done, labels, labelled, rename_labelled}
use Rattle.branch_meaning.specs.Rows.{rename_row}
use Rattle.branch_meaning.proofs.Cells.{place_from, place_old, place_above}
use Rattle.branch_meaning.proofs.SplitRenaming.{expand_renamed}
use Rattle.branch_meaning.proofs.HeapExtension.{still_of}
use Rattle.branch_meaning.proofs.VariableScope.{at_variable}
use Rattle.branch_meaning.proofs.LabelRenaming.{labelled_renamed, label_in}
use Rattle.branch_meaning.proofs.Views.{view_back, view_look, view_set_there, view_set_back}

abbrev pub Known : (ℕ → Type 0) → List ℕ → Type 0
Known P [] = Unit {0}
Known P (x ∷ xs) = P x × Known P xs

-- the variables of a term's arguments are the term's
pub of_arguments : (w : Term) (y : ℕ) → has (variables_of_all (arguments w)) y ≡ true → has (variables_of w) y ≡ true
of_arguments (Var x) y e = absurd (true≢false (sym e))
of_arguments (Int z) y e = e
of_arguments (Atom a) y e = e
of_arguments (Comp g ts) y e = e

module _ (M N : ℕ) (f : HeldState) (es : List Equation) (ps : List Indexical) (P : ℕ → Type 0) (look : Substitution) (h : IsHeld M N f es ps P look) (T : Family) (rest : IsAtRest M N f T)
    (s : Substitution) (D : Family) (v : IsView M N es ps s D) (c : IsConsistent M N es ps) where
  abbrev pub sees : Term → Term
  sees t = seen s D (constrained ps) t

  pub back : Substitution
  back = (view_back M N f es ps P look h T rest s D v c).0

  -- the heap's terms and the seen terms come from one another
  mutual
    look_seen : (t : Term) → apply look (sees t) ≡ apply look t
    look_seen (Var x) = view_look M N f es ps P look h T rest s D v c x
    look_seen (Int z) = refl
    look_seen (Atom a) = refl
    look_seen (Comp g ts) = ap (Comp g) (look_seen_all ts)

    look_seen_all : (ts : Terms) → apply_all look (apply_all (λ y. by_set (set_at s D (constrained ps) y) y) (apply_all s ts)) ≡ apply_all look ts
    look_seen_all no_terms = refl
    look_seen_all (term t ts) = let one = look_seen t in let more = look_seen_all ts in cc

  mutual
    unfolding back

    back_look : (t : Term) → Of P t → apply back (apply look t) ≡ sees t
    back_look (Var x) o = (view_back M N f es ps P look h T rest s D v c).1 x o
    back_look (Int z) o = refl
    back_look (Atom a) o = refl
    back_look (Comp g ts) o = ap (Comp g) (back_look_all ts o)

    back_look_all : (ts : Terms) → AllOf P ts → apply_all back (apply_all look ts) ≡ apply_all (λ y. by_set (set_at s D (constrained ps) y) y) (apply_all s ts)
    back_look_all no_terms o = refl
    back_look_all (term t ts) o = let one = back_look t o.0 in let more = back_look_all ts o.1 in cc

  round : (t : Term) → Of P t → apply back (apply look (sees t)) ≡ sees t
  round t o = ap (apply back) (look_seen t) ∙ back_look t o

  -- an open variable and its cell have one set
  same_set : (y d : ℕ) → look y ≡ Var d → back d ≡ Var y → set_at s D (constrained ps) y ≡ cell_set T (f.link d)
  unfolding back
  same_set y d e i = by_sets (set_at s D (constrained ps) y) (f.link d) refl refl
    where
      by_sets : (o : Option (List ℕ)) (k : Option ℕ) → set_at s D (constrained ps) y ≡ o → f.link d ≡ k → o ≡ cell_set T k
      by_sets None None a b = refl
      by_sets None (Some k) a b = absurd (let w = view_set_back M N f es ps P look h T rest s D v c d y k i b in let g : None ≡ Some (T k) = sym a ∙ w in cc)
      by_sets (Some xs) None a b = absurd (let w = view_set_there M N f es ps P look h T rest s D v c d y xs e a in let g : None ≡ Some w.0 = sym b ∙ w.1 in cc)
      by_sets (Some xs) (Some k) a b = let w = view_set_there M N f es ps P look h T rest s D v c d y xs e a in let g : Some k ≡ Some w.0 = sym b ∙ w.1 in
          let j : k ≡ w.0 = cc in ap Some (sym w.2 ∙ ap T (sym j))

  abbrev pub cell : ℕ → ℕ
  cell y = number (look y)

  -- terms that come back as they were
  module _ (ts : Terms) (comes : apply_all back (apply_all look ts) ≡ ts) where
    pair : (y : ℕ) → has (variables_of_all ts) y ≡ true → (look y ≡ Var (cell y)) × (back (cell y) ≡ Var y)
    pair y k = let p = one_for_all look back ts comes y k in let e : cell y ≡ p.0 = ap number p.1 in (p.1 ∙ ap Var (sym e), ap back e ∙ p.2)

    apart : (a b : ℕ) → has (variables_of_all ts) a ≡ true → has (variables_of_all ts) b ≡ true → cell a ≡ cell b → a ≡ b
    apart a b i j e = let k : Var a ≡ Var b = sym (pair a i).1 ∙ ap back e ∙ (pair b j).1 in cc

    open_same : (y : ℕ) → has (variables_of_all ts) y ≡ true → open_text s D (constrained ps) ts y ≡ cell_text f T (apply_all look ts) (cell y)
    open_same y k =
        let n : place_in (distinct (variables_of_all (apply_all look ts))) (cell y) ≡ place_in (distinct (variables_of_all ts)) y =
        ap (λ l. place_in (distinct l) (cell y)) (variables_apply_all look cell ts (λ x d. (pair x d).0)) ∙ place_same cell (variables_of_all ts) y apart k in
        two open_part (sym n) (same_set y (cell y) (pair y k).0 (pair y k).1)

    pub text_same : (mode : Mode) (limit : ℕ) (t : Term) → ((y : ℕ) → has (variables_of t) y ≡ true → has (variables_of_all ts) y ≡ true)
        → term_text mode (cell_text f T (apply_all look ts)) limit (apply look t) ≡ term_text mode (open_text s D (constrained ps) ts) limit t
    text_same mode limit t i =
        ap (λ (x : TermText). x.at limit) (spelled_same look (open_text s D (constrained ps) ts) (cell_text f T (apply_all look ts)) mode t (λ y k. (cell y, (pair y (i y k)).0, open_same y (i y k))))

  -- a written term
  pub written_same : (t : Term) → Of P t → term_text Plain (cell_text f T (term (apply look t) no_terms)) 1200 (apply look t) ≡ written_text (constrained ps) s D (sees t)
  written_same t o =
      ap (λ x. term_text Plain (cell_text f T (term x no_terms)) 1200 x) (sym (look_seen t))
      ∙ text_same (term (sees t) no_terms) (ap (λ x. term x no_terms) (round t o)) Plain 1200 (sees t) (λ y k. in_left (variables_of (sees t)) [] y k)

  abbrev shown : List ℕ → List Term
  shown xs = map (λ x. sees (Var x)) xs

  looked : (xs : List ℕ) → apply_all look (as_terms (shown xs)) ≡ as_terms (map look xs)
  looked [] = refl
  looked (x ∷ xs) = let one = look_seen (Var x) in let more = looked xs in cc

  comes_back : (xs : List ℕ) → Known P xs → apply_all back (apply_all look (as_terms (shown xs))) ≡ as_terms (shown xs)
  comes_back [] k = refl
  comes_back (x ∷ xs) k = let one = round (Var x) k.0 in let more = comes_back xs k.1 in cc

  equals_same : (all : List ℕ) → Known P all → (names : List Name) (xs : List ℕ)
      → ((y : ℕ) → has (variables_of_all (as_terms (shown xs))) y ≡ true → has (variables_of_all (as_terms (shown all))) y ≡ true)
      → equals_text (cell_text f T (as_terms (map look all))) names (map look xs) ≡ equals_text (open_text s D (constrained ps) (as_terms (shown all))) names (shown xs)
  equals_same all k [] xs i = refl
  equals_same all k (n ∷ names) [] i = refl
  equals_same all k (n ∷ names) (x ∷ xs) i =
      let one : term_text Quoted (cell_text f T (as_terms (map look all))) 699 (look x) ≡ term_text Quoted (open_text s D (constrained ps) (as_terms (shown all))) 699 (sees (Var x)) =
      two (λ w t. term_text Quoted (cell_text f T w) 699 t) (sym (looked all)) (sym (look_seen (Var x)))
      ∙ text_same (as_terms (shown all)) (comes_back all k) Quoted 699 (sees (Var x)) (λ y j. i y (in_left (variables_of (sees (Var x))) (variables_of_all (as_terms (shown xs))) y j)) in
      two (λ t l. (n ++ (codes " = " ++ t)) ∷ l) one (equals_same all k names xs (λ y j. i y (in_right (variables_of (sees (Var x))) (variables_of_all (as_terms (shown xs))) y j)))

  -- an answer line
  pub line_same : (names : List Name) (all : List ℕ) → Known P all
      → line_of (cell_text f T (as_terms (map look all))) names (map look all) ≡ line_of (open_text s D (constrained ps) (as_terms (shown all))) names
      (shown all)
  line_same [] all k = refl
  line_same (n ∷ names) all k = ap (joined (codes ", ")) (equals_same all k (n ∷ names) all (λ y j. j))

  -- a labelling: on the heap it takes the cell of the variable that it takes in the branch, with the same values
  pub labelled_same : (o : Order) (t : Term) → Of P t
      → labelled o (λ d. values_by N (cell_set T (f.link d))) (apply look t) ≡ rename_labelled cell
      (labelled o (λ x. values_by N (set_at s D (constrained ps) x)) (sees t))
  labelled_same o t k =
      let comes : apply_all back (apply_all look (term (sees t) no_terms)) ≡ term (sees t) no_terms = ap (λ x. term x no_terms) (round t k) in
      let two_of : (y : ℕ) → has (variables_of (sees t)) y ≡ true
      → (look y ≡ Var (cell y)) × (back (cell y) ≡ Var y) = λ y i. pair (term (sees t) no_terms) comes y (in_left (variables_of (sees t)) [] y i) in
      ap (labelled o (λ d. values_by N (cell_set T (f.link d)))) (sym (look_seen t))
      ∙ labelled_renamed look cell (λ x. values_by N (set_at s D (constrained ps) x)) (λ d. values_by N (cell_set T (f.link d))) o (sees t)
      (λ y i. (two_of y i).0) (λ y i. ap (values_by N) (sym (same_set y (cell y) (two_of y i).0 (two_of y i).1)))

  -- the cell that is taken is the variable's
  pub label_there : (o : Order) (t : Term) → Of P t → (d : ℕ) (ns : List ℕ) → labelled o (λ e. values_by N (cell_set T (f.link e))) (apply look t) ≡ labels d ns
      → (x : ℕ) × (labelled o (λ y. values_by N (set_at s D (constrained ps) y)) (sees t) ≡ labels x ns) × (look x ≡ Var d)
  label_there o t k d ns e =
      let comes : apply_all back (apply_all look (term (sees t) no_terms)) ≡ term (sees t) no_terms = ap (λ x. term x no_terms) (round t k) in
      by_label (labelled o (λ y. values_by N (set_at s D (constrained ps) y)) (sees t)) refl (sym (labelled_same o t k) ∙ e)
      (λ x ms i. (pair (term (sees t) no_terms) comes x (in_left (variables_of (sees t)) [] x (label_in o (λ y. values_by N (set_at s D (constrained ps) y)) (sees t) x ms i))).0)
    where
      by_label : (l : Labelled) → labelled o (λ y. values_by N (set_at s D (constrained ps) y)) (sees t) ≡ l → rename_labelled cell l ≡ labels d ns
          → ((x : ℕ) (ms : List ℕ) → labelled o (λ y. values_by N (set_at s D (constrained ps) y)) (sees t) ≡ labels x ms → look x ≡ Var (cell x))
          → (x : ℕ) × (labelled o (λ y. values_by N (set_at s D (constrained ps) y)) (sees t) ≡ labels x ns) × (look x ≡ Var d)
      by_label (faults q) a b h = absurd (cc)
      by_label done a b h = absurd (cc)
      by_label (labels x ms) a b h = let g : ms ≡ ns = cc in let j : cell x ≡ d = cc in (x, a ∙ ap (labels x) g, h x ms a ∙ ap Var j)

  -- the other outcomes
  pub label_done : (o : Order) (t : Term) → Of P t → labelled o (λ e. values_by N (cell_set T (f.link e))) (apply look t) ≡ done
      → labelled o (λ y. values_by N (set_at s D (constrained ps) y)) (sees t) ≡ done
  label_done o t k e = by_label (labelled o (λ y. values_by N (set_at s D (constrained ps) y)) (sees t)) (sym (labelled_same o t k) ∙ e)
    where
      by_label : (l : Labelled) → rename_labelled cell l ≡ done → l ≡ done
      by_label (faults q) b = absurd (cc)
      by_label done b = refl
      by_label (labels x ms) b = absurd (cc)

  pub label_faults : (o : Order) (t : Term) → Of P t → (q : QueryFault) → labelled o (λ e. values_by N (cell_set T (f.link e))) (apply look t) ≡ faults q
      → labelled o (λ y. values_by N (set_at s D (constrained ps) y)) (sees t) ≡ faults q
  label_faults o t k q e = by_label (labelled o (λ y. values_by N (set_at s D (constrained ps) y)) (sees t)) (sym (labelled_same o t k) ∙ e)
    where
      by_label : (l : Labelled) → rename_labelled cell l ≡ faults q → l ≡ faults q
      by_label (faults x) b = let g : x ≡ q = cc in ap faults g
      by_label done b = absurd (cc)
      by_label (labels x ms) b = absurd (cc)

  -- A constraint of a branch with n variables: by the heap its row is the branch's, with a cell for each variable that the row names, and the next cells for
  -- the fresh ones.
  abbrev pub cell_from : ℕ → ℕ → ℕ
  cell_from n = place_from n f.cells cell

  arguments_kept : (w : Term) → ((y : ℕ) → has (variables_of w) y ≡ true → look y ≡ Var (cell y)) → arguments (apply look w) ≡ apply_all look (arguments w)
  arguments_kept (Var x) i = ap arguments (i x (first_member x []))
  arguments_kept (Int z) i = refl
  arguments_kept (Atom a) i = refl
  arguments_kept (Comp g ts) i = refl

  module _ (n : ℕ) (t : Term) (o : Of P t) (low : (y : ℕ) → has (variables_of (sees t)) y ≡ true → y < n) where
    comes : apply_all back (apply_all look (term (sees t) no_terms)) ≡ term (sees t) no_terms
    comes = ap (λ x. term x no_terms) (round t o)

    in_term : (y : ℕ) → has (variables_of (sees t)) y ≡ true → has (variables_of_all (term (sees t) no_terms)) y ≡ true
    in_term y i = in_left (variables_of (sees t)) [] y i

    old_cell : (y : ℕ) → has (variables_of (sees t)) y ≡ true → cell_from n y ≡ cell y
    old_cell y i = place_old n f.cells cell y (low y i)

    named_cell : (y : ℕ) → has (variables_of (sees t)) y ≡ true → look y ≡ Var (cell_from n y)
    named_cell y i = (pair (term (sees t) no_terms) comes y (in_term y i)).0 ∙ ap Var (sym (old_cell y i))

    apart_cells : (a b : ℕ) → has (variables_of (sees t)) a ≡ true → has (variables_of (sees t)) b ≡ true → cell_from n a ≡ cell_from n b → a ≡ b
    apart_cells a b i j e = apart (term (sees t) no_terms) comes a b (in_term a i) (in_term b j) (sym (old_cell a i) ∙ e ∙ old_cell b j)

    follows : (m : ℕ) → n ≤ m → cell_from n (suc m) ≡ suc (cell_from n m)
    follows m l = let a = place_above n f.cells cell m l in let b = place_above n f.cells cell (suc m) (omega (arith, l)) in omega (arith, a, b, l)

    first_cell : cell_from n n ≡ f.cells
    first_cell = let a = place_above n f.cells cell n (omega arith) in omega (arith, a)

    low_cell : (y : ℕ) → has (variables_of (sees t)) y ≡ true → cell y < f.cells
    low_cell y i =
        subst (Of (λ x. x < f.cells)) (pair (term (sees t) no_terms) comes y (in_term y i)).0
        (at_variable (λ x. x < f.cells) look (sees t) (subst (Of (λ x. x < f.cells)) (sym (look_seen t)) (still_of P (λ x. x < f.cells) look h.stored.heap.cells t o)) y i)

    -- the next cells are others
    new_cells : (y k : ℕ) → has (variables_of (sees t)) y ≡ true → n ≤ k → cell_from n y ≡ cell_from n k → ⊥
    new_cells y k i l e = let a = place_above n f.cells cell k l in let b = old_cell y i in let c = low_cell y i in omega (arith, a, b, c, e, l)

    pub row_same : (kind : ConstraintKind) → expand M kind (arguments (apply look t)) f.cells ≡ rename_row (cell_from n) (expand M kind (arguments (sees t)) n)
    row_same kind =
        ap (λ w. expand M kind (arguments w) f.cells) (sym (look_seen t))
        ∙ two (expand M kind) (arguments_kept (sees t) (λ y i. (pair (term (sees t) no_terms) comes y (in_term y i)).0)) (sym first_cell)
        ∙ expand_renamed (cell_from n) n follows M (variables_of (sees t)) apart_cells new_cells look named_cell kind (arguments (sees t)) (of_arguments (sees t))

    -- the cells of the variables that it names
    pub row_cell : (y : ℕ) → has (variables_of_all (arguments (sees t))) y ≡ true → (y < n) × (look y ≡ Var (cell_from n y))
    row_cell y i = let j = of_arguments (sees t) y i in (low y j, named_cell y j)

  -- What a built-in goal with the arguments a and b comes to is on the heap what it comes to in the branch; raw gives the heap's terms as they are bound.
  pub found_same : (k : BuiltinKind) (raw : Substitution) (a b : Term) → Of P a → Of P b
      → SameFinding raw (found k (set_at s D (constrained ps)) a b (sees a) (sees b)) (found k (λ d. cell_set T (f.link d)) (apply raw a) (apply raw b) (apply look a) (apply look b))
  found_same k raw a b o i =
      let ts = term (sees a) (term (sees b) no_terms) in
      let comes : apply_all back (apply_all look ts) ≡ ts = let x = round a o in let y = round b i in cc in
      let va = variables_of (sees a) in
      let vb = variables_of (sees b) in
      let in_a : (y : ℕ) → has va y ≡ true → has (variables_of_all ts) y ≡ true = λ y e. in_left va (vb ++ []) y e in
      let in_b : (y : ℕ) → has vb y ≡ true → has (variables_of_all ts) y ≡ true = λ y e. in_right va (vb ++ []) y (in_left vb [] y e) in
      subst (λ w. SameFinding raw (found k (set_at s D (constrained ps)) a b (sees a) (sees b)) (found k (λ d. cell_set T (f.link d)) (apply raw a) (apply raw b) (apply look a) w)) (look_seen b)
      (subst (λ w. SameFinding raw (found k (set_at s D (constrained ps)) a b (sees a) (sees b))
      (found k (λ d. cell_set T (f.link d)) (apply raw a) (apply raw b) w (apply look (sees b)))) (look_seen a)
      (found_renamed raw look cell (set_at s D (constrained ps)) (λ d. cell_set T (f.link d)) a b (sees a) (sees b) (λ y e. (pair ts comes y (in_a y e)).0) (λ y e. (pair ts comes y (in_b y e)).0)
      (λ x y e g j. apart ts comes x y (in_a x e) (in_b y g) j) (λ y e. let p = pair ts comes y (in_a y e) in sym (same_set y (cell y) p.0 p.1)) k))
