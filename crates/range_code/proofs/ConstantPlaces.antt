-- Constants have places in their table, and instructions give back the nodes that they were made of.
use Rattle.std.proofs.Common.{◌≡◌, ℕ, ℤ, pos, true, false, cond, not, ◌||◌, ◌+◌, ◌-◌, ◌<◌, ◌≤◌, suc, List, [], ◌∷◌, ◌++◌, map, drop, take, get_or, length}
use Rattle.std.proofs.Common.{Option, refl, sym, ◌∙◌, ap, subst, inl, inr, arith}
use Rattle.std.specs.List.{All, list_any, position_or_len}
use Rattle.std.specs.Ordering.{int_eq}
use Rattle.std.proofs.lemmas.Bool.{cases_Bool, true≢false, or_left, or_right}
use Rattle.std.proofs.lemmas.Bool.Decides.{Decides-int_eq}
use Rattle.std.proofs.lemmas.List.{take_more, get_or-drop, length-drop}
use Rattle.std.proofs.lemmas.List.Elements.{All-nil, All-cons, All-head, All-tail, All-get_or}
use Rattle.std.proofs.lemmas.List.Folds.{list_any-append}
use Rattle.std.proofs.lemmas.List.Sums.{fold-append}
use Rattle.std.proofs.Math.Seq.{drop-append_seam, take-append_seam}
use Rattle.std.proofs.Math.Numerals.{one-add}
use Rattle.domain_ranges.proofs.Lemmas.{same_int}
use Rattle.indexmap.specs.IndexSet.{insert_key, insert_all}
use Rattle.fd_language.specs.declared.range_node.Need.{Need}
use Rattle.fd_language.specs.declared.range_node.RangeNode.{RangeNode}
use Rattle.fd_language.specs.declared.range_node.RangeNode.TheVariants as node
use Rattle.fd_language.specs.Range.{Range, Span, One, Dom, Union, Inter, Outside, Plus, Minus, Times, Over, Expr, Number, Infinity, Param, Min, Max, Val, Add}
use Rattle.fd_language.specs.Range.{Sub, Mul, DivDown, DivUp}
use Rattle.fd_language.specs.PostfixRanges.{nodes_of, expr_nodes, range_nodes}
use Rattle.fd_language.proofs.Lemmas.{two}
use Rattle.range_code.specs.declared.evaluate.Steps.{Steps}
use Rattle.range_code.specs.FoldedRanges.{folded, folded_range}
use Rattle.range_code.specs.Pieces.{literals}
use Rattle.range_code.specs.declared.fold.Piece.{Piece}
use Rattle.range_code.specs.declared.fold.Piece.TheVariants.{Literal, Other}
use Rattle.fd_language.specs.declared.TheConstants.{INFINITY}
use Rattle.fd_language.specs.Check.{literal_value}
use Rattle.range_code.proofs.FoldedRanges.{folds_to}
use Rattle.range_code.specs.Instructions.{integers, table_of, tests_for, instr_of, node_of, IsPlaced}
use Rattle.range_code.specs.CodeFields.{AreStepsOf}
use Rattle.range_code.specs.StepNodes.{all_steps, ArePlaced}

-- an integer that is in a list has a place there
equal_refl : (z : ℤ) → int_eq z z ≡ true
equal_refl z = (Decides-int_eq z z).1 refl

record HasPlace (z : ℤ) (table : List ℤ) : Type 0 where
  within : position_or_len (int_eq z) table < length table
  there : get_or table (position_or_len (int_eq z) table) (pos 0) ≡ z

has_place : (z : ℤ) (table : List ℤ) → list_any (int_eq z) table ≡ true → HasPlace z table
has_place z [] h = absurd (true≢false (sym h))
has_place z (y ∷ ys) h = elim (cases_Bool (int_eq z y)) [
  | inl e ↦
      let i : position_or_len (int_eq z) (y ∷ ys) ≡ 0 = ap (λ c. cond (not c) (1 + position_or_len (int_eq z) ys) 0) e in
      record { within = subst (λ n. n < suc (length ys)) (sym i) (omega arith); there = ap (λ n. get_or (y ∷ ys) n (pos 0)) i ∙ sym (same_int z y e) }
  | inr e ↦
      let i : position_or_len (int_eq z) (y ∷ ys) ≡ suc (position_or_len (int_eq z) ys) = ap (λ c. cond (not c) (1 + position_or_len (int_eq z) ys) 0) e ∙ one-add (position_or_len (int_eq z) ys) in
      let k = has_place z ys (sym (ap (λ b. b || list_any (int_eq z) ys) e) ∙ h) in
      record { within = subst (λ n. n < suc (length ys)) (sym i) (up (position_or_len (int_eq z) ys) (length ys) k.within); there = ap (λ n. get_or (y ∷ ys) n (pos 0)) i ∙ k.there }
] where
  up : (m n : ℕ) → m < n → suc m < suc n
  up m n h = omega arith

-- what is inserted is there, and stays
insert_keeps : (z y : ℤ) (table : List ℤ) → list_any (int_eq z) table ≡ true → list_any (int_eq z) (insert_key int_eq table y) ≡ true
insert_keeps z y table h = elim (cases_Bool (list_any (int_eq y) table)) [
  | inl e ↦ ap (λ b. list_any (int_eq z) (cond b table (table ++ y ∷ []))) e ∙ h
  | inr e ↦ ap (λ b. list_any (int_eq z) (cond b table (table ++ y ∷ []))) e ∙ (list_any-append (int_eq z) table (y ∷ []) ∙ or_left (list_any (int_eq z) table) (list_any (int_eq z) (y ∷ [])) h)
]

insert_has : (y : ℤ) (table : List ℤ) → list_any (int_eq y) (insert_key int_eq table y) ≡ true
insert_has y table = elim (cases_Bool (list_any (int_eq y) table)) [
  | inl e ↦ ap (λ b. list_any (int_eq y) (cond b table (table ++ y ∷ []))) e ∙ e
  | inr e ↦ ap (λ b. list_any (int_eq y) (cond b table (table ++ y ∷ []))) e
      ∙ (list_any-append (int_eq y) table (y ∷ []) ∙ or_right (list_any (int_eq y) table) (list_any (int_eq y) (y ∷ []))
      (or_left (int_eq y y) false (equal_refl y)))
]

all_keep : (z : ℤ) (table zs : List ℤ) → list_any (int_eq z) table ≡ true → list_any (int_eq z) (insert_all int_eq table zs) ≡ true
all_keep z table [] h = h
all_keep z table (y ∷ ys) h = all_keep z (insert_key int_eq table y) ys (insert_keeps z y table h)

all_in : (table zs : List ℤ) → All (λ z. list_any (int_eq z) (insert_all int_eq table zs) ≡ true) zs
all_in table [] = All-nil (λ z. list_any (int_eq z) table ≡ true)
all_in table (z ∷ zs) = All-cons (λ y. list_any (int_eq y) (insert_all int_eq (insert_key int_eq table z) zs) ≡ true) z zs
    (all_keep z (insert_key int_eq table z) zs (insert_has z table)) (all_in (insert_key int_eq table z) zs)

-- no node stands for infinity
abbrev IsPlain : RangeNode → Type 0
IsPlain node.Infinity = ⊥
IsPlain n = Unit {0}

plain : (n : RangeNode) (ns : List RangeNode) → IsPlain n → All IsPlain ns → All IsPlain (n ∷ ns)
plain n ns h k = All-cons IsPlain n ns h k

abbrev StaysPlain : Expr → Type 0
StaysPlain f = (rest : List RangeNode) → All IsPlain rest → All IsPlain (expr_nodes f rest)

term_plain : (e : Expr) → StaysPlain (folded e)
term_plain (Number z) rest h = plain (node.Int z) rest tt h
term_plain Infinity rest h = plain (node.Int (pos INFINITY)) rest tt h
term_plain (Param x) rest h = plain (node.Param x) rest tt h
term_plain (Min y) rest h = plain (node.Min y) rest tt h
term_plain (Max y) rest h = plain (node.Max y) rest tt h
term_plain (Val y) rest h = plain (node.Val y) rest tt h
term_plain (Add a b) rest h = folds_to StaysPlain (Add a b) (Add (folded a) (folded b)) (λ i l k. plain (node.Int (literal_value INFINITY (Add a b))) l tt k)
    (λ i l k. term_plain a (expr_nodes (folded b) (node.Add ∷ l)) (term_plain b (node.Add ∷ l) (plain node.Add l tt k))) rest h
term_plain (Sub a b) rest h = folds_to StaysPlain (Sub a b) (Sub (folded a) (folded b)) (λ i l k. plain (node.Int (literal_value INFINITY (Sub a b))) l tt k)
    (λ i l k. term_plain a (expr_nodes (folded b) (node.Sub ∷ l)) (term_plain b (node.Sub ∷ l) (plain node.Sub l tt k))) rest h
term_plain (Mul a b) rest h = folds_to StaysPlain (Mul a b) (Mul (folded a) (folded b)) (λ i l k. plain (node.Int (literal_value INFINITY (Mul a b))) l tt k)
    (λ i l k. term_plain a (expr_nodes (folded b) (node.Mul ∷ l)) (term_plain b (node.Mul ∷ l) (plain node.Mul l tt k))) rest h
term_plain (DivDown a b) rest h = term_plain a (expr_nodes (folded b) (node.DivDown ∷ rest)) (term_plain b (node.DivDown ∷ rest) (plain node.DivDown rest tt h))
term_plain (DivUp a b) rest h = term_plain a (expr_nodes (folded b) (node.DivUp ∷ rest)) (term_plain b (node.DivUp ∷ rest) (plain node.DivUp rest tt h))

range_plain : (r : Range) (rest : List RangeNode) → All IsPlain rest → All IsPlain (range_nodes (folded_range r) rest)
range_plain (Span a b) rest h = term_plain a (expr_nodes (folded b) (node.Span ∷ rest)) (term_plain b (node.Span ∷ rest) (plain node.Span rest tt h))
range_plain (One t) rest h = term_plain t (node.One ∷ rest) (plain node.One rest tt h)
range_plain (Dom y) rest h = plain (node.Dom y) rest tt h
range_plain (Outside r) rest h = range_plain r (node.Outside ∷ rest) (plain node.Outside rest tt h)
range_plain (Union r q) rest h = range_plain r (range_nodes (folded_range q) (node.Union ∷ rest)) (range_plain q (node.Union ∷ rest) (plain node.Union rest tt h))
range_plain (Inter r q) rest h = range_plain r (range_nodes (folded_range q) (node.Inter ∷ rest)) (range_plain q (node.Inter ∷ rest) (plain node.Inter rest tt h))
range_plain (Plus r c) rest h = range_plain r (expr_nodes (folded c) (node.Plus ∷ rest)) (term_plain c (node.Plus ∷ rest) (plain node.Plus rest tt h))
range_plain (Minus r c) rest h = range_plain r (expr_nodes (folded c) (node.Minus ∷ rest)) (term_plain c (node.Minus ∷ rest) (plain node.Minus rest tt h))
range_plain (Times r c) rest h = range_plain r (expr_nodes (folded c) (node.Times ∷ rest)) (term_plain c (node.Times ∷ rest) (plain node.Times rest tt h))
range_plain (Over r c) rest h = range_plain r (expr_nodes (folded c) (node.Over ∷ rest)) (term_plain c (node.Over ∷ rest) (plain node.Over rest tt h))

-- an instruction gives back its node, and its constant is there
abbrev IsIn : List ℤ → ℤ → Type 0
IsIn table z = list_any (int_eq z) table ≡ true

record GivesBack (table : List ℤ) (n : RangeNode) : Type 0 where
  same : node_of table (instr_of table n) ≡ n
  placed : IsPlaced (length table) (instr_of table n)

record AreBack (table : List ℤ) (ns : List RangeNode) : Type 0 where
  pub same : map (node_of table) (map (instr_of table) ns) ≡ ns
  pub placed : All (IsPlaced (length table)) (map (instr_of table) ns)

back_more : (table : List ℤ) (n : RangeNode) (ns : List RangeNode) → GivesBack table n → AreBack table ns → AreBack table (n ∷ ns)
back_more table n ns h k = record { same = two (λ x xs. x ∷ xs) h.same k.same; placed = All-cons (IsPlaced (length table)) (instr_of table n) (map (instr_of table) ns) h.placed k.placed }

back : (table : List ℤ) (ns : List RangeNode) → All IsPlain ns → All (IsIn table) (integers ns) → AreBack table ns
back table [] h k = record { same = refl; placed = All-nil (IsPlaced (length table)) }
back table (node.Int z ∷ ns) h k =
    let j = has_place z table (All-head (IsIn table) z (integers ns) k) in
    back_more table (node.Int z) ns (record { same = ap node.Int j.there; placed = j.within }) (back table ns (All-tail IsPlain (node.Int z) ns h) (All-tail (IsIn table) z (integers ns) k))
back table (node.Infinity ∷ ns) h k = absurd (All-head IsPlain node.Infinity ns h)
back table (node.Param x ∷ ns) h k = back_more table (node.Param x) ns (record { same = refl; placed = tt }) (back table ns (All-tail IsPlain (node.Param x) ns h) k)
back table (node.Min y ∷ ns) h k = back_more table (node.Min y) ns (record { same = refl; placed = tt }) (back table ns (All-tail IsPlain (node.Min y) ns h) k)
back table (node.Max y ∷ ns) h k = back_more table (node.Max y) ns (record { same = refl; placed = tt }) (back table ns (All-tail IsPlain (node.Max y) ns h) k)
back table (node.Val y ∷ ns) h k = back_more table (node.Val y) ns (record { same = refl; placed = tt }) (back table ns (All-tail IsPlain (node.Val y) ns h) k)
back table (node.Dom y ∷ ns) h k = back_more table (node.Dom y) ns (record { same = refl; placed = tt }) (back table ns (All-tail IsPlain (node.Dom y) ns h) k)
back table (node.Add ∷ ns) h k = back_more table node.Add ns (record { same = refl; placed = tt }) (back table ns (All-tail IsPlain node.Add ns h) k)
back table (node.Sub ∷ ns) h k = back_more table node.Sub ns (record { same = refl; placed = tt }) (back table ns (All-tail IsPlain node.Sub ns h) k)
back table (node.Mul ∷ ns) h k = back_more table node.Mul ns (record { same = refl; placed = tt }) (back table ns (All-tail IsPlain node.Mul ns h) k)
back table (node.DivDown ∷ ns) h k = back_more table node.DivDown ns (record { same = refl; placed = tt }) (back table ns (All-tail IsPlain node.DivDown ns h) k)
back table (node.DivUp ∷ ns) h k = back_more table node.DivUp ns (record { same = refl; placed = tt }) (back table ns (All-tail IsPlain node.DivUp ns h) k)
back table (node.Span ∷ ns) h k = back_more table node.Span ns (record { same = refl; placed = tt }) (back table ns (All-tail IsPlain node.Span ns h) k)
back table (node.One ∷ ns) h k = back_more table node.One ns (record { same = refl; placed = tt }) (back table ns (All-tail IsPlain node.One ns h) k)
back table (node.Union ∷ ns) h k = back_more table node.Union ns (record { same = refl; placed = tt }) (back table ns (All-tail IsPlain node.Union ns h) k)
back table (node.Inter ∷ ns) h k = back_more table node.Inter ns (record { same = refl; placed = tt }) (back table ns (All-tail IsPlain node.Inter ns h) k)
back table (node.Outside ∷ ns) h k = back_more table node.Outside ns (record { same = refl; placed = tt }) (back table ns (All-tail IsPlain node.Outside ns h) k)
back table (node.Plus ∷ ns) h k = back_more table node.Plus ns (record { same = refl; placed = tt }) (back table ns (All-tail IsPlain node.Plus ns h) k)
back table (node.Minus ∷ ns) h k = back_more table node.Minus ns (record { same = refl; placed = tt }) (back table ns (All-tail IsPlain node.Minus ns h) k)
back table (node.Times ∷ ns) h k = back_more table node.Times ns (record { same = refl; placed = tt }) (back table ns (All-tail IsPlain node.Times ns h) k)
back table (node.Over ∷ ns) h k = back_more table node.Over ns (record { same = refl; placed = tt }) (back table ns (All-tail IsPlain node.Over ns h) k)

range_back : (r : Range) → AreBack (table_of (nodes_of (folded_range r))) (nodes_of (folded_range r))
range_back r = back (table_of (nodes_of (folded_range r))) (nodes_of (folded_range r)) (range_plain r [] (All-nil IsPlain)) (all_in [] (integers (nodes_of (folded_range r))))

-- what is behind the tests
behind_tests : (needs : List (Option Need)) (vals : List ℕ) (ms : List RangeNode) (s : Steps) → AreStepsOf needs vals (integers ms) ms s → drop s.tests s.instrs.items ≡ map (instr_of (table_of ms)) ms
behind_tests needs vals ms s h = two drop h.tests h.instrs ∙ drop-append_seam (tests_for needs vals) (map (instr_of (table_of ms)) ms)

pub steps_are : (needs : List (Option Need)) (vals : List ℕ) (r : Range) (s : Steps)
    → AreStepsOf needs vals (integers (nodes_of (folded_range r))) (nodes_of (folded_range r)) s → all_steps s ≡ nodes_of (folded_range r)
steps_are needs vals r s h = two (λ k l. map (node_of k) l) h.constants (behind_tests needs vals (nodes_of (folded_range r)) s h) ∙ (range_back r).same

pub steps_placed : (needs : List (Option Need)) (vals : List ℕ) (r : Range) (s : Steps) → AreStepsOf needs vals (integers (nodes_of (folded_range r))) (nodes_of (folded_range r)) s → ArePlaced s
steps_placed needs vals r s h = subst (λ k. All (IsPlaced (length k)) (drop s.tests s.instrs.items)) (sym h.constants)
    (subst (All (IsPlaced (length (table_of (nodes_of (folded_range r)))))) (sym (behind_tests needs vals (nodes_of (folded_range r)) s h)) (range_back r).placed)

pub tests_are : (needs : List (Option Need)) (vals : List ℕ) (ms : List RangeNode) (s : Steps) → AreStepsOf needs vals (integers ms) ms s → take s.tests s.instrs.items ≡ tests_for needs vals
tests_are needs vals ms s h = two take h.tests h.instrs ∙ take-append_seam (tests_for needs vals) (map (instr_of (table_of ms)) ms)

-- one more piece
pub literals_more : (ps : List Piece) (i : ℕ) (d : Piece) (old new : List ℤ) → i < length ps → old ≡ insert_all int_eq [] (literals (take i ps))
    → new ≡ insert_all int_eq old (literals (get_or ps i d ∷ [])) → new ≡ insert_all int_eq [] (literals (take (i + 1) ps))
literals_more ps i d old new l e f =
    f ∙ (ap (λ t. insert_all int_eq t (literals (get_or ps i d ∷ []))) e ∙ sym (ap (λ l. insert_all int_eq [] (literals l)) (take_more ps i d l)
    ∙ (ap (insert_all int_eq []) (literals_append (take i ps) (get_or ps i d ∷ [])) ∙ fold-append (insert_key int_eq) [] (literals (take i ps)) (literals (get_or ps i d ∷ []))))) where
      literals_append : (ps qs : List Piece) → literals (ps ++ qs) ≡ literals ps ++ literals qs
      literals_append [] qs = refl
      literals_append (Literal z ∷ ps) qs = ap (λ l. z ∷ l) (literals_append ps qs)
      literals_append (Other n ∷ ps) qs = literals_append ps qs

-- what is behind the tests, place by place
pub at_drop : {X : Type 0} (P : X → Type 0) (xs : List X) (n i : ℕ) (d : X) → n ≤ i → i < length xs → All P (drop n xs) → P (get_or xs i d)
at_drop P xs n i d h l k =
    let e : n + (i - n) ≡ i = omega arith in
    subst (λ j. P (get_or xs j d)) e (subst P (get_or-drop n xs (i - n) d) (All-get_or P (drop n xs) (i - n) d (subst (λ m. i - n < m) (sym (length-drop n xs)) (omega arith)) k))

pub all_back : {X Y : Type 0} (P : Y → Type 0) (f : X → Y) (xs : List X) → All P (map f xs) → All (λ x. P (f x)) xs
all_back P f [] h = All-nil (λ x. P (f x))
all_back P f (x ∷ xs) h = All-cons (λ y. P (f y)) x xs (All-head P (f x) (map f xs) h) (all_back P f xs (All-tail P (f x) (map f xs) h))
