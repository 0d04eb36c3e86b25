-- What the table of operators keeps, by a test of the whole table.
use Rattle.std.proofs.Common.{◌≡◌, ◌<◌, ◌≤◌, List, [], ◌∷◌, Some, Bool, true, false, cond, refl, subst}
use Rattle.std.specs.Prelude.{nat_lt, nat_le, find, ◌&&◌, ◌||◌}
use Rattle.std.specs.Str.{bytes_eq}
use Rattle.std.proofs.lemmas.Bool.{leb-true, le-ltb, ltb-true, and_parts}
use Rattle.fd_language.specs.Term.{Name}
use Rattle.fd_language.specs.Operators.{Operator, left_limit, right_limit, infix_operators, prefix_operators, infix_of, prefix_of}
use Rattle.fd_language.specs.Terminals.{Terminal, operator_word, comma, comma_operator, infix_operator}

abbrev all_rows : (Operator → Bool) → List Operator → Bool
all_rows p [] = true
all_rows p (f ∷ fs) = p f && all_rows p fs

found : (p : Operator → Bool) (fs : List Operator) (q : Operator → Bool) (f : Operator) → all_rows p fs ≡ true → find q fs ≡ Some f → p f ≡ true
found p [] q f all e = absurd cc
found p (g ∷ gs) q f all e =
    let parts = and_parts (p g) (all_rows p gs) all in
    go (q g) e parts.0 (λ e2. found p gs q f parts.1 e2)
  where
    go : (b : Bool) → cond b (Some g) (find q gs) ≡ Some f → p g ≡ true → (find q gs ≡ Some f → p f ≡ true) → p f ≡ true
    go true e2 here later = let same : g ≡ f = cc in subst (λ (x : Operator). p x ≡ true) same here
    go false e2 here later = later e2

abbrev rows : List Operator
rows = comma_operator ∷ infix_operators

-- an infix operator's test
by_rows : (p : Operator → Bool) → all_rows p rows ≡ true → (x : Terminal) (f : Operator) → infix_operator x ≡ Some f → p f ≡ true
unfolding infix_of
by_rows p all (operator_word q o) f e = found p infix_operators (λ g. bytes_eq g.name o) f (and_parts (p comma_operator) (all_rows p infix_operators) all).1 e
by_rows p all (comma q) f e = let same : comma_operator ≡ f = cc in subst (λ (g : Operator). p g ≡ true) same (and_parts (p comma_operator) (all_rows p infix_operators) all).0
by_rows p all _ f e = absurd cc

by_prefix_rows : (p : Operator → Bool) → all_rows p prefix_operators ≡ true → (o : Name) (f : Operator) → prefix_of o ≡ Some f → p f ≡ true
unfolding prefix_of
by_prefix_rows p all o f e = found p prefix_operators (λ g. bytes_eq g.name o) f all e

abbrev row_bounds : Operator → Bool
row_bounds f = nat_le (left_limit f) f.priority && nat_le (right_limit f) f.priority

bounds : (f : Operator) → row_bounds f ≡ true → ((left_limit f) ≤ f.priority) × ((right_limit f) ≤ f.priority)
bounds f e = let t = and_parts (nat_le (left_limit f) f.priority) (nat_le (right_limit f) f.priority) e in (leb-true (left_limit f) f.priority t.0, leb-true (right_limit f) f.priority t.1)

pub bounds_infix : (x : Terminal) (f : Operator) → infix_operator x ≡ Some f → ((left_limit f) ≤ f.priority) × ((right_limit f) ≤ f.priority)
bounds_infix x f e = bounds f (by_rows row_bounds refl x f e)

pub bounds_prefix : (o : Name) (f : Operator) → prefix_of o ≡ Some f → ((left_limit f) ≤ f.priority) × ((right_limit f) ≤ f.priority)
bounds_prefix o f e = bounds f (by_prefix_rows row_bounds refl o f e)

-- an operator that may stand on the left of f asks less of its right operand than f has
abbrev row_apart : Operator → Operator → Bool
row_apart f g = nat_lt (left_limit f) g.priority || nat_lt (right_limit g) f.priority

apart : (f g : Operator) → row_apart f g ≡ true → g.priority ≤ (left_limit f) → (right_limit g) < f.priority
apart f g e h = go (nat_lt (left_limit f) g.priority) (le-ltb (left_limit f) g.priority h) e
  where
    go : (b : Bool) → b ≡ false → (b || nat_lt (right_limit g) f.priority) ≡ true → (right_limit g) < f.priority
    go true n t = absurd cc
    go false n t = ltb-true (right_limit g) f.priority t

abbrev apart_from : List Operator → Operator → Bool
apart_from gs f = all_rows (row_apart f) gs

pub apart_infix : (x : Terminal) (f : Operator) → infix_operator x ≡ Some f → (y : Terminal) (g : Operator) → infix_operator y ≡ Some g → g.priority ≤ (left_limit f) → (right_limit g) < f.priority
apart_infix x f e y g e2 h = apart f g (by_rows (row_apart f) (by_rows (apart_from rows) refl x f e) y g e2) h

pub apart_prefix : (x : Terminal) (f : Operator) → infix_operator x ≡ Some f → (o : Name) (g : Operator) → prefix_of o ≡ Some g → g.priority ≤ (left_limit f) → (right_limit g) < f.priority
apart_prefix x f e o g e2 h = apart f g (by_prefix_rows (row_apart f) (by_rows (apart_from prefix_operators) refl x f e) o g e2) h

abbrev row_within : Operator → Bool
row_within f = nat_le f.priority 1200

pub within_infix : (x : Terminal) (f : Operator) → infix_operator x ≡ Some f → f.priority ≤ 1200
within_infix x f e = leb-true f.priority 1200 (by_rows row_within refl x f e)
