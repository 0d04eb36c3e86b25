-- A reading at other places, with other numbers for its variables, is the same reading.
use Rattle.std.proofs.Common.{◌≡◌, ◌∙◌, ℕ, ℤ, ◌≤◌, List, [], ◌∷◌, Bool, true, Some, refl, ◌&&◌, not, slice_get}
use Rattle.fd_language.specs.Term.{Name}
use Rattle.fd_language.specs.PlacedTerm.{PlacedTerm, PlacedTerms, var, int, atom, comp, no_parts, part, one, two}
use Rattle.fd_language.specs.Operators.{Operator, left_limit, right_limit, prefix_of}
use Rattle.fd_language.specs.Terminals.{Terminal, name, operator_word, variable, integer, opens, closes, open_list, close_list, open_curly, close_curly, comma}
use Rattle.fd_language.specs.Terminals.{bar, stop, infix_operator, is_tight_open, is_negated, may_follow}
use Rattle.term_writer.specs.TextReadings.{number_among}
use Rattle.fd_language.specs.Grammar.{nil_name, curly_name, list_of, Reads, an_integer, a_negative, a_variable, an_atom, empty_list, empty_curly, named_call}
use Rattle.fd_language.specs.Grammar.{operator_call, in_parens, operator_in_parens, a_list, a_list_tail, in_curly, a_prefix, an_infix, Arg, a_term, an_operator}
use Rattle.fd_language.specs.Grammar.{Args, last, more}

-- m is the number at which the text of the variable x stands among the names
pub record IsNumbered (vars : ℕ → List ℕ) (names : List Name) (x m : ℕ) : Type 0 where
  pub number : m ≡ number_among vars names x
  pub named : slice_get names m ≡ Some (vars x)

-- the same token at another place; a variable has the number of its text
pub data Alike (vars : ℕ → List ℕ) (names : List Name) : Terminal → Terminal → Type 0 where
  like_name : {p q : ℕ} {a : Name} → Alike vars names (name p a) (name q a)
  like_word : {p q : ℕ} {o : Name} → Alike vars names (operator_word p o) (operator_word q o)
  like_variable : {p q n m : ℕ} → IsNumbered vars names n m → Alike vars names (variable p n) (variable q m)
  like_integer : {p q : ℕ} {b : Bool} {z : ℤ} → Alike vars names (integer p b z) (integer q b z)
  like_open : {p q : ℕ} {b : Bool} → Alike vars names (opens p b) (opens q b)
  like_close : Alike vars names closes closes
  like_open_list : {p q : ℕ} → Alike vars names (open_list p) (open_list q)
  like_close_list : Alike vars names close_list close_list
  like_open_curly : {p q : ℕ} → Alike vars names (open_curly p) (open_curly q)
  like_close_curly : Alike vars names close_curly close_curly
  like_comma : {p q : ℕ} → Alike vars names (comma p) (comma q)
  like_bar : Alike vars names bar bar
  like_stop : Alike vars names stop stop

pub data AllAlike (vars : ℕ → List ℕ) (names : List Name) : List Terminal → List Terminal → Type 0 where
  no_token : AllAlike vars names [] []
  and : {x y : Terminal} {xs ys : List Terminal} → Alike vars names x y → AllAlike vars names xs ys → AllAlike vars names (x ∷ xs) (y ∷ ys)

mutual
  -- the same term at other places, where a variable has the number of its text
  pub data Stands (vars : ℕ → List ℕ) (names : List Name) : PlacedTerm → PlacedTerm → Type 0 where
    same_var : {p q n m : ℕ} → IsNumbered vars names n m → Stands vars names (var n p) (var m q)
    same_int : {p q : ℕ} {z : ℤ} → Stands vars names (int z p) (int z q)
    same_atom : {p q : ℕ} {a : Name} → Stands vars names (atom a p) (atom a q)
    same_comp : {p q : ℕ} {f : Name} {us vs : PlacedTerms} → AllStand vars names us vs → Stands vars names (comp f p us) (comp f q vs)

  pub data AllStand (vars : ℕ → List ℕ) (names : List Name) : PlacedTerms → PlacedTerms → Type 0 where
    same_none : AllStand vars names no_parts no_parts
    same_part : {u v : PlacedTerm} {us vs : PlacedTerms} → Stands vars names u v → AllStand vars names us vs → AllStand vars names (part u us) (part v vs)

module _ (vars : ℕ → List ℕ) (names : List Name) where
  alike_infix : {x y : Terminal} → Alike vars names x y → infix_operator y ≡ infix_operator x
  alike_infix like_name = refl
  alike_infix like_word = refl
  alike_infix (like_variable h) = refl
  alike_infix like_integer = refl
  alike_infix like_open = refl
  alike_infix like_close = refl
  alike_infix like_open_list = refl
  alike_infix like_close_list = refl
  alike_infix like_open_curly = refl
  alike_infix like_close_curly = refl
  alike_infix like_comma = refl
  alike_infix like_bar = refl
  alike_infix like_stop = refl

  alike_follows : (o : Name) {x y : Terminal} → Alike vars names x y → (not (is_tight_open y) && not (is_negated o y)) ≡ (not (is_tight_open x) && not (is_negated o x))
  alike_follows o like_name = refl
  alike_follows o like_word = refl
  alike_follows o (like_variable h) = refl
  alike_follows o like_integer = refl
  alike_follows o like_open = refl
  alike_follows o like_close = refl
  alike_follows o like_open_list = refl
  alike_follows o like_close_list = refl
  alike_follows o like_open_curly = refl
  alike_follows o like_close_curly = refl
  alike_follows o like_comma = refl
  alike_follows o like_bar = refl
  alike_follows o like_stop = refl

  all_follow : (o : Name) {xs ys : List Terminal} → AllAlike vars names xs ys → may_follow o ys ≡ may_follow o xs
  all_follow o no_token = refl
  all_follow o (and h k) = alike_follows o h

  list_stands : (p q : ℕ) {us vs : PlacedTerms} {t u : PlacedTerm} → AllStand vars names us vs → Stands vars names t u → Stands vars names (list_of p us t) (list_of q vs u)
  list_stands p q same_none h = h
  list_stands p q (same_part k ks) h = same_comp (same_part k (same_part (list_stands p q ks h) same_none))

  -- the tokens ts begin with a reading as that of t, which leaves what is as rest
  pub data Moved (ts rest : List Terminal) (q : ℕ) (t : PlacedTerm) : Type 0 where
    moved : {behind : List Terminal} {u : PlacedTerm} → AllAlike vars names rest behind → Reads ts behind q u → Stands vars names t u → Moved ts rest q t

  data MovedArg (ts rest : List Terminal) (t : PlacedTerm) : Type 0 where
    moved_arg : {behind : List Terminal} {u : PlacedTerm} → AllAlike vars names rest behind → Arg ts behind u → Stands vars names t u → MovedArg ts rest t

  data MovedArgs (ts rest : List Terminal) (us : PlacedTerms) : Type 0 where
    moved_args : {behind : List Terminal} {vs : PlacedTerms} → AllAlike vars names rest behind → Args ts behind vs → AllStand vars names us vs → MovedArgs ts rest us

  named : {p q q2 : ℕ} {a : Name} {ts rest : List Terminal} {us : PlacedTerms} → MovedArgs ts (closes ∷ rest) us → Moved (name q a ∷ opens q2 true ∷ ts) rest 0 (comp a p us)
  named (moved_args (and like_close k) d s) = moved k (named_call d) (same_comp s)

  operated : {p q q2 : ℕ} {a : Name} {ts rest : List Terminal} {us : PlacedTerms} → MovedArgs ts (closes ∷ rest) us → Moved (operator_word q a ∷ opens q2 true ∷ ts) rest 0 (comp a p us)
  operated (moved_args (and like_close k) d s) = moved k (operator_call d) (same_comp s)

  parenthesized : {p q : ℕ} {b : Bool} {ts rest : List Terminal} {t : PlacedTerm} → q ≤ 1200 → Moved ts (closes ∷ rest) q t → Moved (opens p b ∷ ts) rest 0 t
  parenthesized l (moved (and like_close k) d s) = moved k (in_parens d l) s

  curled : {p p2 q : ℕ} {ts rest : List Terminal} {t : PlacedTerm} → q ≤ 1200 → Moved ts (close_curly ∷ rest) q t → Moved (open_curly p ∷ ts) rest 0 (comp curly_name p2 (one t))
  curled l (moved (and like_close_curly k) d s) = moved k (in_curly d l) (same_comp (same_part s same_none))

  listed : (p q : ℕ) {ts rest : List Terminal} {us : PlacedTerms} → MovedArgs ts (close_list ∷ rest) us → Moved (open_list q ∷ ts) rest 0 (list_of p us (atom nil_name p))
  listed p q (moved_args (and like_close_list k) d s) = moved k (a_list d) (list_stands p q s same_atom)

  ended : (p q : ℕ) {ts zs rest : List Terminal} {us vs : PlacedTerms} {t : PlacedTerm} → Args ts (bar ∷ zs) vs → AllStand vars names us vs
      → MovedArg zs (close_list ∷ rest) t → Moved (open_list q ∷ ts) rest 0 (list_of p us t)
  ended p q d s (moved_arg (and like_close_list k) e r) = moved k (a_list_tail d e) (list_stands p q s r)

  tailed : (p q : ℕ) {ts zs rest : List Terminal} {us : PlacedTerms} {t : PlacedTerm} → MovedArgs ts (bar ∷ zs) us
      → ((ws : List Terminal) → AllAlike vars names zs ws → MovedArg ws (close_list ∷ rest) t)
      → Moved (open_list q ∷ ts) rest 0 (list_of p us t)
  tailed p q (moved_args (and {ys = ys} like_bar k) d s) later = ended p q d s (later ys k)

  prefixed : {p p2 q : ℕ} {o : Name} {ts rest : List Terminal} {t : PlacedTerm} (f : Operator) → prefix_of o ≡ Some f → may_follow o ts ≡ true → q ≤ right_limit f → Moved ts rest q t
      → Moved (operator_word p o ∷ ts) rest f.priority (comp o p2 (one t))
  prefixed f e m l (moved k d s) = moved k (a_prefix f e m d l) (same_comp (same_part s same_none))

  joined : {q r : ℕ} {y : Terminal} {ts zs rest : List Terminal} {a b c : PlacedTerm} {p : ℕ} (f : Operator) → infix_operator y ≡ Some f → q ≤ left_limit f → r ≤ right_limit f
      → Reads ts (y ∷ zs) q b → Stands vars names a b → Moved zs rest r c → Moved ts rest f.priority (comp f.name p (two a c))
  joined f e l m d s (moved k d2 s2) = moved k (an_infix f e d l d2 m) (same_comp (same_part s (same_part s2 same_none)))

  infixed : {p q r : ℕ} {x : Terminal} {ts us rest : List Terminal} {a c : PlacedTerm} (f : Operator) → infix_operator x ≡ Some f → q ≤ left_limit f → r ≤ right_limit f
      → Moved ts (x ∷ us) q a → ((ws : List Terminal) → AllAlike vars names us ws → Moved ws rest r c) → Moved ts rest f.priority (comp f.name p (two a c))
  infixed f e l m (moved (and {ys = ys} like k) d s) later = joined f (alike_infix like ∙ e) l m d s (later ys k)

  others : {p : ℕ} {ts zs rest : List Terminal} {t u : PlacedTerm} {us : PlacedTerms} → Arg ts (comma p ∷ zs) u → Stands vars names t u → MovedArgs zs rest us → MovedArgs ts rest (part t us)
  others d s (moved_args k ds ss) = moved_args k (more d ds) (same_part s ss)

  first_arg : {p : ℕ} {ts zs rest : List Terminal} {t : PlacedTerm} {us : PlacedTerms} → MovedArg ts (comma p ∷ zs) t
      → ((ws : List Terminal) → AllAlike vars names zs ws → MovedArgs ws rest us) → MovedArgs ts rest (part t us)
  first_arg (moved_arg (and {ys = ys} like_comma k) d s) later = others d s (later ys k)

  last_arg : {ts rest : List Terminal} {t : PlacedTerm} → MovedArg ts rest t → MovedArgs ts rest (one t)
  last_arg (moved_arg k d s) = moved_args k (last d) (same_part s same_none)

  as_arg : {ts rest : List Terminal} {q : ℕ} {t : PlacedTerm} → q ≤ 999 → Moved ts rest q t → MovedArg ts rest t
  as_arg l (moved k d s) = moved_arg k (a_term d l) s

  mutual
    pub move : {ts rest : List Terminal} {q : ℕ} {t : PlacedTerm} → Reads ts rest q t → (ws : List Terminal) → AllAlike vars names ts ws → Moved ws rest q t
    move an_integer _ (and like_integer h) = moved h an_integer same_int
    move (a_negative m) _ (and like_word (and like_integer h)) = moved h (a_negative m) same_int
    move a_variable _ (and (like_variable v) h) = moved h a_variable (same_var v)
    move an_atom _ (and like_name h) = moved h an_atom same_atom
    move empty_list _ (and like_open_list (and like_close_list h)) = moved h empty_list same_atom
    move empty_curly _ (and like_open_curly (and like_close_curly h)) = moved h empty_curly same_atom
    move (named_call d) _ (and like_name (and {ys = ws} like_open h)) = named (move_args d ws h)
    move (operator_call d) _ (and like_word (and {ys = ws} like_open h)) = operated (move_args d ws h)
    move (in_parens d l) _ (and {ys = ws} like_open h) = parenthesized l (move d ws h)
    move operator_in_parens _ (and like_open (and like_word (and like_close h))) = moved h operator_in_parens same_atom
    move (a_list {p = p} d) _ (and {ys = ws} (like_open_list {q = q}) h) = listed p q (move_args d ws h)
    move (a_list_tail {p = p} d e) _ (and {ys = ws} (like_open_list {q = q}) h) = tailed p q (move_args d ws h) (λ vs k. move_arg e vs k)
    move (in_curly d l) _ (and {ys = ws} like_open_curly h) = curled l (move d ws h)
    move (a_prefix {o = o} f e m d l) _ (and {ys = ws} like_word h) = prefixed f e (all_follow o h ∙ m) l (move d ws h)
    move (an_infix f e d l d2 l2) ws h = infixed f e l l2 (move d ws h) (λ vs k. move d2 vs k)

    move_arg : {ts rest : List Terminal} {t : PlacedTerm} → Arg ts rest t → (ws : List Terminal) → AllAlike vars names ts ws → MovedArg ws rest t
    move_arg (a_term d l) ws h = as_arg l (move d ws h)
    move_arg an_operator _ (and like_word h) = moved_arg h an_operator same_atom

    move_args : {ts rest : List Terminal} {us : PlacedTerms} → Args ts rest us → (ws : List Terminal) → AllAlike vars names ts ws → MovedArgs ws rest us
    move_args (last d) ws h = last_arg (move_arg d ws h)
    move_args (more d ds) ws h = first_arg (move_arg d ws h) (λ vs k. move_args ds vs k)
