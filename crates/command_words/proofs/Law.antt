-- Words of the form are words that clap takes, and it finds the values as they are written.
use Rattle.std.proofs.Common.{◌≡◌, ◌∙◌, ◌<◌, ◌&&◌, ◌||◌, ℕ, Bool, cond, refl, sym, ap, subst, true, false, true≢false, not, is_some, List, [], ◌∷◌, ◌++◌}
use Rattle.std.proofs.Common.{Option, Some, None, codes, append-nil, append_assoc, arith}
use Rattle.std.specs.Prelude.{◌==◌, length, map, option_and_then, slice_get}
use Rattle.std.specs.List.{fold, list_all, find}
use Rattle.std.specs.Str.{bytes_eq}
use Rattle.std.proofs.lemmas.Bool.{eqb-true}
use Rattle.std.proofs.lemmas.List.Folds.{list_any-append}
use Rattle.std.proofs.lemmas.Slice.Eq.{bytes_eq-Decides}
use Rattle.fd_language.proofs.Lemmas.{all_three}
use Rattle.clap.proofs.OnLiterals.{clap_on_literals}
use Rattle.clap.proofs.TakesLemmas.{leaf_takes}
use Rattle.clap.proofs.SimpleLemmas.{is_nil}
use Rattle.clap.proofs.WalkLemmas.{both}
use Rattle.clap.specs.Lexer.{long_of, short_of}
use Rattle.clap.specs.Simple.{Shape}
use Rattle.clap.specs.Takes.{default_passes, is_valid, level_passes, settle_passes, turn_passes, walk_passes}
use Rattle.clap.specs.Values.{reading_of}
use Rattle.clap.specs.Walk.{Held, Step, Walk, after_step, at_row, default_rows, finished, has_row, is_empty, more_values, nothing_held, option, plain_word}
use Rattle.clap.specs.Walk.{reading_by, settled, settled_rows, walk_from, walked, with_default, with_values, without, word_met}
use Rattle.clap.specs.Words.{Row, Rule, Text, built, first_of, matches_of, takes}
use Rattle.clap.specs.declared.builder.value_parser.ValueParser.TheVariants as vp
use Rattle.clap.specs.declared.parser.matches.ValueSource.TheVariants.{CommandLine}
use Rattle.fd_language.specs.declared.TheConstants.{INFINITY}
use Rattle.fd_model.specs.Output.{default_options}
use Rattle.command_words.specs.Words.{agenda_in, command_app, found_value, has_form, infinity_in, is_choice, limit_in, options_by, options_of, size_in}
use Rattle.command_words.specs.Words.{value_behind}

abbrev top : Shape
top = (built command_app).top

abbrev name_of : Text → Text
name_of id = 45 ∷ 45 ∷ id

abbrev row : Text → Text → Row
row id v = record { id = id; values = v ∷ []; count = None; source = Some CommandLine; reading = reading_of vp.String }

abbrev next_held : Held → Text → Text → Held
next_held h id v = record { rows = (settled top.rules h).rows; pending = Some (id, v ∷ []); skip = h.skip }

abbrev waiting_for : Held → Text → Walk
waiting_for h id = record (walk_from (record (settled top.rules h) { pending = Some (id, []) })) { waiting = option id }

not_dashes : (x : ℕ) (xs : Text) → (x == 45) ≡ false → bytes_eq (x ∷ xs) (45 ∷ 45 ∷ []) ≡ false
not_dashes x xs e = rw e refl

not_long : (x : ℕ) (xs : Text) → (x == 45) ≡ false → long_of (x ∷ xs) ≡ None
not_long x xs e = rw e refl

not_short : (x : ℕ) (xs : Text) → (x == 45) ≡ false → short_of (x ∷ xs) ≡ None
not_short x xs e = rw e refl

value_met : (c : List Rule) (id : Text) (position : ℕ) (h : Held) (x : ℕ) (xs : Text) → (x == 45) ≡ false
    → word_met c [] false (option id) position (x ∷ xs) h ≡ plain_word c (option id) (x ∷ xs) h
value_met c id position h x xs e = rw (not_dashes x xs e, not_long x xs e, not_short x xs e) refl

-- what clap makes of an option and its value
record IsRead (id : Text) : Type 0 where
  named : (h : Held) → walked top.rules [] (walk_from h) (name_of id) ≡ waiting_for h id
  valued : (h : Held) (x : ℕ) (xs : Text) → (x == 45) ≡ false → walked top.rules [] (waiting_for h id) (x ∷ xs) ≡ walk_from (next_held h id (x ∷ xs))
  name_passes : (h : Held) → turn_passes top [] (walk_from h) (name_of id) ≡ (settle_passes top.rules false h && true)
  value_passes : (h : Held) (x : ℕ) (xs : Text) → (x == 45) ≡ false → turn_passes top [] (waiting_for h id) (x ∷ xs) ≡ true
  settles : (rows : List Row) (v : Text) (skip : ℕ) → has_row id rows ≡ false → settle_passes top.rules false (record { rows = rows; pending = Some (id, v ∷ []); skip = skip }) ≡ true
  keeps : (rows : List Row) (v : Text) → settled_rows top.rules (Some (id, v ∷ [])) rows ≡ with_values id (reading_of vp.String) CommandLine (v ∷ []) (without id rows)

steps_read : IsRead (codes "steps")
unfolding clap_on_literals
steps_read = record {
  named = λ h. refl;
  valued = λ h x xs e. ap (λ (p : Held × Step). after_step top.rules (x ∷ xs) (waiting_for h (codes "steps")) p.0 p.1)
      (value_met top.rules (codes "steps") 1 (waiting_for h (codes "steps")).held x xs e);
  name_passes = λ h. refl;
  value_passes = λ h x xs e. rw (not_dashes x xs e, not_long x xs e, not_short x xs e) refl;
  settles = λ rows v skip e. rw e refl;
  keeps = λ rows v. refl;
}

answers_read : IsRead (codes "answers")
unfolding clap_on_literals
answers_read = record {
  named = λ h. refl;
  valued = λ h x xs e. ap (λ (p : Held × Step). after_step top.rules (x ∷ xs) (waiting_for h (codes "answers")) p.0 p.1)
      (value_met top.rules (codes "answers") 1 (waiting_for h (codes "answers")).held x xs e);
  name_passes = λ h. refl;
  value_passes = λ h x xs e. rw (not_dashes x xs e, not_long x xs e, not_short x xs e) refl;
  settles = λ rows v skip e. rw e refl;
  keeps = λ rows v. refl;
}

agenda_read : IsRead (codes "agenda")
unfolding clap_on_literals
agenda_read = record {
  named = λ h. refl;
  valued = λ h x xs e. ap (λ (p : Held × Step). after_step top.rules (x ∷ xs) (waiting_for h (codes "agenda")) p.0 p.1)
      (value_met top.rules (codes "agenda") 1 (waiting_for h (codes "agenda")).held x xs e);
  name_passes = λ h. refl;
  value_passes = λ h x xs e. rw (not_dashes x xs e, not_long x xs e, not_short x xs e) refl;
  settles = λ rows v skip e. rw e refl;
  keeps = λ rows v. refl;
}

infinity_read : IsRead (codes "infinity")
unfolding clap_on_literals
infinity_read = record {
  named = λ h. refl;
  valued = λ h x xs e. ap (λ (p : Held × Step). after_step top.rules (x ∷ xs) (waiting_for h (codes "infinity")) p.0 p.1)
      (value_met top.rules (codes "infinity") 1 (waiting_for h (codes "infinity")).held x xs e);
  name_passes = λ h. refl;
  value_passes = λ h x xs e. rw (not_dashes x xs e, not_long x xs e, not_short x xs e) refl;
  settles = λ rows v skip e. rw e refl;
  keeps = λ rows v. refl;
}

gen_read : IsRead (codes "gen")
unfolding clap_on_literals
gen_read = record {
  named = λ h. refl;
  valued = λ h x xs e. ap (λ (p : Held × Step). after_step top.rules (x ∷ xs) (waiting_for h (codes "gen")) p.0 p.1)
      (value_met top.rules (codes "gen") 1 (waiting_for h (codes "gen")).held x xs e);
  name_passes = λ h. refl;
  value_passes = λ h x xs e. rw (not_dashes x xs e, not_long x xs e, not_short x xs e) refl;
  settles = λ rows v skip e. rw e refl;
  keeps = λ rows v. refl;
}

-- ---- names and values

-- a text that begins with another byte than a hyphen
record IsPlain (v : Text) : Type 0 where
  first : ℕ
  rest : Text
  is : v ≡ first ∷ rest
  plain : (first == 45) ≡ false

plain_if : (test : Text → Bool) → test [] ≡ false → ((rest : Text) → test (45 ∷ rest) ≡ false) → (v : Text) → test v ≡ true → IsPlain v
plain_if test empty dash [] e = absurd (true≢false (sym e ∙ empty))
plain_if test empty dash (x ∷ xs) e = go (x == 45) refl
  where
    go : (b : Bool) → (x == 45) ≡ b → IsPlain (x ∷ xs)
    go false not = record { first = x; rest = xs; is = refl; plain = not }
    go true is = absurd (true≢false (sym e ∙ ap (λ y. test (y ∷ xs)) (eqb-true x 45 is) ∙ dash xs))

-- an option with a value of it
record Choice (n v : Text) : Type 0 where
  id : Text
  value : IsPlain v
  name : n ≡ name_of id
  read : IsRead id

one_choice : (id : Text) → IsRead id → (test : Text → Bool) → test [] ≡ false → ((rest : Text) → test (45 ∷ rest) ≡ false) → (n v : Text) (other : Bool)
    → (other ≡ true → Choice n v) → cond (bytes_eq n (name_of id)) (test v) other ≡ true → Choice n v
one_choice id read test empty dash n v other later e = go (bytes_eq n (name_of id)) refl e
  where
    go : (b : Bool) → bytes_eq n (name_of id) ≡ b → cond b (test v) other ≡ true → Choice n v
    go true is t = record { id = id; value = plain_if test empty dash v t; name = (bytes_eq-Decides n (name_of id)).0 is; read = read }
    go false is t = later t

choice : (n v : Text) → is_choice n v ≡ true → Choice n v
choice n v e =
    one_choice (codes "steps") steps_read (λ t. is_some (limit_in t)) refl (λ rest. refl) n v _
    (λ e2. one_choice (codes "answers") answers_read (λ t. is_some (limit_in t)) refl (λ rest. refl) n v _
    (λ e3. one_choice (codes "agenda") agenda_read (λ t. is_some (agenda_in t)) refl (λ rest. refl) n v _
    (λ e4. one_choice (codes "infinity") infinity_read (λ t. is_some (infinity_in t)) refl (λ rest. refl) n v _
    (λ e5. one_choice (codes "gen") gen_read (λ t. is_some (size_in t)) refl (λ rest. refl) n v false (λ e6. absurd (true≢false (sym e6))) e5) e4) e3) e2) e

-- ---- rows

at_no_row : (id : Text) (change : Row → List Row) (missing rows : List Row) → has_row id rows ≡ false → at_row id change missing rows ≡ rows ++ missing
at_no_row id change missing [] e = refl
at_no_row id change missing (r ∷ rs) e = go (bytes_eq r.id id) e (at_no_row id change missing rs)
  where
    go : (b : Bool) → (b || has_row id rs) ≡ false → (has_row id rs ≡ false → at_row id change missing rs ≡ rs ++ missing)
        → cond b (change r ++ rs) (r ∷ at_row id change missing rs) ≡ r ∷ (rs ++ missing)
    go true t later = absurd (true≢false t)
    go false t later = ap (λ xs. r ∷ xs) (later t)

one_more : (id v : Text) (rows : List Row) → has_row id rows ≡ false
    → with_values id (reading_of vp.String) CommandLine (v ∷ []) (without id rows) ≡ rows ++ row id v ∷ []
one_more id v rows e =
    ap (with_values id (reading_of vp.String) CommandLine (v ∷ [])) (at_no_row id (λ _. []) [] rows e ∙ append-nil rows)
    ∙ at_no_row id (more_values CommandLine (v ∷ [])) (row id v ∷ []) rows e

id_of : Text → Text
id_of [] = []
id_of (a ∷ []) = []
id_of (a ∷ b ∷ id) = id

rows_behind : List Text → List Row
rows_behind [] = []
rows_behind (n ∷ []) = []
rows_behind (n ∷ v ∷ rest) = row (id_of n) v ∷ rows_behind rest

-- no option that has a row is named by the words
IsFresh : List Row → List Text → Type 0
IsFresh rows words = (id : Text) → has_row id rows ≡ true → value_behind (name_of id) words ≡ None

none_named : (o : Option Text) → not (is_some o) ≡ true → o ≡ None
none_named None e = refl
none_named (Some v) e = absurd (true≢false (sym e))

-- an option that is named has no row
no_row_of : (id v : Text) (rest : List Text) (rows : List Row) → IsFresh rows (name_of id ∷ v ∷ rest) → has_row id rows ≡ false
unfolding IsFresh
no_row_of id v rest rows fresh = go (has_row id rows) refl
  where
    same : bytes_eq id id ≡ true
    same = (bytes_eq-Decides id id).1 refl

    go : (b : Bool) → has_row id rows ≡ b → b ≡ false
    go false e = refl
    go true e = let none : cond (bytes_eq id id) (Some v) (value_behind (name_of id) rest) ≡ None = fresh id e in
        let some : Some v ≡ None = rw same at none in cc

fresh_more : (id v : Text) (rest : List Text) (rows : List Row) → IsFresh rows (name_of id ∷ v ∷ rest) → value_behind (name_of id) rest ≡ None
    → IsFresh (rows ++ row id v ∷ []) rest
unfolding IsFresh
fresh_more id v rest rows fresh none j e = go (has_row j rows) refl (sym (list_any-append (λ (r : Row). bytes_eq r.id j) rows (row id v ∷ [])) ∙ e)
  where
    later : (b : Bool) → cond b (Some v) (value_behind (name_of j) rest) ≡ None → value_behind (name_of j) rest ≡ None
    later true t = cc
    later false t = t

    named : (b : Bool) → bytes_eq id j ≡ b → (b || false) ≡ true → value_behind (name_of j) rest ≡ None
    named true is t = subst (λ k. value_behind (name_of k) rest ≡ None) ((bytes_eq-Decides id j).0 is) none
    named false is t = absurd (true≢false (sym t))

    go : (b : Bool) → has_row j rows ≡ b → (b || (bytes_eq id j || false)) ≡ true → value_behind (name_of j) rest ≡ None
    go true is t = later (bytes_eq id j) (fresh j is)
    go false is t = named (bytes_eq id j) refl t

-- ---- the walk

abbrev rows_at : Held → List Row
rows_at h = (settled top.rules h).rows

record IsTaken (h : Held) (words : List Text) : Type 0 where
  end : Held
  walks : fold (walked top.rules []) (walk_from h) words ≡ walk_from end
  passes : walk_passes top [] (walk_from h) words ≡ true
  settles : settle_passes top.rules false end ≡ true
  rows : rows_at end ≡ rows_at h ++ rows_behind words

next_rows : (h : Held) (id v : Text) → IsRead id → has_row id (rows_at h) ≡ false → rows_at (next_held h id v) ≡ rows_at h ++ row id v ∷ []
next_rows h id v read e = read.keeps (rows_at h) v ∙ one_more id v (rows_at h) e

more : (h : Held) (id : Text) (x : ℕ) (xs : Text) (rest : List Text) → IsRead id → (x == 45) ≡ false → settle_passes top.rules false h ≡ true
    → has_row id (rows_at h) ≡ false → IsTaken (next_held h id (x ∷ xs)) rest → IsTaken h (name_of id ∷ (x ∷ xs) ∷ rest)
unfolding walk_passes rows_behind id_of
more h id x xs rest read plain s none t =
    let moves : walked top.rules [] (walked top.rules [] (walk_from h) (name_of id)) (x ∷ xs) ≡ walk_from (next_held h id (x ∷ xs)) =
    ap (λ (w : Walk). walked top.rules [] w (x ∷ xs)) (read.named h) ∙ read.valued h x xs plain in
    record {
      end = t.end;
      walks = ap (λ (w : Walk). fold (walked top.rules []) w rest) moves ∙ t.walks;
      passes = all_three _ _ _ (read.name_passes h ∙ ap (λ b. b && true) s)
          (ap (λ (w : Walk). turn_passes top [] w (x ∷ xs)) (read.named h) ∙ read.value_passes h x xs plain)
          (ap (λ (w : Walk). walk_passes top [] w rest) moves ∙ t.passes);
      settles = t.settles;
      rows = t.rows ∙ ap (λ rs. rs ++ rows_behind rest) (next_rows h id (x ∷ xs) read none) ∙ append_assoc (rows_at h) (row id (x ∷ xs) ∷ []) (rows_behind rest);
    }

taken : (words : List Text) (h : Held) → has_form words ≡ true → settle_passes top.rules false h ≡ true → IsFresh (rows_at h) words → IsTaken h words
unfolding walk_passes rows_behind
taken [] h form s fresh = record { end = h; walks = refl; passes = refl; settles = s; rows = sym (append-nil _) }
taken (n ∷ []) h form s fresh = absurd (true≢false (sym form))
taken (n ∷ v ∷ rest) h form s fresh =
    let parts = both (is_choice n v) _ form in
    let others = both (not (is_some (value_behind n rest))) _ parts.1 in
    let c = choice n v parts.0 in
    let here : IsFresh (rows_at h) (name_of c.id ∷ v ∷ rest) = subst (λ (m : Text). IsFresh (rows_at h) (m ∷ v ∷ rest)) c.name fresh in
    let none : has_row c.id (rows_at h) ≡ false = no_row_of c.id v rest (rows_at h) here in
    let unnamed : value_behind (name_of c.id) rest ≡ None = none_named _ (subst (λ (m : Text). not (is_some (value_behind m rest)) ≡ true) c.name others.0) in
    let next : IsFresh (rows_at (next_held h c.id v)) rest =
    subst (λ rs. IsFresh rs rest) (sym (next_rows h c.id v c.read none)) (fresh_more c.id v rest (rows_at h) here unnamed) in
    let later : IsTaken (next_held h c.id v) rest = taken rest (next_held h c.id v) others.1 (c.read.settles (rows_at h) v h.skip none) next in
    let plain : IsTaken h (name_of c.id ∷ (c.value.first ∷ c.value.rest) ∷ rest) = more h c.id c.value.first c.value.rest rest c.read c.value.plain s none
    (subst (λ (u : Text). IsTaken (next_held h c.id u) rest) c.value.is later) in
    subst (λ (m : Text). IsTaken h (m ∷ v ∷ rest)) (sym c.name) (subst (λ (u : Text). IsTaken h (name_of c.id ∷ u ∷ rest)) (sym c.value.is) plain)

-- ---- after the walk

same_either : (b : Bool) (rows : List Row) → cond b rows rows ≡ rows
same_either true rows = refl
same_either false rows = refl

no_default : (rows : List Row) (a : Rule) → a.defaults ≡ [] → with_default rows a ≡ rows
no_default rows a e = ap (λ ds. cond (has_row a.id rows) rows (default_rows a.id (reading_by a) ds rows)) e ∙ same_either (has_row a.id rows) rows

no_defaults : (rules : List Rule) (rows : List Row) → list_all (λ a. is_empty a.defaults) rules ≡ true → fold with_default rows rules ≡ rows
no_defaults [] rows e = refl
no_defaults (a ∷ rest) rows e =
    let parts = both (is_empty a.defaults) _ e in
    ap (λ rs. fold with_default rs rest) (no_default rows a (is_nil _ parts.0)) ∙ no_defaults rest rows parts.1

from_nothing : (words : List Text) → has_form words ≡ true → IsTaken nothing_held words
unfolding IsFresh
from_nothing words form = taken words nothing_held form refl (λ id e. absurd (true≢false (sym e)))

valid_at_end : (rows : List Row) → (list_all default_passes top.rules && is_valid top rows false) ≡ true
valid_at_end rows = refl

level_taken : (words : List Text) → has_form words ≡ true → level_passes top [] nothing_held words false ≡ true
level_taken words form =
    let t = from_nothing words form in
    let last : settle_passes top.rules false (fold (walked top.rules []) (walk_from nothing_held) words).held ≡ true =
    ap (λ (w : Walk). settle_passes top.rules false w.held) t.walks ∙ t.settles in
    all_three _ _ _ t.passes last (valid_at_end (finished top.rules (fold (walked top.rules []) (walk_from nothing_held) words).held))

-- words of the form are taken by clap
pub form_is_taken : (words : List Text) → has_form words ≡ true → takes command_app words ≡ true
form_is_taken words form = leaf_takes (built command_app) nothing_held words refl (level_taken words form)

matches_are : (words : List Text) → has_form words ≡ true → matches_of command_app words ≡ rows_behind words
matches_are words form =
    let t = from_nothing words form in
    ap (λ (w : Walk). fold with_default (rows_at w.held) top.rules) t.walks ∙ no_defaults top.rules (rows_at t.end) refl ∙ t.rows

first_behind : (words : List Text) (j : Text) → has_form words ≡ true → first_of j (rows_behind words) ≡ value_behind (name_of j) words
unfolding rows_behind id_of
first_behind [] j form = refl
first_behind (n ∷ []) j form = refl
first_behind (n ∷ v ∷ rest) j form =
    let parts = both (is_choice n v) _ form in
    let others = both (not (is_some (value_behind n rest))) _ parts.1 in
    let c = choice n v parts.0 in
    let here : first_of j (row c.id v ∷ rows_behind rest) ≡ value_behind (name_of j) (name_of c.id ∷ v ∷ rest) =
    go c.id (bytes_eq c.id j) (first_behind rest j others.1) in
    subst (λ (m : Text). first_of j (row (id_of m) v ∷ rows_behind rest) ≡ value_behind (name_of j) (m ∷ v ∷ rest)) (sym c.name) here
  where
    go : (i : Text) (b : Bool) → first_of j (rows_behind rest) ≡ value_behind (name_of j) rest
        → option_and_then (λ (r : Row). slice_get r.values 0) (cond b (Some (row i v)) (find (λ r. bytes_eq r.id j) (rows_behind rest)))
        ≡ cond b (Some v) (value_behind (name_of j) rest)
    go i true e = refl
    go i false e = e

-- the value that clap finds for an option stands behind its name
pub value_as_written : (words : List Text) → has_form words ≡ true → (id : Text) → found_value words id ≡ value_behind (45 ∷ 45 ∷ id) words
value_as_written words form id = ap (first_of id) (matches_are words form) ∙ first_behind words id form

-- options are the same by the same values
pub options_same : (f g : Text → Option Text) → ((id : Text) → f id ≡ g id) → options_by f ≡ options_by g
options_same f g same = rw (same (codes "steps"), same (codes "answers"), same (codes "infinity"), same (codes "gen")) refl

-- words of the form ask for what is written in them, whatever clap is
pub asked_as_written : (words : List Text) → options_of words ≡ cond (has_form words) (Some (options_by (λ id. value_behind (45 ∷ 45 ∷ id) words))) None
asked_as_written words = go (has_form words) refl
  where
    go : (b : Bool) → has_form words ≡ b → cond (b && takes command_app words) (Some (options_by (found_value words))) None
        ≡ cond b (Some (options_by (λ id. value_behind (45 ∷ 45 ∷ id) words))) None
    go false form = refl
    go true form = ap (λ b. cond b (Some (options_by (found_value words))) None) (form_is_taken words form)
        ∙ ap Some (options_same _ _ (value_as_written words form))

-- words of the form are accepted, with the values that clap finds
pub accepts : (words : List Text) → has_form words ≡ true → options_of words ≡ Some (options_by (found_value words))
accepts words form = rw (form, form_is_taken words form) refl

-- no words ask for what is usual
pub none_asked : options_of [] ≡ Some (default_options INFINITY)
none_asked = asked_as_written []

pub accepts_none : {S : Type 0} (text : S → Text) (words : List S) → true ≡ (length words == 0) → options_of (map text words) ≡ Some (default_options INFINITY)
accepts_none text [] none = none_asked
accepts_none text (w ∷ ws) none = let more : 0 < length (w ∷ ws) = omega arith in absurd (omega (arith, eqb-true (length (w ∷ ws)) 0 (sym none)))
