-- What is told of code that memory holds is a good sheet, whose code is verified by its states.
use Rattle.std.proofs.Common.{◌≡◌, ℕ, suc, zero, ◌+◌, ◌<◌, ◌≤◌, Bool, true, false, not, IsTrue, ◌==◌, nat_lt, List, [], ◌∷◌, ◌++◌, map, drop, length, Some}
use Rattle.std.proofs.Common.{slice_get, refl, sym, ap, ◌∙◌, subst, arith, All, eq-eqb, append_assoc}
use Rattle.std.specs.Prelude.{nat_le, slice_index_or, unwrap_or, codes}
use Rattle.std.specs.List.{list_all, list_any}
use Rattle.std.specs.Str.{bytes_eq}
use Rattle.std.proofs.lemmas.Bool.{and_from, or_left, or_right, lt-ltb, le-leb}
use Rattle.std.proofs.lemmas.Option.{none-some, same_Some, slice_get_within, slice_get-get_or}
use Rattle.std.proofs.lemmas.List.{length-append, length-map, get_or-map}
use Rattle.std.proofs.lemmas.List.Folds.{Any-from_list_any}
use Rattle.std.proofs.lemmas.List.Elements.{All-map, All-weaker}
use Rattle.fd_language.specs.Term.{Name}
use Rattle.fd_language.specs.Family.{has}
use Rattle.fd_language.specs.declared.TheConstants.{INFINITY}
use Rattle.fd_language.specs.Range.{Range}
use Rattle.fd_language.specs.RangeVerdict.{is_accepted}
use Rattle.fd_language.specs.Spelling.{empty_range}
use Rattle.fd_language.specs.PostfixRanges.{nodes_of, spelled_range, spelled_range-nodes}
use Rattle.range_code.specs.Slots.{slots_of, in_slots}
use Rattle.term_pool.specs.declared.AtomId.{AtomId}
use Rattle.term_pool.specs.Contents.{Contents, first_names}
use Rattle.term_pool.specs.PoolInvariant.{IsPool, AreDistinct}
use Rattle.term_pool.proofs.Lemmas.{same_text, slice_get-append}
use Rattle.wam_code.specs.declared.instruction.Key.{Key}
use Rattle.wam_code.specs.declared.instruction.Key.TheVariants as key
use Rattle.wam_code.specs.declared.instruction.Code.{Code}
use Rattle.wam_code.specs.declared.instruction.Code.TheVariants.{GetConstant, GetStructure, UnifyConstant, PutConstant, PutStructure, Call, Execute, Jump}
use Rattle.wam_code.specs.declared.instruction.Code.TheVariants.{TryMeElse, RetryMeElse, Try, Retry, Trust, SwitchOnTerm, SwitchOnConstant, SwitchOnInteger}
use Rattle.wam_code.specs.declared.instruction.Code.TheVariants.{SwitchOnStructure, Either, PostRange, EnterTest}
use Rattle.wam_code.specs.declared.parts.Entry.{Entry}
use Rattle.wam_code.specs.Area.{State, Span, Table, Area, table_at, range_at}
use Rattle.wam_code.specs.Keys.{Rises}
use Rattle.wam_code.specs.VerifiedCode.{arms, named, IsAtom, IsKey, IsThere, IsNoStart, IsQuery, AreChoices, IsVerifiedBy}
use Rattle.code_listing.specs.Listing.{Sheet, sheet_of, table_of}
use Rattle.code_listing.specs.Sheets.{IsSheet, area_in, fits_switch, Listed}
use Rattle.listing_loader.specs.Marks.{atom_marks, has_slots_in_order, has_atom, has_key, has_row, entry_mark, query_mark, rises, table_mark, instruction_mark}
use Rattle.listing_loader.specs.Marks.{place_mark, counts_of, number_marks, AreRight, IsGoodRange}
use Rattle.listing_loader.specs.LoadedCode.{IsHeld, IsGood}
use Rattle.listing_loader.proofs.Lists.{all_get, all_from, right_map, passes_all}
use Rattle.listing_loader.proofs.Keys.{rises_is}
use Rattle.listing_loader.proofs.WrongLines.{all_right}
use Rattle.listing_loader.proofs.RangeSlots.{slots_in_order, accepted_same, as_many_slots}

-- ---- names that are told apart

any_at : (c : Name) (names : List Name) → list_any (bytes_eq c) names ≡ true → (k : ℕ) × (slice_get names k ≡ Some c)
any_at c names h =
    let w = Any-from_list_any (bytes_eq c) names h in
    (w.0, slice_get-get_or names w.0 w.1 w.2 ∙ ap Some (w.3 ∙ sym (same_text c w.1 w.4)))

slice_get_front : (xs ys : List Name) (k : ℕ) (x : Name) → slice_get xs k ≡ Some x → slice_get (xs ++ ys) k ≡ Some x
slice_get_front xs ys k x h = slice_get-append xs ys k (slice_get_within xs k x h) ∙ h

slice_get_here : (xs ys : List Name) (y : Name) → slice_get (xs ++ (y ∷ ys)) (length xs) ≡ Some y
slice_get_here [] ys y = refl
slice_get_here (x ∷ xs) ys y = slice_get_here xs ys y

distinct_marks : (before cs : List Name) → AreDistinct (before ++ cs) → AreRight (atom_marks before cs)
distinct_marks before [] d = refl
distinct_marks before (c ∷ cs) d =
    and_from (not (list_any (bytes_eq c) before)) (list_all (λ m. m) (atom_marks (before ++ c ∷ []) cs)) (new (list_any (bytes_eq c) before) refl)
    (distinct_marks (before ++ c ∷ []) cs (subst AreDistinct (sym (append_assoc before (c ∷ []) cs)) d)) where
      clash : (k : ℕ) → slice_get before k ≡ Some c → ⊥
      clash k h =
          let low : k < length before = slice_get_within before k c h in
          let here : slice_get (before ++ (c ∷ cs)) k ≡ Some c = slice_get_front before (c ∷ cs) k c h in
          let there : slice_get (before ++ (c ∷ cs)) (length before) ≡ Some c = slice_get_here before cs c in
          let e = d (record { number = k }) (record { number = length before }) (slice_get_within (before ++ (c ∷ cs)) k c here)
          (slice_get_within (before ++ (c ∷ cs)) (length before) c there) (ap (λ o. unwrap_or o []) (here ∙ sym there)) in
          omega (arith, low, ap (λ (a : AtomId). a.number) e)

      new : (b : Bool) → list_any (bytes_eq c) before ≡ b → not b ≡ true
      new true e = (let w = any_at c before e in absurd (clash w.0 w.1))
      new false e = refl

-- a pool begins with the first names
first_three : (names : List Name) (a b c : Name) → 3 ≤ length names → unwrap_or (slice_get names 0) [] ≡ a → unwrap_or (slice_get names 1) [] ≡ b
    → unwrap_or (slice_get names 2) [] ≡ c → (a ∷ b ∷ c ∷ []) ++ drop 3 names ≡ names
first_three [] a b c h e f g = absurd (omega (arith, h))
first_three (x ∷ []) a b c h e f g = absurd (omega (arith, h))
first_three (x ∷ y ∷ []) a b c h e f g = absurd (omega (arith, h))
first_three (x ∷ y ∷ z ∷ xs) a b c h e f g = cc (e, f, g)

pub names_are : (c : Contents) → IsPool c → first_names ++ drop 3 c.names ≡ c.names
names_are c p = first_three c.names (codes "[]") (codes ".") (codes "..") p.three p.nil p.cons p.span

-- ---- ranges

map_twice : (rs : List Range) → map spelled_range (map (λ r. nodes_of (in_slots r)) rs) ≡ map in_slots rs
map_twice [] = refl
map_twice (r ∷ rs) = ap (λ q. q ∷ map spelled_range (map (λ r. nodes_of (in_slots r)) rs)) (spelled_range-nodes (in_slots r)) ∙ ap (λ qs. in_slots r ∷ qs) (map_twice rs)

ordered_marks : (rs : List Range) → AreRight (map has_slots_in_order (map (λ r. nodes_of (in_slots r)) rs))
ordered_marks [] = refl
ordered_marks (r ∷ rs) = and_from (has_slots_in_order (nodes_of (in_slots r))) (list_all (λ m. m) (map has_slots_in_order (map (λ r. nodes_of (in_slots r)) rs))) (slots_in_order r) (ordered_marks rs)

good_ranges : (rs : List Range) → All (λ r. IsTrue (is_accepted INFINITY r)) rs → All IsGoodRange (map (λ r. nodes_of (in_slots r)) rs)
good_ranges rs h = All-map IsGoodRange (λ r. nodes_of (in_slots r)) rs
    (All-weaker (λ r. IsTrue (is_accepted INFINITY r)) (λ r. IsGoodRange (nodes_of (in_slots r)))
    (λ r a. (in_slots r, refl, accepted_same INFINITY r ∙ a)) rs h)

-- ---- what instructions name

module _ (a : Area) (ss : List State) (v : IsVerifiedBy a ss) (names : first_names ++ drop 3 a.pool.names ≡ a.pool.names) where
  abbrev Told : Sheet
  Told = sheet_of a ss

  -- as many atoms are there
  atoms_are : length first_names + length (drop 3 a.pool.names) ≡ length a.pool.names
  atoms_are = sym (length-append first_names (drop 3 a.pool.names)) ∙ ap length names

  atom_marked : (c : AtomId) → IsAtom a c → has_atom (counts_of Told) c ≡ true
  atom_marked c h = lt-ltb c.number (length first_names + length (drop 3 a.pool.names)) (omega (arith, h, atoms_are))

  key_marked : (k : Key) → IsKey a k → has_key (counts_of Told) k ≡ true
  key_marked (key.Atom c) h = atom_marked c h
  key_marked (key.Int z) h = refl
  key_marked (key.Struct f n) h = atom_marked f h

  in_arms : (table : Table) (k : ℕ) (row : Key × ℕ) → slice_get table k ≡ Some row → has (arms table) row.1 ≡ true
  in_arms [] k row h = absurd (none-some row h)
  in_arms (x ∷ table) zero row h = or_left (x.1 == row.1) (has (arms table) row.1) (eq-eqb x.1 row.1 (ap (λ (y : Key × ℕ). y.1) (same_Some x row h)))
  in_arms (x ∷ table) (suc k) row h = or_right (x.1 == row.1) (has (arms table) row.1) (in_arms table k row h)

  table_marked : (t : ℕ) → t < length a.tables → Rises (table_at a t) → ((to : ℕ) → has (arms (table_at a t)) to ≡ true → to < length a.code) → table_mark (counts_of Told) (table_at a t) ≡ true
  table_marked t low r there =
      and_from (rises (table_at a t)) (list_all (has_row (counts_of Told)) (table_at a t)) ((rises_is (table_at a t)).1 r)
      (passes_all (has_row (counts_of Told)) (table_at a t)
      (λ k row e. and_from (has_key (counts_of Told) row.0) (nat_lt row.1 (length a.code))
      (key_marked row.0 (all_get (λ (row : Key × ℕ). IsKey a row.0) (table_at a t) k row (v.keys t [] low) e))
      (lt-ltb row.1 (length a.code) (there row.1 (in_arms (table_at a t) k row e)))))

  -- what an instruction names
  alone : (to : ℕ) → has (to ∷ []) to ≡ true
  alone to = or_left (to == to) false (eq-eqb to to refl)

  instruction_marked : (i : Code) → IsThere a i → ((to : ℕ) → has (named a i) to ≡ true → to < length a.code)
      → ((t : ℕ) → t < length a.tables → Rises (table_at a t)) → instruction_mark (counts_of Told) (table_of a.tables i) i ≡ true
  instruction_marked (GetConstant c x) h n r = atom_marked c h
  instruction_marked (GetStructure f k x) h n r = atom_marked f h
  instruction_marked (UnifyConstant c) h n r = atom_marked c h
  instruction_marked (PutConstant c x) h n r = atom_marked c h
  instruction_marked (PutStructure f k x) h n r = atom_marked f h
  instruction_marked (Call e) h n r = lt-ltb e (length a.entries) h
  instruction_marked (Execute e) h n r = lt-ltb e (length a.entries) h
  instruction_marked (Jump to) h n r = lt-ltb to (length a.code) (n to (alone to))
  instruction_marked (TryMeElse to) h n r = lt-ltb to (length a.code) (n to (alone to))
  instruction_marked (RetryMeElse to) h n r = lt-ltb to (length a.code) (n to (alone to))
  instruction_marked (Try to) h n r = lt-ltb to (length a.code) (n to (alone to))
  instruction_marked (Retry to) h n r = lt-ltb to (length a.code) (n to (alone to))
  instruction_marked (Trust to) h n r = lt-ltb to (length a.code) (n to (alone to))
  instruction_marked (Either to) h n r = lt-ltb to (length a.code) (n to (alone to))
  instruction_marked (EnterTest y z to) h n r = lt-ltb to (length a.code) (n to (alone to))
  instruction_marked (SwitchOnTerm p q m s) h n r =
      and_from (nat_lt p (length a.code)) _ (lt-ltb p (length a.code) (n p (or_left (p == p) (has (q ∷ m ∷ s ∷ []) p) (eq-eqb p p refl))))
      (and_from (nat_lt q (length a.code)) _ (lt-ltb q (length a.code) (n q (or_right (p == q) (has (q ∷ m ∷ s ∷ []) q) (or_left (q == q) (has (m ∷ s ∷ []) q) (eq-eqb q q refl)))))
      (and_from (nat_lt m (length a.code)) _ (lt-ltb m (length a.code)
      (n m (or_right (p == m) (has (q ∷ m ∷ s ∷ []) m) (or_right (q == m) (has (m ∷ s ∷ []) m) (or_left (m == m) (has (s ∷ []) m) (eq-eqb m m refl))))))
      (lt-ltb s (length a.code) (n s (or_right (p == s) (has (q ∷ m ∷ s ∷ []) s) (or_right (q == s) (has (m ∷ s ∷ []) s) (or_right (m == s) (has (s ∷ []) s) (alone s))))))))
  instruction_marked (SwitchOnConstant t) h n r = table_marked t h.0 (r t h.0) n
  instruction_marked (SwitchOnInteger t) h n r = table_marked t h.0 (r t h.0) n
  instruction_marked (SwitchOnStructure t) h n r = table_marked t h.0 (r t h.0) n
  instruction_marked (PostRange p k) h n r = lt-ltb p (length (map (λ r. nodes_of (in_slots r)) a.ranges)) (omega (arith, h.0, length-map a.ranges (λ r. nodes_of (in_slots r))))
  instruction_marked i h n r = refl

  entry_marked : (n : ℕ) (e : Entry) → slice_get a.entries n ≡ Some e → entry_mark (counts_of Told) e ≡ true
  entry_marked n e h =
      let w = v.entries n e h in
      and_from (has_atom (counts_of Told) e.name) (nat_lt e.at (length a.code)) (atom_marked e.name (all_get (λ (e : Entry). IsAtom a e.name) a.entries n e v.predicate_names h))
      (lt-ltb e.at (length a.code) (omega (arith, slice_get_within ss e.at w.0 w.1, v.states)))

  query_marked : (n : ℕ) (q : Span) → slice_get a.queries n ≡ Some q → query_mark (counts_of Told) q ≡ true
  query_marked n q h =
      let w = v.queries n q h in
      let all = all_get (λ (q : Span). All (λ c. IsAtom a c) q.names) a.queries n q v.query_names h in
      and_from (nat_lt q.at (length a.code)) _ (lt-ltb q.at (length a.code) (omega (arith, w.some, w.within)))
      (and_from (nat_le q.end (length a.code)) _ (le-leb q.end (length a.code) w.within)
      (passes_all (has_atom (counts_of Told)) q.names (λ k c e. atom_marked c (all_get (λ (c : AtomId). IsAtom a c) q.names k c all e))))

  pub marks_right : AreDistinct a.pool.names → ((t : ℕ) → t < length a.tables → Rises (table_at a t)) → AreRight (number_marks Told)
  marks_right d r =
      all_right (atom_marks first_names (drop 3 a.pool.names)) (map has_slots_in_order Told.ranges) (map (entry_mark (counts_of Told)) a.entries)
      (map (query_mark (counts_of Told)) a.queries) (map (place_mark Told) a.code)
      (distinct_marks first_names (drop 3 a.pool.names) (subst AreDistinct (sym names) d))
      (ordered_marks a.ranges)
      (right_map (entry_mark (counts_of Told)) a.entries entry_marked)
      (right_map (query_mark (counts_of Told)) a.queries query_marked)
      (right_map (place_mark Told) a.code (λ at i h. instruction_marked i (v.there at i h) (λ to n. (v.ahead at to (i, h, n)).1) r))

  -- the keys of switches are of their kind
  kinds_fit : (i : Code) → IsThere a i → All (λ row. IsTrue (fits_switch i row.0)) (table_of a.tables i)
  kinds_fit (SwitchOnConstant t) h = h.1
  kinds_fit (SwitchOnInteger t) h = h.1
  kinds_fit (SwitchOnStructure t) h = h.1
  kinds_fit i h = λ k d low. absurd (omega (arith, low))

  -- ---- the code that is told is verified

  range_is : (r : ℕ) → r < length a.ranges → range_at (area_in Told) r ≡ in_slots (range_at a r)
  range_is r low =
      ap (λ l. slice_index_or l r empty_range) (map_twice a.ranges)
      ∙ get_or-map in_slots a.ranges r empty_range empty_range low

  atom_kept : (c : AtomId) → IsAtom a c → IsAtom (area_in Told) c
  atom_kept c h = subst (λ (l : List Name). c.number < length l) (sym names) h

  key_kept : (k : Key) → IsKey a k → IsKey (area_in Told) k
  key_kept (key.Atom c) h = atom_kept c h
  key_kept (key.Int z) h = tt
  key_kept (key.Struct f n) h = atom_kept f h

  there_kept : (i : Code) → IsThere a i → IsThere (area_in Told) i
  there_kept (GetConstant c x) h = atom_kept c h
  there_kept (GetStructure f k x) h = atom_kept f h
  there_kept (UnifyConstant c) h = atom_kept c h
  there_kept (PutConstant c x) h = atom_kept c h
  there_kept (PutStructure f k x) h = atom_kept f h
  there_kept (Call e) h = h
  there_kept (Execute e) h = h
  there_kept (SwitchOnConstant t) h = h
  there_kept (SwitchOnInteger t) h = h
  there_kept (SwitchOnStructure t) h = h
  there_kept (PostRange r n) h =
      let low : r < length (area_in Told).ranges = omega (arith, h.0, length-map a.ranges (λ r. nodes_of (in_slots r)), length-map (map (λ r. nodes_of (in_slots r)) a.ranges) spelled_range) in
      (low, h.1 ∙ ap suc (sym (as_many_slots (range_at a r)) ∙ sym (ap (λ (q : Range). length (slots_of q)) (range_is r h.0))))
  there_kept i h = tt

  no_start_kept : (at : ℕ) → IsNoStart a at → IsNoStart (area_in Told) at
  no_start_kept at n = record { entries = n.entries; queries = n.queries }

  query_kept : (q : Span) → IsQuery a ss q → IsQuery (area_in Told) ss q
  query_kept q w = record {
    some = w.some;
    within = w.within;
    last = w.last;
    shown = w.shown;
    no_proceed = w.no_proceed;
    no_execute = w.no_execute;
    no_entry = w.no_entry;
    stays = w.stays;
    not_named = w.not_named;
    not_fallen = w.not_fallen;
  }

  choices_kept : AreChoices a → AreChoices (area_in Told)
  choices_kept c = record {
    others = c.others;
    named_once = c.named_once;
    named_alone = c.named_alone;
    not_fallen = c.not_fallen;
    no_start = λ to h. no_start_kept to (c.no_start to h);
    behind = c.behind;
    before = c.before;
    not_named = c.not_named;
    no_start_behind = λ to h. no_start_kept to (c.no_start_behind to h);
  }

  pub told_verified : IsVerifiedBy (area_in Told) ss
  told_verified = record {
    states = v.states;
    leads = v.leads;
    ahead = v.ahead;
    next = v.next;
    entries = v.entries;
    firsts = v.firsts;
    queries = λ n q h. query_kept q (v.queries n q h);
    apart = v.apart;
    answers = v.answers;
    choices = choices_kept v.choices;
    there = λ at i h. there_kept i (v.there at i h);
    keys = All-weaker (λ (table : Table). All (λ row. IsKey a row.0) table) (λ (table : Table). All (λ row. IsKey (area_in Told) row.0) table)
        (λ table h. All-weaker (λ (row : Key × ℕ). IsKey a row.0) (λ (row : Key × ℕ). IsKey (area_in Told) row.0) (λ row k. key_kept row.0 k) table h)
        a.tables v.keys;
    predicate_names = All-weaker (λ (e : Entry). IsAtom a e.name) (λ (e : Entry). IsAtom (area_in Told) e.name) (λ e h. atom_kept e.name h) a.entries v.predicate_names;
    query_names = All-weaker (λ (q : Span). All (λ c. IsAtom a c) q.names) (λ (q : Span). All (λ c. IsAtom (area_in Told) c) q.names)
        (λ q h. All-weaker (λ (c : AtomId). IsAtom a c) (λ (c : AtomId). IsAtom (area_in Told) c) atom_kept q.names h) a.queries v.query_names;
  }

-- ---- all of it

pub held_sheet : (l : Listed) → IsHeld l → IsSheet (sheet_of l.area l.states)
held_sheet l h = record {
  states = h.listed.verified.states;
  tables = h.listed.tables.in_order;
  keys = all_from (λ i. All (λ row. IsTrue (fits_switch i row.0)) (table_of l.area.tables i)) l.area.code
      (λ at i e. kinds_fit l.area l.states h.listed.verified (names_are l.area.pool h.pool) i (h.listed.verified.there at i e));
}

pub held_good : (l : Listed) → IsHeld l → IsGood (sheet_of l.area l.states)
held_good l h = record {
  numbers = marks_right l.area l.states h.listed.verified (names_are l.area.pool h.pool) h.pool.distinct h.listed.tables.rising;
  ranges = good_ranges l.area.ranges h.ranges;
}

pub held_verified : (l : Listed) → IsHeld l → IsVerifiedBy (area_in (sheet_of l.area l.states)) l.states
held_verified l h = told_verified l.area l.states h.listed.verified (names_are l.area.pool h.pool)
