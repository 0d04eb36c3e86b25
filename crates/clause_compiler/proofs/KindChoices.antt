-- The choices of a kind, put behind the segments before them.
use Rattle.std.proofs.Common.{◌≡◌, ◌⊎◌, ℕ, zero, suc, pos, ◌+◌, ◌<◌, true, false, List, [], ◌∷◌, ◌++◌, map, option_map, get_or, Some, length, slice_get, refl}
use Rattle.std.proofs.Common.{ap, ap₂, sym, ◌∙◌, subst, inl, inr, arith, append_assoc}
use Rattle.std.specs.List.Sorted.{IsPermutation}
use Rattle.std.proofs.lemmas.List.{length-append, length-map, append-nil}
use Rattle.std.proofs.lemmas.List.Sorted.{IsPermutation-sym}
use Rattle.std.proofs.lemmas.Option.{slice_get-map, slice_get_within, get_or_from_slice_get}
use Rattle.clause_compiler.proofs.CodeAssembly.{same_lists}
use Rattle.clause_check.specs.Programs.{FlatProgram}
use Rattle.wam_code.specs.declared.instruction.Key.{Key}
use Rattle.wam_code.specs.declared.instruction.Key.TheVariants as key
use Rattle.wam_code.specs.declared.instruction.Code.{Code}
use Rattle.wam_code.specs.Area.{Table}
use Rattle.wam_code.specs.Keys.{Rises}
use Rattle.clause_code.specs.ClauseChoices.{list_of}
use Rattle.clause_compiler.specs.declared.keys.Kind.{Kind}
use Rattle.clause_compiler.specs.declared.tables.Label.{Label}
use Rattle.clause_compiler.specs.Keys.{key_of, may_be, kind_numbers, is_tabled}
use Rattle.clause_compiler.specs.ClauseKeys.{may_have, key_numbers, AreKeyedBy}
use Rattle.clause_compiler.specs.Layout.{joined, offset}
use Rattle.clause_compiler.specs.Sections.{ArePut, IsListIn, its_row}
use Rattle.clause_compiler.specs.Switches.{Segment, listing, switch, segment_code, code_of, LeadsTo, switch_on, IsTableOf, IsKeySwitch, SwitchesTo, KindAt}
use Rattle.clause_compiler.specs.Switches.{IsBehind, AreKeysAmong, AreRising, TablesGrow, PutsKind}
use Rattle.clause_compiler.proofs.Lists.{get_there, split_get, get_left, get_right, got_map, moved_get, same_some}
use Rattle.clause_compiler.proofs.ClauseFilters.{sifted_one, among_sifted}

-- ---- segments behind others
-- The code of segments is put behind that of others.
pub code_append : (ss more : List Segment) → code_of (ss ++ more) ≡ code_of ss ++ code_of more
code_append [] more = refl
code_append (s ∷ ss) more = ap (λ l. segment_code s ++ l) (code_append ss more) ∙ sym (append_assoc (segment_code s) (code_of ss) (code_of more))

offset_behind : (ss more : List Segment) (k : ℕ) → offset (map segment_code (ss ++ more)) (length ss + k) ≡ length (code_of ss) + offset (map segment_code more) k
offset_behind [] more k = ap (offset (map segment_code more)) (let e : 0 + k ≡ k = omega arith in
    e) ∙ (let e : offset (map segment_code more) k ≡ 0 + offset (map segment_code more) k = omega arith in e)
offset_behind (s ∷ ss) more k =
    let r = offset_behind ss more k in
    let l = length-append (segment_code s) (code_of ss) in
    ap (offset (map segment_code (s ∷ (ss ++ more)))) (let e : suc (length ss) + k ≡ suc (length ss + k) = omega arith in e) ∙ omega (arith, r, l)

offset_before : (ss more : List Segment) (k : ℕ) → k < length ss → offset (map segment_code (ss ++ more)) k ≡ offset (map segment_code ss) k
offset_before [] more k h = absurd (omega (arith, h))
offset_before (s ∷ ss) more zero h = refl
offset_before (s ∷ ss) more (suc k) h = ap (λ n. length (segment_code s) + n) (offset_before ss more k (omega (arith, h)))

-- each table keeps its number
abbrev pub Keeps : List Table → List Table → Type 0
Keeps old new = (t : ℕ) (table : Table) → slice_get old t ≡ Some table → slice_get new t ≡ Some table

-- Tables behind the old ones leave these their numbers.
pub grown_keeps : (p : FlatProgram) (ns : List ℕ) (old new : List Table) → TablesGrow p ns old new → Keeps old new
grown_keeps p ns old new g t table e = subst (λ l. slice_get l t ≡ Some table) (sym g.1) (get_left old g.0 t table e)

-- Tables that grow twice have grown.
pub grown_twice : (p : FlatProgram) (ns : List ℕ) (one two three : List Table) → TablesGrow p ns one two → TablesGrow p ns two three → TablesGrow p ns one three
grown_twice p ns one two three g h = (
  g.0 ++ h.0,
  h.1 ∙ ap (λ l. l ++ h.0) g.1 ∙ append_assoc one g.0 h.0,
  λ t table e. by t table (split_get g.0 h.0 t table e),
  λ t table e. rise t table (split_get g.0 h.0 t table e),
)
  where
    by : (t : ℕ) (table : Table) → (slice_get g.0 t ≡ Some table) ⊎ ((m : ℕ) × (t ≡ length g.0 + m) × (slice_get h.0 m ≡ Some table))
        → (r : ℕ) (x : Key) (to : ℕ) → slice_get table r ≡ Some (x, to) → (i : ℕ) × (n : ℕ) × (slice_get ns i ≡ Some n) × (key_of p n ≡ Some x)
    by t table (inl e) = g.2 t table e
    by t table (inr e) = h.2 e.0 table e.2

    rise : (t : ℕ) (table : Table) → (slice_get g.0 t ≡ Some table) ⊎ ((m : ℕ) × (t ≡ length g.0 + m) × (slice_get h.0 m ≡ Some table)) → Rises table
    rise t table (inl e) = g.3 t table e
    rise t table (inr e) = h.3 e.0 table e.2

-- ---- what is said of segments, with others behind them
module _ (p : FlatProgram) (at : ℕ) (ss more : List Segment) where
  -- A place still leads to its list when more segments follow.
  pub leads_more : (j to : ℕ) (ns : List ℕ) → LeadsTo at ss j to ns → LeadsTo at (ss ++ more) j to ns
  leads_more j to ns h =
      let o = offset_before ss more h.0 (slice_get_within ss h.0 (listing ns) h.3) in
      (h.0, h.1, h.2 ∙ ap (λ n. at + n) (sym o), get_left ss more h.0 (listing ns) h.3)

  table_more : (table : Table) (ns : List ℕ) (j : ℕ) → IsTableOf p table ns at ss j → IsTableOf p table ns at (ss ++ more) j
  table_more table ns j h = record { rows = λ r x to e. leads_more j to (key_numbers p x ns) (h.rows r x to e); own = h.own; each = h.each; rising = h.rising }

  module _ (old new : List Table) (keeps : Keeps old new) (ns : List ℕ) where
    switch_more : (k : Kind) (j : ℕ) (i : Code) → IsKeySwitch p old k ns at ss j i → IsKeySwitch p new k ns at (ss ++ more) j i
    switch_more k j i h = record { number = h.number; table = h.table; code = h.code; there = keeps h.number h.table h.there; keys = table_more h.table (kind_numbers p k ns) j h.keys }

    -- The choices of a kind stay what they are when more segments and tables follow.
    pub kind_more : (k : Kind) (to : ℕ) → KindAt p old k ns at ss to → KindAt p new k ns at (ss ++ more) to
    kind_more k to (inl h) = inl (h.0, leads_more 0 to (kind_numbers p k ns) h.1)
    kind_more k to (inr h) = let w = h.1 in inr (
      h.0,
      record {
        j = w.j;
        i = w.i;
        later = w.later;
        place = w.place ∙ ap (λ n. at + n) (sym (offset_before ss more w.j (slice_get_within ss w.j (switch w.i) w.segment)));
        segment = get_left ss more w.j (switch w.i) w.segment;
        key_switch = switch_more k w.j w.i w.key_switch;
      },
    )

    -- So does a segment behind the first one.
    pub behind_more : (j : ℕ) (x : Segment) → IsBehind p old ns at ss j x → IsBehind p new ns at (ss ++ more) j x
    behind_more j (listing ms) h = h
    behind_more j (switch i) h = (h.0, switch_more h.0 j i h.1)

-- ---- a list
-- The choices of a kind in a list, where no key tells its clauses apart.
pub list_put : (p : FlatProgram) (tables : List Table) (k : Kind) (ns : List ℕ) (old new : List Code) → is_tabled p (kind_numbers p k ns) ≡ false
    → new ≡ old ++ list_of (kind_numbers p k ns) → PutsKind p tables k ns old new
list_put p tables k ns old new untold e ss at here some = (
  listing (kind_numbers p k ns) ∷ [],
  e ∙ ap (λ l. old ++ l) (sym (append-nil (list_of (kind_numbers p k ns)))),
  record {
    kind_at = inl (
      untold,
      (
        length ss + 0,
        (let z : 0 < length ss + 0 = omega (arith, some) in
            z),
        (let o = offset_behind ss (listing (kind_numbers p k ns) ∷ []) 0 in omega (arith, here, o)),
        get_right ss (listing (kind_numbers p k ns) ∷ []) 0,
      ),
    );
    behind = behind;
  },
)
  where
    behind : (j : ℕ) (x : Segment) → slice_get (listing (kind_numbers p k ns) ∷ []) j ≡ Some x → IsBehind p tables ns at (ss ++ listing (kind_numbers p k ns) ∷ []) (length ss + j) x
    behind zero x f = let s : listing (kind_numbers p k ns) ≡ x = cc in
        subst (IsBehind p tables ns at (ss ++ listing (kind_numbers p k ns) ∷ []) (length ss + 0)) s (among_sifted (λ n. may_be k (key_of p n)) ns)
    behind (suc j) x f = absurd cc

-- ---- a table
listings_code : (groups : List (List ℕ)) → map segment_code (map listing groups) ≡ map list_of groups
listings_code [] = refl
listings_code (g ∷ gs) = ap (λ l. list_of g ∷ l) (listings_code gs)

abbrev row_by : Key → ℕ → Key × ℕ
row_by x a = (x, a)

module _ (p : FlatProgram) (k : Kind) (ns : List ℕ) (looked : List Label) (keys : List Key) (groups : List (List ℕ))
    (w : AreKeyedBy p (kind_numbers p k ns) looked keys groups) (old mid new : List Code) (before after : List Table) (rows sorted : Table)
    (moved : IsPermutation rows sorted) (t : ℕ) (number : t ≡ length before)
    (one : mid ≡ old ++ switch_on k t ∷ []) (put : ArePut (its_row keys) (IsListIn groups) (length keys) mid new rows) (tables : after ≡ before ++ sorted ∷ []) (rises : Rises sorted) where
  abbrev more : List Segment
  more = switch (switch_on k t) ∷ map listing groups

  long : length groups ≡ length keys
  long = ap length w.lists ∙ length-map keys (λ x. key_numbers p x (kind_numbers p k ns))

  pieces_are : put.pieces ≡ map segment_code (map listing groups)
  pieces_are = same_lists put.pieces (map list_of groups) (let m = put.many in let l = long in let n = length-map groups list_of in omega (arith, m, l, n)) each ∙ sym (listings_code groups)
    where
      each : (i : ℕ) (is : List Code) → slice_get (map list_of groups) i ≡ Some is → slice_get put.pieces i ≡ Some is
      each i is e =
          let g = got_map list_of groups i is e in
          let b = slice_get_within groups i g.0 g.1 in
          let x = get_there put.pieces i (let m = put.many in let l = long in omega (arith, b, m, l)) in
          x.1 ∙ ap (λ y. Some y) (put.piece i x.0 x.1 ∙ ap list_of (get_or_from_slice_get groups i g.0 [] g.1) ∙ sym g.2)

  -- the row with a number
  row_is : (r : ℕ) (x : Key) (to : ℕ) → slice_get rows r ≡ Some (x, to) → (slice_get keys r ≡ Some x) × (to ≡ length mid + offset (map segment_code (map listing groups)) r)
  row_is r x to e =
      let b = slice_get_within rows r (x, to) e in
      let m = put.many in
      let z = put.size in
      let piece = get_there put.pieces r (omega (arith, b, m, z)) in
      let y = get_there keys r (omega (arith, b, z)) in
      let own = same_some rows r (row_by x to) (row_by (get_or keys r (key.Int (pos 0))) (length mid + offset put.pieces r)) e (put.each r piece.0 piece.1) in
      let first : x ≡ get_or keys r (key.Int (pos 0)) = ap (λ (z : Key × ℕ). z.0) own in
      let second : to ≡ length mid + offset put.pieces r = ap (λ (z : Key × ℕ). z.1) own in
      (y.1 ∙ ap (λ a. Some a) (sym (get_or_from_slice_get keys r y.0 (key.Int (pos 0)) y.1) ∙ sym first), second ∙ ap (λ l. length mid + offset l r) pieces_are)

  row_there : (r : ℕ) (x : Key) → slice_get keys r ≡ Some x → (to : ℕ) × (slice_get rows r ≡ Some (x, to))
  row_there r x e =
      let b = slice_get_within keys r x e in
      let m = put.many in
      let piece = get_there put.pieces r (omega (arith, b, m)) in
      (length mid + offset put.pieces r, put.each r piece.0 piece.1 ∙ ap (λ a. Some (row_by a (length mid + offset put.pieces r))) (get_or_from_slice_get keys r x (key.Int (pos 0)) e))

  -- a row's number before the rows were sorted
  row_before : (r : ℕ) (x : Key) (to : ℕ) → slice_get sorted r ≡ Some (x, to) → (m : ℕ) × (slice_get rows m ≡ Some (x, to))
  row_before r x to = moved_get rows sorted moved r (x, to)

  -- The table has keys of these clauses alone, which rise.
  pub table_grows : TablesGrow p ns before after
  table_grows = (sorted ∷ [], tables, among, rise)
    where
      rise : AreRising (sorted ∷ [])
      rise zero table e = let s : sorted ≡ table = cc in subst Rises s rises
      rise (suc i) table e = absurd cc

      among : AreKeysAmong p ns (sorted ∷ [])
      among zero table e r x to f =
          let s : sorted ≡ table = cc in
          let m = row_before r x to (subst (λ l. slice_get l r ≡ Some (x, to)) (sym s) f) in
          let g = w.from m.0 x (row_is m.0 x to m.1).0 in
          let h = sifted_one (λ n. may_be k (key_of p n)) ns g.0 g.1 g.2 in
          (h.0, g.1, h.1, g.3)
      among (suc i) table e r x to f = absurd cc

  -- The choices of a kind by a table.
  pub table_put : is_tabled p (kind_numbers p k ns) ≡ true → PutsKind p after k ns old new
  table_put told ss at here some = (more, whole, record { kind_at = inr (told, switches); behind = behind })
    where
      whole : new ≡ old ++ code_of more
      whole = put.code ∙ ap₂ (λ a b. a ++ joined b) one pieces_are ∙ append_assoc old (switch_on k t ∷ []) (joined (map segment_code (map listing groups)))

      mid_long : length mid ≡ length old + 1
      mid_long = ap length one ∙ length-append old (switch_on k t ∷ [])

      is_table : IsTableOf p sorted (kind_numbers p k ns) at (ss ++ more) (length ss + 0)
      is_table = record {
        rows = λ r x to e.
            let was = row_before r x to e in
            let y = row_is was.0 x to was.1 in
            let place = y.1 in
            let o = offset_behind ss more (suc was.0) in
            let m = mid_long in
            let list : slice_get groups was.0 ≡ Some (key_numbers p x (kind_numbers p k ns)) = ap (λ l. slice_get l was.0) w.lists
            ∙ slice_get-map (λ z. key_numbers p z (kind_numbers p k ns)) keys was.0
            ∙ ap (λ o. option_map (λ z. key_numbers p z (kind_numbers p k ns)) o) y.0 in (
              length ss + suc was.0,
              (let z : length ss + 0 < length ss + suc was.0 = omega arith in
                  z),
              omega (arith, place, o, m, here),
              get_right ss more (suc was.0) ∙ slice_get-map listing groups was.0 ∙ ap (λ o. option_map listing o) list,
            );
        own = λ r x to e. let was = row_before r x to e in w.from was.0 x (row_is was.0 x to was.1).0;
        each = λ i n e.
            let g = w.each i n e in
            let y = row_there g.0 g.1 g.2 in
            let now = moved_get sorted rows (IsPermutation-sym rows sorted moved) g.0 (g.1, y.0) y.1 in
            (now.0, g.1, y.0, now.1, g.3);
        rising = rises;
      }

      key_switch : IsKeySwitch p after k ns at (ss ++ more) (length ss + 0) (switch_on k t)
      key_switch = record {
        number = t;
        table = sorted;
        code = refl;
        there = ap (λ l. slice_get l t) tables ∙ ap (slice_get (before ++ sorted ∷ [])) (let e : t ≡ length before + 0 = omega (arith, number) in e) ∙ get_right before (sorted ∷ []) 0;
        keys = is_table;
      }

      switches : SwitchesTo p after k ns at (ss ++ more) (length old)
      switches = record {
        j = length ss + 0;
        i = switch_on k t;
        later = omega (arith, some);
        place = (let o = offset_behind ss more 0 in omega (arith, here, o));
        segment = get_right ss more 0;
        key_switch = key_switch;
      }

      behind : (j : ℕ) (x : Segment) → slice_get more j ≡ Some x → IsBehind p after ns at (ss ++ more) (length ss + j) x
      behind zero x f = let s : switch (switch_on k t) ≡ x = cc in subst (IsBehind p after ns at (ss ++ more) (length ss + 0)) s (k, key_switch)
      behind (suc j) x f =
          let g = got_map listing groups j x f in
          let y = got_map (λ z. key_numbers p z (kind_numbers p k ns)) keys j g.0 (ap (λ l. slice_get l j) (sym w.lists) ∙ g.1) in
          subst (IsBehind p after ns at (ss ++ more) (length ss + suc j)) (sym g.2) (λ i n e.
          let a = among_sifted (λ m. may_have y.0 (key_of p m)) (kind_numbers p k ns) i n (subst (λ l. slice_get l i ≡ Some n) y.2 e) in
          among_sifted (λ m. may_be k (key_of p m)) ns a.0 n a.1)
