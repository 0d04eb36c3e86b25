-- What a sheet whose lines are right names is there.
use Rattle.std.proofs.Common.{◌≡◌, ◌⊎◌, ℕ, suc, zero, ◌+◌, ◌<◌, ◌≤◌, true, List, [], ◌∷◌, ◌++◌, length, get_or, Some, slice_get, refl, sym, ◌∙◌, subst, inl}
use Rattle.std.proofs.Common.{inr, arith, All}
use Rattle.std.specs.Prelude.{slice_index_or}
use Rattle.std.specs.List.{list_all}
use Rattle.std.proofs.lemmas.Bool.{and_parts, ltb-true}
use Rattle.std.proofs.lemmas.Option.{none-some, same_Some, slice_get_within, slice_get-get_or}
use Rattle.std.proofs.lemmas.List.{length-append}
use Rattle.term_pool.specs.declared.AtomId.{AtomId}
use Rattle.term_pool.specs.Contents.{first_names}
use Rattle.wam_code.specs.declared.instruction.Key.{Key}
use Rattle.wam_code.specs.declared.instruction.Key.TheVariants as key
use Rattle.wam_code.specs.declared.instruction.Code.{Code}
use Rattle.wam_code.specs.declared.instruction.Code.TheVariants.{SwitchOnConstant, SwitchOnInteger, SwitchOnStructure}
use Rattle.wam_code.specs.declared.parts.Entry.{Entry}
use Rattle.wam_code.specs.Area.{Span, Table}
use Rattle.wam_code.specs.VerifiedCode.{IsAtom, IsKey}
use Rattle.code_listing.specs.Listing.{Sheet, table_of}
use Rattle.code_listing.specs.Sheets.{IsSheet, HasOrderedTables, area_in, switch_table, named_tables}
use Rattle.code_flow.specs.PlaceConditions.{FitsAt}
use Rattle.listing_loader.specs.declared.counts.Counts.{Counts}
use Rattle.listing_loader.specs.Marks.{has_atom, has_key, has_row, entry_mark, query_mark, rises, table_mark, instruction_mark, place_mark, counts_of}
use Rattle.listing_loader.specs.Marks.{number_marks, AreRight}
use Rattle.listing_loader.proofs.Lists.{all_from, right_at, passes_at}
use Rattle.listing_loader.proofs.Keys.{rises_is}
use Rattle.listing_loader.proofs.SheetRoundTrip.{RightParts, parts_of}

-- ---- the table that a place names

-- an element of two lists
either_get : {X : Type 0} (xs ys : List X) (k : ℕ) (x : X) → slice_get (xs ++ ys) k ≡ Some x → (slice_get xs k ≡ Some x) ⊎ ((j : ℕ) × (slice_get ys j ≡ Some x))
either_get [] ys k x h = inr (k, h)
either_get (z ∷ xs) ys zero x h = inl h
either_get (z ∷ xs) ys (suc k) x h = either_get xs ys k x h

-- the place that names a table
names_table : (is : List Code) (k t : ℕ) → slice_get (named_tables is) k ≡ Some t → (at : ℕ) × (i : Code) × (j : ℕ) × (slice_get is at ≡ Some i) × (slice_get (switch_table i) j ≡ Some t)
names_table [] k t h = absurd (none-some t h)
names_table (i ∷ is) k t h = go (either_get (switch_table i) (named_tables is) k t h) (λ j. names_table is j t) where
  go : (slice_get (switch_table i) k ≡ Some t) ⊎ ((j : ℕ) × (slice_get (named_tables is) j ≡ Some t))
      → ((j : ℕ) → slice_get (named_tables is) j ≡ Some t → (at : ℕ) × (h : Code) × (n : ℕ) × (slice_get is at ≡ Some h)
      × (slice_get (switch_table h) n ≡ Some t)) → (at : ℕ) × (h : Code) × (n : ℕ) × (slice_get (i ∷ is) at ≡ Some h) × (slice_get (switch_table h) n ≡ Some t)
  go (inl e) more = (0, i, k, refl, e)
  go (inr w) more = let m = more w.0 w.1 in (suc m.0, m.1, m.2, m.3, m.4)

one_table : (n : Counts) (ts : List Table) (u j t : ℕ) → slice_get (u ∷ []) j ≡ Some t → table_mark n (slice_index_or ts u []) ≡ true → table_mark n (slice_index_or ts t []) ≡ true
one_table n ts u zero t e m = subst (λ k. table_mark n (slice_index_or ts k []) ≡ true) (same_Some u t e) m
one_table n ts u (suc j) t e m = absurd (none-some t e)

switch_marked : (n : Counts) (ts : List Table) (i : Code) (j t : ℕ) → slice_get (switch_table i) j ≡ Some t → instruction_mark n (table_of ts i) i ≡ true → table_mark n (slice_index_or ts t []) ≡ true
switch_marked n ts (SwitchOnConstant u) j t e m = one_table n ts u j t e m
switch_marked n ts (SwitchOnInteger u) j t e m = one_table n ts u j t e m
switch_marked n ts (SwitchOnStructure u) j t e m = one_table n ts u j t e m
switch_marked n ts i j t e m = absurd (none-some t e)

module _ (s : Sheet) (sheet : IsSheet s) (right : AreRight (number_marks s)) where
  parts : RightParts s
  parts = parts_of s right

  -- each table is right, since a place names it
  pub table_right : (t : ℕ) → t < length s.tables → table_mark (counts_of s) (slice_index_or s.tables t []) ≡ true
  table_right t h =
      let low : t < length (named_tables s.code) = omega (arith, h, sheet.tables.all) in
      let u = get_or (named_tables s.code) t 0 in
      let here : slice_get (named_tables s.code) t ≡ Some u = slice_get-get_or (named_tables s.code) t 0 low in
      let w = names_table s.code t u here in
      subst (λ k. table_mark (counts_of s) (slice_index_or s.tables k []) ≡ true) (sheet.tables.numbers t u here)
      (switch_marked (counts_of s) s.tables w.1 w.2 u w.4 (right_at (place_mark s) s.code w.0 w.1 parts.places w.3))

  pub ordered : HasOrderedTables (area_in s)
  ordered = record {
    in_order = sheet.tables;
    rising = λ t h. (rises_is (slice_index_or s.tables t [])).0
        (and_parts (rises (slice_index_or s.tables t [])) (list_all (has_row (counts_of s)) (slice_index_or s.tables t [])) (table_right t h)).0;
  }

  -- atoms and keys are there
  atom_there : (c : AtomId) → has_atom (counts_of s) c ≡ true → IsAtom (area_in s) c
  atom_there c h = omega (arith, ltb-true c.number (length first_names + length s.atoms) h, length-append first_names s.atoms)

  key_there : (k : Key) → has_key (counts_of s) k ≡ true → IsKey (area_in s) k
  key_there (key.Atom c) h = atom_there c h
  key_there (key.Int z) h = tt
  key_there (key.Struct f n) h = atom_there f h

  keys_there : All (λ table. All (λ row. IsKey (area_in s) row.0) table) s.tables
  keys_there = λ t d low. subst (All (λ row. IsKey (area_in s) row.0)) (table_is t d low)
      (all_from (λ row. IsKey (area_in s) row.0) (slice_index_or s.tables t [])
      (λ k row e. key_there row.0 (and_parts _ _ (passes_at (has_row (counts_of s)) (slice_index_or s.tables t []) k row
      (and_parts (rises (slice_index_or s.tables t [])) (list_all (has_row (counts_of s)) (slice_index_or s.tables t [])) (table_right t low)).1 e)).0)) where
        table_is : (t : ℕ) (d : Table) → t < length s.tables → slice_index_or s.tables t [] ≡ get_or s.tables t d
        table_is t d low = same_Some _ _ (sym (slice_get-get_or s.tables t [] low) ∙ slice_get-get_or s.tables t d low)

  -- behind the code no condition fails
  pub fits_behind : (at : ℕ) → length s.code ≤ at → FitsAt (area_in s) s.states at
  fits_behind at far = record {
    states = λ e. sheet.states;
    instruction = λ i h. absurd (past i h);
    before = record {
      named_once = λ h. absurd (past h.0 h.1);
      named_alone = λ from h. absurd (past h.0 h.1);
      not_fallen = λ from h. absurd (past h.0 h.1);
      no_start = λ h. absurd (past h.0 h.1);
      before = λ h. absurd (past h.0 h.1);
      not_named = λ from h. absurd (past h.0 h.1);
      no_start_behind = λ h. absurd (past h.0 h.1);
    };
    entries = λ n e h is. absurd (entry_before n e h is);
    queries = λ n q h is. absurd (query_before n q h is);
    answers = λ h. absurd (past _ h);
    shown = λ n q h. absurd (past _ h);
    tables = λ e. keys_there;
  } where
    past : (i : Code) → slice_get s.code at ≡ Some i → ⊥
    past i h = omega (arith, far, slice_get_within s.code at i h)

    entry_before : (n : ℕ) (e : Entry) → slice_get s.entries n ≡ Some e → e.at ≡ at → ⊥
    entry_before n e h is = omega (arith, far, is, ltb-true e.at (length s.code) (and_parts (has_atom (counts_of s) e.name) _ (right_at (entry_mark (counts_of s)) s.entries n e parts.entries h)).1)

    query_before : (n : ℕ) (q : Span) → slice_get s.queries n ≡ Some q → q.at ≡ at → ⊥
    query_before n q h is = omega (arith, far, is, ltb-true q.at (length s.code) (and_parts _ _ (right_at (query_mark (counts_of s)) s.queries n q parts.queries h)).0)
