-- Tables in the order of their switches.
use Rattle.std.proofs.Common.{◌≡◌, ◌⊎◌, ℕ, zero, suc, ◌+◌, ◌<◌, ◌≤◌, Bool, true, List, [], ◌∷◌, ◌++◌, map, length, drop, get_or, slice_get, slice_index_or}
use Rattle.std.proofs.Common.{Option, Some, None, refl, sym, ap, ◌∙◌, subst, inl, inr, arith, All, IsTrue, decimal, append_assoc, length-append, drop-cons}
use Rattle.std.proofs.lemmas.Bool.{cases_lt}
use Rattle.std.proofs.lemmas.List.{length-map, get_or_past}
use Rattle.wam_code.specs.declared.instruction.Code.{Code}
use Rattle.wam_code.specs.declared.instruction.Code.TheVariants.{SwitchOnConstant, SwitchOnInteger, SwitchOnStructure}
use Rattle.wam_code.specs.Area.{State, Table}
use Rattle.wam_code.specs.declared.instruction.Key.{Key}
use Rattle.code_listing.specs.Words.{words}
use Rattle.code_listing.specs.Texts.{frame_word, instruction_words, place_text, registers_word}
use Rattle.code_listing.specs.Listing.{table_of, places_text}
use Rattle.code_listing.specs.Sheets.{AreNamedInOrder, fits_switch, named_tables, switch_table}
use Rattle.listing_reader.specs.NumberBounds.{IsNumber, IsSmallCode, IsSmallState}
use Rattle.listing_reader.specs.Forms.{FitsInstruction, IsBare, IsSmallTable}
use Rattle.listing_reader.specs.Lists.{FitsPlace, Placed, placed_text}
use Rattle.listing_reader.specs.TableNumbers.{codes_of, count_with, numbered, states_in, tables_of, tables_with}
use Rattle.listing_reader.proofs.LinePrefixes.{all_head, all_more, all_none, all_tail, map_join}

-- ---- what an instruction is to tables

-- a switch that names this table
record Switches (i : Code) (t : ℕ) : Type 0 where
  names : switch_table i ≡ t ∷ []
  back : numbered t i ≡ i
  names_other : (n : ℕ) → switch_table (numbered n i) ≡ n ∷ []
  count : (n : ℕ) → count_with i n ≡ suc n
  adds : (rows : Table) (ts : List Table) → tables_with i rows ts ≡ rows ∷ ts
  table : (ts : List Table) → table_of ts i ≡ slice_index_or ts t []
  table_other : (ts : List Table) (n : ℕ) → table_of ts (numbered n i) ≡ slice_index_or ts n []

-- another instruction
record Plain (i : Code) : Type 0 where
  names : switch_table i ≡ []
  same : (n : ℕ) → numbered n i ≡ i
  count : (n : ℕ) → count_with i n ≡ n
  adds : (rows : Table) (ts : List Table) → tables_with i rows ts ≡ ts
  table : (ts : List Table) → table_of ts i ≡ []
  bare : (rows : Table) → IsBare i rows → rows ≡ []

role : (i : Code) → ((t : ℕ) × Switches i t) ⊎ Plain i
role (SwitchOnConstant t) = inl (t, record { names = refl; back = refl; names_other = λ n. refl; count = λ n. refl; adds = λ rows ts. refl; table = λ ts. refl; table_other = λ ts n. refl })
role (SwitchOnInteger t) = inl (t, record { names = refl; back = refl; names_other = λ n. refl; count = λ n. refl; adds = λ rows ts. refl; table = λ ts. refl; table_other = λ ts n. refl })
role (SwitchOnStructure t) = inl (t, record { names = refl; back = refl; names_other = λ n. refl; count = λ n. refl; adds = λ rows ts. refl; table = λ ts. refl; table_other = λ ts n. refl })
role _ = inr (record { names = refl; same = λ n. refl; count = λ n. refl; adds = λ rows ts. refl; table = λ ts. refl; bare = λ rows h. h })

-- what a number doesn't change
record Unchanged (i : Code) (m : ℕ) : Type 0 where
  twice : (n : ℕ) → numbered n (numbered m i) ≡ numbered n i
  count : (n : ℕ) → count_with (numbered m i) n ≡ count_with i n
  adds : (rows : Table) (ts : List Table) → tables_with (numbered m i) rows ts ≡ tables_with i rows ts
  words : (rows : Table) → instruction_words rows (numbered m i) ≡ instruction_words rows i
  small : IsSmallCode i → IsSmallCode (numbered m i)
  fits : (i' : Code) → i' ≡ numbered m i → fits_switch i' ≡ fits_switch i

unchanged : (i : Code) (m : ℕ) → Unchanged i m
unchanged (SwitchOnConstant t) m = record { twice = λ n. refl; count = λ n. refl; adds = λ rows ts. refl; words = λ rows. refl; small = λ h. tt; fits = λ j e. ap fits_switch e }
unchanged (SwitchOnInteger t) m = record { twice = λ n. refl; count = λ n. refl; adds = λ rows ts. refl; words = λ rows. refl; small = λ h. tt; fits = λ j e. ap fits_switch e }
unchanged (SwitchOnStructure t) m = record { twice = λ n. refl; count = λ n. refl; adds = λ rows ts. refl; words = λ rows. refl; small = λ h. tt; fits = λ j e. ap fits_switch e }
unchanged _ m = record { twice = λ n. refl; count = λ n. refl; adds = λ rows ts. refl; words = λ rows. refl; small = λ h. h; fits = λ j e. ap fits_switch e }

bare_numbered : (ts : List Table) (i : Code) → IsBare (numbered 0 i) (table_of ts i)
bare_numbered ts (SwitchOnConstant t) = refl
bare_numbered ts (SwitchOnInteger t) = refl
bare_numbered ts (SwitchOnStructure t) = refl
bare_numbered ts _ = refl

small_index : (ts : List Table) → All IsSmallTable ts → (t : ℕ) → IsSmallTable (slice_index_or ts t [])
small_index ts h t = go (cases_lt t (length ts))
  where
    go : (t < length ts) ⊎ (length ts ≤ t) → IsSmallTable (slice_index_or ts t [])
    go (inl l) = h t [] l
    go (inr l) = subst IsSmallTable (sym (get_or_past ts t [] l)) (λ k d g. absurd (omega (arith, g)))

-- ---- the places of a sheet

-- tables are named from a number on, each as the next
abbrev pub Numbered : ℕ → List Code → Type 0
Numbered n is = (k t : ℕ) → slice_get (named_tables is) k ≡ Some t → t ≡ n + k

abbrev pub places_of : List Table → List State → List Code → List Placed
places_of ts (s ∷ ss) (i ∷ is) = (s, (numbered 0 i, table_of ts i)) ∷ places_of ts ss is
places_of ts _ _ = []

drop_all : (ts : List Table) (n : ℕ) → n ≡ length ts → drop n ts ≡ []
drop_all [] zero e = refl
drop_all [] (suc n) e = absurd (omega (arith, e))
drop_all (t ∷ ts) zero e = absurd (omega (arith, e))
drop_all (t ∷ ts) (suc n) e = drop_all ts n (omega (arith, e))

module _ (ts : List Table) where
  pub places_states : (ss : List State) (is : List Code) → length ss ≡ length is → states_in (places_of ts ss is) ≡ ss
  places_states [] is e = refl
  places_states (s ∷ ss) [] e = absurd (omega (arith, e))
  places_states (s ∷ ss) (i ∷ is) e = ap (λ (l : List State). s ∷ l) (places_states ss is (omega (arith, e)))

  pub places_size : (ss : List State) (is : List Code) → length ss ≡ length is → length (places_of ts ss is) ≡ length is
  places_size [] [] e = refl
  places_size [] (i ∷ is) e = absurd (omega (arith, e))
  places_size (s ∷ ss) [] e = absurd (omega (arith, e))
  places_size (s ∷ ss) (i ∷ is) e = ap suc (places_size ss is (omega (arith, e)))

  pub places_lines : (ss : List State) (is : List Code) → map placed_text (places_of ts ss is) ≡ places_text ts ss is
  places_lines [] is = refl
  places_lines (s ∷ ss) [] = refl
  places_lines (s ∷ ss) (i ∷ is) =
      let P : List (List ℕ) → List ℕ = λ ws. words (registers_word s.regs ∷ frame_word s.frame ∷ decimal s.owed ∷ ws) in
      ap (λ (l : List ℕ). l ∷ map placed_text (places_of ts ss is)) (ap P ((unchanged i 0).words (table_of ts i)))
      ∙ ap (λ (l : List (List ℕ)). place_text (table_of ts i) s i ∷ l) (places_lines ss is)

  small_rows : All IsSmallTable ts → (i : Code) → ((t : ℕ) × Switches i t) ⊎ Plain i → IsSmallTable (table_of ts i)
  small_rows small i (inl (t, r)) = subst IsSmallTable (sym (r.table ts)) (small_index ts small t)
  small_rows small i (inr p) = subst IsSmallTable (sym (p.table ts)) (λ k d g. absurd (omega (arith, g)))

  pub places_fit : All IsSmallTable ts → (ss : List State) (is : List Code) → All IsSmallState ss → All IsSmallCode is
      → All (λ i. All (λ row. IsTrue (fits_switch i row.0)) (table_of ts i)) is → All FitsPlace (places_of ts ss is)
  places_fit small [] is f g h = all_none FitsPlace
  places_fit small (s ∷ ss) [] f g h = all_none FitsPlace
  places_fit small (s ∷ ss) (i ∷ is) f g h =
      all_more FitsPlace (s, (numbered 0 i, table_of ts i)) (places_of ts ss is)
      (all_head IsSmallState s ss f, ((unchanged i 0).small (all_head IsSmallCode i is g), table, keys, bare_numbered ts i))
      (places_fit small ss is (all_tail IsSmallState s ss f) (all_tail IsSmallCode i is g) (all_tail (λ i. All (λ row. IsTrue (fits_switch i row.0)) (table_of ts i)) i is h))
    where
      table : IsSmallTable (table_of ts i)
      table = small_rows small i (role i)

      keys : All (λ row. IsTrue (fits_switch (numbered 0 i) row.0)) (table_of ts i)
      keys = subst (λ (f : Key → Bool). All (λ row. IsTrue (f row.0)) (table_of ts i)) (sym ((unchanged i 0).fits (numbered 0 i) refl))
          (all_head (λ i. All (λ row. IsTrue (fits_switch i row.0)) (table_of ts i)) i is h)

  numbered_later : (n t : ℕ) (i : Code) (is : List Code) → Switches i t → Numbered n (i ∷ is) → (t ≡ n) × Numbered (suc n) is
  numbered_later n t i is r h = (
    let g : t ≡ n + 0 = h 0 t (ap (λ (l : List ℕ). slice_get (l ++ named_tables is) 0) r.names) in omega (arith, g),
    λ k u e. let g : u ≡ n + suc k = h (suc k) u (ap (λ (l : List ℕ). slice_get (l ++ named_tables is) (suc k)) r.names ∙ e) in omega (arith, g),
  )

  numbered_same : (n : ℕ) (i : Code) (is : List Code) → Plain i → Numbered n (i ∷ is) → Numbered n is
  numbered_same n i is p h = λ k u e. h k u (ap (λ (l : List ℕ). slice_get (l ++ named_tables is) k) p.names ∙ e)

  pub places_codes : (n : ℕ) (ss : List State) (is : List Code) → length ss ≡ length is → Numbered n is → codes_of n (places_of ts ss is) ≡ is
  places_codes n [] [] e h = refl
  places_codes n [] (i ∷ is) e h = absurd (omega (arith, e))
  places_codes n (s ∷ ss) [] e h = absurd (omega (arith, e))
  places_codes n (s ∷ ss) (i ∷ is) e h = go (λ m g. places_codes m ss is (omega (arith, e)) g) (role i)
    where
      go : ((m : ℕ) → Numbered m is → codes_of m (places_of ts ss is) ≡ is) → ((t : ℕ) × Switches i t) ⊎ Plain i → codes_of n (places_of ts (s ∷ ss) (i ∷ is)) ≡ i ∷ is
      go ih (inl (t, r)) =
          let later = numbered_later n t i is r h in
          ap (λ (c : Code). c ∷ codes_of (count_with (numbered 0 i) n) (places_of ts ss is)) ((unchanged i 0).twice n ∙ ap (λ (m : ℕ). numbered m i) (sym later.0) ∙ r.back)
          ∙ ap (λ (m : ℕ). i ∷ codes_of m (places_of ts ss is)) ((unchanged i 0).count n ∙ r.count n)
          ∙ ap (λ (l : List Code). i ∷ l) (ih (suc n) later.1)
      go ih (inr p) =
          ap (λ (c : Code). c ∷ codes_of (count_with (numbered 0 i) n) (places_of ts ss is)) ((unchanged i 0).twice n ∙ p.same n)
          ∙ ap (λ (m : ℕ). i ∷ codes_of m (places_of ts ss is)) ((unchanged i 0).count n ∙ p.count n)
          ∙ ap (λ (l : List Code). i ∷ l) (ih n (numbered_same n i is p h))

  drop_next : (n : ℕ) → n < length ts → drop n ts ≡ slice_index_or ts n [] ∷ drop (suc n) ts
  drop_next n l = drop-cons ts n [] l

  pub places_tables : (n : ℕ) (ss : List State) (is : List Code) → length ss ≡ length is → Numbered n is → n + length (named_tables is) ≡ length ts → tables_of (places_of ts ss is) ≡ drop n ts
  places_tables n [] [] e h c = sym (drop_all ts n (omega (arith, c)))
  places_tables n [] (i ∷ is) e h c = absurd (omega (arith, e))
  places_tables n (s ∷ ss) [] e h c = absurd (omega (arith, e))
  places_tables n (s ∷ ss) (i ∷ is) e h c = go (λ m g q. places_tables m ss is (omega (arith, e)) g q) (role i)
    where
      go : ((m : ℕ) → Numbered m is → m + length (named_tables is) ≡ length ts → tables_of (places_of ts ss is) ≡ drop m ts)
          → ((t : ℕ) × Switches i t) ⊎ Plain i → tables_of (places_of ts (s ∷ ss) (i ∷ is)) ≡ drop n ts
      go ih (inl (t, r)) =
          let later = numbered_later n t i is r h in
          let count : n + suc (length (named_tables is)) ≡ length ts = ap (λ (l : List ℕ). n + length (l ++ named_tables is)) (sym r.names) ∙ c in
          (unchanged i 0).adds (table_of ts i) (tables_of (places_of ts ss is)) ∙ r.adds (table_of ts i) (tables_of (places_of ts ss is))
          ∙ ap (λ (l : List Table). table_of ts i ∷ l) (ih (suc n) later.1 (omega (arith, count)))
          ∙ ap (λ (x : Table). x ∷ drop (suc n) ts) (r.table ts ∙ ap (λ (m : ℕ). slice_index_or ts m []) later.0)
          ∙ sym (drop_next n (omega (arith, count)))
      go ih (inr p) =
          (unchanged i 0).adds (table_of ts i) (tables_of (places_of ts ss is)) ∙ p.adds (table_of ts i) (tables_of (places_of ts ss is))
          ∙ ih n (numbered_same n i is p h) (ap (λ (l : List ℕ). n + length (l ++ named_tables is)) (sym p.names) ∙ c)

pub numbered_first : (is : List Code) (count : ℕ) → AreNamedInOrder is count → Numbered 0 is
numbered_first is count h = λ k t e. let g : t ≡ k = h.numbers k t e in omega (arith, g)

-- ---- the sheet of places

pub codes_size : (n : ℕ) (ps : List Placed) → length (codes_of n ps) ≡ length ps
codes_size n [] = refl
codes_size n (p ∷ ps) = ap suc (codes_size (count_with p.1.0 n) ps)

pub codes_numbers : (n : ℕ) (ps : List Placed) (k t : ℕ) → slice_get (named_tables (codes_of n ps)) k ≡ Some t → t ≡ n + k
codes_numbers n [] k t e = let g : None ≡ Some t = e in absurd (cc (g))
codes_numbers n (p ∷ ps) k t e = go (λ m j u q. codes_numbers m ps j u q) (role p.1.0) k e
  where
    go : ((m j u : ℕ) → slice_get (named_tables (codes_of m ps)) j ≡ Some u → u ≡ m + j) → ((t : ℕ) × Switches p.1.0 t) ⊎ Plain p.1.0 → (k : ℕ)
        → slice_get (named_tables (codes_of n (p ∷ ps))) k ≡ Some t → t ≡ n + k
    go ih (inl (u, r)) zero e =
        let q : Some n ≡ Some t = sym (ap (λ (l : List ℕ). slice_get (l ++ named_tables (codes_of (count_with p.1.0 n) ps)) 0) (r.names_other n)) ∙ e in
        let g : n ≡ t = cc in
        omega (arith, g)
    go ih (inl (u, r)) (suc k) e =
        let q : slice_get (named_tables (codes_of (suc n) ps)) k ≡ Some t =
        sym (ap (λ (m : ℕ). slice_get (named_tables (codes_of m ps)) k) (r.count n))
        ∙ sym (ap (λ (l : List ℕ). slice_get (l ++ named_tables (codes_of (count_with p.1.0 n) ps)) (suc k)) (r.names_other n)) ∙ e in
        let g : t ≡ suc n + k = ih (suc n) k t q in
        omega (arith, g)
    go ih (inr q) k e =
        let i = p.1.0 in
        let a : slice_get (named_tables (codes_of n ps)) k ≡ Some t =
        sym (ap (λ (m : ℕ). slice_get (named_tables (codes_of m ps)) k) (q.count n))
        ∙ sym (ap (λ (l : List ℕ). slice_get (l ++ named_tables (codes_of (count_with i n) ps)) k) (ap switch_table (q.same n) ∙ q.names)) ∙ e in
        ih n k t a

pub codes_count : (n : ℕ) (ps : List Placed) → length (named_tables (codes_of n ps)) ≡ length (tables_of ps)
codes_count n [] = refl
codes_count n (p ∷ ps) = go (λ m. codes_count m ps) (role p.1.0)
  where
    go : ((m : ℕ) → length (named_tables (codes_of m ps)) ≡ length (tables_of ps)) → ((t : ℕ) × Switches p.1.0 t) ⊎ Plain p.1.0
        → length (named_tables (codes_of n (p ∷ ps))) ≡ length (tables_of (p ∷ ps))
    go ih (inl (u, r)) = ap (λ (l : List ℕ). length (l ++ named_tables (codes_of (count_with p.1.0 n) ps))) (r.names_other n) ∙ ap suc (ih (count_with p.1.0 n))
        ∙ ap length (sym (r.adds p.1.1 (tables_of ps)))
    go ih (inr q) = ap (λ (l : List ℕ). length (l ++ named_tables (codes_of (count_with p.1.0 n) ps))) (ap switch_table (q.same n) ∙ q.names)
        ∙ ih (count_with p.1.0 n) ∙ ap length (sym (q.adds p.1.1 (tables_of ps)))

-- the table of each switch is its own
module _ (ts : List Table) where
  index_seam : (pre : List Table) (rows : Table) (later : List Table) → slice_index_or (pre ++ rows ∷ later) (length pre) [] ≡ rows
  index_seam [] rows later = refl
  index_seam (x ∷ pre) rows later = index_seam pre rows later

  head_table : (pre : List Table) (p : Placed) (ps : List Placed) → IsBare p.1.0 p.1.1 → ts ≡ pre ++ tables_of (p ∷ ps) → table_of ts (numbered (length pre) p.1.0) ≡ p.1.1
  head_table pre p ps bare is = go (role p.1.0)
    where
      go : ((t : ℕ) × Switches p.1.0 t) ⊎ Plain p.1.0 → table_of ts (numbered (length pre) p.1.0) ≡ p.1.1
      go (inl (t, r)) =
          r.table_other ts (length pre) ∙ ap (λ (l : List Table). slice_index_or l (length pre) []) (is ∙ ap (λ (l : List Table). pre ++ l) (r.adds p.1.1 (tables_of ps)))
          ∙ index_seam pre p.1.1 (tables_of ps)
      go (inr q) = ap (table_of ts) (q.same (length pre)) ∙ q.table ts ∙ sym (q.bare p.1.1 bare)

  next_front : (pre : List Table) (p : Placed) (ps : List Placed) → ts ≡ pre ++ tables_of (p ∷ ps) → (q : List Table) × ((length q ≡ count_with p.1.0 (length pre)) × (ts ≡ q ++ tables_of ps))
  next_front pre p ps is = go (role p.1.0)
    where
      go : ((t : ℕ) × Switches p.1.0 t) ⊎ Plain p.1.0 → (q : List Table) × ((length q ≡ count_with p.1.0 (length pre)) × (ts ≡ q ++ tables_of ps))
      go (inl (t, r)) = (
        pre ++ p.1.1 ∷ [],
        (
          length-append pre (p.1.1 ∷ []) ∙ (let g : length pre + 1 ≡ suc (length pre) = omega arith in g) ∙ sym (r.count (length pre)),
          is ∙ ap (λ (l : List Table). pre ++ l) (r.adds p.1.1 (tables_of ps)) ∙ sym (append_assoc pre (p.1.1 ∷ []) (tables_of ps)),
        ),
      )
      go (inr q) = (pre, (sym (q.count (length pre)), is ∙ ap (λ (l : List Table). pre ++ l) (q.adds p.1.1 (tables_of ps))))

  pub lines_of_places : (pre : List Table) (ps : List Placed) → All FitsPlace ps → ts ≡ pre ++ tables_of ps → places_text ts (states_in ps) (codes_of (length pre) ps) ≡ map placed_text ps
  lines_of_places pre [] f is = refl
  lines_of_places pre (p ∷ ps) f is =
      let next = next_front pre p ps is in
      let i : Code = numbered (length pre) p.1.0 in
      let later : List Code = codes_of (count_with p.1.0 (length pre)) ps in
      let rows : List (List ℕ) → List ℕ = λ ws. words (registers_word p.0.regs ∷ frame_word p.0.frame ∷ decimal p.0.owed ∷ ws) in
      let head : place_text (table_of ts i) p.0 i ≡ placed_text p =
      ap (λ (t : Table). place_text t p.0 i) (head_table pre p ps (all_head FitsPlace p ps f).1.3 is) ∙ ap rows ((unchanged p.1.0 (length pre)).words p.1.1) in
      ap (λ (l : List ℕ). l ∷ places_text ts (states_in ps) later) head
      ∙ ap (λ (l : List (List ℕ)). placed_text p ∷ l)
      (ap (λ (m : ℕ). places_text ts (states_in ps) (codes_of m ps)) (sym next.1.0) ∙ lines_of_places next.0 ps (all_tail FitsPlace p ps f) next.1.1)

  abbrev pub HasKeys : Code → Type 0
  HasKeys i = All (λ row. IsTrue (fits_switch i row.0)) (table_of ts i)

  pub keys_of_places : (pre : List Table) (ps : List Placed) → All FitsPlace ps → ts ≡ pre ++ tables_of ps → All HasKeys (codes_of (length pre) ps)
  keys_of_places pre [] f is = all_none HasKeys
  keys_of_places pre (p ∷ ps) f is =
      let next = next_front pre p ps is in
      let i : Code = numbered (length pre) p.1.0 in
      let fit = all_head FitsPlace p ps f in
      let test : fits_switch i ≡ fits_switch p.1.0 = (unchanged p.1.0 (length pre)).fits i refl in
      let one : All (λ row. IsTrue (fits_switch i row.0)) p.1.1 = subst (λ (g : Key → Bool). All (λ row. IsTrue (g row.0)) p.1.1) (sym test) fit.1.2 in
      let here : HasKeys i = subst (λ (t : Table). All (λ row. IsTrue (fits_switch i row.0)) t) (sym (head_table pre p ps fit.1.3 is)) one in
      all_more HasKeys i (codes_of (count_with p.1.0 (length pre)) ps) here
      (subst (λ (m : ℕ). All HasKeys (codes_of m ps)) next.1.0 (keys_of_places next.0 ps (all_tail FitsPlace p ps f) next.1.1))

pub states_fit : (ps : List Placed) → All FitsPlace ps → All IsSmallState (states_in ps)
states_fit [] f = all_none IsSmallState
states_fit (p ∷ ps) f = all_more IsSmallState p.0 (states_in ps) (all_head FitsPlace p ps f).0 (states_fit ps (all_tail FitsPlace p ps f))

pub codes_fit : (n : ℕ) (ps : List Placed) → All FitsPlace ps → All IsSmallCode (codes_of n ps)
codes_fit n [] f = all_none IsSmallCode
codes_fit n (p ∷ ps) f =
    all_more IsSmallCode (numbered n p.1.0) (codes_of (count_with p.1.0 n) ps) ((unchanged p.1.0 n).small (all_head FitsPlace p ps f).1.0)
    (codes_fit (count_with p.1.0 n) ps (all_tail FitsPlace p ps f))

pub tables_fit : (ps : List Placed) → All FitsPlace ps → All IsSmallTable (tables_of ps)
tables_fit [] f = all_none IsSmallTable
tables_fit (p ∷ ps) f = go (tables_fit ps (all_tail FitsPlace p ps f)) (role p.1.0)
  where
    go : All IsSmallTable (tables_of ps) → ((t : ℕ) × Switches p.1.0 t) ⊎ Plain p.1.0 → All IsSmallTable (tables_of (p ∷ ps))
    go ih (inl (t, r)) = subst (λ (l : List Table). All IsSmallTable l) (sym (r.adds p.1.1 (tables_of ps))) (all_more IsSmallTable p.1.1 (tables_of ps) (all_head FitsPlace p ps f).1.1 ih)
    go ih (inr q) = subst (λ (l : List Table). All IsSmallTable l) (sym (q.adds p.1.1 (tables_of ps))) ih

-- tables with one more place
pub tables_more : (ps : List Placed) (p : Placed) → tables_of (ps ++ p ∷ []) ≡ tables_of ps ++ tables_with p.1.0 p.1.1 []
tables_more [] p = refl
tables_more (q ∷ ps) p = go (tables_more ps p) (role q.1.0)
  where
    go : tables_of (ps ++ p ∷ []) ≡ tables_of ps ++ tables_with p.1.0 p.1.1 [] → ((t : ℕ) × Switches q.1.0 t) ⊎ Plain q.1.0
        → tables_of ((q ∷ ps) ++ p ∷ []) ≡ tables_of (q ∷ ps) ++ tables_with p.1.0 p.1.1 []
    go ih (inl (t, r)) = r.adds q.1.1 (tables_of (ps ++ p ∷ [])) ∙ ap (λ (l : List Table). q.1.1 ∷ l) ih ∙ sym (ap (λ (l : List Table). l ++ tables_with p.1.0 p.1.1 []) (r.adds q.1.1 (tables_of ps)))
    go ih (inr r) = r.adds q.1.1 (tables_of (ps ++ p ∷ [])) ∙ ih ∙ sym (ap (λ (l : List Table). l ++ tables_with p.1.0 p.1.1 []) (r.adds q.1.1 (tables_of ps)))

-- instructions with one more place
pub codes_more : (n : ℕ) (ps : List Placed) (p : Placed) → codes_of n (ps ++ p ∷ []) ≡ codes_of n ps ++ numbered (n + length (tables_of ps)) p.1.0 ∷ []
codes_more n [] p = ap (λ (m : ℕ). numbered m p.1.0 ∷ []) (let g : n ≡ n + 0 = omega arith in g)
codes_more n (q ∷ ps) p =
    ap (λ (l : List Code). numbered n q.1.0 ∷ l) (codes_more (count_with q.1.0 n) ps p)
    ∙ ap (λ (m : ℕ). numbered n q.1.0 ∷ (codes_of (count_with q.1.0 n) ps ++ numbered m p.1.0 ∷ [])) (go (role q.1.0))
  where
    go : ((t : ℕ) × Switches q.1.0 t) ⊎ Plain q.1.0 → count_with q.1.0 n + length (tables_of ps) ≡ n + length (tables_of (q ∷ ps))
    go (inl (t, r)) = let a = r.count n in let b : length (tables_of (q ∷ ps)) ≡ suc (length (tables_of ps)) = ap length (r.adds q.1.1 (tables_of ps)) in omega (arith, a, b)
    go (inr r) = let a = r.count n in let b : length (tables_of (q ∷ ps)) ≡ length (tables_of ps) = ap length (r.adds q.1.1 (tables_of ps)) in omega (arith, a, b)

-- the number of an instruction without a table stays away
pub numbered_plain : (i : Code) (n : ℕ) → ((t : ℕ) → ¬ (i ≡ SwitchOnConstant t)) → ((t : ℕ) → ¬ (i ≡ SwitchOnInteger t))
    → ((t : ℕ) → ¬ (i ≡ SwitchOnStructure t)) → (numbered n i ≡ i) × ((rows : Table) (ts : List Table) → tables_with i rows ts ≡ ts)
numbered_plain (SwitchOnConstant t) n a b c = absurd (a t refl)
numbered_plain (SwitchOnInteger t) n a b c = absurd (b t refl)
numbered_plain (SwitchOnStructure t) n a b c = absurd (c t refl)
numbered_plain _ n a b c = (refl, λ rows ts. refl)

-- ---- one place more

pub states_next : (ps : List Placed) (p : Placed) (ss : List State) → ss ≡ states_in ps → ss ++ p.0 ∷ [] ≡ states_in (ps ++ p ∷ [])
states_next ps p ss e = ap (λ (l : List State). l ++ p.0 ∷ []) e ∙ sym (map_join (λ (q : Placed). q.0) ps (p ∷ []))

pub tables_next : (ps : List Placed) (p : Placed) (ts : List Table) → ts ≡ tables_of ps → ts ++ tables_with p.1.0 p.1.1 [] ≡ tables_of (ps ++ p ∷ [])
tables_next ps p ts e = ap (λ (l : List Table). l ++ tables_with p.1.0 p.1.1 []) e ∙ sym (tables_more ps p)

pub codes_next : {V : Type 0} (g : V → Table) (ps : List Placed) (p : Placed) (is : List Code) (vs : List V) (i : Code) → is ≡ codes_of 0 ps
    → map g vs ≡ tables_of ps → i ≡ numbered (length vs) p.1.0 → is ++ i ∷ [] ≡ codes_of 0 (ps ++ p ∷ [])
codes_next g ps p is vs i e f h =
    let size : length vs ≡ 0 + length (tables_of ps) = (let a = length-map vs g in let b = ap length f in omega (arith, a, b)) in
    ap (λ (l : List Code). l ++ i ∷ []) e ∙ ap (λ (j : Code). codes_of 0 ps ++ j ∷ []) (h ∙ ap (λ (n : ℕ). numbered n p.1.0) size) ∙ sym (codes_more 0 ps p)
