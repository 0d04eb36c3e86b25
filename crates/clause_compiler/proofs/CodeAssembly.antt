-- From the pieces of a program's code to all of it.
use Rattle.std.proofs.Common.{◌≡◌, ◌⊎◌, ℕ, suc, ◌+◌, ◌<◌, Bool, true, false, ◌&&◌, List, [], ◌∷◌, ◌++◌, Some, option_map, map, filter, take, drop, length}
use Rattle.std.proofs.Common.{get_or, slice_get, is_some, All, ◌≤◌, append_assoc, refl, ap, ap₂, sym, ◌∙◌, subst, inl, inr, arith}
use Rattle.std.specs.List.{range_with_len}
use Rattle.std.proofs.lemmas.Bool.{true≢false, and_parts, and_cases}
use Rattle.std.proofs.Math.Seq.{take-append_seam, drop-append_seam}
use Rattle.std.proofs.lemmas.List.{length-append, length-map}
use Rattle.std.proofs.lemmas.Map.Keys.{any_passes_from_place}
use Rattle.std.proofs.lemmas.Option.{slice_get_within, slice_get-get_or, slice_get-map, get_or_from_slice_get}
use Rattle.fd_language.specs.Range.{Range}
use Rattle.fd_model.specs.ConstraintExpansion.{arguments}
use Rattle.fd_model.specs.Goal.{Clause, Query, Program}
use Rattle.fd_model.specs.Children.{fits_head}
use Rattle.term_pool.specs.Contents.{atom_name, shape_at}
use Rattle.term_pool.specs.Terms.{term_of}
use Rattle.fd_language.specs.Term.{Terms, term_count}
use Rattle.clause_check.specs.Codable.{IsNarrow}
use Rattle.clause_check.specs.Programs.{FlatProgram, clause_at, query_at, clause_in, query_in, program_in, no_clause, no_query, IsProgram}
use Rattle.wam_code.specs.declared.instruction.Code.{Code}
use Rattle.wam_code.specs.declared.instruction.Code.TheVariants.{SwitchOnTerm}
use Rattle.wam_code.specs.declared.parts.Entry.{Entry}
use Rattle.wam_code.specs.Area.{Area, Span, Table, Holds, HasEntry, HasQuery, name_of}
use Rattle.wam_code.specs.Keys.{Rises, HasRisingTables}
use Rattle.wam_code.specs.VerifiedCode.{IsAtom, IsKey}
use Rattle.wam_code.specs.Places.{made}
use Rattle.wam_code.specs.Tries.{ClashFirst, IsNeedless, Thinned, Tries, IsPredicate}
use Rattle.clause_code.specs.Pieces.{Predicate, predicate_of, base_of, Stand}
use Rattle.clause_code.specs.Predicates.{ArePredicates, base_in, predicate_at, no_predicate}
use Rattle.clause_code.specs.SafeCode.{IsClauseCode, IsQueryPiece}
use Rattle.clause_code.specs.ClauseChoices.{list_of}
use Rattle.clause_code.proofs.Lemmas.{list_tries}
use Rattle.clause_compiler.specs.Switches.{code_of, AreChoicesBy, AreKeysIn, AreRising}
use Rattle.clause_compiler.specs.Keys.{key_of, argument_key, is_switched}
use Rattle.clause_compiler.specs.PredicateSwitches.{ShowsKind, IsClauseOf, HasSwitches}
use Rattle.clause_compiler.specs.Groups.{head_predicate, is_predicate, numbers_of}
use Rattle.clause_compiler.specs.Layout.{joined, offset, AreChoicesOf, BeginsClause, IsSpanOf, IsLaidOut}
use Rattle.clause_compiler.specs.Sections.{ArePut, its_place, IsClausePiece, its_span, IsQueryOf, its_entry, IsChoiceOf, place_in, placed_code, IsNumbered}
use Rattle.clause_compiler.proofs.Lists.{get_there, got_map, map_joined, find_joined, get_left, get_right, get_joined, same_offset, same_length, same_some}
use Rattle.clause_compiler.proofs.SafePieces.{piece_some}
use Rattle.clause_compiler.proofs.Listing.{each_of, list_choices, stand_at}
use Rattle.clause_compiler.proofs.ClausePlaces.{placed_list, placed_segment, placed_segments}
use Rattle.clause_compiler.proofs.Rows.{key_within}
use Rattle.clause_compiler.proofs.Segments.{segment_choices}
use Rattle.clause_compiler.proofs.ClauseFilters.{sift_both, sift_all}
use Rattle.clause_compiler.proofs.PredicateSwitches.{switched_some, switched_by, two_there, fits_itself, made_arguments, shown_some, narrow_head, shown_key}
use Rattle.clause_compiler.proofs.Switches.{each_segment, begins_with, switch_safe, switch_chooses, choices_numbered}
use Rattle.clause_compiler.proofs.TriedClauses.{Enters, thinned_by, each_tries}
use Rattle.clause_compiler.proofs.GoalClauses.{is_number, number_there, fits_predicate, head_arity, head_shape}

-- ---- lists
pub same_lists : {X : Type 0} (xs ys : List X) → length xs ≡ length ys → ((k : ℕ) (x : X) → slice_get ys k ≡ Some x → slice_get xs k ≡ Some x) → xs ≡ ys
same_lists [] [] e h = refl
same_lists [] (y ∷ ys) e h = absurd (omega (arith, e))
same_lists (x ∷ xs) [] e h = absurd (omega (arith, e))
same_lists (x ∷ xs) (y ∷ ys) e h =
    let f : Some x ≡ Some y = h 0 y refl in
    let one : x ≡ y = cc in
    ap₂ (λ z zs. z ∷ zs) one (same_lists xs ys (omega (arith, e)) (λ k. h (suc k)))

module _ (p : FlatProgram) (v : IsProgram p) (ps : List Predicate) (w : ArePredicates p ps) (raw mid whole : List Code) (entries : List Entry) (places : List ℕ)
    (spans : List Span) (tables : List Table) (keys : AreKeysIn p tables) (rises : AreRising tables)
    (hc : ArePut (its_entry ps) (IsChoiceOf p tables ps) (length ps) [] raw entries)
    (hl : ArePut its_place (IsClausePiece p ps) (length p.clauses) raw mid places)
    (hq : ArePut (its_span p) (IsQueryOf p ps) (length p.queries) mid whole spans) where
  -- ---- the code
  abbrev pub code : List Code
  code = map (placed_code places) (take (length raw) whole) ++ drop (length raw) whole

  abbrev pub area : Area
  area = record { pool = p.pool; code = code; tables = tables; ranges = p.ranges; entries = entries; queries = spans }

  abbrev prog : Program
  prog = program_in p

  abbrev choices : List (List Code)
  choices = map (map (placed_code places)) hc.pieces

  whole_is : whole ≡ raw ++ (joined hl.pieces ++ joined hq.pieces)
  whole_is = hq.code ∙ ap (λ l. l ++ joined hq.pieces) hl.code ∙ append_three raw (joined hl.pieces) (joined hq.pieces)
    where
      append_three : (xs ys zs : List Code) → (xs ++ ys) ++ zs ≡ xs ++ (ys ++ zs)
      append_three [] ys zs = refl
      append_three (x ∷ xs) ys zs = ap (λ l. x ∷ l) (append_three xs ys zs)

  code_is : code ≡ joined choices ++ (joined hl.pieces ++ joined hq.pieces)
  code_is =
      ap (λ l. map (placed_code places) (take (length raw) l) ++ drop (length raw) l) whole_is
      ∙ ap₂ (λ l m. map (placed_code places) l ++ m) (take-append_seam raw (joined hl.pieces ++ joined hq.pieces)) (drop-append_seam raw (joined hl.pieces ++ joined hq.pieces))
      ∙ ap (λ l. map (placed_code places) l ++ (joined hl.pieces ++ joined hq.pieces)) hc.code
      ∙ ap (λ l. l ++ (joined hl.pieces ++ joined hq.pieces)) (map_joined (placed_code places) hc.pieces)

  many_choices : length choices ≡ length hc.pieces
  many_choices = length-map hc.pieces (map (placed_code places))

  size_same : (k : ℕ) (xs ys : List Code) → slice_get hc.pieces k ≡ Some xs → slice_get choices k ≡ Some ys → length ys ≡ length xs
  size_same k xs ys e f =
      let g = got_map (map (placed_code places)) hc.pieces k ys f in
      ap length g.2 ∙ length-map g.0 (placed_code places) ∙ ap length (same_some hc.pieces k g.0 xs g.1 e)

  -- the clauses begin behind the choices
  from_is : length (joined choices) ≡ length raw
  from_is = same_length hc.pieces choices many_choices size_same ∙ sym (ap length hc.code)

  -- ---- entries
  entry_is : (k : ℕ) (e : Entry) (is : List Code) → HasEntry area k e → slice_get choices k ≡ Some is
      → (e ≡ its_entry ps k (offset choices k) is) × (xs : List Code) × (is ≡ map (placed_code places) xs) × IsChoiceOf p tables ps k (offset choices k) xs
  entry_is k e is h f =
      let g = got_map (map (placed_code places)) hc.pieces k is f in
      let same = same_some entries k e (its_entry ps k (0 + offset hc.pieces k) g.0) h (hc.each k g.0 g.1) in
      let place : 0 + offset hc.pieces k ≡ offset choices k = (let o = same_offset hc.pieces choices many_choices size_same k in omega (arith, o)) in
      (same ∙ ap (λ o. its_entry ps k o is) place, g.0, g.2, subst (λ o. IsChoiceOf p tables ps k o g.0) place (hc.piece k g.0 g.1))

  piece_there : (k : ℕ) (e : Entry) → HasEntry area k e → (is : List Code) × (slice_get choices k ≡ Some is)
  piece_there k e h = get_there choices k (let b = slice_get_within entries k e h in let m = many_choices in let s = hc.size in let t = hc.many in omega (arith, b, m, s, t))

  number_within : (k : ℕ) (e : Entry) → HasEntry area k e → k < length ps
  number_within k e h = let b = slice_get_within entries k e h in let s = hc.size in omega (arith, b, s)

  base_is : base_of area ≡ base_in p ps
  base_is = ap (λ l. record { pool = p.pool; ranges = p.ranges; predicates = l }) (same_lists (map predicate_of entries) ps (length-map entries predicate_of ∙ hc.size) each)
    where
      each : (k : ℕ) (s : Predicate) → slice_get ps k ≡ Some s → slice_get (map predicate_of entries) k ≡ Some s
      each k s e =
          let b = slice_get_within ps k s e in
          let m = hc.many in
          let is = get_there hc.pieces k (omega (arith, b, m)) in
          slice_get-map predicate_of entries k ∙ ap (λ o. option_map predicate_of o) (hc.each k is.0 is.1) ∙ ap (λ x. Some x) (get_or_from_slice_get ps k s no_predicate e)

  -- ---- clauses
  abbrev clause : ℕ → Clause
  clause n = clause_in p (clause_at p n)

  clause_there : (n : ℕ) → n < length p.clauses → slice_get prog.clauses n ≡ Some (clause n)
  clause_there n l = slice_get-map (clause_in p) p.clauses n ∙ ap (λ o. option_map (clause_in p) o) (slice_get-get_or p.clauses n no_clause l)

  clause_is : (n : ℕ) (c : Clause) → slice_get prog.clauses n ≡ Some c → (n < length p.clauses) × (c ≡ clause n)
  clause_is n c e =
      let b = slice_get_within prog.clauses n c e in
      let m = length-map p.clauses (clause_in p) in
      let l : n < length p.clauses = omega (arith, b, m) in
      (l, same_some prog.clauses n c (clause n) e (clause_there n l))

  clause_code : (n : ℕ) (is : List Code) → slice_get hl.pieces n ≡ Some is → IsClauseCode (base_of area) (length (joined choices) + offset hl.pieces n) is (clause n)
  clause_code n is e =
      subst (λ b. IsClauseCode b (length (joined choices) + offset hl.pieces n) is (clause n)) (sym base_is)
      (subst (λ m. IsClauseCode (base_in p ps) (m + offset hl.pieces n) is (clause n)) (sym from_is) (hl.piece n is e))

  place_is : (n : ℕ) (is : List Code) → slice_get hl.pieces n ≡ Some is → place_in places n ≡ length (joined choices) + offset hl.pieces n
  place_is n is e = get_or_from_slice_get places n (length raw + offset hl.pieces n) 0 (hl.each n is e) ∙ ap (λ m. m + offset hl.pieces n) (sym from_is)

  clause_holds : (n m : ℕ) (is : List Code) (i : Code) → slice_get hl.pieces n ≡ Some is → slice_get is m ≡ Some i → Holds area ((length (joined choices) + offset hl.pieces n) + m) i
  clause_holds n m is i f g =
      ap (λ c. slice_get c ((length (joined choices) + offset hl.pieces n) + m)) code_is
      ∙ ap (slice_get (joined choices ++ (joined hl.pieces ++ joined hq.pieces)))
      (let e : (length (joined choices) + offset hl.pieces n) + m ≡ length (joined choices) + (offset hl.pieces n + m) = omega arith in e)
      ∙ get_right (joined choices) (joined hl.pieces ++ joined hq.pieces) (offset hl.pieces n + m)
      ∙ get_left (joined hl.pieces) (joined hq.pieces) (offset hl.pieces n + m) i (get_joined hl.pieces n m is i f g)

  clause_piece : (n : ℕ) → n < length p.clauses → (is : List Code) × (slice_get hl.pieces n ≡ Some is)
  clause_piece n l = get_there hl.pieces n (let m = hl.many in omega (arith, l, m))

  enters : (n : ℕ) → n < length p.clauses → Enters area (place_in places n) (clause n)
  enters n l =
      let is = clause_piece n l in
      let c = clause_code n is.0 is.1 in
      let at = length (joined choices) + offset hl.pieces n in
      let some = piece_some area at is.0 c.states c.first c.safe in
      let i = get_there is.0 0 some in
      let place : at + 0 ≡ at = omega arith in
      subst (λ o. Enters area o (clause n)) (sym (place_is n is.0 is.1)) (
        i.0,
        subst (λ o. Holds area o i.0) place (clause_holds n 0 is.0 i.0 is.1 i.1),
        c.enters i.0 i.1,
        c.means area refl (stand_at area at is.0 (λ m j e. clause_holds n m is.0 j is.1 e)),
      )

  -- ---- choices
  -- the numbers of a predicate's clauses
  abbrev numbers : ℕ → List ℕ
  numbers k = numbers_of p (length p.clauses) (predicate_at ps k)

  abbrev Begins : ℕ → ℕ → Type 0
  Begins arity = BeginsClause prog.clauses (length (joined choices)) hl.pieces arity

  choice_safe : (k : ℕ) (e : Entry) (is : List Code) → HasEntry area k e → slice_get choices k ≡ Some is
      → AreChoicesOf area (BeginsClause prog.clauses (length (joined choices)) hl.pieces e.arity) e.at e.arity is
  choice_safe k e is h f = by x.3
    where
      x : (e ≡ its_entry ps k (offset choices k) is) × (xs : List Code) × (is ≡ map (placed_code places) xs) × IsChoiceOf p tables ps k (offset choices k) xs
      x = entry_is k e is h f

      arity_is : e.arity ≡ (predicate_at ps k).arity
      arity_is = ap (λ (y : Entry). y.arity) x.0

      place_at : e.at ≡ offset choices k
      place_at = ap (λ (y : Entry). y.at) x.0

      begins : (j n : ℕ) → slice_get (numbers k) j ≡ Some n → Begins e.arity (place_in places n)
      begins j n g =
          let num = is_number p (length p.clauses) j n (predicate_at ps k) g in
          let piece = clause_piece n num.0 in
          (n, clause n, clause_there n num.0, head_arity p v ps w n num.0 (predicate_at ps k) num.1 ∙ sym arity_is, place_is n piece.0 piece.1)

      by : AreChoicesBy p tables (numbers k) (predicate_at ps k).arity (offset choices k) x.1 → AreChoicesOf area (Begins e.arity) e.at e.arity is
      by (inl r) = subst (AreChoicesOf area (Begins e.arity) e.at e.arity) (sym (x.2 ∙ ap (map (placed_code places)) r.1 ∙ placed_list places (numbers k)))
          (list_choices area (Begins e.arity) e.at e.arity (map (place_in places) (numbers k)) (each_of (Begins e.arity) (place_in places) (numbers k) begins))
      by (inr r) =
          subst (λ o. AreChoicesOf area (Begins e.arity) o e.arity is) (sym place_at)
          (subst (AreChoicesOf area (Begins e.arity) (offset choices k) e.arity)
          (sym (x.2 ∙ ap (map (placed_code places)) r.1.1 ∙ placed_segments places r.1.0
          (each_segment p tables (numbers k) (offset choices k) r.1.0 r.1.2)))
          (segment_choices area (Begins e.arity) (offset choices k) e.arity (map (placed_segment places) r.1.0)
          (switch_safe p tables (numbers k) (offset choices k) r.1.0 r.1.2 places area refl (Begins e.arity) e.arity
          (subst (λ m. 1 ≤ m) (sym arity_is) (switched_some p (predicate_at ps k).arity (numbers k) r.0)) begins)))

  choice_holds : (k n : ℕ) (is : List Code) (i : Code) → slice_get choices k ≡ Some is → slice_get is n ≡ Some i → Holds area (offset choices k + n) i
  choice_holds k n is i f g = ap (λ c. slice_get c (offset choices k + n)) code_is
      ∙ get_left (joined choices) (joined hl.pieces ++ joined hq.pieces) (offset choices k + n) i (get_joined choices k n is i f g)

  choice_means : (k : ℕ) (e : Entry) → HasEntry area k e → IsPredicate area prog e
  choice_means k e h ts s size = by x.3
    where
      piece : (is : List Code) × (slice_get choices k ≡ Some is)
      piece = piece_there k e h

      x : (e ≡ its_entry ps k (offset choices k) piece.0) × (xs : List Code) × (piece.0 ≡ map (placed_code places) xs) × IsChoiceOf p tables ps k (offset choices k) xs
      x = entry_is k e piece.0 h piece.1

      place : e.at ≡ offset choices k
      place = ap (λ (y : Entry). y.at) x.0

      name : name_of area e.name ≡ atom_name p.pool (predicate_at ps k).name
      name = ap (λ (y : Entry). atom_name p.pool y.name) x.0

      enter : (j n : ℕ) → slice_get (numbers k) j ≡ Some n → Enters area (place_in places n) (clause n)
      enter j n g = enters n (is_number p (length p.clauses) j n (predicate_at ps k) g).0

      holds : (n : ℕ) (i : Code) → slice_get piece.0 n ≡ Some i → Holds area (offset choices k + n) i
      holds n i g = choice_holds k n piece.0 i piece.1 g

      fits : (j : ℕ) (c : Clause) → slice_get prog.clauses j ≡ Some c
          → fits_head (made (atom_name p.pool (predicate_at ps k).name) ts) c.head ≡ is_predicate (predicate_at ps k) (head_predicate p (0 + j))
      fits j c g =
          let z = clause_is j c g in
          let own : (predicate_at ps k).name.number < length p.pool.names = w.atoms k (predicate_at ps k) (slice_get-get_or ps k no_predicate (number_within k e h)) in
          let from_zero : j ≡ 0 + j = omega arith in
          ap (λ (y : Clause). fits_head (made (atom_name p.pool (predicate_at ps k).name) ts) y.head) z.1
          ∙ fits_predicate p v ps w j z.0 (predicate_at ps k) ts own (size ∙ ap (λ (y : Entry). y.arity) x.0)
          ∙ ap (λ n. is_predicate (predicate_at ps k) (head_predicate p n)) from_zero

      -- those that pass a test, where the others clash
      thin : (t : ℕ → Bool) → ((j n : ℕ) → slice_get (numbers k) j ≡ Some n → t n ≡ false → ClashFirst s (arguments (term_of p.pool (clause_at p n).head)))
          → Thinned s (made (name_of area e.name) ts) prog.clauses (map clause (filter t (numbers k)))
      thin t clash =
          subst (λ y. Thinned s (made y ts) prog.clauses (map clause (filter t (numbers k)))) (sym name)
          (subst (λ ms. Thinned s (made (atom_name p.pool (predicate_at ps k).name) ts) prog.clauses (map clause ms))
          (sym (sift_both (λ c. is_predicate (predicate_at ps k) (head_predicate p c)) t (range_with_len 0 (length p.clauses))))
          (subst (λ n. Thinned s (made (atom_name p.pool (predicate_at ps k).name) ts) prog.clauses
          (map clause (filter (λ c. is_predicate (predicate_at ps k) (head_predicate p c) && t c) (range_with_len 0 n))))
          (length-map p.clauses (clause_in p))
          (thinned_by s (made (atom_name p.pool (predicate_at ps k).name) ts) (λ c. is_predicate (predicate_at ps k) (head_predicate p c) && t c) clause prog.clauses 0
          (λ j c g. ap clause (zero_plus j) ∙ sym (clause_is j c g).1)
          (λ j c g u. fits j c g ∙ (and_parts (is_predicate (predicate_at ps k) (head_predicate p (0 + j))) (t (0 + j)) u).0)
          (λ j c g u. needless j c g (and_cases (is_predicate (predicate_at ps k) (head_predicate p (0 + j))) (t (0 + j)) u)))))
        where
          zero_plus : (j : ℕ) → 0 + j ≡ j
          zero_plus j = omega arith

          needless : (j : ℕ) (c : Clause) → slice_get prog.clauses j ≡ Some c → (is_predicate (predicate_at ps k) (head_predicate p (0 + j)) ≡ false)
              ⊎ (t (0 + j) ≡ false) → IsNeedless s (made (atom_name p.pool (predicate_at ps k).name) ts) c
          needless j c g (inl u) = inl (fits j c g ∙ u)
          needless j c g (inr u) = by (is_predicate (predicate_at ps k) (head_predicate p (0 + j))) refl
            where
              by : (b : Bool) → is_predicate (predicate_at ps k) (head_predicate p (0 + j)) ≡ b → IsNeedless s (made (atom_name p.pool (predicate_at ps k).name) ts) c
              by false h = inl (fits j c g ∙ h)
              by true h =
                  let z = clause_is j c g in
                  let own = number_there p (length p.clauses) j (predicate_at ps k) z.0 (ap (λ n. is_predicate (predicate_at ps k) (head_predicate p n)) (sym (zero_plus j)) ∙ h) in
                  inr (subst (λ (y : Clause). ClashFirst s (arguments y.head)) (sym z.1) (clash own.0 j own.1 (ap t (sym (zero_plus j)) ∙ u)))

      by : AreChoicesBy p tables (numbers k) (predicate_at ps k).arity (offset choices k) x.1 → (cs : List Clause) × Thinned s (made (name_of area e.name) ts) prog.clauses cs × Tries area s e.at cs
      by (inl r) =
          let is : piece.0 ≡ list_of (map (place_in places) (numbers k)) = x.2 ∙ ap (map (placed_code places)) r.1 ∙ placed_list places (numbers k) in
          let stand = subst (Stand area (offset choices k)) is (stand_at area (offset choices k) piece.0 holds) in (
            map clause (numbers k),
            subst (λ ms. Thinned s (made (name_of area e.name) ts) prog.clauses (map clause ms)) (sift_all (numbers k)) (thin (λ n. true) (λ j n l u. absurd (true≢false u))),
            list_tries area s (map (place_in places) (numbers k)) (map clause (numbers k)) e.at
                (each_tries area s (place_in places) clause (numbers k) (λ n j g. enter j n g))
                (subst (λ o. Stand area o (list_of (map (place_in places) (numbers k)))) (sym place) stand),
          )
      by (inr r) =
          let is : piece.0 ≡ code_of (map (placed_segment places) r.1.0) = x.2 ∙ ap (map (placed_code places)) r.1.1
          ∙ placed_segments places r.1.0 (each_segment p tables (numbers k) (offset choices k) r.1.0 r.1.2) in
          let c = switch_chooses p tables (numbers k) (offset choices k) r.1.0 r.1.2 places area refl clause
          (λ n i g. holds n i (subst (λ l. slice_get l n ≡ Some i) (sym is) g)) enter v ps w refl
          (λ j n g. (is_number p (length p.clauses) j n (predicate_at ps k) g).0) s in
          (map clause (filter c.test (numbers k)), thin c.test c.clash, subst (λ o. Tries area s o (map clause (filter c.test (numbers k)))) (sym place) c.means)

  -- a clause of the predicate has a number among the predicate's
  own_number : (k : ℕ) (e : Entry) → HasEntry area k e → (n : ℕ) (ts : Terms) → IsClauseOf area prog e n ts
      → (n < length p.clauses) × (j : ℕ) × (slice_get (numbers k) j ≡ Some n) × (term_of p.pool (clause_at p n).head ≡ made (name_of area e.name) ts)
  own_number k e h n ts is =
      let piece = piece_there k e h in
      let x = entry_is k e piece.0 h piece.1 in
      let pred = predicate_at ps k in
      let z = clause_is n is.clause is.there in
      let name : name_of area e.name ≡ atom_name p.pool pred.name = ap (λ (y : Entry). atom_name p.pool y.name) x.0 in
      let head : term_of p.pool (clause_at p n).head ≡ made (name_of area e.name) ts = sym (ap (λ (y : Clause). y.head) z.1) ∙ is.head in
      let own = w.atoms k pred (slice_get-get_or ps k no_predicate (number_within k e h)) in
      let fits = sym (fits_predicate p v ps w n z.0 pred ts own (is.arity ∙ ap (λ (y : Entry). y.arity) x.0))
      ∙ ap (fits_head (made (atom_name p.pool pred.name) ts)) (head ∙ ap (λ y. made y ts) name) ∙ fits_itself (atom_name p.pool pred.name) ts in
      let j = number_there p (length p.clauses) n pred z.0 fits in
      (z.0, j.0, j.1, head)

  -- and where its first argument is no variable, it has a key
  own_key : (n : ℕ) (f : List ℕ) (ts : Terms) → n < length p.clauses → term_of p.pool (clause_at p n).head ≡ made f ts → ShowsKind ts → is_some (key_of p n) ≡ true
  own_key n f ts l head shown =
      let s = head_shape p v ps w n l in
      let narrow : IsNarrow (term_of p.pool (clause_at p n).head) = narrow_head prog.clauses n (clause n) v.codable.clauses (clause_there n l) in
      let args = ap arguments (sym s.2 ∙ head) ∙ made_arguments f ts in
      ap (λ o. is_some (argument_key p.pool o)) s.1 ∙ shown_key p.pool v.pool (clause_at p n).head (v.clauses n no_clause l).head s.0 s.1 (subst IsNarrow s.2 narrow) (subst ShowsKind (sym args) shown)

  -- A predicate whose clauses the first argument tells apart begins with a switch.
  choice_switches : HasSwitches area prog
  choice_switches k e h told = by x.3
    where
      piece : (is : List Code) × (slice_get choices k ≡ Some is)
      piece = piece_there k e h

      x : (e ≡ its_entry ps k (offset choices k) piece.0) × (xs : List Code) × (piece.0 ≡ map (placed_code places) xs) × IsChoiceOf p tables ps k (offset choices k) xs
      x = entry_is k e piece.0 h piece.1

      enter : (j n : ℕ) → slice_get (numbers k) j ≡ Some n → Enters area (place_in places n) (clause n)
      enter j n g = enters n (is_number p (length p.clauses) j n (predicate_at ps k) g).0

      yes : is_switched p (predicate_at ps k).arity (numbers k) ≡ true
      yes =
          let one = own_number k e h told.n told.ts told.one in
          let other = own_number k e h told.m told.us told.other in
          let some : 1 ≤ e.arity = subst (λ m. 1 ≤ m) told.one.arity (shown_some told.ts told.shown) in
          let key = own_key told.n (name_of area e.name) told.ts one.0 one.3 told.shown in
          switched_by p (predicate_at ps k).arity (numbers k) (subst (λ m. 1 ≤ m) (ap (λ (y : Entry). y.arity) x.0) some)
          (two_there (numbers k) one.1 other.1 told.n told.m one.2 other.2 told.two)
          (any_passes_from_place (λ n. is_some (key_of p n)) (numbers k) one.1 told.n one.2 key)

      by : AreChoicesBy p tables (numbers k) (predicate_at ps k).arity (offset choices k) x.1 → (v : ℕ) × (c : ℕ) × (i : ℕ) × (s : ℕ) × Holds area e.at (SwitchOnTerm v c i s)
      by (inl r) = absurd (true≢false (sym yes ∙ r.0))
      by (inr r) =
          let is : piece.0 ≡ code_of (map (placed_segment places) r.1.0) = x.2 ∙ ap (map (placed_code places)) r.1.1
          ∙ placed_segments places r.1.0 (each_segment p tables (numbers k) (offset choices k) r.1.0 r.1.2) in
          let y = r.1.2 in
          let first = begins_with p tables (numbers k) (offset choices k) r.1.0 y places area refl clause
          (λ n i g. choice_holds k n piece.0 i piece.1 (subst (λ l. slice_get l n ≡ Some i) (sym is) g)) enter in
          (y.v, y.c, y.i, y.s, subst (λ o. Holds area o (SwitchOnTerm y.v y.c y.i y.s)) (sym (ap (λ (z : Entry). z.at) x.0)) first)

  tables_rise : HasRisingTables area
  tables_rise t l = let x = get_there tables t l in subst Rises (sym (get_or_from_slice_get tables t x.0 [] x.1)) (rises t x.0 x.1)

  -- ---- queries
  abbrev query : ℕ → Query
  query n = query_in p (query_at p n)

  query_is : (n : ℕ) (q : Query) → slice_get prog.queries n ≡ Some q → (n < length p.queries) × (q ≡ query n)
  query_is n q e =
      let b = slice_get_within prog.queries n q e in
      let m = length-map p.queries (query_in p) in
      let l : n < length p.queries = omega (arith, b, m) in
      (l, same_some prog.queries n q (query n) e (slice_get-map (query_in p) p.queries n ∙ ap (λ o. option_map (query_in p) o) (slice_get-get_or p.queries n no_query l)))

  mid_long : length mid ≡ length (joined choices) + length (joined hl.pieces)
  mid_long = ap length hl.code ∙ length-append raw (joined hl.pieces) ∙ ap (λ m. m + length (joined hl.pieces)) (sym from_is)

  query_span : (k : ℕ) (q : Query) (s : Span) (is : List Code) → slice_get prog.queries k ≡ Some q → HasQuery area k s → slice_get hq.pieces k ≡ Some is
      → IsSpanOf area (length (joined choices) + (length (joined hl.pieces) + offset hq.pieces k)) q s is
  query_span k q s is e f g =
      let x = query_is k q e in
      let place : length mid + offset hq.pieces k ≡ length (joined choices) + (length (joined hl.pieces) + offset hq.pieces k) = (let m = mid_long in omega (arith, m)) in
      let same : s ≡ its_span p k (length (joined choices) + (length (joined hl.pieces) + offset hq.pieces k)) is = same_some spans k s
      (its_span p k (length mid + offset hq.pieces k) is) f (hq.each k is g) ∙ ap (λ o. its_span p k o is) place in
      let code = subst (λ b. IsQueryPiece b (length (joined choices) + (length (joined hl.pieces) + offset hq.pieces k)) is (query k)) (sym base_is)
      (subst (λ o. IsQueryPiece (base_in p ps) o is (query k)) place (hq.piece k is g)) in
      let own = v.queries k no_query x.0 in
      subst (λ z. IsSpanOf area (length (joined choices) + (length (joined hl.pieces) + offset hq.pieces k)) z s is) (sym x.1)
      (subst (λ z. IsSpanOf area (length (joined choices) + (length (joined hl.pieces) + offset hq.pieces k)) (query k) z is) (sym same)
      (record { begins = refl; ends = refl; names = refl; shown = length-map (query_at p k).names (atom_name p.pool) ∙ own.same; code = code }))

  -- ---- names
  entry_names : All (λ e. IsAtom area e.name) entries
  entry_names k d l =
      let e = get_there entries k l in
      let piece = piece_there k e.0 e.1 in
      let x = entry_is k e.0 piece.0 e.1 piece.1 in
      let own = w.atoms k (predicate_at ps k) (slice_get-get_or ps k no_predicate (number_within k e.0 e.1)) in
      subst (λ y. IsAtom area (y.name)) (sym (get_or_from_slice_get entries k e.0 d e.1)) (subst (λ y. IsAtom area (y.name)) (sym x.0) own)

  span_names : All (λ s. All (λ c. IsAtom area c) s.names) spans
  span_names k d l =
      let s = get_there spans k l in
      let m = hq.size in
      let n = hq.many in
      let is = get_there hq.pieces k (omega (arith, l, m, n)) in
      let same = same_some spans k s.0 (its_span p k (length mid + offset hq.pieces k) is.0) s.1 (hq.each k is.0 is.1) in
      let inside : k < length p.queries = omega (arith, l, m) in
      subst (λ (y : Span). All (λ c. IsAtom area c) y.names) (sym (get_or_from_slice_get spans k s.0 d s.1))
      (subst (λ (y : Span). All (λ c. IsAtom area c) y.names) (sym same) (v.queries k no_query inside).names)

  keys_there : All (λ table. All (λ row. IsKey area row.0) table) tables
  keys_there k d l =
      let t = get_there tables k l in
      subst (All (λ row. IsKey area row.0)) (sym (get_or_from_slice_get tables k t.0 d t.1))
      (λ r e m.
      let x = get_there t.0 r m in
      let own = keys k t.0 t.1 r x.0.0 x.0.1 x.1 in
      subst (λ y. IsKey area y.0) (sym (get_or_from_slice_get t.0 r x.0 e x.1)) (key_within area v.pool (shape_at p.pool (clause_at p own.0).head) x.0.0 own.2))

  -- ---- all of it
  pub laid_out : IsLaidOut area prog
  laid_out = record {
    choices = choices;
    clauses = hl.pieces;
    queries = hq.pieces;
    code = code_is;
    each_choice = many_choices ∙ hc.many ∙ sym hc.size;
    each_clause = hl.many ∙ sym (length-map p.clauses (clause_in p));
    each_query = hq.many ∙ sym (length-map p.queries (query_in p));
    each_span = hq.size ∙ sym (length-map p.queries (query_in p));
    entry = λ k e h. let piece = piece_there k e h in ap (λ (y : Entry). y.at) (entry_is k e piece.0 h piece.1).0;
    choice = choice_safe;
    clause = λ k c is e f. let x = clause_is k c e in subst (IsClauseCode (base_of area) (length (joined choices) + offset hl.pieces k) is) (sym x.1) (clause_code k is f);
    query = query_span;
    predicates = choice_means;
    switched = choice_switches;
    keys = keys_there;
    rising = tables_rise;
    predicate_names = entry_names;
    query_names = span_names;
  }

-- ---- as the compiler has them
module _ (p : FlatProgram) (v : IsProgram p) (ps : List Predicate) (w : ArePredicates p ps) (start raw mid whole : List Code) (entries : List Entry)
    (places : List ℕ) (spans : List Span) (tables : List Table) (keys : AreKeysIn p tables) (rises : AreRising tables) (none : start ≡ [])
    (hc : ArePut (its_entry ps) (IsChoiceOf p tables ps) (length ps) start raw entries)
    (hl : ArePut its_place (IsClausePiece p ps) (length p.clauses) raw mid places)
    (hq : ArePut (its_span p) (IsQueryOf p ps) (length p.queries) mid whole spans) where
  whole_long : whole ≡ raw ++ (joined hl.pieces ++ joined hq.pieces)
  whole_long = hq.code ∙ ap (λ l. l ++ joined hq.pieces) hl.code ∙ append_assoc raw (joined hl.pieces) (joined hq.pieces)

  -- the choices name clauses that are there
  pub raw_numbered : (term_count many : ℕ) → term_count ≡ length raw → many ≡ length places → All (IsNumbered many) (take term_count whole)
  raw_numbered term_count many e f k d l =
      let is : take term_count whole ≡ raw = ap₂ take e whole_long ∙ take-append_seam raw (joined hl.pieces ++ joined hq.pieces) in
      let inside : k < length raw = subst (λ x. k < length x) is l in
      let i = get_there raw k inside in
      let code : raw ≡ joined hc.pieces = hc.code ∙ ap (λ l. l ++ joined hc.pieces) none in
      let g = find_joined hc.pieces k i.0 (ap (λ x. slice_get x k) (sym code) ∙ i.1) in
      let pred = predicate_at ps g.list in
      let one : IsNumbered many i.0 = choices_numbered p tables many (numbers_of p (length p.clauses) pred) pred.arity (length start + offset hc.pieces g.list)
      g.elements (λ j n h. let a = is_number p (length p.clauses) j n pred h in let b = a.0 in let s = hl.size in
      omega (arith, b, s, f)) (hc.piece g.list g.elements g.at_list) g.index i.0 g.at_index in
      subst (IsNumbered many) (sym (ap (λ x. get_or x k d) is ∙ get_or_from_slice_get raw k i.0 d i.1)) one

  pub laid_out_as : (code' : List Code) (ranges : List Range) (term_count : ℕ) (placed : List ℕ) → term_count ≡ length raw → placed ≡ places
      → code' ≡ map (placed_code placed) (take term_count whole) ++ drop term_count whole → ranges ≡ p.ranges
      → IsLaidOut (record { pool = p.pool; code = code'; tables = tables; ranges = ranges; entries = entries; queries = spans }) (program_in p)
  laid_out_as code' ranges term_count placed e f g h =
      let own = subst (λ s. ArePut (its_entry ps) (IsChoiceOf p tables ps) (length ps) s raw entries) none hc in
      let is : code' ≡ map (placed_code places) (take (length raw) whole) ++ drop (length raw) whole = g
      ∙ ap (λ n. map (placed_code placed) (take n whole) ++ drop n whole) e
      ∙ ap (λ q. map (placed_code q) (take (length raw) whole) ++ drop (length raw) whole) f in
      subst (λ c. IsLaidOut (record { pool = p.pool; code = c; tables = tables; ranges = ranges; entries = entries; queries = spans }) (program_in p)) (sym is)
      (subst (λ r. IsLaidOut (record {
        pool = p.pool;
        code = map (placed_code places) (take (length raw) whole) ++ drop (length raw) whole;
        tables = tables;
        ranges = r;
        entries = entries;
        queries = spans;
      }) (program_in p)) (sym h)
      (laid_out p v ps w raw mid whole entries places spans tables keys rises own hl hq))
