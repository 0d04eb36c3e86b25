-- Choices that the first argument decides: where they lead, and what they try.
use Rattle.std.proofs.Common.{◌≡◌, ◌⊎◌, ℕ, zero, suc, ◌+◌, ◌<◌, ◌≤◌, Bool, true, false, IsTrue, not, ◌&&◌, List, [], ◌∷◌, map, filter, All, option_map, Option}
use Rattle.std.proofs.Common.{Some, None, length, slice_get, refl, ap, sym, ◌∙◌, subst, inl, inr, arith}
use Rattle.std.proofs.lemmas.Bool.{and_cases}
use Rattle.std.proofs.lemmas.Bool.Decides.{nat_tests}
use Rattle.std.proofs.lemmas.List.{length-map}
use Rattle.std.proofs.lemmas.Option.{slice_get-map, slice_get_within, get_or_from_slice_get}
use Rattle.range_code.proofs.Lemmas.{keeps_none}
use Rattle.fd_language.specs.Family.{has}
use Rattle.fd_model.specs.Goal.{Clause}
use Rattle.fd_model.specs.ConstraintExpansion.{arguments}
use Rattle.term_pool.specs.declared.TermId.{TermId}
use Rattle.term_pool.specs.Contents.{Shape, shape_at}
use Rattle.term_pool.specs.Terms.{term_of, shape_term}
use Rattle.term_pool.specs.PoolInvariant.{IsPool}
use Rattle.clause_check.specs.Programs.{FlatProgram, clause_at, IsProgram}
use Rattle.wam_code.specs.declared.instruction.Key.{Key}
use Rattle.wam_code.specs.declared.instruction.Code.{Code}
use Rattle.wam_code.specs.declared.instruction.Code.TheVariants.{SwitchOnTerm}
use Rattle.wam_code.specs.Area.{Area, Table, Holds, table_at}
use Rattle.wam_code.specs.VerifiedCode.{arms, named, IsKey, IsThere}
use Rattle.wam_code.specs.Tries as tries
use Rattle.wam_code.specs.Tries.{Clash, ClashFirst, IsShape, Rows, TryRule, Tries}
use Rattle.wam_code.proofs.Lemmas.{try_from_rule}
use Rattle.clause_code.specs.Pieces.{Predicate}
use Rattle.clause_code.specs.Predicates.{ArePredicates}
use Rattle.clause_code.specs.ClauseChoices.{list_of}
use Rattle.clause_code.proofs.Lemmas.{list_tries}
use Rattle.clause_compiler.specs.declared.keys.Kind.{Kind}
use Rattle.clause_compiler.specs.declared.keys.Kind.TheVariants as kind
use Rattle.clause_compiler.specs.Keys.{shape_key, argument_key, key_of, of_kind, may_be, kind_numbers}
use Rattle.clause_compiler.specs.ClauseKeys.{may_have, key_numbers}
use Rattle.clause_compiler.specs.Layout.{offset, is_switch}
use Rattle.clause_compiler.specs.Sections.{place_in, IsNumbered}
use Rattle.clause_compiler.specs.Switches.{Segment, listing, switch, segment_code, code_of, place_of, LeadsTo, AreAmong, switch_on, IsTableOf, IsKeySwitch}
use Rattle.clause_compiler.specs.Switches.{SwitchesTo, KindAt, IsBehind, IsSwitching, AreChoicesBy}
use Rattle.clause_compiler.proofs.Lists.{get_there, got_map, no, same_some}
use Rattle.clause_compiler.proofs.Listing.{Each, only_one, each_of, stand_at}
use Rattle.clause_compiler.proofs.ClausePlaces.{list_numbered, placed_segment, IsSegment, placed_offset, switch_numbered}
use Rattle.clause_compiler.proofs.Segments.{AreSafe, spot, from_segment, offset_none}
use Rattle.clause_compiler.proofs.ClauseFilters.{sifted_one, sifted_in, sift_both, sift_all}
use Rattle.clause_compiler.proofs.ClauseKeys.{same_itself}
use Rattle.clause_compiler.proofs.GoalClauses.{head_shape}
use Rattle.clause_compiler.proofs.Rows.{row_of, FirstRow, NoRow, first_row, key_within, row_clash, may_be_other, other_clash}
use Rattle.clause_compiler.proofs.KeyShapes.{atom_clash, integer_clash, structure_clash, first_clash}
use Rattle.clause_compiler.proofs.TriedClauses.{Enters, each_tries}

-- one of four
one_of : (v c i s to : ℕ) → IsTrue (has (v ∷ c ∷ i ∷ s ∷ []) to) → (to ≡ v) ⊎ ((to ≡ c) ⊎ ((to ≡ i) ⊎ (to ≡ s)))
one_of v c i s to h = grind (arith, nat_tests)

-- The clauses that a shape of the first argument leads to pass a test that fails at those alone that clash with it.
pub record Chosen (p : FlatProgram) (a : Area) (s : tries.Shape) (at : ℕ) (ns : List ℕ) (clause : ℕ → Clause) : Type 0 where
  pub test : ℕ → Bool
  pub clash : (j n : ℕ) → slice_get ns j ≡ Some n → test n ≡ false → ClashFirst s (arguments (term_of p.pool (clause_at p n).head))
  pub means : Tries a s at (map clause (filter test ns))

-- ---- switches by a key
key_switch_is : (k : Kind) (t : ℕ) → IsTrue (is_switch (switch_on k t))
key_switch_is kind.Atom t = refl
key_switch_is kind.Integer t = refl
key_switch_is kind.Structure t = refl

names_arms : (a : Area) (k : Kind) (t : ℕ) → named a (switch_on k t) ≡ arms (table_at a t)
names_arms a kind.Atom t = refl
names_arms a kind.Integer t = refl
names_arms a kind.Structure t = refl

table_there : (a : Area) (k : Kind) (t : ℕ) → t < length a.tables → All (λ row. IsTrue (of_kind k row.0)) (table_at a t) → IsThere a (switch_on k t)
table_there a kind.Atom t l h = (l, h)
table_there a kind.Integer t l h = (l, h)
table_there a kind.Structure t l h = (l, h)

rule_rows : (a : Area) (s : tries.Shape) (k : Kind) (t at : ℕ) (cs : List Clause) → Rows a (Tries a s) s (table_at a t) cs → TryRule a (Tries a s) s (switch_on k t) at cs
rule_rows a s kind.Atom t at cs h = h
rule_rows a s kind.Integer t at cs h = h
rule_rows a s kind.Structure t at cs h = h

module _ (p : FlatProgram) (tables : List Table) (ns : List ℕ) (at : ℕ) (ss : List Segment) (w : IsSwitching p tables ns at ss) where
  behind_segment : (k : ℕ) (x : Segment) → IsBehind p tables ns at ss k x → IsSegment x
  behind_segment k (listing ms) h = tt
  behind_segment k (switch i) h = subst (λ y. IsTrue (is_switch y)) (sym h.1.code) (key_switch_is h.0 h.1.number)

  -- each segment is a list or a switch
  pub each_segment : (k : ℕ) (x : Segment) → slice_get ss k ≡ Some x → IsSegment x
  each_segment zero x e = subst IsSegment (same_some ss 0 (switch (SwitchOnTerm w.v w.c w.i w.s)) x w.first e) refl
  each_segment (suc k) x e = behind_segment (suc k) x (w.others k x e)

  -- each list is of clauses of the predicate
  pub each_list : (k : ℕ) (ms : List ℕ) → slice_get ss k ≡ Some (listing ms) → AreAmong ms ns
  each_list zero ms e = let g : switch (SwitchOnTerm w.v w.c w.i w.s) ≡ listing ms = same_some ss 0 (switch (SwitchOnTerm w.v w.c w.i w.s)) (listing ms) w.first e in absurd cc
  each_list (suc k) ms e = w.others k (listing ms) e

  -- each switch is the first one, or by a key
  each_switch : (k : ℕ) (x : Code) → slice_get ss k ≡ Some (switch x) → ((k ≡ 0) × (x ≡ SwitchOnTerm w.v w.c w.i w.s)) ⊎ ((q : Kind) × IsKeySwitch p tables q ns at ss k x)
  each_switch zero x e = let g : switch (SwitchOnTerm w.v w.c w.i w.s) ≡ switch x = same_some ss 0 (switch (SwitchOnTerm w.v w.c w.i w.s)) (switch x) w.first e in inl (refl, cc)
  each_switch (suc k) x e = inr (w.others k (switch x) e)

  module _ (places : List ℕ) where
    placed_at : (k : ℕ) (x : Segment) → slice_get ss k ≡ Some x → slice_get (map (placed_segment places) ss) k ≡ Some (placed_segment places x)
    placed_at k x e = slice_get-map (placed_segment places) ss k ∙ ap (λ o. option_map (placed_segment places) o) e

    listed_from : (ls : List ℕ) (x : Segment) → listing ls ≡ placed_segment places x → (ms : List ℕ) × (x ≡ listing ms) × (ls ≡ map (place_in places) ms)
    listed_from ls (listing ms) e = (ms, refl, (let g = e in cc))
    listed_from ls (switch i) e = absurd cc

    switched_from : (i : Code) (x : Segment) → switch i ≡ placed_segment places x → x ≡ switch i
    switched_from i (listing ms) e = absurd cc
    switched_from i (switch j) e = sym e

    from_switch : (k : ℕ) (i : Code) → slice_get (map (placed_segment places) ss) k ≡ Some (switch i) → slice_get ss k ≡ Some (switch i)
    from_switch k i e =
        let g = got_map (placed_segment places) ss k (switch i) e in
        subst (λ x. slice_get ss k ≡ Some x) (switched_from i g.0 g.2) g.1

    -- the place of a segment behind this one
    ahead_at : (j to m : ℕ) (x : Segment) → j < m → to ≡ place_of at ss m → slice_get ss m ≡ Some x
        → (m : ℕ) × (j < m) × (m < length (map (placed_segment places) ss)) × (to ≡ place_of at (map (placed_segment places) ss) m)
    ahead_at j to m x h e f =
        let o = placed_offset places ss each_segment m in
        let b = slice_get_within ss m x f in
        let l = length-map ss (placed_segment places) in
        (m, h, omega (arith, b, l), e ∙ ap (λ n. at + n) (sym o))

    lead : (j to : ℕ) (ms : List ℕ) → LeadsTo at ss j to ms → (m : ℕ) × (j < m) × (m < length (map (placed_segment places) ss)) × (to ≡ place_of at (map (placed_segment places) ss) m)
    lead j to ms h = ahead_at j to h.0 (listing ms) h.1 h.2 h.3

    lead_kind : (q : Kind) (to : ℕ) → KindAt p tables q ns at ss to → (m : ℕ) × (0 < m) × (m < length (map (placed_segment places) ss)) × (to ≡ place_of at (map (placed_segment places) ss) m)
    lead_kind q to (inl h) = lead 0 to (kind_numbers p q ns) h.1
    lead_kind q to (inr h) = let y = h.1 in ahead_at 0 to y.j (switch y.i) y.later y.place y.segment

    -- ---- where they lead
    module _ (a : Area) (same : a.tables ≡ tables) where
      table_is : (t : ℕ) (table : Table) → slice_get tables t ≡ Some table → table_at a t ≡ table
      table_is t table e = get_or_from_slice_get a.tables t table [] (ap (λ l. slice_get l t) same ∙ e)

      ahead_top : (k to : ℕ) → k ≡ 0 → (to ≡ w.v) ⊎ ((to ≡ w.c) ⊎ ((to ≡ w.i) ⊎ (to ≡ w.s))) → (m : ℕ) × (k < m) × (m < length (map (placed_segment places) ss))
          × (to ≡ place_of at (map (placed_segment places) ss) m)
      ahead_top k to e (inl f) = let g = lead 0 w.v ns w.all in (g.0, (let b = g.1 in omega (arith, b, e)), g.2, f ∙ g.3)
      ahead_top k to e (inr (inl f)) = let g = lead_kind kind.Atom w.c w.atoms in (g.0, (let b = g.1 in omega (arith, b, e)), g.2, f ∙ g.3)
      ahead_top k to e (inr (inr (inl f))) = let g = lead_kind kind.Integer w.i w.integers in (g.0, (let b = g.1 in omega (arith, b, e)), g.2, f ∙ g.3)
      ahead_top k to e (inr (inr (inr f))) = let g = lead_kind kind.Structure w.s w.structures in (g.0, (let b = g.1 in omega (arith, b, e)), g.2, f ∙ g.3)

      ahead_by : (k : ℕ) (i : Code) (to : ℕ) → ((k ≡ 0) × (i ≡ SwitchOnTerm w.v w.c w.i w.s)) ⊎ ((q : Kind) × IsKeySwitch p tables q ns at ss k i)
          → IsTrue (has (named a i) to) → (m : ℕ) × (k < m) × (m < length (map (placed_segment places) ss))
          × (to ≡ place_of at (map (placed_segment places) ss) m)
      ahead_by k i to (inl f) h = ahead_top k to f.0 (one_of w.v w.c w.i w.s to (subst (λ x. IsTrue (has (named a x) to)) f.1 h))
      ahead_by k i to (inr f) h =
          let x = f.1 in
          let arms_are = ap (named a) x.code ∙ names_arms a f.0 x.number ∙ ap arms (table_is x.number x.table x.there) in
          let r = row_of x.table to (subst (λ l. IsTrue (has l to)) arms_are h) in
          lead k to (key_numbers p r.1 (kind_numbers p f.0 ns)) (x.keys.rows r.0 r.1 to r.2)

      -- each key of the table is of its kind
      keys_of_kind : (q : Kind) (k : ℕ) (table : Table) → IsTableOf p table (kind_numbers p q ns) at ss k → All (λ row. IsTrue (of_kind q row.0)) table
      keys_of_kind q k table t r d l =
          let row = get_there table r l in
          let own = t.own r row.0.0 row.0.1 row.1 in
          let sifted = sifted_one (λ n. may_be q (key_of p n)) ns own.0 own.1 own.2 in
          subst (λ y. IsTrue (of_kind q y.0)) (sym (get_or_from_slice_get table r row.0 d row.1)) (ap (may_be q) (sym own.3) ∙ sifted.2)

      there_by : (k : ℕ) (i : Code) → ((k ≡ 0) × (i ≡ SwitchOnTerm w.v w.c w.i w.s)) ⊎ ((q : Kind) × IsKeySwitch p tables q ns at ss k i) → IsThere a i
      there_by k i (inl f) = subst (IsThere a) (sym f.1) tt
      there_by k i (inr f) =
          let x = f.1 in
          let within = slice_get_within tables x.number x.table x.there in
          subst (IsThere a) (sym x.code) (table_there a f.0 x.number (subst (λ l. x.number < length l) (sym same) within)
          (subst (All (λ row. IsTrue (of_kind f.0 row.0))) (sym (table_is x.number x.table x.there)) (keys_of_kind f.0 k x.table x.keys)))

      -- The segments, with places in place of numbers, are lists and switches that lead ahead.
      pub switch_safe : (begins : ℕ → Type 0) (arity : ℕ) → 1 ≤ arity → ((k n : ℕ) → slice_get ns k ≡ Some n → begins (place_in places n)) → AreSafe a begins at arity (map (placed_segment places) ss)
      switch_safe begins arity some start = record {
        some = (switch (SwitchOnTerm w.v w.c w.i w.s), placed_at 0 (switch (SwitchOnTerm w.v w.c w.i w.s)) w.first);
        listings = λ k ls e.
            let g = got_map (placed_segment places) ss k (listing ls) e in
            let f = listed_from ls g.0 g.2 in
            let among = each_list k f.0 (subst (λ x. slice_get ss k ≡ Some x) f.1 g.1) in
            subst (λ l. Each begins l) (sym f.2) (each_of begins (place_in places) f.0 (λ j n h. let m = among j n h in start m.0 n m.1));
        switches = λ k i e. each_segment k (switch i) (from_switch k i e);
        argument = λ k i e. some;
        ahead = λ k i to e h. ahead_by k i to (each_switch k i (from_switch k i e)) h;
        there = λ k i e. there_by k i (each_switch k i (from_switch k i e));
      }

      -- ---- what they try
      module _ (clause : ℕ → Clause) (stand : (n : ℕ) (i : Code) → slice_get (code_of (map (placed_segment places) ss)) n ≡ Some i → Holds a (at + n) i)
          (enter : (k n : ℕ) → slice_get ns k ≡ Some n → Enters a (place_in places n) (clause n)) where
        list_tried : (s : tries.Shape) (j to : ℕ) (ms : List ℕ) → LeadsTo at ss j to ms → Tries a s to (map clause ms)
        list_tried s j to ms h =
            let among = each_list h.0 ms h.3 in
            let o = placed_offset places ss each_segment h.0 in
            let place = h.2 in
            list_tries a s (map (place_in places) ms) (map clause ms) to (each_tries a s (place_in places) clause ms (λ n j g. let m = among j n g in enter m.0 n m.1))
            (stand_at a to (list_of (map (place_in places) ms))
            (λ n i e.
            subst (λ x. Holds a x i) (let z : at + (offset (map segment_code (map (placed_segment places) ss)) h.0 + n) ≡ to + n = omega (arith, place, o) in z)
            (stand (offset (map segment_code (map (placed_segment places) ss)) h.0 + n) i
            (from_segment (map (placed_segment places) ss) h.0 (listing (map (place_in places) ms)) n i (placed_at h.0 (listing ms) h.3) e))))

        -- a switch stands at its segment's place
        switch_holds : (j : ℕ) (x : Code) → slice_get ss j ≡ Some (switch x) → Holds a (place_of at ss j) x
        switch_holds j x h =
            let o = placed_offset places ss each_segment j in
            subst (λ n. Holds a n x) (let z : at + (offset (map segment_code (map (placed_segment places) ss)) j + 0) ≡ place_of at ss j = omega (arith, o) in z)
            (stand (offset (map segment_code (map (placed_segment places) ss)) j + 0) x (from_segment (map (placed_segment places) ss) j (switch x) 0 x (placed_at j (switch x) h) refl))

        -- The choices begin with the switch by the kind.
        pub begins_with : Holds a at (SwitchOnTerm w.v w.c w.i w.s)
        begins_with =
            let none = offset_none (map segment_code ss) in
            subst (λ n. Holds a n (SwitchOnTerm w.v w.c w.i w.s)) (let z : place_of at ss 0 ≡ at = omega (arith, none) in z) (switch_holds 0 (SwitchOnTerm w.v w.c w.i w.s) w.first)

        module _ (v : IsProgram p) (ps : List Predicate) (q : ArePredicates p ps) (pool : a.pool ≡ p.pool) (within : (k n : ℕ) → slice_get ns k ≡ Some n → n < length p.clauses) where
          valid : IsPool a.pool
          valid = subst IsPool (sym pool) v.pool

          clash_by : (s : tries.Shape) (test : Option Key → Bool) → test None ≡ true
              → ((t : TermId) (r : Shape) → shape_at p.pool t ≡ Some r → test (shape_key r) ≡ false → Clash s (shape_term p.pool r)) → (n : ℕ)
              → n < length p.clauses → test (key_of p n) ≡ false → ClashFirst s (arguments (term_of p.pool (clause_at p n).head))
          clash_by s test none clash n l e =
              let h = head_shape p v ps q n l in
              subst (λ t. ClashFirst s (arguments t)) (sym h.2) (first_clash p.pool v.pool s test none clash h.0 (ap (λ o. test (argument_key p.pool o)) (sym h.1) ∙ e))

          key_there : (n : ℕ) (x : Key) → key_of p n ≡ Some x → IsKey a x
          key_there n x e = key_within a valid (shape_at a.pool (clause_at p n).head) x (ap (λ c. argument_key c (shape_at c (clause_at p n).head)) pool ∙ e)

          module _ (s : tries.Shape) (closed : s ≡ tries.is_open → ⊥) (k : Kind) (to : ℕ) (top : (cs : List Clause) → Tries a s to cs → Tries a s at cs)
              (clash_kind : (t : TermId) (r : Shape) → shape_at p.pool t ≡ Some r → may_be k (shape_key r) ≡ false → Clash s (shape_term p.pool r)) where
            -- by a row of the table
            by_row : (h : SwitchesTo p tables k ns at ss to) → FirstRow a s (Tries a s) (table_at a h.key_switch.number) → Chosen p a s at ns clause
            by_row h f = record {
              test = λ n. may_be k (key_of p n) && may_have f.x (key_of p n);
              clash = λ j n g e. clashes n (within j n g) (and_cases (may_be k (key_of p n)) (may_have f.x (key_of p n)) e);
              means =
                  let x = h.key_switch in
                  let here = ap (λ t. slice_get t f.r) (sym (table_is x.number x.table x.there)) ∙ f.there in
                  let ms = key_numbers p f.x (kind_numbers p k ns) in
                  let listed = list_tried s h.j f.to ms (x.keys.rows f.r f.x f.to here) in
                  let holds = subst (λ i. Holds a to i) x.code (subst (λ n. Holds a n h.i) (sym h.place) (switch_holds h.j h.i h.segment)) in
                  let tried = try_from_rule a s (switch_on k x.number) to (map clause ms) holds (rule_rows a s k x.number to (map clause ms) (f.rows (map clause ms) listed)) in
                  subst (λ l. Tries a s at (map clause l)) (sift_both (λ n. may_be k (key_of p n)) (λ n. may_have f.x (key_of p n)) ns) (top (map clause ms) tried);
            }
              where
                own_there : IsKey a f.x
                own_there =
                    let x = h.key_switch in
                    let own = x.keys.own f.r f.x f.to (ap (λ t. slice_get t f.r) (sym (table_is x.number x.table x.there)) ∙ f.there) in
                    key_there own.1 f.x own.3

                clash_row : (t : TermId) (r : Shape) → shape_at p.pool t ≡ Some r → may_have f.x (shape_key r) ≡ false → Clash s (shape_term p.pool r)
                clash_row t r g e = subst (λ c. Clash s (shape_term c r)) pool (row_clash a s closed valid f.x own_there f.is t r (ap (λ c. shape_at c t) pool ∙ g) e)

                clashes : (n : ℕ) → n < length p.clauses → (may_be k (key_of p n) ≡ false) ⊎ (may_have f.x (key_of p n) ≡ false) → ClashFirst s (arguments (term_of p.pool (clause_at p n).head))
                clashes n l (inl e) = clash_by s (may_be k) refl clash_kind n l e
                clashes n l (inr e) = clash_by s (may_have f.x) refl clash_row n l e

            -- or there is no row
            by_none : (h : SwitchesTo p tables k ns at ss to) → NoRow a s (Tries a s) (table_at a h.key_switch.number) → Chosen p a s at ns clause
            by_none h f = record {
              test = λ n. false;
              clash = λ j n g e. clashes j n g (may_be k (key_of p n)) refl;
              means =
                  let x = h.key_switch in
                  let holds = subst (λ i. Holds a to i) x.code (subst (λ n. Holds a n h.i) (sym h.place) (switch_holds h.j h.i h.segment)) in
                  let tried = try_from_rule a s (switch_on k x.number) to [] holds (rule_rows a s k x.number to [] f.rows) in
                  subst (λ l. Tries a s at (map clause l)) (sym (keeps_none ns)) (top [] tried);
            }
              where
                clash_other : (x : Key) → (IsShape a x s → ⊥) → (t : TermId) (r : Shape) → shape_at p.pool t ≡ Some r → may_be_other x (shape_key r) ≡ false → Clash s (shape_term p.pool r)
                clash_other x not_is t r g e = subst (λ c. Clash s (shape_term c r)) pool (other_clash a s closed valid x not_is t r (ap (λ c. shape_at c t) pool ∙ g) e)

                clashes : (j n : ℕ) → slice_get ns j ≡ Some n → (b : Bool) → may_be k (key_of p n) ≡ b → ClashFirst s (arguments (term_of p.pool (clause_at p n).head))
                clashes j n g false e = clash_by s (may_be k) refl clash_kind n (within j n g) e
                clashes j n g true e =
                    let x = h.key_switch in
                    let i = sifted_in (λ m. may_be k (key_of p m)) ns j n g e in
                    let row = x.keys.each i.0 n i.1 in
                    let not_is = f.none row.0 row.1 row.2 (ap (λ t. slice_get t row.0) (table_is x.number x.table x.there) ∙ row.3) in
                    clash_by s (may_be_other row.1) refl (clash_other row.1 not_is) n (within j n g) (ap (may_be_other row.1) row.4 ∙ ap not (same_itself row.1))

            by_key : (h : SwitchesTo p tables k ns at ss to) → FirstRow a s (Tries a s) (table_at a h.key_switch.number)
                ⊎ NoRow a s (Tries a s) (table_at a h.key_switch.number) → Chosen p a s at ns clause
            by_key h (inl f) = by_row h f
            by_key h (inr f) = by_none h f

            by_kind : KindAt p tables k ns at ss to → Chosen p a s at ns clause
            by_kind (inl h) = record {
              test = λ n. may_be k (key_of p n);
              clash = λ j n g e. clash_by s (may_be k) refl clash_kind n (within j n g) e;
              means = top (map clause (kind_numbers p k ns)) (list_tried s 0 to (kind_numbers p k ns) h.1);
            }
            by_kind (inr h) = let y = h.1 in by_key y (first_row a s (Tries a s) (table_at a y.key_switch.number))

          -- For each shape the place tries the clauses that pass a test, and the others clash.
          pub switch_chooses : (s : tries.Shape) → Chosen p a s at ns clause
          switch_chooses tries.is_open = record {
            test = λ n. true;
            clash = λ j n g e. no e;
            means = subst (λ ms. Tries a tries.is_open at (map clause ms)) (sym (sift_all ns))
                (try_from_rule a tries.is_open (SwitchOnTerm w.v w.c w.i w.s) at (map clause ns) begins_with (list_tried tries.is_open 0 w.v ns w.all));
          }
          switch_chooses (tries.is_atom x) = by_kind (tries.is_atom x) (λ e. absurd cc) kind.Atom w.c
              (λ cs h. try_from_rule a (tries.is_atom x) (SwitchOnTerm w.v w.c w.i w.s) at cs begins_with h) (λ t r g. atom_clash p.pool x r) w.atoms
          switch_chooses (tries.is_integer z) = by_kind (tries.is_integer z) (λ e. absurd cc) kind.Integer w.i
              (λ cs h. try_from_rule a (tries.is_integer z) (SwitchOnTerm w.v w.c w.i w.s) at cs begins_with h) (λ t r g. integer_clash p.pool z r) w.integers
          switch_chooses (tries.is_structure f m) = by_kind (tries.is_structure f m) (λ e. absurd cc) kind.Structure w.s
              (λ cs h. try_from_rule a (tries.is_structure f m) (SwitchOnTerm w.v w.c w.i w.s) at cs begins_with h) (λ t r g. structure_clash p.pool f m r)
              w.structures

-- ---- numbers

-- The choices of clauses name those alone.
pub choices_numbered : (p : FlatProgram) (tables : List Table) (many : ℕ) (ns : List ℕ) (arity at : ℕ) (is : List Code)
    → ((k n : ℕ) → slice_get ns k ≡ Some n → n < many) → AreChoicesBy p tables ns arity at is → (n : ℕ) (i : Code) → slice_get is n ≡ Some i → IsNumbered many i
choices_numbered p tables many ns arity at is below (inl h) n i e = list_numbered many ns below n i (subst (λ l. slice_get l n ≡ Some i) h.1 e)
choices_numbered p tables many ns arity at is below (inr h) n i e =
    let x = spot h.1.0 n i (subst (λ l. slice_get l n ≡ Some i) h.1.1 e) in
    by x.k x.j x.s x.segment x.get
  where
    by : (k j : ℕ) (s : Segment) → slice_get h.1.0 k ≡ Some s → slice_get (segment_code s) j ≡ Some i → IsNumbered many i
    by k j (listing ms) f g = list_numbered many ms (λ l m o. let a = each_list p tables ns at h.1.0 h.1.2 k ms f l m o in below a.0 m a.1) j i g
    by k j (switch x) f g = switch_numbered many i (subst (λ y. IsTrue (is_switch y)) (only_one x j i g).1 (each_segment p tables ns at h.1.0 h.1.2 k (switch x) f))
