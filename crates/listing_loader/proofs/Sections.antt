-- The first line that isn't right, section by section.
use Rattle.std.proofs.Common.{◌≡◌, ℕ, ◌+◌, Bool, not, List, map, length, Option, Some, None, sym, ap, ◌∙◌, arith}
use Rattle.std.specs.Prelude.{MatchOption}
use Rattle.std.specs.List.{position}
use Rattle.std.proofs.lemmas.List.{length-map}
use Rattle.term_pool.specs.Contents.{first_names}
use Rattle.code_listing.specs.Listing.{Sheet}
use Rattle.listing_loader.specs.Marks.{atom_marks, has_slots_in_order, counts_of, entry_mark, query_mark, place_mark, number_marks, IsFirstWrong, AreRight}
use Rattle.listing_loader.proofs.Atoms.{length_marks}
use Rattle.listing_loader.proofs.WrongLines.{FirstFalse, first_false, none_false, position_map, in_atoms, in_ranges, in_entries, in_queries, in_places}
use Rattle.listing_loader.proofs.WrongLines.{all_right}

-- a search through what has marks is one through the marks
module _ {X : Type 0} (mark : X → Bool) (xs : List X) where
  found : (k : ℕ) → Some k ≡ position (λ x. not (mark x)) xs → FirstFalse (map mark xs) k
  found k e = first_false (map mark xs) k (position_map not mark xs ∙ sym e)

  none : None ≡ position (λ x. not (mark x)) xs → AreRight (map mark xs)
  none e = none_false (map mark xs) (position_map not mark xs ∙ sym e)

module _ (s : Sheet) where
  abbrev A : List Bool
  A = atom_marks first_names s.atoms

  abbrev R : List Bool
  R = map has_slots_in_order s.ranges

  abbrev E : List Bool
  E = map (entry_mark (counts_of s)) s.entries

  abbrev Q : List Bool
  Q = map (query_mark (counts_of s)) s.queries

  abbrev C : List Bool
  C = map (place_mark s) s.code

  atom_count : length A ≡ length s.atoms
  atom_count = length_marks first_names s.atoms

  pub atom_exit : (n k : ℕ) → n ≡ 3 + k → Some k ≡ position not A → IsFirstWrong (number_marks s) n
  atom_exit n k e f = in_atoms A R E Q C n k e (first_false A k (sym f))

  pub range_exit : (n k : ℕ) → n ≡ 4 + length s.atoms + k → None ≡ position not A → Some k ≡ position (λ ns. not (has_slots_in_order ns)) s.ranges → IsFirstWrong (number_marks s) n
  range_exit n k e a f = in_ranges A R E Q C n k (omega (arith, e, atom_count)) (none_false A (sym a)) (found has_slots_in_order s.ranges k f)

  pub entry_exit : (n k : ℕ) → n ≡ 5 + length s.atoms + length s.ranges + k → None ≡ position not A
      → None ≡ position (λ ns. not (has_slots_in_order ns)) s.ranges → Some k ≡ position (λ e. not (entry_mark (counts_of s) e)) s.entries
      → IsFirstWrong (number_marks s) n
  entry_exit n k e a r f =
      in_entries A R E Q C n k (omega (arith, e, atom_count, length-map s.ranges has_slots_in_order)) (none_false A (sym a))
      (none has_slots_in_order s.ranges r) (found (entry_mark (counts_of s)) s.entries k f)

  pub query_exit : (n k : ℕ) → n ≡ 6 + length s.atoms + length s.ranges + length s.entries + k → None ≡ position not A
      → None ≡ position (λ ns. not (has_slots_in_order ns)) s.ranges → None ≡ position (λ e. not (entry_mark (counts_of s) e)) s.entries
      → Some k ≡ position (λ q. not (query_mark (counts_of s) q)) s.queries → IsFirstWrong (number_marks s) n
  query_exit n k e a r p f =
      in_queries A R E Q C n k (omega (arith, e, atom_count, length-map s.ranges has_slots_in_order, length-map s.entries (entry_mark (counts_of s))))
      (none_false A (sym a)) (none has_slots_in_order s.ranges r) (none (entry_mark (counts_of s)) s.entries p)
      (found (query_mark (counts_of s)) s.queries k f)

  pub place_exit : (n k : ℕ) → n ≡ 7 + length s.atoms + length s.ranges + length s.entries + length s.queries + k → None ≡ position not A
      → None ≡ position (λ ns. not (has_slots_in_order ns)) s.ranges → None ≡ position (λ e. not (entry_mark (counts_of s) e)) s.entries
      → None ≡ position (λ q. not (query_mark (counts_of s) q)) s.queries → Some k ≡ position (λ i. not (place_mark s i)) s.code
      → IsFirstWrong (number_marks s) n
  place_exit n k e a r p q f =
      in_places A R E Q C n k
      (omega (
        arith,
        e,
        atom_count,
        length-map s.ranges has_slots_in_order,
        length-map s.entries (entry_mark (counts_of s)),
        length-map s.queries (query_mark (counts_of s)),
      )) (none_false A (sym a)) (none has_slots_in_order s.ranges r)
      (none (entry_mark (counts_of s)) s.entries p) (none (query_mark (counts_of s)) s.queries q) (found (place_mark s) s.code k f)

  pub right_exit : None ≡ position not A → None ≡ position (λ ns. not (has_slots_in_order ns)) s.ranges
      → None ≡ position (λ e. not (entry_mark (counts_of s) e)) s.entries → None ≡ position (λ q. not (query_mark (counts_of s) q)) s.queries
      → None ≡ position (λ i. not (place_mark s i)) s.code → AreRight (number_marks s)
  right_exit a r p q c =
      all_right A R E Q C (none_false A (sym a)) (none has_slots_in_order s.ranges r) (none (entry_mark (counts_of s)) s.entries p)
      (none (query_mark (counts_of s)) s.queries q) (none (place_mark s) s.code c)

-- what holds whatever an option is
pub weak_option : {A : Type 0} (o : Option A) (P : Type 0) → P → MatchOption o P (λ _. Unit {0})
weak_option None P h = h
weak_option (Some x) P h = tt

-- what is kept as a view
pub seen_by : {X Y : Type 0} (test : Y → Bool) (f : X → Y) (xs ys : List X) (o p : Option ℕ) → ys ≡ xs → p ≡ o → p ≡ position (λ x. test (f x)) ys → o ≡ position test (map f xs)
seen_by test f xs ys o p e g h = sym g ∙ h ∙ ap (position (λ x. test (f x))) e ∙ sym (position_map test f xs)
