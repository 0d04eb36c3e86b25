-- Steps that are written, one after the other.
use Rattle.std.proofs.Common.{◌≡◌, ℕ, suc, ◌<◌, Bool, true, false, if◌then◌else◌, List, [], ◌∷◌, ◌++◌, Some, length, slice_get, refl, ap, sym, ◌∙◌}
use Rattle.std.proofs.Common.{append_assoc, unwrap_or, zero}
use Rattle.std.proofs.lemmas.Bool.{true≢false}
use Rattle.std.proofs.lemmas.Option.{slice_get-get_or, slice_get_within}
use Rattle.std.proofs.lemmas.Slice.Eq.{bytes_eq-Decides}
use Rattle.std.specs.Str.{bytes_eq}
use Rattle.clause_code.proofs.UnmadeVariables.{marked_long}
use Rattle.fd_language.specs.Term.{Name}
use Rattle.term_pool.specs.declared.AtomId.{AtomId}
use Rattle.term_pool.specs.Contents.{Contents, atom_name}
use Rattle.term_pool.specs.PoolInvariant.{IsPool}
use Rattle.wam_code.specs.declared.instruction.Register.{Register}
use Rattle.wam_code.specs.declared.instruction.Code.{Code}
use Rattle.clause_code.specs.Steps.{Step, get_variable, unify_variable, put_variable, inner, inner_code, marked_by, marked_by_all, code_of, place_in, atom_of}
use Rattle.clause_code.specs.BuildStack.{Writes}
use Rattle.clause_code.proofs.StepEffects.{code_both, marked_both}

-- What is still to be written brings the code to `whole`, and the marks to `last`.
pub record Owes (homes : List Register) (code : List Code) (made : List Bool) (ss : List Step) (whole : List Code) (last : List Bool) : Type 0 where
  pub codes : code ++ code_of homes made ss ≡ whole
  pub marks : marked_by_all made ss ≡ last

-- Some of the steps are written.
pub owes_less : (homes : List Register) (code new : List Code) (made later : List Bool) (ss ts : List Step) (whole : List Code) (last : List Bool)
    → Owes homes code made (ss ++ ts) whole last → Writes homes code made ss new later → Owes homes new later ts whole last
owes_less homes code new made later ss ts whole last o w = record {
  codes =
      ap (λ l. l ++ code_of homes later ts) w.codes
      ∙ append_assoc code (code_of homes made ss) (code_of homes later ts)
      ∙ ap (λ m. code ++ (code_of homes made ss ++ code_of homes m ts)) w.marks
      ∙ ap (λ l. code ++ l) (sym (code_both homes made ss ts))
      ∙ o.codes;
  marks = ap (λ m. marked_by_all m ts) w.marks ∙ sym (marked_both made ss ts) ∙ o.marks;
}

pub marked_by_long : (made : List Bool) (s : Step) → length (marked_by made s) ≡ length made
marked_by_long made (get_variable x a) = marked_long made x
marked_by_long made (unify_variable x) = marked_long made x
marked_by_long made (put_variable x a) = marked_long made x
marked_by_long made _ = refl

pub marked_by_all_long : (made : List Bool) (ss : List Step) → length (marked_by_all made ss) ≡ length made
marked_by_all_long made [] = refl
marked_by_all_long made (s ∷ ss) = marked_by_all_long (marked_by made s) ss ∙ marked_by_long made s

pub writes_long : (homes : List Register) (code new : List Code) (made later : List Bool) (ss : List Step) → Writes homes code made ss new later → length later ≡ length made
writes_long homes code new made later ss w = ap length w.marks ∙ marked_by_all_long made ss

-- a compound argument of a structure
pub writes_inner : (homes : List Register) (code new : List Code) (made : List Bool) (read : Bool) (j : ℕ) (i : Code) → i ≡ inner_code read j
    → new ≡ code ++ (i ∷ []) → Writes homes code made (inner read j ∷ []) new made
writes_inner homes code new made true j i e f = record { codes = f ∙ ap (λ x. code ++ (x ∷ [])) e; marks = refl }
writes_inner homes code new made false j i e f = record { codes = f ∙ ap (λ x. code ++ (x ∷ [])) e; marks = refl }

-- ---- atoms

place_found : (ms : List Name) (n : Name) (k : ℕ) → slice_get ms k ≡ Some n → slice_get ms (place_in ms n) ≡ Some n
place_found [] n k e = absurd (cc)
place_found (m ∷ ms) n k e = by (place_found ms n) (bytes_eq n m) refl k e
  where
    by : ((k : ℕ) → slice_get ms k ≡ Some n → slice_get ms (place_in ms n) ≡ Some n) → (c : Bool) → bytes_eq n m ≡ c → (k : ℕ) → slice_get (m ∷ ms) k ≡ Some n
        → slice_get (m ∷ ms) (if c then 0 else suc (place_in ms n)) ≡ Some n
    by rest true h k e = ap Some (sym ((bytes_eq-Decides n m).0 h))
    by rest false h zero e = let same : n ≡ m = cc in absurd (true≢false (sym ((bytes_eq-Decides n m).1 same) ∙ h))
    by rest false h (suc k) e = rest k e

-- An atom of the pool is found by its name.
pub atom_known : (c : Contents) (a : AtomId) → IsPool c → a.number < length c.names → atom_of c (atom_name c a) ≡ a
atom_known c a valid l =
    let n : Name = atom_name c a in
    let there : slice_get c.names a.number ≡ Some n = named c.names a.number l in
    let found = place_found c.names n a.number there in
    let b : AtomId = atom_of c n in
    let m : b.number < length c.names = slice_get_within c.names b.number n found in
    valid.distinct b a m l (ap (λ o. unwrap_or o []) found)
  where
    named : (names : List Name) (k : ℕ) → k < length names → slice_get names k ≡ Some (unwrap_or (slice_get names k) [])
    named names k l = let e = slice_get-get_or names k [] l in e ∙ ap (λ o. Some (unwrap_or o [])) (sym e)
