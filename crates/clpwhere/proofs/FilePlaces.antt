-- Places in files that are put together.
use Rattle.std.proofs.Common.{◌≡◌, ◌∙◌, ℕ, ◌+◌, ◌-◌, ◌<◌, ◌≤◌, inl, inr, cond, List, [], ◌∷◌, ◌++◌, Some, refl, sym, ap, subst, arith, length, take, get_or, append-nil}
use Rattle.std.proofs.lemmas.List.{take_more, length-append}
use Rattle.std.proofs.lemmas.List.Concat.{flat_map-append}
use Rattle.std.proofs.lemmas.Bool.{lt-ltb, le-ltb}
use Rattle.clpwhere.specs.Parts.{TextParts}
use Rattle.clpwhere.specs.Files.{begins, begins_from, file_place, joined, place_in_file}
use Rattle.clpwhere.specs.PlacedLines.{IsLineOf}
use Rattle.clpwhere.specs.declared.files.Cursor.{Cursor}
use Rattle.clpwhere.specs.Cursors.{Entered, IsBehind, Moved, first_file}

-- ---- one more file

pub joined_more : (files : List TextParts) (i : ℕ) (d : TextParts) → i < length files → joined (take (i + 1) files) ≡ joined (take i files) ++ (get_or files i d).bytes
joined_more files i d h =
    ap joined (take_more files i d h) ∙ flat_map-append (λ f. f.bytes) (take i files) (get_or files i d ∷ [])
    ∙ ap (λ l. joined (take i files) ++ l) (append-nil (get_or files i d).bytes)

begins_append : (at : ℕ) (fs : List TextParts) (f : TextParts) → begins_from at (fs ++ f ∷ []) ≡ begins_from at fs ++ (at + length (joined fs)) ∷ []
begins_append at [] f = let same : at ≡ at + 0 = omega arith in ap (λ n. n ∷ []) same
begins_append at (g ∷ gs) f =
    let sum : (at + length g.bytes) + length (joined gs) ≡ at + length (joined (g ∷ gs)) = omega (arith, length-append g.bytes (joined gs)) in
    ap (λ l. at ∷ l) (begins_append (at + length g.bytes) gs f ∙ ap (λ n. begins_from (at + length g.bytes) gs ++ n ∷ []) sum)

pub begins_more : (files : List TextParts) (i : ℕ) (d : TextParts) → i < length files → begins (take (i + 1) files) ≡ begins (take i files) ++ length (joined (take i files)) ∷ []
begins_more files i d h =
    let sum : 0 + length (joined (take i files)) ≡ length (joined (take i files)) = omega arith in
    ap begins (take_more files i d h) ∙ begins_append 0 (take i files) (get_or files i d) ∙ ap (λ n. begins (take i files) ++ n ∷ []) sum

-- ---- the file of a place

-- a place behind the first of several files
file_step : (f : TextParts) (fs : List TextParts) (p : ℕ) → 0 < length fs → length f.bytes ≤ p → file_place (f ∷ fs) p ≡ file_place fs (p - length f.bytes)
file_step f [] p s h = absurd (omega (arith, s))
file_step f (g ∷ gs) p s h =
    ap (λ t. cond t (Some (place_in_file f p)) (file_place (g ∷ gs) (p - length f.bytes))) (le-ltb p (length f.bytes) h)

-- a place inside the first file
file_here : (f : TextParts) (fs : List TextParts) (p : ℕ) → p < length f.bytes → file_place (f ∷ fs) p ≡ Some (place_in_file f p)
file_here f [] p h = refl
file_here f (g ∷ gs) p h =
    ap (λ t. cond t (Some (place_in_file f p)) (file_place (g ∷ gs) (p - length f.bytes))) (lt-ltb p (length f.bytes) h)

-- what holds while files are passed
pub record HasPassed (files : List TextParts) (begin place : ℕ) (rest : List TextParts) (at : ℕ) : Type 0 where
  pub later : begin ≤ at
  pub within : at ≤ place
  pub behind : (p : ℕ) → at ≤ p → file_place files (p - begin) ≡ file_place rest (p - at)
  pub some : 0 < length files → 0 < length rest
  pub shorter : length rest ≤ length files
  pub same : length rest ≡ length files → (rest ≡ files) × (at ≡ begin)

pub passed_none : (files : List TextParts) (begin place : ℕ) → begin ≤ place → HasPassed files begin place files begin
passed_none files begin place h = record {
  later = omega arith;
  within = h;
  behind = λ p l. refl;
  some = λ s. s;
  shorter = omega arith;
  same = λ e. (refl, refl);
}

pub passed_more : (files : List TextParts) (begin place : ℕ) (rest : List TextParts) (at : ℕ) (f : TextParts) (further : List TextParts) (next : ℕ)
    → HasPassed files begin place rest at → rest ≡ f ∷ further → 0 < length further → length f.bytes ≤ place - at → next ≡ at + length f.bytes
    → HasPassed files begin place further next
passed_more files begin place rest at f further next h is s l e =
    let long : length rest ≡ length (f ∷ further) = ap length is in
    let w = h.within in
    let q = h.later in
    let k = h.shorter in
    record {
      later = omega (arith, q, e);
      within = omega (arith, w, l, e);
      behind = λ p m.
          let far : length f.bytes ≤ p - at = omega (arith, m, e) in
          let sum : (p - at) - length f.bytes ≡ p - next = omega (arith, e) in
          h.behind p (omega (arith, m, e)) ∙ ap (λ r. file_place r (p - at)) is ∙ file_step f further (p - at) s far ∙ ap (file_place further) sum;
      some = λ t. s;
      shorter = omega (arith, long, k);
      same = λ t. absurd (omega (arith, t, long, k));
    }

-- where no other file is passed
pub stops_empty : (files : List TextParts) (begin place : ℕ) (rest : List TextParts) (at : ℕ) → HasPassed files begin place rest at → (0 < length rest → ⊥)
    → IsBehind files begin place rest at
stops_empty files begin place rest at h none =
    record { later = h.later; within = h.within; behind = h.behind; here = λ s. absurd (none s); some = h.some; same = h.same }

pub stops_last : (files : List TextParts) (begin place : ℕ) (rest : List TextParts) (at : ℕ) (f : TextParts) (further : List TextParts)
    → HasPassed files begin place rest at → rest ≡ f ∷ further → further ≡ [] → IsBehind files begin place rest at
stops_last files begin place rest at f further h is none =
    let one : f ∷ [] ≡ rest = sym (is ∙ ap (λ l. f ∷ l) none) in
    record {
      later = h.later;
      within = h.within;
      behind = h.behind;
      here = λ s. subst (λ r. file_place r (place - at) ≡ Some (place_in_file (first_file r) (place - at))) one refl;
      some = h.some;
      same = h.same;
    }

pub stops_inside : (files : List TextParts) (begin place : ℕ) (rest : List TextParts) (at : ℕ) (f : TextParts) (further : List TextParts)
    → HasPassed files begin place rest at → rest ≡ f ∷ further → place - at < length f.bytes → IsBehind files begin place rest at
stops_inside files begin place rest at f further h is l =
    record {
      later = h.later;
      within = h.within;
      behind = h.behind;
      here = λ s. subst (λ r. file_place r (place - at) ≡ Some (place_in_file (first_file r) (place - at))) (sym is) (file_here f further (place - at) l);
      some = h.some;
      same = h.same;
    }

-- ---- cursors

pub entered_order : (old new : Cursor) (files : List TextParts) (begin to : ℕ) → Entered old new files begin → begin ≤ to → old.begin + old.place ≤ to → new.place ≤ to - begin
entered_order old new files begin to e h l = elim e.stands [
  | inl z ↦ omega (arith, z)
  | inr s ↦ (let at = s.0 in let same = s.1 in omega (arith, at, same, h, l))
]

pub moved_there : (old new : Cursor) (files : List TextParts) (begin to : ℕ) → IsBehind old.files.now old.begin to files begin → new.files.now ≡ files → new.begin ≡ begin
    → new.place ≡ to - begin → 0 < length files → IsLineOf (first_file files).bytes (to - begin) new.line → Moved old new to
moved_there old new files begin to b same at place some line =
    let w = b.within in
    record {
      cursor = record {
        some = subst (λ fs. 0 < length fs) (sym same) some;
        line = subst (λ fs. IsLineOf (first_file fs).bytes new.place new.line) (sym same)
            (subst (λ n. IsLineOf (first_file files).bytes n new.line) (sym place) line);
      };
      place = omega (arith, w, at, place);
      behind = λ p l.
          let past : begin ≤ p = omega (arith, w, l) in
          b.behind p past ∙ ap (λ fs. file_place fs (p - begin)) (sym same) ∙ ap (λ n. file_place new.files.now (p - n)) (sym at);
      here = subst (λ fs. file_place fs new.place ≡ Some (place_in_file (first_file fs) new.place)) (sym same)
          (subst (λ n. file_place files n ≡ Some (place_in_file (first_file files) n)) (sym place) (b.here some));
    }
