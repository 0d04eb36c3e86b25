-- Warnings, one more at a time.
use Rattle.std.proofs.Common.{◌≡◌, ℕ, zero, suc, ◌+◌, ◌-◌, ◌<◌, ◌≤◌, Option, List, [], ◌∷◌, ◌++◌, length, map, take, get_or, refl, sym, ap, ◌∙◌, subst, arith, append-nil}
use Rattle.std.specs.Option.{option_map_or}
use Rattle.std.specs.List.Sorted.{IsNonDecreasingBy}
use Rattle.std.proofs.lemmas.List.{take_more, map-append, get_or-map, length-map}
use Rattle.std.proofs.lemmas.List.Concat.{flat_map-append}
use Rattle.term_pool.specs.Contents.{Contents}
use Rattle.text_warnings.specs.Warnings as model
use Rattle.text_warnings.specs.WarningViews.{warning_in}
use Rattle.text_warnings.specs.declared.Warning.{Warning}
use Rattle.clpwhere.specs.Parts.{TextParts}
use Rattle.clpwhere.specs.Files.{FilePlace, file_place}
use Rattle.clpwhere.specs.Cursors.{Moved, first_file}
use Rattle.clpwhere.specs.declared.files.Cursor.{Cursor}
use Rattle.clpwhere.specs.WarnedLines.{told_concern, warned, warned_lines}

pub told_more : (files : List TextParts) (c : Contents) (ws : List Warning) (i : ℕ) (d : Warning) → i < length ws
    → warned_lines files (map (warning_in c) (take (i + 1) ws)) ≡ warned_lines files (map (warning_in c) (take i ws)) ++ warned files (warning_in c (get_or ws i d))
told_more files c ws i d h =
    let w = warning_in c (get_or ws i d) in
    let before = map (warning_in c) (take i ws) in
    ap (warned_lines files) (ap (map (warning_in c)) (take_more ws i d h) ∙ map-append (warning_in c) (take i ws) (get_or ws i d ∷ []))
    ∙ flat_map-append (warned files) before (w ∷ []) ∙ ap (λ (l : List ℕ). warned_lines files before ++ l) (append-nil (warned files w))

pub same_default : (ws : List Warning) (i : ℕ) (d e : Warning) → i < length ws → get_or ws i d ≡ get_or ws i e
same_default [] i d e h = absurd (omega arith)
same_default (w ∷ ws) zero d e h = refl
same_default (w ∷ ws) (suc i) d e h = same_default ws i d e (omega arith)

-- Places rise as the definition's do.
pub rising_kept : (c : Contents) (ws us : List Warning) → us ≡ ws → IsNonDecreasingBy (λ w. w.place) (map (warning_in c) ws) → IsNonDecreasingBy (λ w. w.place) us
rising_kept c ws us e rising = subst (λ (vs : List Warning). IsNonDecreasingBy (λ w. w.place) vs) (sym e)
    (λ i j d order h.
    let long = length-map ws (warning_in c) in
    let inside : j < length (map (warning_in c) ws) = omega (arith, long, h) in
    let first : i < length ws = omega (arith, order, h) in
    subst (λ (w : model.Warning). w.place ≤ (get_or ws j d).place) (get_or-map (warning_in c) ws i d (warning_in c d) first)
    (subst (λ (w : model.Warning). (get_or (map (warning_in c) ws) i (warning_in c d)).place ≤ w.place) (get_or-map (warning_in c) ws j d (warning_in c d) h)
    (rising i j (warning_in c d) order inside)))

-- of no file nothing is written
pub none_told : (files : List TextParts) (ws : List model.Warning) → length files ≡ 0 → warned_lines files ws ≡ []
none_told (f ∷ fs) ws e = absurd (omega (arith, e))
none_told [] [] e = refl
none_told [] (w ∷ ws) e = none_told [] ws e

-- a warning at the place where a cursor stands
pub told_here : (files : List TextParts) (w : model.Warning) (old new : Cursor) → old.begin + old.place ≤ w.place → Moved old new w.place
    → ((p : ℕ) → old.begin + old.place ≤ p → file_place files p ≡ file_place old.files.now (p - old.begin))
    → warned files w ≡ told_concern w.concern (first_file new.files.now) new.place
told_here files w old new l m h =
    let place : w.place - new.begin ≡ new.place = omega (arith, m.place) in
    let at : w.place ≤ w.place = omega arith in
    ap (λ (o : Option FilePlace). option_map_or (λ p. told_concern w.concern p.file p.place) o [])
    (h w.place l ∙ m.behind w.place at ∙ ap (file_place new.files.now) place ∙ m.here)

pub behind_moved : (files : List TextParts) (to : ℕ) (old new : Cursor) → old.begin + old.place ≤ to → Moved old new to
    → ((p : ℕ) → old.begin + old.place ≤ p → file_place files p ≡ file_place old.files.now (p - old.begin))
    → (p : ℕ) → new.begin + new.place ≤ p → file_place files p ≡ file_place new.files.now (p - new.begin)
behind_moved files to old new l m h p k =
    let far : to ≤ p = omega (arith, k, m.place) in
    let past : old.begin + old.place ≤ p = omega (arith, l, far) in
    h p past ∙ m.behind p far
