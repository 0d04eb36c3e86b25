-- What is written of the whole input, by the lines in front of each and by the query that each belongs to.
use Rattle.std.proofs.Common.{◌≡◌, ℕ, zero, suc, Bool, List, [], ◌∷◌, ◌++◌, Option, Some, None, refl, ap, ap₂, ◌∙◌}
use Rattle.std.specs.Prelude.{◌||◌, codes, filter_map, is_some, option_and_then, option_map, unwrap_or}
use Rattle.std.specs.List.{cons_option, flat_map, list_any, last_or}
use Rattle.std.specs.Option.{option_map_or, option_or}
use Rattle.byte_ports.specs.Lines.{lines_of}
use Rattle.fd_model.specs.declared.kinds.QueryFault.{QueryFault}
use Rattle.clpwhere.specs.Parts.{TextParts, QueriedParts, with_queries}
use Rattle.clpwhere.specs.FaultLines.{fault_of, fault_sentence, fault_words, query_behind, query_number, query_place}
use Rattle.clpwhere.specs.Lines.{without_newline}
use Rattle.clpwhere.specs.MarkedLines.{explained, explained_fault, explanation, is_explained, is_refusal, is_told, marked, marked_behind, marked_line, plain_line, tells_behind, told_at}
use Rattle.clpwhere.specs.QueriedLines.{marked_from, marked_lines, query_after, tells_from, tells_lines}
use Rattle.clpwhere.specs.Refusals.{Refusal, refusal_of}

-- ---- the number of a query

-- the last one is that of one line more, where it tells one
last_more : (f : List ℕ → Option ℕ) (line : List ℕ) (front : List (List ℕ)) (o : Option ℕ) → last_or o (filter_map f (front ++ line ∷ [])) ≡ option_or (f line) (last_or o (filter_map f front))
last_more f line [] o = of_one (f line)
  where
    of_one : (n : Option ℕ) → last_or o (cons_option n []) ≡ option_or n o
    of_one None = refl
    of_one (Some n) = refl
last_more f line (x ∷ xs) o = go (f x) (λ p. last_more f line xs p)
  where
    go : (n : Option ℕ) → ((p : Option ℕ) → last_or p (filter_map f (xs ++ line ∷ [])) ≡ option_or (f line) (last_or p (filter_map f xs)))
        → last_or o (cons_option n (filter_map f (xs ++ line ∷ []))) ≡ option_or (f line) (last_or o (cons_option n (filter_map f xs)))
    go None next = next o
    go (Some n) next = next (Some n)

query_more : (front : List (List ℕ)) (line : List ℕ) → query_behind (front ++ line ∷ []) ≡ query_after (query_behind front) line
query_more front line = last_more query_number line front None

-- ---- by the lines in front, and by the query

marked_same : (t : QueriedParts) (front lines : List (List ℕ)) → marked_behind t front lines ≡ marked_lines t (query_behind front) lines
marked_same t front [] = refl
marked_same t front (line ∷ lines) =
    ap (λ l. marked_line t (query_behind front) line ++ l) (marked_same t (front ++ line ∷ []) lines ∙ ap (λ q. marked_lines t q lines) (query_more front line))

tells_same : (t : QueriedParts) (front lines : List (List ℕ)) → tells_behind t front lines ≡ tells_lines t (query_behind front) lines
tells_same t front [] = refl
tells_same t front (line ∷ lines) =
    ap (λ l. is_explained t (query_behind front) line || l) (tells_same t (front ++ line ∷ []) lines ∙ ap (λ q. tells_lines t q lines) (query_more front line))

pub marked_whole : (t : QueriedParts) (input : List ℕ) → marked t input ≡ marked_from t None input
marked_whole t input = marked_same t [] (lines_of input)

pub tells_whole : (t : QueriedParts) (input : List ℕ) → is_told t input ≡ tells_from t None input
tells_whole t input = tells_same t [] (lines_of input)

-- ---- without queries

no_place : (n : ℕ) → query_place [] n ≡ None
no_place zero = refl
no_place (suc k) = refl

-- no line tells a fault of a query of the text
none_placed : (text : TextParts) (query : Option ℕ) (words : List ℕ) → explained_fault (with_queries text []) query words ≡ None
none_placed text query words = by_fault (fault_of words) query
  where
    told : ℕ → QueryFault → ℕ → List ℕ
    told n f place = words ++ (codes "\n" ++ told_at text place (fault_words n f) (fault_sentence f))

    by_fault : (f : Option QueryFault) (q : Option ℕ) → option_and_then (λ f. option_and_then (λ n. option_map (told n f) (query_place [] n)) q) f ≡ None
    by_fault None q = refl
    by_fault (Some f) None = refl
    by_fault (Some f) (Some n) = ap (option_map (told n f)) (no_place n)

plain_explained : (text : TextParts) (query : Option ℕ) (line : List ℕ) → explanation (with_queries text []) query line ≡ option_map (explained text) (refusal_of (without_newline line))
plain_explained text query line =
    let words = without_newline line in
    ap (option_or (option_map (explained text) (refusal_of words))) (none_placed text query words) ∙ or_none (option_map (explained text) (refusal_of words))
  where
    or_none : (o : Option (List ℕ)) → option_or o None ≡ o
    or_none None = refl
    or_none (Some x) = refl

plain_marked : (text : TextParts) (query : Option ℕ) (line : List ℕ) → marked_line (with_queries text []) query line ≡ plain_line text line
plain_marked text query line = ap (λ (o : Option (List ℕ)). unwrap_or o line) (plain_explained text query line) ∙ by_refusal (refusal_of (without_newline line))
  where
    by_refusal : (r : Option Refusal) → unwrap_or (option_map (explained text) r) line ≡ option_map_or (explained text) r line
    by_refusal None = refl
    by_refusal (Some r) = refl

plain_told : (text : TextParts) (query : Option ℕ) (line : List ℕ) → is_explained (with_queries text []) query line ≡ is_refusal line
plain_told text query line = ap is_some (plain_explained text query line) ∙ by_refusal (refusal_of (without_newline line))
  where
    by_refusal : (r : Option Refusal) → is_some (option_map (explained text) r) ≡ is_some r
    by_refusal None = refl
    by_refusal (Some r) = refl

plain_lines : (text : TextParts) (front lines : List (List ℕ)) → marked_behind (with_queries text []) front lines ≡ flat_map (plain_line text) lines
plain_lines text front [] = refl
plain_lines text front (line ∷ lines) =
    ap₂ (λ (a b : List ℕ). a ++ b) (plain_marked text (query_behind front) line) (plain_lines text (front ++ line ∷ []) lines)

plain_any : (text : TextParts) (front lines : List (List ℕ)) → tells_behind (with_queries text []) front lines ≡ list_any is_refusal lines
plain_any text front [] = refl
plain_any text front (line ∷ lines) = ap₂ (λ (a b : Bool). a || b) (plain_told text (query_behind front) line) (plain_any text (front ++ line ∷ []) lines)

pub plain_output : (text : TextParts) (input : List ℕ) → marked (with_queries text []) input ≡ flat_map (plain_line text) (lines_of input)
plain_output text input = plain_lines text [] (lines_of input)

pub plain_tells : (text : TextParts) (input : List ℕ) → is_told (with_queries text []) input ≡ list_any is_refusal (lines_of input)
plain_tells text input = plain_any text [] (lines_of input)
