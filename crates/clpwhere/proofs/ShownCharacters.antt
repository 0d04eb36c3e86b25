-- Characters as they are shown.
use Rattle.std.proofs.Common.{◌≡◌, ℕ, ◌+◌, ◌<◌, List, [], ◌∷◌, ◌++◌, length, take, get_or, map, codes, refl, sym, ap, ◌∙◌, append-nil, append_assoc}
use Rattle.std.specs.Prelude.{encode_utf8, encode_utf8_all}
use Rattle.std.proofs.lemmas.List.{map-append, take_more}
use Rattle.std.proofs.lemmas.Str.{encodes-append}
use Rattle.clpwhere.specs.Places.{shown_character, shown_characters}

-- one more character
pub shown_more : (cs : List ℕ) (x : ℕ) → shown_characters (cs ++ x ∷ []) ≡ shown_characters cs ++ encode_utf8 (shown_character x)
shown_more cs x =
    ap encode_utf8_all (map-append shown_character cs (x ∷ [])) ∙ encodes-append (map shown_character cs) (shown_character x ∷ [])
    ∙ ap (λ l. shown_characters cs ++ l) (append-nil (encode_utf8 (shown_character x)))

-- one more of a list, behind what is shown already
pub shown_next : (old now new : List ℕ) (cs : List ℕ) (i x : ℕ) → i < length cs → x ≡ get_or cs i x → now ≡ old ++ shown_characters (take i cs)
    → new ≡ now ++ encode_utf8 (shown_character x) → new ≡ old ++ shown_characters (take (i + 1) cs)
shown_next old now new cs i x l at h n =
    let next : take (i + 1) cs ≡ take i cs ++ x ∷ [] = take_more cs i x l ∙ ap (λ y. take i cs ++ y ∷ []) (sym at) in
    n ∙ ap (λ t. t ++ encode_utf8 (shown_character x)) h ∙ append_assoc old (shown_characters (take i cs)) (encode_utf8 (shown_character x))
    ∙ ap (λ t. old ++ t) (sym (shown_more (take i cs) x)) ∙ ap (λ t. old ++ shown_characters t) (sym next)

-- pieces behind one another
pub four_joined : (a b c d : List ℕ) → ((a ++ b) ++ c) ++ d ≡ a ++ (b ++ (c ++ d))
four_joined a b c d = append_assoc (a ++ b) c d ∙ append_assoc a b (c ++ d)

pub head_joined : (n l k w e : List ℕ) → ((n ++ (codes ":" ++ (l ++ (codes ":" ++ (k ++ codes ": "))))) ++ w) ++ e ≡ n ++ (codes ":" ++ (l ++ (codes ":" ++ (k ++ (codes ": " ++ (w ++ e))))))
head_joined n l k w e = simp append_assoc refl
