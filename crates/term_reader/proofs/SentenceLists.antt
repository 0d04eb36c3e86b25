-- Sentences one after another.
use Rattle.std.proofs.Common.{◌≡◌, ℕ, ◌+◌, ◌<◌, [], ◌∷◌, ◌++◌, length, map, take, get_or, sym, ap, ◌∙◌}
use Rattle.std.proofs.lemmas.List.{take_more, map-append}
use Rattle.term_reader.specs.declared.reader.Sentence.{Sentence}
use Rattle.term_reader.specs.declared.reader.Sentences.{Sentences}
use Rattle.term_reader.specs.Sentences.{sentence_of}

pub sentences_more : (s : Sentences) (i : ℕ) (d : Sentence) → i < length s.list.items → d ≡ get_or s.list.items i d
    → map (sentence_of s.pool) (take (i + 1) s.list.items) ≡ map (sentence_of s.pool) (take i s.list.items) ++ sentence_of s.pool d ∷ []
sentences_more s i d h e =
    ap (map (sentence_of s.pool)) (take_more s.list.items i d h) ∙ map-append (sentence_of s.pool) (take i s.list.items) (get_or s.list.items i d ∷ [])
    ∙ ap (λ (x : Sentence). map (sentence_of s.pool) (take i s.list.items) ++ sentence_of s.pool x ∷ []) (sym e)
