-- A text has one verdict, and which it is.
use Rattle.std.proofs.Common.{◌≡◌, ℕ, ◌<◌, ◌≤◌, List, length, refl, ap, sym, ◌∙◌, inl, inr, arith, codes}
use Rattle.std.specs.Str.{IsUtf8}
use Rattle.std.specs.Str.Lossy.{utf8_valid_len}
use Rattle.fd_language.specs.Reading.{Reading, IsReading}
use Rattle.fd_language.proofs.Lemmas.{one_verdict_of_reading}
use Rattle.fd_model.specs.Verdict.{Verdict, refused, max_text, reading_verdict, IsVerdict}

-- the verdict on a text that is too large
pub large_verdict : (M N : ℕ) (text : List ℕ) → max_text < length text → IsVerdict M N text (refused max_text (codes "too large"))
large_verdict M N text h = inl (h, refl)

-- on one that is not UTF-8
pub bytes_verdict : (M N : ℕ) (text : List ℕ) → length text ≤ max_text → (IsUtf8 text → ⊥) → IsVerdict M N text (refused (utf8_valid_len text) (codes "not UTF-8"))
bytes_verdict M N text h u = inr (inl (h, u, refl))

-- on one that is read
pub read_verdict : (M N : ℕ) (text : List ℕ) (r : Reading) → length text ≤ max_text → IsUtf8 text → IsReading text r → IsVerdict M N text (reading_verdict M N r)
read_verdict M N text r h u i = inr (inr (h, u, (r, i, refl)))

-- there is one verdict on a text
pub one_verdict : (M N : ℕ) (text : List ℕ) (v w : Verdict) → IsVerdict M N text v → IsVerdict M N text w → v ≡ w
one_verdict M N text v w (inl a) (inl b) = a.1 ∙ sym b.1
one_verdict M N text v w (inl a) (inr (inl b)) = absurd (let x = a.0 in let y = b.0 in omega arith)
one_verdict M N text v w (inl a) (inr (inr b)) = absurd (let x = a.0 in let y = b.0 in omega arith)
one_verdict M N text v w (inr (inl a)) (inl b) = absurd (let x = a.0 in let y = b.0 in omega arith)
one_verdict M N text v w (inr (inl a)) (inr (inl b)) = a.2 ∙ sym b.2
one_verdict M N text v w (inr (inl a)) (inr (inr b)) = absurd (a.1 b.1)
one_verdict M N text v w (inr (inr a)) (inl b) = absurd (let x = a.0 in let y = b.0 in omega arith)
one_verdict M N text v w (inr (inr a)) (inr (inl b)) = absurd (b.1 a.1)
one_verdict M N text v w (inr (inr a)) (inr (inr b)) = a.2.2 ∙ ap (reading_verdict M N) (one_verdict_of_reading text a.2.0 b.2.0 a.2.1 b.2.1) ∙ sym b.2.2
