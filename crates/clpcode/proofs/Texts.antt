-- The text of a call, from what was read of the source.
use Rattle.std.proofs.Common.{◌≡◌, ℕ, ◌+◌, ◌<◌, ◌≤◌, List, [], ◌++◌, length, ◌∙◌, arith}
use Rattle.fd_model.specs.Verdict.{max_text}
use Rattle.byte_ports.specs.Ends.{Ends}
use Rattle.byte_ports.specs.Ports.{Took, IsAtEnd, ReadJust}
use Rattle.clpcode.specs.Headline.{IsText}
use Rattle.byte_ports.proofs.Lemmas.{whole_text, front_text}

-- it was read to its end
pub text_read : (old new : Ends) (text : List ℕ) → Took old.left new.left text → IsAtEnd new.left → IsText old new text
text_read old new text took end = record { told = λ s. whole_text old.left new.left text took end s; whole = λ l. end }

-- or is too large
pub text_large : (old new : Ends) → ReadJust old.left new.left (max_text + 1) → (text : List ℕ) × IsText old new text × (max_text < length text)
text_large old new just =
    let text = front_text old.left new.left (max_text + 1) just in
    let long : max_text < length text.0 = (let l = text.2 in omega (arith, l)) in
    (text.0, record { told = text.1; whole = λ l. absurd (omega (arith, l, long)) }, long)
