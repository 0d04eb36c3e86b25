-- The text that calls of a source have read.
use Rattle.std.proofs.Common.{◌≡◌, ℕ, ◌+◌, ◌≤◌, List, [], ◌++◌, length, Option, Some, None, IsSome, refl, ap, ◌∙◌, arith, length-append, append-nil}
use Rattle.byte_ports.specs.Ports.{Took, IsAtEnd, ReadJust, ReadWithin}

-- It was read to its end.
pub whole_text : (a b : Option (List ℕ)) (text : List ℕ) → Took a b text → IsAtEnd b → IsSome b → a ≡ Some text
whole_text a None text t e s = absurd (cc (s))
whole_text a (Some rest) text t e s = t ∙ ap (λ (r : List ℕ). Some (text ++ r)) e ∙ ap Some (append-nil text)

-- So many bytes of it were read.
pub front_text : (a b : Option (List ℕ)) (n : ℕ) → ReadJust a b n → (text : List ℕ) × (IsSome b → a ≡ Some text) × (n ≤ length text)
front_text a None n h = (h.0, (λ s. absurd (cc (s))), (let l = h.1 in omega (arith, l)))
front_text a (Some rest) n h = (h.0 ++ rest, (λ s. h.2), (let l = h.1 in let k = length-append h.0 rest in omega (arith, l, k)))

-- What was read of it stood in front.
pub just_front : (a b : Option (List ℕ)) (n : ℕ) → ReadJust a b n → (front : List ℕ) × Took a b front
just_front a b n h = (h.0, h.2)

pub within_front : (a b : Option (List ℕ)) (n : ℕ) → ReadWithin a b n → (front : List ℕ) × Took a b front
within_front a b n h = (h.0, h.2)

-- Nothing was.
pub none_took : (a : Option (List ℕ)) → (front : List ℕ) × Took a a front
none_took None = ([], tt)
none_took (Some x) = ([], refl)
