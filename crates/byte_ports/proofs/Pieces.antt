-- One piece after another: what several calls of a source or of a sink come to.
use Rattle.std.proofs.Common.{◌≡◌, ℕ, ◌+◌, ◌-◌, ◌<◌, ◌≤◌, List, [], ◌++◌, Option, Some, None, refl, sym, ap, ◌∙◌, subst, append_assoc, append-nil, arith, take}
use Rattle.std.proofs.Common.{drop, length, take_all, length-append, length-take-le, take-add, take-append-drop}
use Rattle.std.proofs.lemmas.List.{take-append-le, drop-drop, take_rest}
use Rattle.std.proofs.lemmas.Option.{same_Some}
use Rattle.byte_ports.specs.Ports.{Took, ReadJust, ReadWithin, Put, PutPart, Rose}
use Rattle.byte_ports.specs.Ends.{SinkState, WroteAll, WroteFront, WrotePart}

-- A source.

-- no bytes are always taken
pub took_none : (a : Option (List ℕ)) → Took a a []
took_none None = tt
took_none (Some x) = refl

took_ends : (a b : Option (List ℕ)) (y z p q : List ℕ) → a ≡ Some (p ++ y) → b ≡ Some y → b ≡ Some (q ++ z) → a ≡ Some ((p ++ q) ++ z)
took_ends a b y z p q e f g = let h : y ≡ q ++ z = cc in let k : (p ++ q) ++ z ≡ p ++ (q ++ z) = append_assoc p q z in cc

-- what was taken by two calls is the one piece followed by the other
pub took_more : (a b c : Option (List ℕ)) (p q : List ℕ) → Took a b p → Took b c q → Took a c (p ++ q)
took_more a b None p q h g = tt
took_more a None (Some z) p q h g = absurd (cc (g))
took_more a (Some y) (Some z) p q h g = took_ends a (Some y) y z p q h refl g

-- a call that took nothing changes nothing of what was taken
pub took_no_more : (a b c : Option (List ℕ)) (p : List ℕ) → Took a b p → Took b c [] → Took a c p
took_no_more a b c p h g = subst (Took a c) (append-nil p) (took_more a b c p [] h g)

-- after a text, one byte more than the limit leaves was taken
pub just_after : (a b c : Option (List ℕ)) (text buf : List ℕ) (n limit : ℕ) → length text ≤ limit → Took a b text → n ≤ length buf → Took b c (take n buf)
    → limit - length text < n → n ≤ (limit + 1) - length text → ReadJust a c (limit + 1)
just_after a b c text buf n limit s h w g l m =
    let k : length (text ++ take n buf) ≡ length text + length (take n buf) = length-append text (take n buf) in
    let f : length (take n buf) ≡ n = length-take-le n buf w in
    (text ++ take n buf, omega (arith, k), took_more a b c text (take n buf) h g)

-- after a text, at most as many bytes as the limit leaves were taken
pub within_after : (a b c : Option (List ℕ)) (text buf : List ℕ) (n limit : ℕ) → length text ≤ limit → Took a b text → n ≤ length buf → Took b c (take n buf)
    → n ≤ limit - length text → ReadWithin a c limit
within_after a b c text buf n limit s h w g l =
    let k : length (text ++ take n buf) ≡ length text + length (take n buf) = length-append text (take n buf) in
    let f : length (take n buf) ≡ n = length-take-le n buf w in
    (text ++ take n buf, omega (arith, k), took_more a b c text (take n buf) h g)

-- the n bytes that were put in front of a buffer stood at the place that was read, and are gone from what is left
pub read_from : (left bytes held piece rest : List ℕ) (at n : ℕ) → left ≡ drop at bytes → held ≡ bytes → piece ≡ take ((at + n) - at) (drop at held)
    → length piece ≡ n → left ≡ take n (piece ++ rest) ++ drop (at + n) bytes
read_from left bytes held piece rest at n e s f l =
    let front : take n (piece ++ rest) ≡ piece = rw (take-append-le n piece rest (omega arith)) (take_all n piece (omega arith)) in
    let back : drop n (drop at bytes) ≡ drop (at + n) bytes = drop-drop n at bytes in
    let whole : take n (drop at bytes) ++ drop n (drop at bytes) ≡ drop at bytes = take-append-drop n (drop at bytes) in
    let same : (at + n) - at ≡ n = omega arith in
    let part : piece ≡ take n (drop at bytes) = f ∙ ap (λ k. take k (drop at held)) same ∙ ap (λ b. take n (drop at b)) s in
    cc

-- A sink.

-- no bytes are always put
pub put_none : (a : Option (List ℕ)) → Put a a []
put_none None = tt
put_none (Some x) = (x, refl, sym (append-nil x))

put_ends : (x y y' z p q : List ℕ) → y ≡ x ++ p → y ≡ y' → z ≡ y' ++ q → z ≡ x ++ (p ++ q)
put_ends x y y' z p q e f g = let h : z ≡ (x ++ p) ++ q = cc in h ∙ append_assoc x p q

-- what two calls put is the one piece followed by the other
pub put_more : (a b c : Option (List ℕ)) (p q : List ℕ) → Put a b p → Put b c q → Put a c (p ++ q)
put_more a b None p q h g = tt
put_more a None (Some z) p q h g = absurd (cc (g.1))
put_more a (Some y) (Some z) p q h g = (h.0, h.1, put_ends h.0 y g.0 z p q h.2 (same_Some y g.0 g.1) g.2)

-- no bytes are a front of each piece
pub part_none : (a b : Option (List ℕ)) (p : List ℕ) → Put a b [] → PutPart a b p
part_none a b p h = ([], p, refl, h)

-- a front of a piece is a front of what begins with the piece
pub part_longer : (a b : Option (List ℕ)) (p q : List ℕ) → PutPart a b p → PutPart a b (p ++ q)
part_longer a b p q h = (h.0, h.1 ++ q, ap (λ r. r ++ q) h.2 ∙ append_assoc h.0 h.1 q, h.3)

-- a piece and then a front of another are a front of the one followed by the other
pub part_more : (a b c : Option (List ℕ)) (p q : List ℕ) → Put a b p → PutPart b c q → PutPart a c (p ++ q)
part_more a b c p q h g =
    let e : p ++ q ≡ (p ++ g.0) ++ g.1 = ap (λ r. p ++ r) g.2 ∙ sym (append_assoc p g.0 g.1) in
    (p ++ g.0, g.1, e, put_more a b c p g.0 h g.3)

-- a whole piece is a front of what begins with it
pub part_of_more : (a b : Option (List ℕ)) (p q : List ℕ) → Put a b p → PutPart a b (p ++ q)
part_of_more a b p q h = (p, q, refl, h)

-- d bytes of a piece and then n of its rest are its first d + n
pub put_rest : (a b c : Option (List ℕ)) (d n : ℕ) (p : List ℕ) → Put a b (take d p) → Put b c (take n (take (length p - d) (drop d p))) → Put a c (take (d + n) p)
put_rest a b c d n p h g =
    subst (Put a c) (sym (take-add d n p)) (put_more a b c (take d p) (take n (drop d p)) h (subst (λ q. Put b c (take n q)) (take_rest p d) g))

-- d bytes of a piece and then none are a front of it
pub put_stop : (a b c : Option (List ℕ)) (d : ℕ) (p : List ℕ) → Put a b (take d p) → Put b c [] → PutPart a c p
put_stop a b c d p h g = (take d p, drop d p, sym (take-append-drop d p), subst (Put a c) (append-nil (take d p)) (put_more a b c (take d p) [] h g))

-- A sink's state.

-- nothing was written
pub wrote_nothing : (a : SinkState) → WroteAll a a []
wrote_nothing a = record { put = put_none a.written; faults = refl }

-- of each piece
pub wrote_no_part : (a : SinkState) (p : List ℕ) → WrotePart a a p
wrote_no_part a p = record { put = part_none a.written a.written p (put_none a.written); faults = refl }

-- a piece behind another
pub all_then : (a b c : SinkState) (p q : List ℕ) → WroteAll a b p → WroteAll b c q → WroteAll a c (p ++ q)
all_then a b c p q h g = record { put = put_more a.written b.written c.written p q h.put g.put; faults = g.faults ∙ h.faults }

rose_with : (a b c : ℕ) → b ≡ a → Rose b c → Rose a c
rose_with a b c e h = subst (λ (n : ℕ). Rose n c) e h

-- a front of a piece behind another, before a call failed
pub front_then : (a b c : SinkState) (p q : List ℕ) → WroteAll a b p → WroteFront b c q → WroteFront a c (p ++ q)
front_then a b c p q h g = record {
  put = part_more a.written b.written c.written p q h.put g.put;
  rose = rose_with a.faults b.faults c.faults h.faults g.rose;
  later = subst (λ (n : ℕ). n ≤ c.faults) h.faults g.later;
}

-- and where none failed
pub part_then : (a b c : SinkState) (p q : List ℕ) → WroteAll a b p → WrotePart b c q → WrotePart a c (p ++ q)
part_then a b c p q h g = record { put = part_more a.written b.written c.written p q h.put g.put; faults = g.faults ∙ h.faults }

-- a front of a piece is one of what begins with it
pub longer_front : (a b : SinkState) (p q : List ℕ) → WroteFront a b p → WroteFront a b (p ++ q)
longer_front a b p q h = record { put = part_longer a.written b.written p q h.put; rose = h.rose; later = h.later }

pub longer_part : (a b : SinkState) (p q : List ℕ) → WrotePart a b p → WrotePart a b (p ++ q)
longer_part a b p q h = record { put = part_longer a.written b.written p q h.put; faults = h.faults }

-- and so is the whole piece
pub all_front : (a b : SinkState) (p q : List ℕ) → WroteAll a b p → WrotePart a b (p ++ q)
all_front a b p q h = record { put = part_of_more a.written b.written p q h.put; faults = h.faults }

-- A count that never falls and didn't rise stays.
pub stays : (a b : ℕ) → a ≤ b → (a < b → ⊥) → b ≡ a
stays a b l n = by_order a b l n
  where
    by_order : (a b : ℕ) → a ≤ b → (a < b → ⊥) → b ≡ a
    by_order a b l n = grind arith
