use Rattle.std.proofs.Common.{rules, ◌≡◌, ◌<◌, ◌+◌, ◌-◌, ◌++◌, ◌∙◌, ◌≤◌, ℕ, List, [], unwrap_or, slice_get, ap, sym, subst, map, take, drop, length, get_or}
use Rattle.std.proofs.Common.{codes, arith, length-drop}
use Rattle.std.proofs.lemmas.List.{get_or-drop}
use Rattle.std.proofs.lemmas.Option.{unwrap_or-slice_get}
use Rattle.fd_language.specs.Term.{Name}
use Rattle.fd_language.specs.TermTexts.{Quoted, atom_text}
use Rattle.code_listing.specs.Words.{line_bytes}
use Rattle.code_listing.proofs.JoinedTexts.{lines_step}
use Rattle.code_listing.proofs.write.put_atoms.Goals as goal

step : (names : List Name) (n : ℕ) (name : Name) (init t0 t1 : List ℕ) → 3 ≤ n → n < length names → name ≡ unwrap_or (slice_get names n) []
    → t0 ≡ init ++ line_bytes (map (atom_text Quoted) (take (n - 3) (drop 3 names))) → t1 ≡ t0 ++ (atom_text Quoted name ++ codes "\n")
    → t1 ≡ init ++ line_bytes (map (atom_text Quoted) (take ((n + 1) - 3) (drop 3 names)))
step names n name init t0 t1 low high is e g =
    let here : name ≡ get_or (drop 3 names) (n - 3) [] = is ∙ unwrap_or-slice_get names n []
    ∙ ap (λ k. get_or names k []) (let k : n ≡ 3 + (n - 3) = omega (arith, low) in k) ∙ sym (get_or-drop 3 names (n - 3) []) in
    let within : n - 3 < length (drop 3 names) = omega (arith, low, high, length-drop 3 names) in
    let next : (n - 3) + 1 ≡ (n + 1) - 3 = omega (arith, low) in
    subst (λ k. t1 ≡ init ++ line_bytes (map (atom_text Quoted) (take k (drop 3 names)))) next
    (lines_step (atom_text Quoted) (drop 3 names) (n - 3) [] within init t0 t1 e (subst (λ x. t1 ≡ t0 ++ (atom_text Quoted x ++ codes "\n")) here g))

pub loop-number-preserved : goal.loop-number-preserved
loop-number-preserved c =
    step c.args.pool.now.names c.loop-number.number c.name_of.result.now c.put_count.new.text.items c.loop-number.text.items c.put_atom.new.text.items
    c.loop-number.auto.number (search rules) c.name_of.ensures.name c.loop-number.invariant c.in_ok-put_atom.ensures
