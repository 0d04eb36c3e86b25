use Rattle.std.proofs.Common.{◌≡◌, ◌∙◌, sym, ap, ℕ, List, [], ◌∷◌, ◌++◌, Some, Bool, true, false, cond, option_map}
use Rattle.std.specs.Prelude.{map, string_bytes}
use Rattle.std.specs.List.{list_any}
use Rattle.std.specs.Str.{bytes_eq}
use Rattle.std.proofs.lemmas.Option.{slice_get-map}
use Rattle.term_pool.proofs.Names.{stands_at, interned_same, interned_new, same_text, list_any-map}
use Rattle.term_pool.proofs.intern.Goals as goal

pub returns-in-Some-clause-stands : goal.returns-in-Some-clause-stands
returns-in-Some-clause-stands c = stands_at string_bytes c.args.text.now c.args.atoms.now.keys c.in-Some.number (sym c.in-Some.ensures.index)

pub returns-in-Some-clause-names : goal.returns-in-Some-clause-names
returns-in-Some-clause-names c = sym (interned_same string_bytes c.args.text.now c.args.atoms.now.keys (sym c.in-Some.ensures.found))

pub returns-in_err-name-clause-known : goal.returns-in_err-name-clause-known
returns-in_err-name-clause-known c h =
    let absent : list_any (bytes_eq c.args.text.now) (map string_bytes c.args.atoms.now.keys) ≡ false = list_any-map (bytes_eq c.args.text.now) string_bytes
    c.args.atoms.now.keys ∙ sym c.in_default.ensures.found in
    let clash : true ≡ false = sym h ∙ absent in
    absurd cc

pub returns-in_err-number-clause-known : goal.returns-in_err-number-clause-known
returns-in_err-number-clause-known c h =
    let absent : list_any (bytes_eq c.args.text.now) (map string_bytes c.args.atoms.now.keys) ≡ false = list_any-map (bytes_eq c.args.text.now) string_bytes
    c.args.atoms.now.keys ∙ sym c.in_default.ensures.found in
    let clash : true ≡ false = sym h ∙ absent in
    absurd cc

pub returns-clause-stands : goal.returns-clause-stands
returns-clause-stands c =
    let k = c.in_ok-number.ensures.stored in
    let same : string_bytes c.in_ok-name.name ≡ string_bytes k.0 = same_text _ _ k.2 in
    slice_get-map string_bytes c.insert_full.new.self.keys c.in_ok-number.number ∙ ap (option_map string_bytes) k.1
    ∙ ap (λ (t : List ℕ). Some t) (sym same ∙ c.in_ok-name.ensures.ok)

pub returns-clause-names : goal.returns-clause-names
returns-clause-names c =
    let keys = c.args.atoms.now.keys in
    let new = c.in_ok-name.name in
    let is_text : string_bytes new ≡ c.args.text.now = c.in_ok-name.ensures.ok in
    let absent : list_any (λ k. bytes_eq c.args.text.now (string_bytes k)) keys ≡ false = sym c.in_default.ensures.found in
    let absent_new : list_any (λ k. bytes_eq (string_bytes new) (string_bytes k)) keys ≡ false = rw is_text absent in
    let grown : c.insert_full.new.self.keys ≡ keys ++ new ∷ [] = c.in_ok-number.ensures.keys ∙ ap (λ (b : Bool). cond b keys (keys ++ new ∷ [])) absent_new in
    ap (map string_bytes) grown ∙ sym (interned_new string_bytes c.args.text.now keys new absent is_text)
