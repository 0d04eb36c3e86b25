use Rattle.std.proofs.Common.{◌≡◌, ◌∙◌, ◌<◌, ◌++◌, ℕ, Bool, true, false, is_some, List, All, filter, IfSome, ap, sym, subst, length}
use Rattle.std.proofs.lemmas.Option.{get_or_from_slice_get, slice_get_within}
use Rattle.std.proofs.lemmas.Result.{on_ok_weaker}
use Rattle.clause_code.specs.ClauseChoices.{list_of}
use Rattle.clause_compiler.specs.Keys.{key_of, kind_numbers, is_tabled, may_be}
use Rattle.clause_compiler.specs.ClauseKeys.{AreKeyed}
use Rattle.clause_compiler.specs.Parts.{tables_in}
use Rattle.clause_compiler.proofs.KindChoices.{list_put}
use Rattle.clause_compiler.proofs.Lists.{get_there}
use Rattle.clause_compiler.proofs.ClauseFilters.{among_sifted}
use Rattle.clause_compiler.proofs.choices.put_kind.Goals as goal

sifted_within : (m : ℕ) (t : ℕ → Bool) (ns : List ℕ) → All (λ n. n < m) ns → All (λ n. n < m) (filter t ns)
sifted_within m t ns h k d l =
    let x = get_there (filter t ns) k l in
    let a = among_sifted t ns k x.0 x.1 in
    let own = h a.0 x.0 (slice_get_within ns a.0 x.0 a.1) in
    subst (λ y. y < m) (get_or_from_slice_get ns a.0 x.0 x.0 a.1 ∙ sym (get_or_from_slice_get (filter t ns) k x.0 d x.1)) own

pub keyed_of-requires : goal.keyed_of-requires
keyed_of-requires c =
    let p = c.args.program.now in
    record {
      clauses = subst (All (λ n. n < length p.clauses)) (sym (c.deref.ensures.value ∙ c.in_ok-own.ensures))
          (sifted_within (length p.clauses) (λ n. may_be c.args.kind (key_of p n)) c.args.clauses.now c.requires.clauses);
    }

pub returns-in-Some-clause-code : goal.returns-in-Some-clause-code
returns-in-Some-clause-code c =
    let p = c.args.program.now in
    let keyed = subst (λ o. IfSome o (AreKeyed p c.deref.result.now)) c.in-Some.is c.in_ok-keyed.ensures.keyed in
    let told : is_tabled p (kind_numbers p c.args.kind c.args.clauses.now) ≡ true = ap (is_tabled p) (sym (c.deref.ensures.value ∙ c.in_ok-own.ensures))
    ∙ sym c.in_ok-keyed.ensures.some ∙ ap is_some c.in-Some.is in
    let own = subst (λ l. AreKeyed p l c.in-Some.keyed) (c.deref.ensures.value ∙ c.in_ok-own.ensures) keyed in
    on_ok_weaker c.put_table.result (λ h. (h p c.args.clauses.now told own).0) c.put_table.ensures

pub returns-in-Some-clause-tables : goal.returns-in-Some-clause-tables
returns-in-Some-clause-tables c =
    let p = c.args.program.now in
    let keyed = subst (λ o. IfSome o (AreKeyed p c.deref.result.now)) c.in-Some.is c.in_ok-keyed.ensures.keyed in
    let told : is_tabled p (kind_numbers p c.args.kind c.args.clauses.now) ≡ true = ap (is_tabled p) (sym (c.deref.ensures.value ∙ c.in_ok-own.ensures))
    ∙ sym c.in_ok-keyed.ensures.some ∙ ap is_some c.in-Some.is in
    let own = subst (λ l. AreKeyed p l c.in-Some.keyed) (c.deref.ensures.value ∙ c.in_ok-own.ensures) keyed in
    on_ok_weaker c.put_table.result (λ h. (h p c.args.clauses.now told own).1) c.put_table.ensures

pub returns-clause-code : goal.returns-clause-code
returns-clause-code c =
    let p = c.args.program.now in
    let untold : is_tabled p (kind_numbers p c.args.kind c.args.clauses.now) ≡ false = ap (is_tabled p) (sym (c.deref.ensures.value ∙ c.in_ok-own.ensures))
    ∙ sym c.in_ok-keyed.ensures.some ∙ ap is_some c.in-None.is in
    on_ok_weaker c.put_list.result (λ e. list_put p (tables_in c.args.tables.now) c.args.kind c.args.clauses.now c.args.code.now.items c.put_list.new.code.items
    untold (e ∙ ap (λ l. c.args.code.now.items ++ list_of l) (c.deref-in-None.ensures.value ∙ c.in_ok-own.ensures))) c.put_list.ensures
