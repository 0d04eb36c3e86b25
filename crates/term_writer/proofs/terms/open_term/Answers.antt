use Rattle.std.proofs.Common.{ap, subst, arith}
use Rattle.std.specs.Fmt.{signed_decimal}
use Rattle.std.specs.Prelude.{FitsSigned}
use Rattle.std.specs.Int.{w64}
use mir.Val.{to_z, of_z}
use Rattle.std.proofs.lemmas.Int.{to_z-of_z}
use Rattle.std.proofs.lemmas.Result.{on_ok_weaker}
use Rattle.term_pool.specs.PoolInvariant.{IsStorable}
use Rattle.term_pool.proofs.Lemmas.{term_is_storable}
use Rattle.fd_language.specs.Term.{Var, Int, Atom}
use Rattle.fd_language.specs.TermTexts.{atom_text}
use Rattle.term_pool.specs.Contents.{atom_name}
use Rattle.term_writer.specs.Views.{mode_of, text_in}
use Rattle.term_writer.proofs.Steps.{leaf}
use Rattle.term_writer.proofs.terms.open_term.Goals as goal

pub returns-in-Var : goal.returns-in-Var
returns-in-Var c =
    on_ok_weaker c.append.result (λ e.
    leaf c.args.pool.now (mode_of c.args.mode) (text_in c.args.names.now) c.args.t (Var c.in-Var.variable) c.args.limit c.text_of.result.now
    c.args.text.now.items c.append.new.text.items c.args.ahead.now.items
    c.in-Var.ensures.term c.text_of.ensures (omega arith) e) c.append.ensures

pub returns-in-Int : goal.returns-in-Int
returns-in-Int c =
    let fits : FitsSigned w64 c.in-Int.integer = subst IsStorable c.in-Int.ensures.term (term_is_storable c.args.pool.now c.in-Int.ensures.valid c.args.t c.requires) in
    on_ok_weaker c.append_integer.result (λ e.
    leaf c.args.pool.now (mode_of c.args.mode) (text_in c.args.names.now) c.args.t (Int c.in-Int.integer) c.args.limit
    (signed_decimal (to_z w64 (of_z w64 c.in-Int.integer))) c.args.text.now.items c.append_integer.new.text.items c.args.ahead.now.items
    c.in-Int.ensures.term (ap signed_decimal (to_z-of_z w64 c.in-Int.integer fits)) (omega arith) e) c.append_integer.ensures

pub returns-in-Atom : goal.returns-in-Atom
returns-in-Atom c =
    on_ok_weaker c.append_name.result (λ e.
    leaf c.args.pool.now (mode_of c.args.mode) (text_in c.args.names.now) c.args.t (Atom (atom_name c.args.pool.now c.in-Atom.atom)) c.args.limit
    (atom_text (mode_of c.args.mode) c.name_of.result.now) c.args.text.now.items c.append_name.new.text.items c.args.ahead.now.items
    c.in-Atom.ensures.term (ap (atom_text (mode_of c.args.mode)) c.name_of.ensures.name) (omega arith) e) c.append_name.ensures
