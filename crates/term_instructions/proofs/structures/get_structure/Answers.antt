use Rattle.std.proofs.Common.{◌≡◌, ◌++◌, length, ap, sym, ◌∙◌, subst, inl, inr, refl, [], Ok}
use Rattle.fd_language.specs.declared.NoMemory.{NoMemory}
use Rattle.heap_cells.specs.Cells.{Heaps, IsOf}
use Rattle.heap_cells.specs.SeenCells.{IsSeen}
use Rattle.heap_cells.specs.declared.Seen.TheVariants as seen
use Rattle.wam_code.specs.declared.instruction.Code.TheVariants.{GetStructure}
use Rattle.code_safety.specs.Safety.{IsSafe}
use Rattle.code_safety.proofs.Lemmas.{within_code, same_behind, same_below}
use Rattle.code_safety.specs.declared.instruction_outcomes.Went.TheVariants.{On, Back}
use Rattle.term_instructions.specs.ReadMode.{ReadsOn, StartsTo}
use Rattle.term_instructions.specs.declared.read_mode.ReadPosition.{ReadPosition}
use Rattle.term_instructions.proofs.Head.{if_ok_at, get_needs, get_started, get_atom, get_back_safe, args_own, get_other, get_constant_seen, get_built}
use Rattle.term_instructions.proofs.Head.{get_read, refused_then, looked_all, looked_first, other_atom, same_atom}
use Rattle.term_instructions.proofs.ReadSteps.{read_both, read_refused}
use Rattle.term_instructions.proofs.structures.get_structure.Goals as goal
use Rattle.term_instructions.proofs.structures.get_structure.Goals.{then-ne-via-then-ne, then-ne-via-else-ne+then-args-functor}

pub register-argument-requires : goal.register-argument-requires
register-argument-requires g c = get_needs c.args.code.now c.args.branch.now c.args.at c.args.areas.now c.requires.safe c.args.functor.0 c.args.functor.1 c.args.a c.requires.holds

pub behind-from-requires : goal.behind-from-requires
behind-from-requires g c = within_code c.args.code.now c.args.at (GetStructure c.args.functor.0 c.args.functor.1 c.args.a) c.requires.holds

pub deref-requires : goal.deref-requires
deref-requires g c = subst (λ (hs : Heaps). IsOf hs.now c.register-argument.result) (sym c.heap.ensures)
    (c.requires.safe.here.registers_own c.args.a c.register-argument.result c.register-argument.ensures).0

pub build_argument-requires-clause-safe : goal.build_argument-requires-clause-safe
build_argument-requires-clause-safe g c =
    subst (λ k. IsSafe c.args.code.now c.args.branch.now k c.args.functor.1 c.args.areas.now) (sym c.behind-from.ensures)
    (get_started c.args.code.now c.args.branch.now c.args.at c.args.areas.now c.requires.safe c.args.functor.0 c.args.functor.1 c.args.a c.requires.holds)

pub build_argument-requires-clause-name : goal.build_argument-requires-clause-name
build_argument-requires-clause-name g c = get_atom c.args.code.now c.args.branch.now c.args.at c.args.areas.now c.requires.safe c.args.functor.0 c.args.functor.1 c.args.a c.requires.holds

pub build_argument-requires-clause-there : goal.build_argument-requires-clause-there
build_argument-requires-clause-there g c = (subst (λ (hs : Heaps). IsSeen hs.now c.register-argument.result (seen.Open c.in-Open.var)) c.heap.ensures c.in-Open.ensures.seen).0

pub build_argument-requires-clause-open : goal.build_argument-requires-clause-open
build_argument-requires-clause-open g c = (subst (λ (hs : Heaps). IsSeen hs.now c.register-argument.result (seen.Open c.in-Open.var)) c.heap.ensures c.in-Open.ensures.seen).1

pub returns-in-Open : goal.returns-in-Open
returns-in-Open g c =
    let k' = subst (λ (hs : Heaps). IsSeen hs.now c.register-argument.result (seen.Open c.in-Open.var)) c.heap.ensures c.in-Open.ensures.seen in
    let own = c.requires.safe.here.registers_own c.args.a c.register-argument.result c.register-argument.ensures in
    let k = get_built c.args.code.now c.args.branch.now c.args.at c.args.areas.now c.requires.safe c.args.functor.0 c.args.functor.1 c.args.a c.requires.holds
    c.register-argument.result c.register-argument.ensures c.behind-from.result c.behind-from.ensures
    c.build_argument.new.branch c.build_argument.new.areas c.build_argument.result
    (if_ok_at c.args.code.now c.args.functor.0 c.args.functor.1 c.in-Open.var c.args.branch.now c.behind-from.result c.args.areas.now
    c.build_argument.new.branch c.build_argument.new.areas c.build_argument.result c.register-argument.result own k'.2 c.build_argument.ensures) in
    record { safe = k.0; stands = k.1; leads = k.2; behind = k.3; below = k.4 }

pub returns-then-ne-clause-stands : goal.returns-then-ne-clause-stands
returns-then-ne-clause-stands g c =
    let k = subst (λ (hs : Heaps). IsSeen hs.now c.register-argument.result (seen.Struct c.in-Struct.name c.in-Struct.args)) c.heap.ensures c.in-Struct.ensures.seen in
    get_other c.args.code.now c.args.branch.now c.args.at c.args.areas.now c.requires.safe c.args.functor.0 c.args.functor.1 c.args.a c.requires.holds
    c.register-argument.result c.register-argument.ensures c.in-Struct.name c.in-Struct.args.now k.0 k.1 k.2 k.3
    (elim c.then-ne.branch [ then-ne-via-then-ne w ↦ inl (other_atom c.in-Struct.name c.args.functor.0 w.if-ne.ensures) | then-ne-via-else-ne+then-args-functor w ↦ inr w.if-args-functor.true ])

pub look_at_registers-requires : goal.look_at_registers-requires
look_at_registers-requires g c =
    let k = subst (λ (hs : Heaps). IsSeen hs.now c.register-argument.result (seen.Struct c.in-Struct.name c.in-Struct.args)) c.heap.ensures c.in-Struct.ensures.seen in
    record {
      safe = subst (λ n. IsSafe c.args.code.now c.args.branch.now c.behind-from.result n c.args.areas.now) (sym c.if-args-functor.false)
          (subst (λ k. IsSafe c.args.code.now c.args.branch.now k c.args.functor.1 c.args.areas.now) (sym c.behind-from.ensures)
          (get_started c.args.code.now c.args.branch.now c.args.at c.args.areas.now c.requires.safe c.args.functor.0 c.args.functor.1 c.args.a c.requires.holds));
      own = args_own c.args.code.now c.args.branch.now c.args.at c.args.areas.now c.requires.safe c.args.functor.0 c.args.functor.1 c.args.a c.requires.holds
          c.register-argument.result c.register-argument.ensures c.in-Struct.name c.in-Struct.args.now k.0 k.1 k.2 k.3;
    }

pub returns-in-All-clause-stands : goal.returns-in-All-clause-stands
returns-in-All-clause-stands g c =
    let k = subst (λ (hs : Heaps). IsSeen hs.now c.register-argument.result (seen.Struct c.in-Struct.name c.in-Struct.args)) c.heap.ensures c.in-Struct.ensures.seen in
    let first : ReadPosition = record { at = c.behind-from.result; next = 0 } in
    (get_read c.args.code.now c.args.branch.now c.args.at c.args.areas.now c.requires.safe c.args.functor.0 c.args.functor.1 c.args.a c.requires.holds
    c.register-argument.result c.register-argument.ensures c.behind-from.result c.behind-from.ensures
    c.args.branch.now c.look_at_registers.new.areas c.in-Struct.name c.in-Struct.args.now k.0 k.1 k.2 k.3 (same_atom c.in-Struct.name c.args.functor.0 c.if-ne.ensures) c.if-args-functor.false
    c.in-Struct.args.now refl [] refl {E = NoMemory} (Ok (On c.in-All.next))
    (looked_all c.args.code.now c.in-Struct.args.now c.args.branch.now first c.args.areas.now (record { at = c.in-All.next; next = length c.in-Struct.args.now }) c.look_at_registers.new.areas
    (subst (StartsTo c.args.code.now c.in-Struct.args.now c.args.branch.now c.behind-from.result c.args.areas.now c.look_at_registers.new.areas) c.in-All.is c.in_ok-looked-in-Struct.ensures) refl)).1

pub look_at_arguments-requires : goal.look_at_arguments-requires
look_at_arguments-requires g c =
    let begun = subst (StartsTo c.args.code.now c.in-Struct.args.now c.args.branch.now c.behind-from.result c.args.areas.now c.look_at_registers.new.areas)
    c.in-Part.is c.in_ok-looked-in-Struct.ensures in
    record { safe = begun.safe; within = begun.within; own = begun.own }

pub returns-in_default-2-clause-stands : goal.returns-in_default-2-clause-stands
returns-in_default-2-clause-stands g c =
    let k = subst (λ (hs : Heaps). IsSeen hs.now c.register-argument.result (seen.Struct c.in-Struct.name c.in-Struct.args)) c.heap.ensures c.in-Struct.ensures.seen in
    let first : ReadPosition = record { at = c.behind-from.result; next = 0 } in
    let begun = subst (StartsTo c.args.code.now c.in-Struct.args.now c.args.branch.now c.behind-from.result c.args.areas.now c.look_at_registers.new.areas)
    c.in-Part.is c.in_ok-looked-in-Struct.ensures in
    (get_read c.args.code.now c.args.branch.now c.args.at c.args.areas.now c.requires.safe c.args.functor.0 c.args.functor.1 c.args.a c.requires.holds
    c.register-argument.result c.register-argument.ensures c.behind-from.result c.behind-from.ensures
    c.args.branch.now c.look_at_arguments.new.areas c.in-Struct.name c.in-Struct.args.now k.0 k.1 k.2 k.3 (same_atom c.in-Struct.name c.args.functor.0 c.if-ne.ensures) c.if-args-functor.false
    c.in-Struct.args.now refl [] refl {E = NoMemory} (Ok Back)
    (refused_then c.args.code.now c.in-Struct.args.now c.args.branch.now [] first c.args.areas.now c.args.branch.now c.look_at_arguments.new.areas
    (read_refused c.args.code.now c.in-Struct.args.now c.args.branch.now [] first c.args.areas.now c.args.branch.now [] c.in-Part.start
    c.look_at_registers.new.areas begun c.args.branch.now c.look_at_arguments.new.areas
    (subst (ReadsOn c.args.code.now c.in-Struct.args.now c.args.branch.now [] c.in-Part.start c.look_at_registers.new.areas c.args.branch.now []
    c.look_at_arguments.new.areas) c.in_default-2.is c.in_ok-read-in-Struct.ensures)))).1

pub returns-then-read-args-clause-stands : goal.returns-then-read-args-clause-stands
returns-then-read-args-clause-stands g c =
    let k = subst (λ (hs : Heaps). IsSeen hs.now c.register-argument.result (seen.Struct c.in-Struct.name c.in-Struct.args)) c.heap.ensures c.in-Struct.ensures.seen in
    let first : ReadPosition = record { at = c.behind-from.result; next = 0 } in
    let begun = subst (StartsTo c.args.code.now c.in-Struct.args.now c.args.branch.now c.behind-from.result c.args.areas.now c.look_at_registers.new.areas)
    c.in-Part.is c.in_ok-looked-in-Struct.ensures in
    (get_read c.args.code.now c.args.branch.now c.args.at c.args.areas.now c.requires.safe c.args.functor.0 c.args.functor.1 c.args.a c.requires.holds
    c.register-argument.result c.register-argument.ensures c.behind-from.result c.behind-from.ensures
    c.args.branch.now c.look_at_arguments.new.areas c.in-Struct.name c.in-Struct.args.now k.0 k.1 k.2 k.3 (same_atom c.in-Struct.name c.args.functor.0 c.if-ne.ensures) c.if-args-functor.false
    c.in-Struct.args.now refl [] refl {E = NoMemory} (Ok (On c.in-Some.read.at))
    (looked_all c.args.code.now c.in-Struct.args.now c.args.branch.now first c.args.areas.now c.in-Some.read c.look_at_arguments.new.areas
    (read_both c.args.code.now c.in-Struct.args.now c.args.branch.now [] first c.args.areas.now c.args.branch.now [] c.in-Part.start
    c.look_at_registers.new.areas begun c.args.branch.now [] c.in-Some.read c.look_at_arguments.new.areas
    (subst (ReadsOn c.args.code.now c.in-Struct.args.now c.args.branch.now [] c.in-Part.start c.look_at_registers.new.areas c.args.branch.now []
    c.look_at_arguments.new.areas) c.in-Some.is c.in_ok-read-in-Struct.ensures)) c.if-read-args.true)).1

pub returns-in_ok-push_copies-in-Struct-clause-stands : goal.returns-in_ok-push_copies-in-Struct-clause-stands
returns-in_ok-push_copies-in-Struct-clause-stands g c =
    let k = subst (λ (hs : Heaps). IsSeen hs.now c.register-argument.result (seen.Struct c.in-Struct.name c.in-Struct.args)) c.heap.ensures c.in-Struct.ensures.seen in
    let first : ReadPosition = record { at = c.behind-from.result; next = 0 } in
    let begun = subst (StartsTo c.args.code.now c.in-Struct.args.now c.args.branch.now c.behind-from.result c.args.areas.now c.look_at_registers.new.areas)
    c.in-Part.is c.in_ok-looked-in-Struct.ensures in
    let all : c.deref-in-Struct.result.now ≡ c.in-Struct.args.now = c.deref-in-Struct.ensures.value ∙ c.in_ok-push_copies-in-Struct.ensures
    ∙ ap (λ l. l ++ c.in-Struct.args.now) c.clear-in-Struct.ensures.items in
    (get_read c.args.code.now c.args.branch.now c.args.at c.args.areas.now c.requires.safe c.args.functor.0 c.args.functor.1 c.args.a c.requires.holds
    c.register-argument.result c.register-argument.ensures c.behind-from.result c.behind-from.ensures
    c.match_arguments.new.branch c.match_arguments.new.areas c.in-Struct.name c.in-Struct.args.now k.0 k.1 k.2 k.3 (same_atom c.in-Struct.name c.args.functor.0 c.if-ne.ensures) c.if-args-functor.false
    c.in-Struct.args.now refl [] refl c.match_arguments.result
    (looked_first c.args.code.now c.in-Struct.args.now c.args.branch.now first c.args.areas.now c.in-Some.read c.look_at_arguments.new.areas
    (read_both c.args.code.now c.in-Struct.args.now c.args.branch.now [] first c.args.areas.now c.args.branch.now [] c.in-Part.start
    c.look_at_registers.new.areas begun c.args.branch.now [] c.in-Some.read c.look_at_arguments.new.areas
    (subst (ReadsOn c.args.code.now c.in-Struct.args.now c.args.branch.now [] c.in-Part.start c.look_at_registers.new.areas c.args.branch.now []
    c.look_at_arguments.new.areas) c.in-Some.is c.in_ok-read-in-Struct.ensures))
    c.deref-in-Struct.result.now all c.clear-in-Struct-2.new.self.items c.clear-in-Struct-2.ensures.items c.match_arguments.new.branch
    c.match_arguments.new.areas c.match_arguments.result c.match_arguments.ensures)).1

pub returns-in_default : goal.returns-in_default
returns-in_default g c = record {
  safe = get_back_safe c.args.code.now c.args.branch.now c.args.at c.args.areas.now c.requires.safe c.args.functor.0 c.args.functor.1 c.args.a c.requires.holds;
  stands = get_constant_seen c.args.code.now c.args.branch.now c.args.at c.args.areas.now c.requires.safe c.args.functor.0 c.args.functor.1 c.args.a
      c.requires.holds c.register-argument.result c.register-argument.ensures
      c.deref.result (subst (λ (hs : Heaps). IsSeen hs.now c.register-argument.result c.deref.result) c.heap.ensures c.deref.ensures.seen) c.in_default.not-Open c.in_default.not-Struct;
  leads = tt;
  behind = same_behind c.args.areas.now;
  below = same_below c.args.branch.now;
}
