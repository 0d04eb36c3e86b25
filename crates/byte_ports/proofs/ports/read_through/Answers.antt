use Rattle.std.proofs.Common.{rules, ◌≡◌, ◌<◌, ◌≤◌, ◌++◌, ◌∙◌, ℕ, [], arith, length, length-take, refl, sym, subst, take}
use Rattle.std.specs.Prelude.{Result, Ok, Err}
use Rattle.byte_ports.specs.declared.ports.ReadTextFault.{ReadTextFault}
use Rattle.byte_ports.specs.Ports.{Rose, Took}
use Rattle.byte_ports.specs.declared.ports.ReadTextFault.TheVariants.{ReadFault, TooLarge, NoMemory}
use Rattle.byte_ports.proofs.Pieces.{just_after, within_after, took_more, took_no_more}
use Rattle.byte_ports.proofs.ports.read_through.Goals as goal

-- a text is no fault, and one fault is no other
not_failed : {A : Type 0} (text : A) (f : ReadTextFault) → Ok text ≡ Err f → ⊥
not_failed text f e = cc

not_large : {A : Type 0} (r : Result A ReadTextFault) → r ≡ Err ReadFault → r ≡ Err TooLarge → ⊥
not_large r e f = cc

not_memory : {A : Type 0} (r : Result A ReadTextFault) → r ≡ Err ReadFault → r ≡ Err NoMemory → ⊥
not_memory r e f = cc

-- the end of the input
pub returns-in-Ok-eq0 : goal.returns-in-Ok-eq0
returns-in-Ok-eq0 g c =
    let first = g.S.Source.left c.args.src.now in
    let last = g.S.Source.left c.read.new.self in
    let none : Took (g.S.Source.left c.reading.src) last [] = subst (λ (n : ℕ). Took (g.S.Source.left c.reading.src) last (take n c.read.new.buf)) c.in-Ok-eq0.field-0-test c.in-Ok-eq0.ensures.bytes in
    let room : 0 < length c.read.new.buf =
    omega (arith, c.read.auto.buf, length-take c.min-wanted.result c.reading.buf, c.min-wanted.ensures, c.len.ensures, c.reading.invariant.room, c.reading.invariant.size) in
    let same : g.S.Source.faults c.read.new.self ≡ g.S.Source.faults c.args.src.now = c.in-Ok-eq0.ensures.ok ∙ c.reading.invariant.kept in
    record {
      ok = took_no_more first (g.S.Source.left c.reading.src) last c.reading.text.items c.reading.invariant.took none;
      end = c.in-Ok-eq0.ensures.end c.in-Ok-eq0.field-0-test room;
      size = omega (arith, c.reading.text.ok.0, c.reading.invariant.size);
      large = λ e. absurd (not_failed c.reading.text TooLarge e);
      fault = λ e. absurd (not_failed c.reading.text ReadFault e);
      memory = λ e. absurd (not_failed c.reading.text NoMemory e);
      later = omega (arith, same);
      cause = λ e. absurd (not_failed c.reading.text ReadFault e);
      told = λ h. absurd (omega (arith, same, h));
    }

-- a call that failed
pub returns-in-Err : goal.returns-in-Err
returns-in-Err g c =
    let first = g.S.Source.left c.args.src.now in
    let last = g.S.Source.left c.read.new.self in
    let took = took_no_more first (g.S.Source.left c.reading.src) last c.reading.text.items c.reading.invariant.took c.in-Err.ensures.err in
    record {
      ok = tt;
      end = tt;
      size = tt;
      large = λ e. absurd (not_large _ refl e);
      fault = λ e. (c.reading.text.items, omega (arith, c.reading.text.ok.0, c.reading.invariant.size), took);
      memory = λ e. absurd (not_memory _ refl e);
      later = subst (λ (n : ℕ). n ≤ g.S.Source.faults c.read.new.self) c.reading.invariant.kept c.in-Err.ensures.later;
      cause = λ e. subst (λ (n : ℕ). Rose n (g.S.Source.faults c.read.new.self)) c.reading.invariant.kept c.in-Err.ensures.cause;
      told = λ h. refl;
    }

pub returns-in-Ok-clause-large : goal.returns-in-Ok-clause-large
returns-in-Ok-clause-large g c _ =
    just_after (g.S.Source.left c.args.src.now) (g.S.Source.left c.reading.src) (g.S.Source.left c.read.new.self) c.reading.text.items c.read.new.buf c.in-Ok.n
    16777216 (search rules) c.reading.invariant.took c.in-Ok.ensures.within c.in-Ok.ensures.bytes (search rules) (search rules)

pub returns-in_err-extend_from_slice-in-Ok-2-clause-memory : goal.returns-in_err-extend_from_slice-in-Ok-2-clause-memory
returns-in_err-extend_from_slice-in-Ok-2-clause-memory g c _ =
    within_after (g.S.Source.left c.args.src.now) (g.S.Source.left c.reading.src) (g.S.Source.left c.read.new.self) c.reading.text.items c.read.new.buf
    c.in-Ok-2.n 16777216 (search rules) c.reading.invariant.took c.in-Ok-2.ensures.within c.in-Ok-2.ensures.bytes (search rules)

-- a piece behind the others
pub reading-preserved : goal.reading-preserved
reading-preserved g c =
    let first = g.S.Source.left c.args.src.now in
    let last = g.S.Source.left c.read.new.self in
    let old = c.reading.text.items in
    let piece = take c.in-Ok.n c.read.new.buf in
    record {
      took = subst (Took first last) {x = old ++ piece} (sym c.in_ok-extend_from_slice-in-Ok-2.ensures.items)
          (took_more first (g.S.Source.left c.reading.src) last old piece c.reading.invariant.took c.in-Ok.ensures.bytes);
      size = search rules;
      room = search rules;
      kept = c.in-Ok-2.ensures.ok ∙ c.reading.invariant.kept;
    }
