use Rattle.std.proofs.Common.{◌≡◌, Bool, Result, Ok, Err, IfOk, subst}
use Rattle.fd_language.specs.declared.NoMemory.{NoMemory}
use Rattle.fd_model.specs.Builtins.{is_same}
use Rattle.fd_model.specs.Levels.{Levels}
use Rattle.heap_cells.specs.declared.Cell.{Cell}
use Rattle.heap_cells.specs.Cells.{Heaps}
use Rattle.heap_cells.specs.Terms.{Naming, IsOneToOne}
use Rattle.range_code.specs.Frames.{family_of}
use Rattle.builtin_calls.specs.Identity.{TellsIdentical}
use Rattle.branch_state.specs.States.{State}
use Rattle.branch_goals.specs.Findings.{seen_at}
use Rattle.branch_goals.proofs.Findings.{links_below, told_identical}
use Rattle.branch_goals.proofs.builtin_findings.identical.Goals as goal

pub same-requires-clause-links : goal.same-requires-clause-links
same-requires-clause-links g c = links_below c.args.branch.now c.requires.sound c.heap.result.now c.store.result.now c.heap.ensures c.store.ensures

told : (s : State) (hs : Heaps) (ls : Levels) → hs ≡ s.heaps → ls ≡ s.levels → (a b : Cell) (r : Result Bool NoMemory) → IfOk r (TellsIdentical hs.now (family_of ls.current.sets) a b)
    → IfOk r (λ same. (name : Naming) → IsOneToOne name → same ≡ is_same (seen_at name s a) (seen_at name s b))
told s hs ls e f a b (Err x) t = t
told s hs ls e f a b (Ok r) t = λ name n.
    told_identical name n s a b r (subst (λ (l : Levels). TellsIdentical s.heaps.now (family_of l.current.sets) a b r) f
    (subst (λ (h : Heaps). TellsIdentical h.now (family_of ls.current.sets) a b r) e t))

pub returns : goal.returns
returns g c = told c.args.branch.now c.heap.result.now c.store.result.now c.heap.ensures c.store.ensures c.args.a c.args.b c.same.result c.same.ensures
