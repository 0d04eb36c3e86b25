-- The heap that holds those that wait: its greatest is the one that costs least, with the least turn of these.
use Rattle.std.specs.Prelude.{ℕ, ◌<◌, ◌≤◌, ◌-◌, ◌^◌, List, All}
use Rattle.std.specs.Ordering.{nat_cmp, ordering_then}
use Rattle.std.specs.declared.cmp.Ordering.{Ordering}
use Rattle.std.specs.BinaryHeap.{IsHeap}
use Rattle.std.specs.declared.cmp.Reverse.{Reverse}
use Rattle.propagate_queue.specs.AgendaEntries.{AgendaEntry}

abbrev pub Entry : Type 0
Entry = Reverse (ℕ × ℕ × ℕ)

abbrev pub waiting : Entry → AgendaEntry
waiting e = record { agent = e.0.2; cost = e.0.0; turn = e.0.1 }

abbrev pub entry_cmp : Entry → Entry → Ordering
entry_cmp x y = ordering_then (ordering_then (nat_cmp y.0.0 x.0.0) (nat_cmp y.0.1 x.0.1)) (nat_cmp y.0.2 x.0.2)

pub record AreHeaped (es : List Entry) (puts : ℕ) : Type 0 where
  pub heap : IsHeap entry_cmp es
  pub turns : All (λ e. e.0.1 ≤ puts) es
  pub earlier : puts < 2 ^ 64 - 1 → All (λ e. e.0.1 < puts) es
