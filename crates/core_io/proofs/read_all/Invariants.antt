use Rattle.std.proofs.Common.{◌≡◌, ◌+◌, ◌-◌, ◌≤◌, ℕ, List, take, length, IfSome}
use Rattle.core_io.specs.States.{Began}
use Rattle.core_io.proofs.read_all.Given as goal

abbrev pub invariant-loop-buffer : goal.invariant-loop-buffer
invariant-loop-buffer g l = record {
  kept : (other : List ℕ) → (g.S.Shelf.state l.shelf).told other ≡ (g.S.Shelf.state l.fn.shelf).told other;
  counts : (other : List ℕ) → (g.S.Shelf.state l.fn.shelf).faults other ≤ (g.S.Shelf.state l.shelf).faults other;
  within : length l.all.items ≤ l.most + 1;
  began : Began (g.S.Shelf.state l.fn.shelf) (g.S.Shelf.state l.shelf) l.name l.all.items;
  bytes : IfSome ((g.S.Shelf.state l.fn.shelf).told l.name) (λ bytes. l.all.items ≡ take (length l.all.items) bytes);
}

abbrev pub decreases-loop-buffer : goal.decreases-loop-buffer
decreases-loop-buffer g l = (l.most + 1) - length l.all.items
