use Rattle.std.proofs.Common.{arith, rules, Some, ◌≡◌}
use Rattle.std.proofs.lemmas.Map.Text.{text_keys}
use Rattle.std.proofs.lemmas.Slice.Eq.{bytes_eq-Decides}
use Rattle.std.specs.BTreeMap.{get_by_text}
use Rattle.core_io.proofs.memory_shelf.MemShelf.count_fault.Goals as goal

pub returns-in-Some-clause-kept : goal.returns-in-Some-clause-kept
returns-in-Some-clause-kept c = λ other.
    let old : get_by_text c.args.self.now.entries c.args.name.now ≡ Some c.in-Some.entry.now = search rules in
    let steps = (c.get_mut.follows.holds (record { bytes = c.in-Some.entry.now.bytes; faults = c.saturating_add-more.result })).3 (search rules) in
    grind (arith, text_keys, steps, old, bytes_eq-Decides other c.args.name.now, c.count.ensures)

pub returns-in-Some-clause-counted : goal.returns-in-Some-clause-counted
returns-in-Some-clause-counted c = λ other.
    let old : get_by_text c.args.self.now.entries c.args.name.now ≡ Some c.in-Some.entry.now = search rules in
    let steps = (c.get_mut.follows.holds (record { bytes = c.in-Some.entry.now.bytes; faults = c.saturating_add-more.result })).3 (search rules) in
    grind (arith, text_keys, steps, old, bytes_eq-Decides other c.args.name.now, c.count.ensures)

pub returns-in-Some-clause-counts : goal.returns-in-Some-clause-counts
returns-in-Some-clause-counts c = λ other.
    let old : get_by_text c.args.self.now.entries c.args.name.now ≡ Some c.in-Some.entry.now = search rules in
    let steps = (c.get_mut.follows.holds (record { bytes = c.in-Some.entry.now.bytes; faults = c.saturating_add-more.result })).3 (search rules) in
    grind (arith, text_keys, steps, old, bytes_eq-Decides other c.args.name.now, c.count.ensures)
