use Rattle.std.proofs.Common.{rules, ◌≡◌, ◌+◌, ◌-◌, ◌∷◌, [], ℕ, List, arith}
use Rattle.core_rows.specs.Names.{Record}
use Rattle.core_gen.specs.Demo.{path_record}
use Rattle.core_gen.proofs.Printed.{Adds, day-more, no-day}
use Rattle.core_gen.proofs.demo.put_paths.Goals as goal

pub loop-i-init : goal.loop-i-init
loop-i-init c = no-day c.args.out.now.items (λ i. path_record c.args.k i ∷ [])

pub loop-i-preserved : goal.loop-i-preserved
loop-i-preserved c =
    let i = c.loop-i.i in
    let f : ℕ → List Record = λ m. path_record c.args.k m ∷ [] in
    let here : Adds c.loop-i.out.items (f i) c.put_path.new.out.items = search rules in
    let same : i + 1 - 1 ≡ i = omega arith in
    rw same (day-more _ _ _ i f c.loop-i.auto.i c.loop-i.invariant here)

pub returns-in_ok-put_path : goal.returns-in_ok-put_path
returns-in_ok-put_path c =
    let i = c.loop-i.i in
    let f : ℕ → List Record = λ m. path_record c.args.k m ∷ [] in
    let here : Adds c.loop-i.out.items (f i) c.put_path.new.out.items = search rules in
    let last : i ≡ c.args.n = omega arith in
    rw last at (day-more _ _ _ i f c.loop-i.auto.i c.loop-i.invariant here)

pub returns : goal.returns
returns c = absurd (omega (arith, c.loop-i-test.false, c.loop-i.auto.i-end, c.requires.least))
