use Rattle.std.proofs.Common.{rules, ◌≡◌, ◌∙◌, ◌<◌, ◌≤◌, ◌≤ℤ◌, ◌++◌, ◌∷◌, [], pos, negsuc, sym, ap, length, arith, Some}
use Rattle.std.proofs.lemmas.Int.{ints}
use Rattle.std.specs.List.{list_all}
use Rattle.std.proofs.lemmas.List.{at_drop_all}
use Rattle.core_rows.specs.Fields.{whole}
use Rattle.core_rows.specs.Names.{field}
use Rattle.core_case.specs.Faults.{is_price}
use Rattle.core_case.proofs.SoundPaths.{numbers-read, price-is, prices-more}
use Rattle.core_case.proofs.prices.prices_from.Goals as goal

pub loop-i-preserved : goal.loop-i-preserved
loop-i-preserved c =
    let within : c.loop-i.i < length c.args.row.now = omega arith in
    let read : whole (field c.args.row.now c.loop-i.i) ≡ Some c.in-Some.price = ap whole (sym c.word.ensures) ∙ sym c.whole.ensures ∙ c.in-Some.is in
    let grown : c.push.new.self.items ≡ c.loop-i.prices.items ++ (c.in-Some.price ∷ []) = search rules in
    let low : negsuc 999999999999 ≤ℤ c.in-Some.price = omega (arith, ints) in
    let high : c.in-Some.price ≤ℤ pos 1000000000000 = omega (arith, ints) in
    record {
      stated = numbers-read c.args.row.now 3 c.loop-i.i c.in-Some.price c.loop-i.prices.items c.push.new.self.items within read grown c.loop-i.invariant.stated;
      sound =
          c.loop-i.invariant.sound
          ∙ prices-more c.args.row.now c.loop-i.i within
          (price-is (field c.args.row.now c.loop-i.i) c.in-Some.price read low high);
    }

pub returns-clause-sound : goal.returns-clause-sound
returns-clause-sound c =
    let past : length c.args.row.now ≤ c.loop-i.i = omega arith in
    c.loop-i.invariant.sound ∙ at_drop_all (list_all is_price) c.args.row.now c.loop-i.i past
