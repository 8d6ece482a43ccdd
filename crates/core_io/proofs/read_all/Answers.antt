use Rattle.std.proofs.Common.{arith, rules, refl, ◌∙◌, drop}
use Rattle.std.proofs.lemmas.Grind.{common_steps}
use Rattle.core_io.proofs.Pieces.{read_piece, began_piece, Began-none}
use Rattle.core_io.proofs.read_all.Goals as goal

pub loop-buffer-init : goal.loop-buffer-init
loop-buffer-init g c = record {
  kept = λ other. refl;
  counts = λ other. omega arith;
  within = omega (arith, c.new-all.ensures.len);
  began = Began-none (g.S.Shelf.state c.args.shelf.now) c.args.name.now c.new-all.result.items (search rules);
  bytes = search rules;
}

pub loop-buffer-preserved : goal.loop-buffer-preserved
loop-buffer-preserved g c = record {
  kept = λ other. c.in-Ok.ensures.kept other ∙ c.loop-buffer.invariant.kept other;
  counts = λ other. omega (arith, c.loop-buffer.invariant.counts other, c.in-Ok.ensures.counts other);
  within = grind (arith, common_steps);
  began = began_piece (g.S.Shelf.state c.args.shelf.now) (g.S.Shelf.state c.loop-buffer.shelf) (g.S.Shelf.state c.read.new.self) c.args.name.now c.loop-buffer.all.items c.extend_from_slice.new.self.items c.read.new.into (drop c.min-want.result c.loop-buffer.buffer) c.len-at.result c.in-Ok.n (search rules) c.in-Ok-extend_from_slice.ensures.items c.in-Ok.ensures.fits c.loop-buffer.invariant.began c.in-Ok.ensures.gave;
  bytes = read_piece ((g.S.Shelf.state c.args.shelf.now).told c.args.name.now) ((g.S.Shelf.state c.loop-buffer.shelf).told c.args.name.now) c.loop-buffer.all.items c.extend_from_slice.new.self.items c.read.new.into (drop c.min-want.result c.loop-buffer.buffer) c.len-at.result c.in-Ok.n (c.loop-buffer.invariant.kept c.args.name.now) (search rules) c.in-Ok-extend_from_slice.ensures.items c.in-Ok.ensures.fits c.loop-buffer.invariant.bytes c.in-Ok.ensures.gives;
}
