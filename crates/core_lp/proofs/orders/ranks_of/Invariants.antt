use Rattle.core_lp.specs.Ranks.{ranks_by}
use Rattle.core_lp.proofs.Letters.{AreRanked}
use Rattle.core_lp.proofs.orders.ranks_of.Given as goal

-- the ranks so far
abbrev pub invariant-loop-place : goal.invariant-loop-place
invariant-loop-place l = AreRanked (ranks_by l.built.cols l.built.rows l.order) l.place l.ranks
