use Rattle.core_book.proofs.Lookups.{open-of}
use Rattle.core_book.proofs.case.Case.open_days_of.Goals as goal

pub returns-clause-count : goal.returns-clause-count
returns-clause-count c = (open-of c.self.inside c.args.self.now c.args.i c.index.result.now c.index-2.result.now c.self.view_is c.self.invariant c.requires c.index.ensures c.index-2.ensures).0

pub returns-clause-each : goal.returns-clause-each
returns-clause-each c = (open-of c.self.inside c.args.self.now c.args.i c.index.result.now c.index-2.result.now c.self.view_is c.self.invariant c.requires c.index.ensures c.index-2.ensures).1
