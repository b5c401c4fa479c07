-- `ksets::raised` meets its contract: the search goes over the entries from the last one.
use Rattle.std.proofs.Common.{rules}
use Rattle.std.proofs.iter.runs.Sources.{ranges}
use Rattle.ksets.proofs.Raising.{raised_found}
use Rattle.ksets.proofs.raised.Goals as goal

pub returns : goal.returns
returns c = raised_found c.args.n c.args.set.now c.rfind.result (search (rules, ranges))
