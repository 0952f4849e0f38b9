use Rattle.std.proofs.Common.{rules}
use borrow.Author.Tests.{tests}
use Rattle.std.proofs.lemmas.Iterator.{YieldsList-from_slice}
use Rattle.std.proofs.lemmas.Iterator.Search.{all_from_yields_List}
use Rattle.engine.specs.configs.Shares.{row_names}
use Rattle.engine.proofs.configs.shares.rows_name.Goals as goal

pub returns : goal.returns
returns c = all_from_yields_List row_names _ _ c.all.result c.all.ensures.ran (YieldsList-from_slice c.args.rows.now cc) (λ x b q k. search (rules, tests))
