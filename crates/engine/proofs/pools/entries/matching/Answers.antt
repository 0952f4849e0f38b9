use borrow.Author.Rules.{rules}
use Rattle.engine.proofs.pools.EntryLaws.{or_matches}
use Rattle.engine.proofs.pools.entries.matching.Goals as goal

pub returns : goal.returns
returns c =
    rw (c.word.ensures, c.word-free.ensures, c.freed-2.ensures, c.freed.ensures, c.word-there.ensures)
    (or_matches _ _ _ (search rules) (search rules) (search rules))
