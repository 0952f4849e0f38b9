use Prim.Native.Nat.{◌<◌}
use mathlib.Core.Path.{◌≡◌, sym, ◌∙◌}
use Rattle.engine.specs.pools.Sizes.{most_entries}
use Rattle.engine.specs.declared.Reply.TheVariants.{Placed}
use Rattle.engine.specs.inner.Spine.{parts_of, served_as}
use Rattle.engine.proofs.RoundLaws.{placed_place}
use Rattle.engine.proofs.commands.reserve.asked.Goals as goal

pub returns : goal.returns
unfolding served_as parts_of
returns c =
    rw (c.noted.ensures, c.with_place.ensures, c.reply_of-reply.ensures, c.exit_at-typ.ensures)

pub with_place-requires : goal.with_place-requires
with_place-requires c =
    let placing : let a = c.args in c.reply_of-reply.result ≡ Placed → a.x.pool.count < most_entries = λ e. (placed_place _ _ _ _ c.requires.well (sym c.reply_of-reply.ensures ∙ e)) in
    record { well = c.requires.well; count_lt_most_entries = placing }
