use Rattle.controller.proofs.PiecesLaws.{piece_is}
use Rattle.controller.proofs.pieces.piece.Goals as goal

pub returns-clause-piece : goal.returns-clause-piece
returns-clause-piece c =
    let a = c.args in
    let s = c.serve-served in
    let k = c.keep_rest-held in
    piece_is a.m a.at a.room.now k.new.room a.out.now s.new.out a.got k.result s.result c.requires.got_in_bounds s.ensures.served s.ensures.text k.ensures.bytes
