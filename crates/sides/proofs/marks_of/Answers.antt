-- The first word holds the first 64 positions, or all of them. Assumes nothing.
use Rattle.sides.proofs.Words.{marks_are}
use Rattle.sides.proofs.marks_of.Goals as goal

pub returns : goal.returns
returns c =
    rw (c.from.ensures, c.from-2.ensures)
    (marks_are c.args.positions.now c.requires.0 c.requires.1 _ c.min-split.ensures c.args.up _ _ c.word_of-first.ensures c.word_of-second.ensures)
