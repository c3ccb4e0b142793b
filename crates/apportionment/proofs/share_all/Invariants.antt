-- The pass of proofs/Sharing.antt. Assumes nothing.
use Rattle.apportionment.proofs.Sharing.{Sharing}
use Rattle.apportionment.proofs.share_all.Given as goal

abbrev pub invariant-loop-i : goal.invariant-loop-i
invariant-loop-i l = Sharing l.initial.sizes l.total l.initial.out l.sizes l.out l.given l.low l.top l.i
