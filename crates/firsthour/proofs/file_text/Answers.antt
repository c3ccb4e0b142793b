-- By the answer of the reader. Assumes nothing.
use mathlib.Core.Path.{◌≡◌}
use mathlib.Core.List.{List}
use Prim.Native.Nat.{◌≤◌}
use lib.IntN.{ℤ, pos}
use lib.ListN.{replicate}
use Rattle.integers.specs.Ranges.{natural}
use Rattle.integers.proofs.Machine.{back}
use Rattle.allocation_file.specs.File.{file_of}
use Rattle.firsthour.proofs.Reading.{file_refused, file_read, file_few}
use borrow.Author.Rules.{rules}
use Rattle.firsthour.proofs.file_text.Goals.{After-natural-n}
use Rattle.firsthour.proofs.file_text.Goals as goal

abbrev zeros : List ℤ
zeros = replicate 128 (pos 0)

pub returns-in-Err : goal.returns-in-Err
returns-in-Err c =
    rw (file_refused (file_of c.args.file.now) c.in-Err.ensures.read.answer) (rw c.number.ensures at c.write_refused.ensures)

-- the lines as they are counted
counted : (c : After-natural-n) → c.natural-n.result ≡ natural c.in-Ok.read.lines
counted c = rw (back c.in-Ok.read.lines (search rules)) at c.natural-n.ensures

pub amounts_text-requires : goal.amounts_text-requires
amounts_text-requires c =
    let d = (goal.at.amounts_text-requires c).After-natural-n in
    let few : c.natural-n.result ≤ 128 = file_few c.args.file.now zeros zeros zeros zeros c.in-Ok.ensures.read.answer (counted d) in
    record { room = c.requires; users = few; entry = search rules; exit = search rules; title = search rules; pooling = search rules }

pub returns : goal.returns
returns c =
    let d = (goal.at.returns c).After-natural-n in
    let text = rw (back c.in-Ok.read.hour (search rules), back c.in-Ok.read.zone (search rules)) at c.amounts_text.ensures in
    file_read (file_of c.args.file.now) zeros zeros zeros zeros c.in-Ok.ensures.read.answer (counted d) text
    (search rules) (search rules) (search rules) (search rules)
