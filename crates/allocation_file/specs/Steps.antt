-- What the lines say in the call's signed numbers. Nobody needs this to believe the call's contract. Assumes nothing.
use Rattle.allocation_lines.specs.declared.LinesRead.{LinesRead}
use Rattle.allocation_file.specs.File.{answered}
use Rattle.allocation_file.specs.declared.FileRead.{FileRead}

abbrev pub in_signed : LinesRead → FileRead
in_signed r = answered r.hour r.zone r.lines
