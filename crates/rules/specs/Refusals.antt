-- "Checked in the order of their numbers; the first that applies is given." Assumes nothing.
use Rattle.std.specs.Prelude.{Bool, true, false, ℕ, Result, Ok, Err}
use Rattle.rules.specs.declared.Cause.{Cause}
use Rattle.rules.specs.declared.Cause.TheVariants.{Users, Record, Lengths, Zone, Closed, Hour, Table, Terms, Amounts, Pooling, Positions, DayLength, Signs, Shares, Sum, Totals}

-- "Causes for turning a call away", by number; document 02: "21 at opening, .. if the length is none of these"; of an operator's quantities "22 .. then 23 .. then 24"; and "25, last of
-- all causes of an hour, a preview and a closing"
abbrev pub number : Cause → ℕ
number Users = 1
number Record = 2
number Lengths = 3
number Zone = 4
number Closed = 5
number Hour = 6
number Table = 7
number Terms = 8
number Amounts = 9
number Pooling = 10
number Positions = 11
number DayLength = 21
number Signs = 22
number Shares = 23
number Sum = 24
number Totals = 25

-- A test of a call answers a Result: `Ok tt` where no cause applies, or the cause.
infixr 20 ◌then◌
-- the cause k unless its test holds
abbrev pub unless : {E : Type 0} → Bool → E → Result Unit E
unless true k = Ok tt
unless false k = Err k

-- the first cause of the two; and by no cause what the call then answers
abbrev pub ◌then◌ : {A E : Type 0} → Result Unit E → Result A E → Result A E
◌then◌ (Ok u) r = r
◌then◌ (Err k) r = Err k

-- by a cause: the first where there is none, else the second
unfoldable pub by_cause : {A E : Type 0} → Result Unit E → A → A → A
by_cause (Ok u) accepted refused = accepted
by_cause (Err k) accepted refused = refused
