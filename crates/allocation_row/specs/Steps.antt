-- The four lists that are lent: that they come back, and a row's amounts put into them. Nobody needs this to believe what a line says. Assumes nothing.
use Rattle.std.specs.Prelude.{ℕ, ◌<◌, ◌≡◌, length, set}
use Rattle.allocation_row.specs.declared.Lists.{Lists}
use Rattle.allocation_row.specs.declared.Row.{Row}

-- the lists that come back in l' are the ones that were lent in l: each has its name, whatever it now holds
pub record Same (l l' : Lists) : Type 0 where
  pub entries : l'.entries.ghost_name ≡ l.entries.ghost_name
  pub exits : l'.exits.ghost_name ≡ l.exits.ghost_name
  pub titles : l'.titles.ghost_name ≡ l.titles.ghost_name
  pub poolings : l'.poolings.ghost_name ≡ l.poolings.ghost_name

-- a place within each
pub record Within (k : ℕ) (l : Lists) : Type 0 where
  pub entries : k < length l.entries.now
  pub exits : k < length l.exits.now
  pub titles : k < length l.titles.now
  pub poolings : k < length l.poolings.now

-- a row's amounts, put at place k
pub record Stored (r : Row) (k : ℕ) (l l' : Lists) : Type 0 where
  pub same : Same l l'
  pub entries : l'.entries.now ≡ set l.entries.now k r.entry
  pub exits : l'.exits.now ≡ set l.exits.now k r.exit
  pub titles : l'.titles.now ≡ set l.titles.now k r.title
  pub poolings : l'.poolings.now ≡ set l.poolings.now k r.pooling
