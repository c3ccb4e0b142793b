-- The rows of a content that neither 18 nor 19 turns away: their numbers, and the rows column by column. Assumes nothing.
use mathlib.Core.Path.{◌≡◌, sym, ap, ◌∙◌}
use mathlib.Core.Bool.{true}
use mathlib.Core.List.{List, map}
use Prim.Native.Nat.{ℕ, ◌^◌, ◌<◌}
use native.Mathlib.Omega.{arith}
use lib.IntN.{ℤ, pos, nat_abs}
use lib.ListN.{length, get_or, replicate, length-map, get_or-map}
use lib.Seq.{ext_get_or}
use Rattle.integers.specs.Lists.{every, tabulate}
use Rattle.integers.specs.Ranges.{natural}
use Rattle.integers.proofs.Counts.{length-tabulate}
use Rattle.integers.proofs.Passes.{every_at}
use Rattle.allocation_row.specs.declared.Row.{Row}
use Rattle.allocation_writer.specs.Writer.{Content, row_at, rows_of, nine_digits}
use Rattle.allocation_writer.specs.Steps.{Counted, Fitting}
use Rattle.allocation_writer.proofs.Tests.{nine_means}
use Rattle.writer_guarantees.proofs.Sizes.{Short}
use Rattle.writer_guarantees.proofs.Lists.{All, all_tabulate, map-tabulate, tabulate-same, tabulate_own}

-- ---- the rows' numbers

-- an amount of a list of the count's length that passes the test of 19
small : (n : ℕ) (xs : List ℤ) → every nine_digits xs ≡ true → length xs ≡ n → (i : ℕ) → i < n → nat_abs (get_or xs i (pos 0)) < 10 ^ 9
small n xs e l i h = nine_means _ (every_at nine_digits xs i (pos 0) e (rw l h))

-- a content's rows have small numbers, and users' places
pub rows_short : (w : Content) → Counted w → Fitting w → All Short (rows_of w)
unfolding rows_of row_at
rows_short w c f =
    let n = natural w.users in
    all_tabulate Short _ n (λ i h. record {
      nine = record {
        hour = omega (arith, f.short, ap nat_abs f.hour);
        zone = c.zones;
        place = omega (arith, c.few);
        entry = small n w.entry f.entry c.entry i h;
        exit = small n w.exit f.exit c.exit i h;
        title = small n w.title f.title c.title i h;
        pooling = small n w.pooling f.pooling c.pooling i h;
      };
      place = omega (arith, c.few);
    })

-- ---- the rows, column by column
pub record Columns (w : Content) (rows : List Row) : Type 0 where
  pub hours : map (λ r. r.hour) rows ≡ replicate (natural w.users) (natural w.hour)
  pub zones : map (λ r. r.zone) rows ≡ replicate (natural w.users) (natural w.zone)
  pub places : map (λ r. r.place) rows ≡ tabulate (λ i. i) (natural w.users)
  pub entries : map (λ r. r.entry) rows ≡ w.entry
  pub exits : map (λ r. r.exit) rows ≡ w.exit
  pub titles : map (λ r. r.title) rows ≡ w.title
  pub poolings : map (λ r. r.pooling) rows ≡ w.pooling

-- those of a content's rows
pub columns : (w : Content) → Counted w → Columns w (rows_of w)
unfolding rows_of row_at
columns w c = record {
  hours = map-tabulate _ _ _ ∙ tabulate-same _ _;
  zones = map-tabulate _ _ _ ∙ tabulate-same _ _;
  places = map-tabulate _ _ _;
  entries = map-tabulate _ _ _ ∙ own w.entry c.entry;
  exits = map-tabulate _ _ _ ∙ own w.exit c.exit;
  titles = map-tabulate _ _ _ ∙ own w.title c.title;
  poolings = map-tabulate _ _ _ ∙ own w.pooling c.pooling;
}
  where
    own : (xs : List ℤ) → length xs ≡ natural w.users → tabulate (λ i. get_or xs i (pos 0)) (natural w.users) ≡ xs
    own xs e = rw (← e) (tabulate_own (pos 0) xs)

-- and of no other rows
pub same_columns : (w : Content) (rs ts : List Row) → Columns w rs → Columns w ts → rs ≡ ts
same_columns w rs ts p q = ext_get_or none rs ts long (λ i h. row i)
  where
    none : Row
    none = record { hour = 0; zone = 0; place = 0; entry = pos 0; exit = pos 0; title = pos 0; pooling = pos 0 }

    long : length rs ≡ length ts
    long = sym (length-map rs _) ∙ ap length (p.places ∙ sym q.places) ∙ length-map ts _

    at : {B : Type 0} (i : ℕ) (f : Row → B) (l : List B) → map f rs ≡ l → map f ts ≡ l → f (get_or rs i none) ≡ f (get_or ts i none)
    at i f l e g = sym (get_or-map f rs i none) ∙ ap (λ l. get_or l i (f none)) (e ∙ sym g) ∙ get_or-map f ts i none

    row : (i : ℕ) → get_or rs i none ≡ get_or ts i none
    row i = λ k. record {
      hour = at i (λ r. r.hour) _ p.hours q.hours k;
      zone = at i (λ r. r.zone) _ p.zones q.zones k;
      place = at i (λ r. r.place) _ p.places q.places k;
      entry = at i (λ r. r.entry) _ p.entries q.entries k;
      exit = at i (λ r. r.exit) _ p.exits q.exits k;
      title = at i (λ r. r.title) _ p.titles q.titles k;
      pooling = at i (λ r. r.pooling) _ p.poolings q.poolings k;
    }

-- how many rows
pub rows-length : (w : Content) → length (rows_of w) ≡ natural w.users
unfolding rows_of
rows-length w = length-tabulate _ (natural w.users)
