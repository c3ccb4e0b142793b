-- A row that may stand at its place: the test, and what it says. Assumes nothing.
use mathlib.Core.Path.{◌≡◌}
use mathlib.Core.Bool.{true, ◌&&◌}
use Prim.Native.Nat.{ℕ, ◌<◌}
use lib.Dec.{eqb, ltb}
use borrow.Author.Tests.{eq-eqb, eqb-true, lt-ltb, ltb-true}
use Rattle.integers.proofs.Tests.{and_true}
use Rattle.allocation_row.specs.declared.Row.{Row}
use Rattle.allocation_row.specs.Rows.{follows}

pub record Follows (h z k : ℕ) (r : Row) : Type 0 where
  pub hour : r.hour ≡ h
  pub zone : r.zone ≡ z
  pub place : r.place ≡ k
  pub below : k < 128

module _ (h z k : ℕ) (r : Row) where
  -- by the test
  pub follows_means : follows h z k r ≡ true → Follows h z k r
  follows_means e =
      let p = and_true (eqb r.hour h && eqb r.zone z) (eqb r.place k && ltb k 128) e in
      let q = and_true (eqb r.hour h) (eqb r.zone z) p.0 in
      let w = and_true (eqb r.place k) (ltb k 128) p.1 in
      record { hour = eqb-true _ _ q.0; zone = eqb-true _ _ q.1; place = eqb-true _ _ w.0; below = ltb-true k 128 w.1 }

  -- and the converse
  pub means_follows : Follows h z k r → follows h z k r ≡ true
  means_follows f = rw (eq-eqb _ _ f.hour, eq-eqb _ _ f.zone, eq-eqb _ _ f.place, lt-ltb k 128 f.below)
