-- What a constructor answers. Assumes nothing.
use Rattle.std.specs.Prelude.{Bool, cond, Option, Some, None}

-- the number as one of its kind, only if it is within the limits
abbrev pub only_if : {A : Type 0} → Bool → A → Option A
only_if fit x = cond fit (Some x) None
