-- Numbers and their texts, which proofs/Examples.antt computes. Assumes nothing.
use Rattle.std.specs.Prelude.{◌≡◌, List, [], ◌∷◌, map, ◌-◌, ◌^◌, ℤ, pos, negsuc}
use Prim.Native.String.{String}
use Rattle.text.specs.Bytes.{bytes}
use Rattle.text.specs.Decimals.{decimal}

-- a number and its text
pub record Example : Type 0 where
  pub number : ℤ
  pub text : String

abbrev pub shown : ℤ → String → Example
shown x t = record { number = x; text = t }

-- 0, one digit, more digits, numbers below zero, and the largest and the least number of 64 bits
unfoldable pub examples : List Example
examples =
    shown (pos 0) "0"
    ∷ shown (pos 9) "9"
    ∷ shown (pos 10) "10"
    ∷ shown (pos 100_000_007) "100000007"
    ∷ shown (negsuc 0) "-1"
    ∷ shown (negsuc 2_999_999) "-3000000"
    ∷ shown (pos (2 ^ 63 - 1)) "9223372036854775807"
    ∷ shown (negsuc (2 ^ 63 - 1)) "-9223372036854775808"
    ∷ []

abbrev pub DecimalsShown : Type 0
DecimalsShown = map (λ e. decimal e.number) examples ≡ map (λ e. bytes e.text) examples
