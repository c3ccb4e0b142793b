-- The examples, computed by the definitions. Assumes nothing.
use mathlib.Core.Path.{refl}
use Rattle.text.specs.Decimals.{digits_in, digits, decimal}
use Rattle.text.specs.Examples.{examples, DecimalsShown}

pub decimals_shown : DecimalsShown
unfolding digits_in digits decimal examples
decimals_shown = refl
