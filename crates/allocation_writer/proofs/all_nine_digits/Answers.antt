-- Each number is tested. Assumes nothing.
use mathlib.Core.Path.{◌≡◌, refl, ap, ◌∙◌}
use mathlib.Core.Bool.{Bool, ◌&&◌}
use mathlib.Core.List.{List, [], ◌∷◌}
use Rattle.std.proofs.Common.{rules, tests}
use Rattle.std.specs.List.{list_all}
use Rattle.std.proofs.lemmas.Iterator.{YieldsList-from_slice}
use Rattle.std.proofs.lemmas.Iterator.Search.{all_from_yields_List}
use Rattle.integers.specs.Lists.{every}
use Rattle.allocation_writer.specs.Writer.{nine_digits}
use Rattle.allocation_writer.proofs.all_nine_digits.Goals as goal

-- the library's word for it
every_is : {A : Type 0} (p : A → Bool) (xs : List A) → list_all p xs ≡ every p xs
unfolding every
every_is p [] = refl
every_is p (x ∷ xs) = ap (λ (b : Bool). p x && b) (every_is p xs)

pub returns : goal.returns
returns c =
    all_from_yields_List nine_digits _ _ c.all.result c.all.ensures.ran (YieldsList-from_slice c.args.list.now cc) (λ x b q k. search (rules, tests))
    ∙ every_is nine_digits c.args.list.now
