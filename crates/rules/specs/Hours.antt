-- What an hour and a closing are given besides the record and the table, fit or unfit; and rule 1. Assumes nothing.
use Rattle.std.specs.Prelude.{◌≡◌, List, [], ℕ, ℤ, pos, ◌+ℤ◌, get_or, take}
use Rattle.integers.specs.Lists.{tabulate}
use Rattle.rules.specs.declared.Amounts.{Amounts}
use Rattle.rules.specs.declared.Outputs.{Outputs}
use Rattle.rules.specs.declared.Day.{Day}
use Rattle.rules.specs.declared.HourTerms.{HourTerms}
use Rattle.rules.specs.declared.ClosingTerms.{ClosingTerms}
use Rattle.rules.specs.Days.{users, part, place}

-- an hour, to be settled, previewed or judged: its terms, the four amounts of each user, and the lists and the scratch as they are lent
pub record Hour : Type 0 where
  pub terms : HourTerms
  pub entry : List ℤ
  pub exit : List ℤ
  pub title : List ℤ
  pub pooling : List ℤ
  pub quantity : List ℤ
  pub money : List ℤ
  pub scratch : List ℕ

-- a closing: its terms, and the lists as they are lent
pub record Closing : Type 0 where
  pub terms : ClosingTerms
  pub quantity : List ℤ
  pub money : List ℤ

-- the same from a call's parameters: each list by itself, as C gives them, or as the two structs
abbrev pub hour_listed : HourTerms → List ℤ → List ℤ → List ℤ → List ℤ → List ℤ → List ℤ → List ℕ → Hour
hour_listed terms entry exit title pooling quantity money scratch =
    record { terms = terms; entry = entry; exit = exit; title = title; pooling = pooling; quantity = quantity; money = money; scratch = scratch }

abbrev pub hour_given : HourTerms → Amounts → Outputs → List ℕ → Hour
hour_given terms a o scratch = hour_listed terms a.entries.now a.exits.now a.titles.now a.poolings.now o.quantity.now o.money.now scratch

-- of an hour that is only read, to be judged: nothing is lent to be filled
abbrev pub inputs_listed : HourTerms → List ℤ → List ℤ → List ℤ → List ℤ → Hour
inputs_listed terms entry exit title pooling = hour_listed terms entry exit title pooling [] [] []

-- what the judge is given of an hour
abbrev pub inputs_of : Hour → Hour
inputs_of g = inputs_listed g.terms g.entry g.exit g.title g.pooling

abbrev pub inputs_given : HourTerms → Amounts → Hour
inputs_given terms a = inputs_listed terms a.entries.now a.exits.now a.titles.now a.poolings.now

abbrev pub closing_listed : ClosingTerms → List ℤ → List ℤ → Closing
closing_listed terms quantity money = record { terms = terms; quantity = quantity; money = money }

abbrev pub closing_given : ClosingTerms → Outputs → Closing
closing_given terms o = closing_listed terms o.quantity.now o.money.now

-- the lists that come back in o' are the ones that were lent in o: each has its name, whatever it now holds
pub record Same (o o' : Outputs) : Type 0 where
  pub quantity : o'.quantity.ghost_name ≡ o.quantity.ghost_name
  pub money : o'.money.ghost_name ≡ o.money.ghost_name

-- a user's four amounts together
unfoldable pub amounts : Hour → ℕ → ℤ
amounts g user = get_or g.entry user (pos 0) +ℤ get_or g.exit user (pos 0) +ℤ get_or g.title user (pos 0) +ℤ get_or g.pooling user (pos 0)

-- rule 1: "A user's position before settlement is the position in the table plus entry, exit, title and pooling amounts."
unfoldable pub before : Day → List ℤ → Hour → List ℤ
before d t g = tabulate (λ user. place g.terms.zone user t +ℤ amounts g user) (users d)

-- a closing: "Each user's quantity is its whole position"
unfoldable pub standing : Day → List ℤ → Closing → List ℤ
standing d t g = take (users d) (part g.terms.zone t)
