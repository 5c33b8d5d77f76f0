-- A bus of which every read answers 0.
use Rattle.pac_bus.specs.declared.zero_bus.ZeroBus.{ZeroBus}
use Rattle.pac_bus.specs.Acts.Gives.{Zeros}
use Rattle.pac_bus.specs.Journals.{told_by}
use Rattle.pac_bus.specs.Telling.{BusTold}

-- what it tells: no call of it fails
abbrev pub zero_told : ZeroBus → BusTold
zero_told bus = told_by bus.journal Zeros 0
