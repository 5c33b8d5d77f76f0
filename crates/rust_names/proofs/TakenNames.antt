-- What keywords and names of the prelude are not.
use Rattle.std.proofs.Common.{◌≡◌, ℕ, Bool, true, false, ◌||◌, List, [], ◌∷◌, ◌++◌, refl, bytes_eq}
use Rattle.std.specs.Prelude.{codes}
use Rattle.std.specs.List.{list_any}
use Rattle.std.proofs.lemmas.Bool.{or_parts}
use Rattle.rust_names.specs.Keywords.{is_keyword, keywords}
use Rattle.rust_names.specs.Laws.{FreeOfBoth, NoKeywordIsMarker, NoneEndsLow, NoneIsReserved}
use Rattle.rust_names.specs.PreludeNames.{first_names, is_prelude_name, prelude_names}
use Rattle.rust_names.proofs.LastBytes.{ends_in, none_ends}

pub ends_low : NoneEndsLow
unfolding is_keyword is_prelude_name ends_in
ends_low front = (none_ends 95 front keywords refl, none_ends 95 front prelude_names refl)

pub no_marker : NoKeywordIsMarker
unfolding is_keyword ends_in
no_marker front = none_ends 70 front keywords refl

pub none_reserved : NoneIsReserved
unfolding is_keyword is_prelude_name
none_reserved back = (refl, refl)

pub free_of_both : FreeOfBoth
unfolding is_prelude_name
free_of_both word free = (or_parts (bytes_eq word (codes "at_bit")) (list_any (bytes_eq word) first_names) free).1
