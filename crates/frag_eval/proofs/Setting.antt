-- Presets that are made on a bus, one after the other.
use Rattle.std.proofs.Common.{◌≡◌, List, [], ◌∷◌, ◌++◌, map, refl, sym, ap, subst, ◌∙◌, append_assoc}
use Rattle.std.specs.List.{AllByRecursion}
use Rattle.std.proofs.lemmas.List.{append-nil, map-append}
use Rattle.pac_bus.specs.Acts.{Act}
use Rattle.pac_bus.specs.Acts.Act.{sets}
use Rattle.pac_bus.specs.Telling.{BusTold, Did}
use Rattle.pac_bus.specs.declared.access.Preset.{Preset}
use Rattle.pac_bus.proofs.Acting.{did_nothing, did_then}
use Rattle.frag_eval.specs.Called.{IsHeld, SetSome}

-- All presets were made but the rest, each of which a bus takes.
pub record SetUpTo (old now : BusTold) (all rest : List Preset) : Type 0 where
  pub made : List Preset
  pub whole : made ++ rest ≡ all
  pub preset : Did old now (map sets made)
  pub held : AllByRecursion IsHeld rest

pub set_none : (told : BusTold) (all : List Preset) → AllByRecursion IsHeld all → SetUpTo told told all all
set_none told all held = record { made = []; whole = refl; preset = did_nothing told; held = held }

pub held_here : (old now : BusTold) (all rest others : List Preset) (one : Preset) → rest ≡ one ∷ others → SetUpTo old now all rest → IsHeld one
held_here old now all rest others one is so_far = (subst (λ (l : List Preset). AllByRecursion IsHeld l) is so_far.held).0

pub set_more : (old mid now : BusTold) (all rest others : List Preset) (one : Preset) → rest ≡ one ∷ others → SetUpTo old mid all rest → Did mid now (sets one ∷ []) → SetUpTo old now all others
set_more old mid now all rest others one is so_far did = record {
  made = so_far.made ++ one ∷ [];
  whole = append_assoc so_far.made (one ∷ []) others ∙ (ap (λ l. so_far.made ++ l) (sym is) ∙ so_far.whole);
  preset = subst (λ (acts : List Act). Did old now acts) (sym (map-append sets so_far.made (one ∷ []))) (did_then old mid now (map sets so_far.made) (sets one ∷ []) so_far.preset did);
  held = (subst (λ (l : List Preset). AllByRecursion IsHeld l) is so_far.held).1;
}

pub set_some : (old mid now : BusTold) (all rest : List Preset) → SetUpTo old mid all rest → Did mid now [] → SetSome old now all
set_some old mid now all rest so_far did = record {
  made = so_far.made;
  later = rest;
  all = sym so_far.whole;
  preset = subst (λ (acts : List Act). Did old now acts) (append-nil (map sets so_far.made)) (did_then old mid now (map sets so_far.made) [] so_far.preset did);
}

pub set_every : (old now : BusTold) (all rest : List Preset) → rest ≡ [] → SetUpTo old now all rest → Did old now (map sets all)
set_every old now all rest none so_far =
    subst (λ (acts : List Act). Did old now acts) (ap (map sets) (sym (append-nil so_far.made) ∙ (ap (λ l. so_far.made ++ l) (sym none) ∙ so_far.whole))) so_far.preset
