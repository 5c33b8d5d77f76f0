-- Acts one after the other.
use Rattle.std.proofs.Common.{ℕ, ◌≡◌, Bool, true, false, List, [], ◌∷◌, ◌++◌, length, Option, Some, None, refl, sym, ap, subst, ◌∙◌, append_assoc, arith}
use Rattle.std.proofs.lemmas.List.{append-nil, length-append}
use Rattle.pac_base.specs.declared.width.Width.{Width}
use Rattle.pac_bus.specs.Acts.{given_after, Gives, Act, Kept, kept_by, kept_by_access, Fits, FitsOne}
use Rattle.pac_bus.specs.Acts.Act.{sets, does}
use Rattle.pac_bus.specs.Acts.Gives.{Free, Zeros}
use Rattle.pac_bus.specs.Laws.{FitsEach}
use Rattle.pac_bus.specs.Telling.{Device, BusTold, Did, accesses, presets, and_acts}

-- what no bytes change stays
stays : (gives : Gives) → ((address : ℕ) (width : Width) (value : ℕ) → given_after gives address width value ≡ gives) → (acts : List Act) → Kept gives acts ≡ gives
stays gives same [] = refl
stays gives same (sets preset ∷ acts) = ap (λ (g : Gives). Kept g acts) (same preset.address preset.width preset.value) ∙ stays gives same acts
stays gives same (does access ∷ acts) = ap (λ (g : Gives). Kept g acts) (by access.write) ∙ stays gives same acts
  where
    by : (write : Bool) → kept_by_access write gives access ≡ gives
    by true = same access.address access.width access.value
    by false = refl

pub free_stays : (acts : List Act) → Kept Free acts ≡ Free
free_stays = stays Free (λ address width value. refl)

pub zeros_stay : (acts : List Act) → Kept Zeros acts ≡ Zeros
zeros_stay = stays Zeros (λ address width value. refl)

pub kept_in_turn : (gives : Gives) (acts more : List Act) → Kept gives (acts ++ more) ≡ Kept (Kept gives acts) more
kept_in_turn gives [] more = refl
kept_in_turn gives (act ∷ acts) more = kept_in_turn (kept_by gives act) acts more

pub fit_in_turn : (gives : Gives) (acts more : List Act) → Fits gives acts → Fits (Kept gives acts) more → Fits gives (acts ++ more)
fit_in_turn gives [] more fit others = others
fit_in_turn gives (act ∷ acts) more fit others = (fit.0, fit_in_turn (kept_by gives act) acts more fit.1 others)

fits_there : (gives : Gives) (before after : List Act) (act : Act) → Fits gives (before ++ (act ∷ after)) → FitsOne (Kept gives before) act
fits_there gives [] after act fit = fit.0
fits_there gives (first ∷ before) after act fit = fits_there (kept_by gives first) before after act fit.1

fits_from_each : (gives : Gives) (acts : List Act) → ((before after : List Act) (act : Act) → acts ≡ before ++ (act ∷ after) → FitsOne (Kept gives before) act) → Fits gives acts
fits_from_each gives [] each = tt
fits_from_each gives (act ∷ acts) each = (each [] acts act refl, fits_from_each (kept_by gives act) acts (λ before after other same. each (act ∷ before) after other (ap (λ rest. act ∷ rest) same)))

pub fits_each : FitsEach
fits_each gives acts = (λ fit before after act same. fits_there gives before after act (subst (λ (all : List Act). Fits gives all) same fit), fits_from_each gives acts)

accesses-append : (acts more : List Act) → accesses (acts ++ more) ≡ accesses acts ++ accesses more
accesses-append [] more = refl
accesses-append (sets preset ∷ acts) more = accesses-append acts more
accesses-append (does access ∷ acts) more = ap (λ rest. access ∷ rest) (accesses-append acts more)

presets-append : (acts more : List Act) → presets (acts ++ more) ≡ presets acts ++ presets more
presets-append [] more = refl
presets-append (sets preset ∷ acts) more = ap (λ rest. preset ∷ rest) (presets-append acts more)
presets-append (does access ∷ acts) more = presets-append acts more

no_more_acts : (device : Option Device) → device ≡ and_acts device []
no_more_acts None = refl
no_more_acts (Some device) = ap (λ acts. Some (record { rows = device.rows; acts = acts })) (sym (append-nil device.acts))

acts_in_turn : (device : Option Device) (acts more : List Act) → and_acts (and_acts device acts) more ≡ and_acts device (acts ++ more)
acts_in_turn None acts more = refl
acts_in_turn (Some device) acts more = ap (λ all. Some (record { rows = device.rows; acts = all })) (append_assoc device.acts acts more)

-- nothing was done
pub did_nothing : (told : BusTold) → Did told told []
did_nothing told = record {
  logged = sym (append-nil told.log);
  preset = sym (append-nil told.set);
  room = omega arith;
  fit = tt;
  kept = refl;
  grew = no_more_acts told.device;
  no_fault = refl;
}

-- acts were done, and then more
pub did_then : (old mid now : BusTold) (acts more : List Act) → Did old mid acts → Did mid now more → Did old now (acts ++ more)
did_then old mid now acts more a b = record {
  logged = b.logged ∙ ap (λ log. log ++ accesses more) a.logged ∙ append_assoc old.log (accesses acts) (accesses more) ∙ ap (λ all. old.log ++ all) (sym (accesses-append acts more));
  preset = b.preset ∙ ap (λ set. set ++ presets more) a.preset ∙ append_assoc old.set (presets acts) (presets more) ∙ ap (λ all. old.set ++ all) (sym (presets-append acts more));
  room = omega (arith, a.room, b.room, ap length (accesses-append acts more), length-append (accesses acts) (accesses more));
  fit = fit_in_turn old.gives acts more a.fit (subst (λ (gives : Gives). Fits gives more) a.kept b.fit);
  kept = b.kept ∙ ap (λ gives. Kept gives more) a.kept ∙ sym (kept_in_turn old.gives acts more);
  grew = b.grew ∙ ap (λ device. and_acts device more) a.grew ∙ acts_in_turn old.device acts more;
  no_fault = b.no_fault ∙ a.no_fault;
}
