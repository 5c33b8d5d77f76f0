-- Names from an element out to its peripheral, and those of its path.
use Rattle.std.proofs.Common.{◌≡◌, ◌⊎◌, inl, inr, ℕ, zero, suc, ◌+◌, ◌<◌, ◌≤◌, List, [], ◌∷◌, ◌++◌, map, reverse, length, get_or, Option, None, Some, refl, sym, ap, ap₂, ◌∙◌, subst, arith, append_assoc, append-nil}
use Rattle.std.proofs.lemmas.Bool.{cases_lt}
use Rattle.std.proofs.lemmas.Grind.{flat_map-append}
use Rattle.std.proofs.lemmas.List.{reverse-append, get_or_past}
use Rattle.derive_build.specs.declared.own.Own.{Own}
use Rattle.derive_from.specs.Names.{name_by, told_own, told_item, AreListed}
use Rattle.derive_from.specs.Refusals.{told_name, told_names}
use Rattle.derive_sources.specs.declared.entry.Entry.{Entry}
use Rattle.derive_sources.specs.Entries.{plain}
use Rattle.derive_sources.specs.Numbers.{Item, Rows, item_at, path_at, no_item}
use Rattle.derive_sources.proofs.Seats.{Seat, as_many, seat, depth}
use Rattle.svd_model.specs.Stating.{paths_of}
use Rattle.svd_model.specs.Steps.{Step, Kind, peripheral, cluster, register, field, set, value}

-- the path of a number, the device's where there is none
abbrev pub path_here : Rows → Option ℕ → List Step
path_here all None = []
path_here all (Some e) = path_at all e

get_or-each : {X Y : Type 0} (f : X → Y) (xs : List X) (e : ℕ) (d : X) → get_or (map f xs) e (f d) ≡ f (get_or xs e d)
get_or-each f [] e d = refl
get_or-each f (x ∷ xs) zero d = refl
get_or-each f (x ∷ xs) (suc e) d = get_or-each f xs e d

names-push : (path : List Step) (step : Step) → told_names (path ++ step ∷ []) ≡ told_names path ++ told_name step.kind step.name
unfolding told_names
names-push path step = flat_map-append (λ (s : Step). told_name s.kind s.name) path (step ∷ []) ∙ ap (λ r. told_names path ++ r) (append-nil (told_name step.kind step.name))

-- one name at most, the same in both orders
same_turned : (kind : Option Kind) (name : List ℕ) → reverse (name_by kind name) ≡ name_by kind name
same_turned None name = refl
same_turned (Some peripheral) name = refl
same_turned (Some cluster) name = refl
same_turned (Some register) name = refl
same_turned (Some field) name = refl
same_turned (Some set) name = refl
same_turned (Some value) name = refl

module _ (all : Rows) (entries : List Entry) (owns : List Own) (are : AreListed all entries owns) where
  abbrev items : List Item
  items = map plain entries

  -- the path of an element is that of its parent, with the name that it adds
  names_there : (e : ℕ) → told_names (path_at all e) ≡ told_names (path_here all (item_at items e).parent) ++ told_item (item_at items e)
  unfolding told_names
  names_there e = at (cases_lt e (length items))
    where
      seated : (parent : Option ℕ) → Seat (paths_of all) e (path_at all e) (item_at items e) parent → told_names (path_at all e) ≡ told_names (path_here all parent) ++ told_item (item_at items e)
      seated None h = ap told_names h.0 ∙ sym (ap (λ kind. name_by kind (item_at items e).name) h.1)
      seated (Some p) h =
          ap told_names h.is ∙ names-push (path_at all p) h.step
          ∙ ap (λ r. told_names (path_at all p) ++ r) (sym (ap₂ name_by h.kind h.name))

      at : (e < length items) ⊎ (length items ≤ e) → told_names (path_at all e) ≡ told_names (path_here all (item_at items e).parent) ++ told_item (item_at items e)
      at (inl inside) = seated (item_at items e).parent (seat all items are.numbered e inside)
      at (inr past) =
          ap told_names (get_or_past (paths_of all) e [] (omega (arith, past, as_many all items are.numbered)))
          ∙ sym (ap (λ (item : Item). told_names (path_here all item.parent) ++ told_item item) (get_or_past items e no_item past))

  -- one step further out
  pub further_out : (here parent : Option ℕ) (e : ℕ) (way longer more whole : List (List ℕ)) → here ≡ Some e → parent ≡ (item_at items e).parent → more ≡ get_or (map told_own owns) e [] → longer ≡ way ++ more
      → told_names (path_here all here) ++ reverse way ≡ whole → told_names (path_here all parent) ++ reverse longer ≡ whole
  further_out here parent e way longer more whole is above got went before =
      ap₂ (λ p l. told_names (path_here all p) ++ reverse l) above (went ∙ ap (λ r. way ++ r) known)
      ∙ ap (λ r. told_names (path_here all (item_at items e).parent) ++ r) (reverse-append way (told_item (item_at items e)) ∙ ap (λ r. r ++ reverse way) (same_turned (item_at items e).kind (item_at items e).name))
      ∙ sym (append_assoc (told_names (path_here all (item_at items e).parent)) (told_item (item_at items e)) (reverse way))
      ∙ ap (λ r. r ++ reverse way) (sym (names_there e))
      ∙ ap (λ p. told_names (path_here all p) ++ reverse way) (sym is)
      ∙ before
    where
      known : more ≡ told_item (item_at items e)
      known = got ∙ ap (λ l. get_or l e []) are.named ∙ get_or-each told_item items e no_item

  pub less_far : (here parent : Option ℕ) (e : ℕ) → here ≡ Some e → parent ≡ (item_at items e).parent → depth parent < depth here
  less_far here parent e is above = subst (λ p. depth p < depth here) (sym above) (subst (λ h. depth (item_at items e).parent < depth h) (sym is) (at (cases_lt e (length items))))
    where
      seated : (parent : Option ℕ) → Seat (paths_of all) e (path_at all e) (item_at items e) parent → depth parent < e + 1
      seated None h = omega arith
      seated (Some p) h = omega (arith, h.earlier)

      at : (e < length items) ⊎ (length items ≤ e) → depth (item_at items e).parent < e + 1
      at (inl inside) = seated (item_at items e).parent (seat all items are.numbered e inside)
      at (inr past) = subst (λ (item : Item). depth item.parent < e + 1) (sym (get_or_past items e no_item past)) (omega arith)
