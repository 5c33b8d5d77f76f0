-- The surface of flat rows is that of a walk of the tree.
use Rattle.std.proofs.Common.{suc, ◌≡◌, Bool, true, false, cond, List, [], ◌∷◌, ◌++◌, length, map, filter, Some, None, refl, sym, ap, ap₂, ◌∙◌, arith}
use Rattle.std.proofs.lemmas.List.{map-append}
use Rattle.std.proofs.lemmas.List.Elements.{filter-append}
use Rattle.frag_sem.specs.Surfaces.{Entry}
use Rattle.reg_table.specs.Registers.{register_row}
use Rattle.reg_table.specs.Walk.{props_inside}
use Rattle.reg_table.proofs.Tables.{device-holds, distinct-steps, ends-with, length-snoc, properties-down}
use Rattle.svd_model.specs.Keys.{Key}
use Rattle.svd_model.specs.Stating.{is_of, properties_of}
use Rattle.svd_model.specs.Steps.{Step, register}
use Rattle.svd_model.specs.Trees.{device_places, device_tree}
use Rattle.svd_model.specs.Visits.{Visit, visit_below, visits}
use Rattle.svd_model.proofs.Walking.{walk-rows}
use Rattle.svd_rows.specs.Forest.{Forest, leaf, node}
use Rattle.svd_rows.specs.LookUps.{ends_with}
use Rattle.svd_rows.specs.Ranks.{stated}
use Rattle.svd_rows.specs.Rows.{rows}
use Rattle.svd_values.specs.AccessorNames.{slot_name_of}
use Rattle.table_sem.specs.Laws.{SurfaceByWalk, SurfaceIsNamed, name_of_entry}
use Rattle.table_sem.specs.Names.{accessor_of, accessors_on, is_named, named, named_visits, names_of}
use Rattle.table_sem.specs.SurfaceWalk.{entries_in, entries_of_peripherals, own_entry, peripheral_name}
use Rattle.table_sem.specs.TableSurface.{entry_of, no_path, row_calls, table_surface, visit_entry}

-- ---- names

pub surface_is_named : SurfaceIsNamed
unfolding table_surface names_of
surface_is_named all = each (named_visits all)
  where
    each : (list : List Visit) → map name_of_entry (map visit_entry list) ≡ map (λ visit. named visit.path visit.down) list
    each [] = refl
    each (visit ∷ list) = ap (λ others. named visit.path visit.down ∷ others) (each list)

-- ---- a list of visits

-- the entries of those that are named
abbrev entries : List Visit → List Entry
entries list = map visit_entry (filter (λ visit. ends_with is_named visit.path) list)

entries-append : (xs ys : List Visit) → entries (xs ++ ys) ≡ entries xs ++ entries ys
entries-append xs ys =
    ap (map visit_entry) (filter-append (λ visit. ends_with is_named visit.path) xs ys)
    ∙ map-append visit_entry (filter (λ visit. ends_with is_named visit.path) xs) (filter (λ visit. ends_with is_named visit.path) ys)

-- an element, the elements below it, and those behind it
entries-parts : (x : Visit) (ys zs : List Visit) → entries (x ∷ (ys ++ zs)) ≡ entries (x ∷ []) ++ (entries ys ++ entries zs)
entries-parts x ys zs = entries-append (x ∷ []) (ys ++ zs) ∙ ap (λ others. entries (x ∷ []) ++ others) (entries-append ys zs)

-- ---- siblings

one_more : {X Y : Type 0} (xs : List X) (x : X) (ys : List Y) (y : Y) → length xs ≡ length ys → length (xs ++ x ∷ []) ≡ length (ys ++ y ∷ [])
one_more xs x ys y e = length-snoc xs x ∙ ap suc e ∙ sym (length-snoc ys y)

accessors-down : (path : List Step) (down : List (List Key)) (step : Step) (keys : List Key) → length path ≡ length down → accessors_on (path ++ step ∷ []) (down ++ keys ∷ []) ≡ accessors_on path down ++ accessor_of step keys ∷ []
accessors-down [] [] step keys e = refl
accessors-down [] (other ∷ down) step keys e = absurd (omega (arith, e))
accessors-down (first ∷ path) [] step keys e = absurd (omega (arith, e))
accessors-down (first ∷ path) (other ∷ down) step keys e = ap (λ others. accessor_of first other ∷ others) (accessors-down path down step keys (omega (arith, e)))

-- an element by itself
visit-by : (visit : Visit) (has : Bool) → ends_with is_named visit.path ≡ has → entries (visit ∷ []) ≡ cond has (visit_entry visit ∷ []) []
visit-by visit has is = ap (λ b. map visit_entry (cond b (visit ∷ []) [])) is ∙ by has
  where
    by : (b : Bool) → map visit_entry (cond b (visit ∷ []) []) ≡ cond b (visit_entry visit ∷ []) []
    by true = refl
    by false = refl

visit-entry : (first : Step) (path : List Step) (a b : List Key) (down : List (List Key)) (step : Step) (keys : List Key) (children : Forest Step Key) → length path ≡ length down
    → entries (visit_below (first ∷ path) (a ∷ b ∷ down) step keys children ∷ [])
    ≡ own_entry (record { slot = slot_name_of first.name; accessors = accessors_on path down ++ accessor_of step keys ∷ [] }) (props_inside keys (properties_of (a ∷ b ∷ down))) step keys children
visit-entry first path a b down step keys children same =
    visit-by (visit_below (first ∷ path) (a ∷ b ∷ down) step keys children) (is_named step) (ends-with is_named (first ∷ path) step)
    ∙ ap (λ entry. cond (is_named step) (entry ∷ []) [])
    (λ i. entry_of (record { slot = slot_name_of first.name; accessors = accessors-down path down step keys same i }) (cond (ends-with (is_of register) (first ∷ path) step i) (Some (row_calls (register_row no_path 0 (properties-down (a ∷ b ∷ down) keys i) (rows (record { keys = keys; below = children }))))) None))

siblings-entries : (first : Step) (path : List Step) (a b : List Key) (down : List (List Key)) (f : Forest Step Key) → length path ≡ length down
    → entries (visits (first ∷ path) (a ∷ b ∷ down) f) ≡ entries_in (record { slot = slot_name_of first.name; accessors = accessors_on path down }) (properties_of (a ∷ b ∷ down)) f
unfolding visits entries_in
siblings-entries first path a b down leaf same = refl
siblings-entries first path a b down (node step keys children others) same =
    entries-parts (visit_below (first ∷ path) (a ∷ b ∷ down) step keys children) (visits (first ∷ (path ++ step ∷ [])) (a ∷ b ∷ (down ++ keys ∷ [])) children) (visits (first ∷ path) (a ∷ b ∷ down) others)
    ∙ ap₂ (λ xs ys. xs ++ ys) (visit-entry first path a b down step keys children same)
    (ap₂ (λ xs ys. xs ++ ys)
    (siblings-entries first (path ++ step ∷ []) a b (down ++ keys ∷ []) children (one_more path step down keys same)
    ∙ ap₂ (λ accessors props. entries_in (record { slot = slot_name_of first.name; accessors = accessors }) props children) (accessors-down path down step keys same) (properties-down (a ∷ b ∷ down) keys))
    (siblings-entries first path a b down others same))

-- ---- peripherals

peripheral-entry : (d : List Key) (step : Step) (keys : List Key) (children : Forest Step Key) → entries (visit_below [] (d ∷ []) step keys children ∷ []) ≡ own_entry (peripheral_name step) (props_inside keys (properties_of (d ∷ []))) step keys children
peripheral-entry d step keys children =
    visit-by (visit_below [] (d ∷ []) step keys children) (is_named step) (ends-with is_named [] step)
    ∙ ap (λ entry. cond (is_named step) (entry ∷ []) [])
    (λ i. entry_of (peripheral_name step) (cond (ends-with (is_of register) [] step i) (Some (row_calls (register_row no_path 0 (properties-down (d ∷ []) keys i) (rows (record { keys = keys; below = children }))))) None))

peripherals-entries : (d : List Key) (f : Forest Step Key) → entries (visits [] (d ∷ []) f) ≡ entries_of_peripherals (properties_of (d ∷ [])) f
unfolding visits entries_of_peripherals
peripherals-entries d leaf = refl
peripherals-entries d (node step keys children others) =
    entries-parts (visit_below [] (d ∷ []) step keys children) (visits (step ∷ []) (d ∷ keys ∷ []) children) (visits [] (d ∷ []) others)
    ∙ ap₂ (λ xs ys. xs ++ ys) (peripheral-entry d step keys children)
    (ap₂ (λ xs ys. xs ++ ys)
    (siblings-entries step [] d keys [] children refl ∙ ap (λ props. entries_in (peripheral_name step) props children) (properties-down (d ∷ []) keys))
    (peripherals-entries d others))

pub surface_by_walk : SurfaceByWalk
unfolding table_surface named_visits device_tree ends_with
surface_by_walk device unfolded =
    ap entries (walk-rows (device_tree device) (distinct-steps device unfolded))
    ∙ peripherals-entries (stated (device_places device)) (device_tree device).below
    ∙ ap (λ props. entries_of_peripherals props (device_tree device).below) (device-holds device)
