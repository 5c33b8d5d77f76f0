-- Accessors sought among the rows of siblings.
use Rattle.std.proofs.Common.{ℕ, zero, suc, ◌≡◌, ◌+◌, Bool, true, false, cond, ◌&&◌, ◌||◌, List, [], ◌∷◌, ◌++◌, map, find, flat_map, Option, Some, None, option_map, option_and_then, bytes_eq, refl, sym, ap, ap₂, ◌∙◌, arith}
use Rattle.std.specs.Cmp.Lexicographic.{pointwise}
use Rattle.std.specs.Prelude.{nat_le, nat_lt, ◌==◌}
use Rattle.std.specs.Option.{option_or}
use Rattle.std.specs.List.{list_any, range_with_len}
use Rattle.std.proofs.lemmas.Bool.{or_parts, false≢true}
use Rattle.std.proofs.lemmas.Bool.Decides.{nat_tests}
use Rattle.std.proofs.lemmas.List.Folds.{find-append}
use Rattle.frag_tree.specs.declared.statement.Call.{Call}
use Rattle.frag_sem.specs.CallPlaces.{admits}
use Rattle.frag_sem.specs.Meaning.{ActsAt}
use Rattle.frag_sem.specs.Modules.{are_distinct}
use Rattle.frag_sem.specs.Presets.{same_index, same_step}
use Rattle.frag_sem.proofs.Lists.{found_map}
use Rattle.reg_table.specs.Registers.{register_row}
use Rattle.reg_table.specs.Walk.{props_inside}
use Rattle.reg_table.specs.declared.row.Row.{Row as TableRow}
use Rattle.svd_model.specs.declared.props.Props.{Props}
use Rattle.svd_model.specs.Keys.{Key}
use Rattle.svd_model.specs.Stating.{value_of, stated_dim, indexes_of, is_of, start_of}
use Rattle.svd_model.specs.Steps.{Step, peripheral, cluster, register}
use Rattle.svd_rows.specs.Forest.{Forest, leaf, node}
use Rattle.svd_rows.specs.Rows.{rows}
use Rattle.svd_values.specs.AccessorNames.{accessor_name}
use Rattle.table_sem.specs.Names.{is_named}
use Rattle.table_sem.specs.RowActs.{row_acts, row_found}
use Rattle.table_sem.specs.TableMeaning.{place_of}
use Rattle.table_sem.specs.TableSurface.{no_path}
use Rattle.crate_means.proofs.Named.{Element, NoneNamed, element_named, names_by, sought, sought-named}

-- ---- rows as they are seen from a block

-- a row seen from one step further out
abbrev pub behind : List ℕ → Option ℕ → TableRow → TableRow
behind name index row = record row { path = record { slot = row.path.slot; steps = record { name = name; index = index } ∷ row.path.steps } }

-- the rows of one member of an element, seen from there
abbrev pub member_here : ℕ → Props → Bool → List Key → Forest Step Key → List TableRow → List TableRow
member_here address props is_register keys children inner = cond is_register (register_row no_path address props (rows (record { keys = keys; below = children })) ∷ []) [] ++ inner

-- the rows of the registers among siblings and below them, seen from the block that they are in
unfoldable pub rows_here : ℕ → Props → Forest Step Key → List TableRow
rows_here start outer leaf = []
rows_here start outer (node step keys children others) =
    flat_map (λ index.
    map (behind (accessor_name step.name) index)
    (member_here (start + start_of keys index) (props_inside keys outer) (is_of register step) keys children (rows_here (start + start_of keys index) (props_inside keys outer) children))) (indexes_of (value_of stated_dim keys))
    ++ rows_here start outer others

-- the row has these steps
abbrev pub has_steps : List Call → TableRow → Bool
has_steps steps row = pointwise same_step steps (place_of row.path).steps

-- what stands at steps among rows
abbrev pub seek : List Call → List TableRow → Option ActsAt
seek steps table = option_map row_found (find (has_steps steps) table)

-- ---- seeking

map-or : {X Y : Type 0} (f : X → Y) (o p : Option X) → option_map f (option_or o p) ≡ option_or (option_map f o) (option_map f p)
map-or f None p = refl
map-or f (Some x) p = refl

pub found-append : (test : TableRow → Bool) (xs ys : List TableRow) → option_map row_found (find test (xs ++ ys)) ≡ option_or (option_map row_found (find test xs)) (option_map row_found (find test ys))
found-append test xs ys = ap (option_map row_found) (find-append test xs ys) ∙ map-or row_found (find test xs) (find test ys)

find-none : {X : Type 0} (xs : List X) → find (λ x. false) xs ≡ None
find-none [] = refl
find-none (x ∷ xs) = find-none xs

-- a test of which a part is the same for all
pub found-if : (b : Bool) (test : TableRow → Bool) (table : List TableRow) → option_map row_found (find (λ row. b && test row) table) ≡ cond b (option_map row_found (find test table)) None
found-if true test table = refl
found-if false test table = ap (option_map row_found) (find-none table)

found-behind : (name : List ℕ) (index : Option ℕ) (o : Option TableRow) → option_map row_found (option_map (behind name index) o) ≡ option_map row_found o
unfolding row_acts
found-behind name index None = refl
found-behind name index (Some row) = refl

-- rows behind a step are found where that is the first one
seek-behind : (s : Call) (rest : List Call) (name : List ℕ) (index : Option ℕ) (table : List TableRow) → seek (s ∷ rest) (map (behind name index) table) ≡ cond (bytes_eq s.name name && same_index s.index index) (seek rest table) None
seek-behind s rest name index table =
    ap (option_map row_found) (found_map (has_steps (s ∷ rest)) (behind name index) table)
    ∙ found-behind name index (find (λ row. (bytes_eq s.name name && same_index s.index index) && has_steps rest row) table)
    ∙ found-if (bytes_eq s.name name && same_index s.index index) (has_steps rest) table

-- without steps none of them is found
seek-nothing : (name : List ℕ) (index : Option ℕ) (table : List TableRow) → seek [] (map (behind name index) table) ≡ None
seek-nothing name index table =
    ap (option_map row_found) (found_map (has_steps []) (behind name index) table ∙ ap (option_map (behind name index)) (find-none table))

-- ---- members

same-or : {X : Type 0} (o : Option X) (b : Bool) → option_or o (cond b o None) ≡ o
same-or None true = refl
same-or None false = refl
same-or (Some x) b = refl

nat-same : (a b : ℕ) → (a == b) ≡ true → a ≡ b
nat-same a b h = grind (arith, nat_tests)

index-same : (one other : Option ℕ) → same_index one other ≡ true → one ≡ other
index-same None None h = refl
index-same None (Some b) h = absurd (false≢true h)
index-same (Some a) None h = absurd (false≢true h)
index-same (Some a) (Some b) h = ap Some (nat-same a b h)

-- of the members of an element the one of the index is found
seek-members : (s : Call) (rest : List Call) (name : List ℕ) (member : Option ℕ → List TableRow) (indexes : List (Option ℕ)) → seek (s ∷ rest) (flat_map (λ index. map (behind name index) (member index)) indexes) ≡ cond (bytes_eq s.name name) (cond (list_any (same_index s.index) indexes) (seek rest (member s.index)) None) None
seek-members s rest name member [] = by (bytes_eq s.name name)
  where
    by : (b : Bool) → None ≡ cond b (cond false (seek rest (member s.index)) None) None
    by true = refl
    by false = refl
seek-members s rest name member (index ∷ indexes) =
    found-append (has_steps (s ∷ rest)) (map (behind name index) (member index)) (flat_map (λ index. map (behind name index) (member index)) indexes)
    ∙ ap₂ option_or (seek-behind s rest name index (member index)) (seek-members s rest name member indexes)
    ∙ by (bytes_eq s.name name) (same_index s.index index) refl
  where
    by : (b c : Bool) → same_index s.index index ≡ c → option_or (cond (b && c) (seek rest (member index)) None) (cond b (cond (list_any (same_index s.index) indexes) (seek rest (member s.index)) None) None) ≡ cond b (cond (c || list_any (same_index s.index) indexes) (seek rest (member s.index)) None) None
    by false c e = refl
    by true false e = refl
    by true true e =
        let is = index-same s.index index e in
        ap (λ i. option_or (seek rest (member i)) (cond (list_any (same_index s.index) indexes) (seek rest (member s.index)) None)) (sym is)
        ∙ same-or (seek rest (member s.index)) (list_any (same_index s.index) indexes)

-- an index is one of the members' exactly where the count admits it
any-from : (a n i : ℕ) → list_any (same_index (Some i)) (map Some (range_with_len a n)) ≡ (nat_le a i && nat_lt i (a + n))
any-from a zero i = grind (arith, nat_tests)
any-from a (suc n) i = ap (λ b. (i == a) || b) (any-from (a + 1) n i) ∙ grind (arith, nat_tests)

none-from : (a n : ℕ) → list_any (same_index None) (map Some (range_with_len a n)) ≡ false
none-from a zero = refl
none-from a (suc n) = none-from (a + 1) n

any-admits : (dim index : Option ℕ) → list_any (same_index index) (indexes_of dim) ≡ admits dim index
any-admits None None = refl
any-admits None (Some i) = refl
any-admits (Some n) None = none-from 0 n
any-admits (Some n) (Some i) = any-from 0 n i ∙ grind (arith, nat_tests)

-- ---- siblings

-- the rows of one member of an element
abbrev pub member_rows : ℕ → Props → Element → Option ℕ → List TableRow
member_rows start outer e index =
    member_here (start + start_of e.keys index) (props_inside e.keys outer) (is_of register e.step) e.keys e.children (rows_here (start + start_of e.keys index) (props_inside e.keys outer) e.children)

-- what stands at steps of which the first leads to a member of this element
abbrev pub in_member : Call → List Call → ℕ → Props → Element → Option ActsAt
in_member s rest start outer e = cond (admits (value_of stated_dim e.keys) s.index) (seek rest (member_rows start outer e s.index)) None

seek-all : (s : Call) (rest : List Call) (start : ℕ) (outer : Props) (f : Forest Step Key) → seek (s ∷ rest) (rows_here start outer f) ≡ sought accessor_name s.name (in_member s rest start outer) f
unfolding rows_here
seek-all s rest start outer leaf = refl
seek-all s rest start outer (node step keys children others) =
    found-append (has_steps (s ∷ rest)) (flat_map (λ index. map (behind (accessor_name step.name) index) (member_rows start outer e index)) (indexes_of (value_of stated_dim keys))) (rows_here start outer others)
    ∙ ap₂ option_or
    (seek-members s rest (accessor_name step.name) (member_rows start outer e) (indexes_of (value_of stated_dim keys))
    ∙ ap (λ b. cond (bytes_eq s.name (accessor_name step.name)) (cond b (seek rest (member_rows start outer e s.index)) None) None) (any-admits (value_of stated_dim keys) s.index))
    (seek-all s rest start outer others)
  where
    e : Element
    e = record { step = step; keys = keys; children = children }

-- the first step leads to the element of that name, and there to the member of that index
pub seek-here : (s : Call) (rest : List Call) (start : ℕ) (outer : Props) (f : Forest Step Key) → are_distinct bytes_eq (names_by accessor_name f) ≡ true → seek (s ∷ rest) (rows_here start outer f) ≡ option_and_then (in_member s rest start outer) (element_named accessor_name s.name f)
seek-here s rest start outer f distinct = seek-all s rest start outer f ∙ sought-named accessor_name s.name (in_member s rest start outer) f distinct

-- without steps none of the rows is found
pub seek-nowhere : (start : ℕ) (outer : Props) (f : Forest Step Key) → seek [] (rows_here start outer f) ≡ None
unfolding rows_here
seek-nowhere start outer leaf = refl
seek-nowhere start outer (node step keys children others) =
    found-append (has_steps []) (flat_map (λ index. map (behind (accessor_name step.name) index) (member_rows start outer e index)) (indexes_of (value_of stated_dim keys))) (rows_here start outer others)
    ∙ ap₂ option_or (each (indexes_of (value_of stated_dim keys))) (seek-nowhere start outer others)
  where
    e : Element
    e = record { step = step; keys = keys; children = children }

    each : (indexes : List (Option ℕ)) → seek [] (flat_map (λ index. map (behind (accessor_name step.name) index) (member_rows start outer e index)) indexes) ≡ None
    each [] = refl
    each (index ∷ indexes) =
        found-append (has_steps []) (map (behind (accessor_name step.name) index) (member_rows start outer e index)) (flat_map (λ index. map (behind (accessor_name step.name) index) (member_rows start outer e index)) indexes)
        ∙ ap₂ option_or (seek-nothing (accessor_name step.name) index (member_rows start outer e index)) (each indexes)

-- ---- no register

no-register : (step : Step) → is_named step ≡ false → is_of register step ≡ false
no-register step h = (or_parts (is_of cluster step) (is_of register step) (or_parts (is_of peripheral step) (is_of cluster step || is_of register step) h).1).1

-- where there is no register, there is no row
pub no-rows : (start : ℕ) (outer : Props) (f : Forest Step Key) → NoneNamed f → rows_here start outer f ≡ []
unfolding rows_here NoneNamed
no-rows start outer leaf none = refl
no-rows start outer (node step keys children others) none =
    ap₂ (λ xs ys. xs ++ ys) (each (λ index. no-rows (start + start_of keys index) (props_inside keys outer) children none.1) (indexes_of (value_of stated_dim keys))) (no-rows start outer others none.2)
  where
    each : ((index : Option ℕ) → rows_here (start + start_of keys index) (props_inside keys outer) children ≡ []) → (indexes : List (Option ℕ)) → flat_map (λ index. map (behind (accessor_name step.name) index) (member_here (start + start_of keys index) (props_inside keys outer) (is_of register step) keys children (rows_here (start + start_of keys index) (props_inside keys outer) children))) indexes ≡ []
    each empty [] = refl
    each empty (index ∷ indexes) =
        ap₂ (λ xs ys. xs ++ ys)
        (ap₂ (λ b inner. map (behind (accessor_name step.name) index) (member_here (start + start_of keys index) (props_inside keys outer) b keys children inner)) (no-register step none.0) (empty index))
        (each empty indexes)
