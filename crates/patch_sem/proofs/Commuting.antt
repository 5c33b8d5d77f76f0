-- Commands at two parents that are apart.
use Rattle.std.proofs.Common.{◌≡◌, Bool, true, false, not, ◌&&◌, ◌||◌, nat_le, List, [], ◌∷◌, ◌++◌, map, Ok, refl, sym, ap, ap₂, ◌∙◌}
use Rattle.patch_model.specs.Acts.{Order}
use Rattle.svd_model.proofs.Steps.{same_step-tells}
use Rattle.svd_model.specs.Facts.{element_limit, elements_of}
use Rattle.svd_model.specs.Steps.{Step, same_step}
use Rattle.svd_rows.specs.LookUps.{inside, seen_below}
use Rattle.svd_rows.specs.Paths.{begins, exactly, is_within}
use Rattle.svd_rows.specs.RowEdits.{some_pass}
use Rattle.svd_rows.specs.Rows.{under_path}
use Rattle.svd_model.specs.Counting.{told_count}
use Rattle.svd_model.specs.declared.counted.Counted.TheVariants.{Elements}
use Rattle.patch_sem.specs.declared.fault.PatchFault.TheVariants.{TooMany}
use Rattle.patch_sem.proofs.Exchanges.{exchanged-apart, filter-exchanged}
use Rattle.patch_sem.proofs.Outcomes.{both_ok, not_refused}
use Rattle.patch_sem.specs.Laws.{AreApart}
use Rattle.patch_sem.specs.Patching.{acted, applied_at, put_inside, within_limit}
use Rattle.patch_sem.specs.Selecting.{Rows, kind_at}
use Rattle.patch_sem.specs.Steps.{Outcome}

abbrev leads : List Step → List Step → Bool
leads path other = begins (exactly same_step path) other

behind : (s t : Step) (b : Bool) → s ≡ t → (same_step s t && b) ≡ false → b ≡ false
behind s t b same e = sym (ap (λ (test : Bool). test && b) (ap (λ (u : Step). same_step u t) same ∙ same_step-tells.itself t)) ∙ e

-- what stands at or below one path doesn't stand at or below the other
elsewhere : (one other path : List Step) → leads one other ≡ false → leads other one ≡ false → leads one path ≡ true → leads other path ≡ false
unfolding begins
elsewhere [] other path forth back here = absurd cc
elsewhere (step ∷ one) [] path forth back here = absurd cc
elsewhere (step ∷ one) (next ∷ other) [] forth back here = refl
elsewhere (step ∷ one) (next ∷ other) (first ∷ path) forth back here = cases (same_step step first) (same_step next first) refl refl (elsewhere one other path) here
  where
    cases : (a b : Bool) → same_step step first ≡ a → same_step next first ≡ b → (leads one other ≡ false → leads other one ≡ false → leads one path ≡ true → leads other path ≡ false) → (a && leads one path) ≡ true → (b && leads other path) ≡ false
    cases a false is also more on = refl
    cases false true is also more on = absurd cc
    cases true true is also more on =
        let same : step ≡ next = same_step-tells.alone step first is ∙ sym (same_step-tells.alone next first also) in
        more (behind step next (leads one other) same forth) (behind next step (leads other one) (sym same) back) on

-- rows of one parent are none of the other
pub below : (path : List Step) (rest : List Step) → leads path (path ++ rest) ≡ true
unfolding begins
below [] rest = refl
below (step ∷ path) rest = ap (λ (b : Bool). b && leads path (path ++ rest)) (same_step-tells.itself step) ∙ below path rest

no_row : (one other : List Step) → AreApart one other → (all : Rows) → some_pass (is_within (exactly same_step other)) (map (under_path one) all) ≡ false
unfolding some_pass under_path
no_row one other apart [] = refl
no_row one other apart (row ∷ all) =
    ap₂ (λ (a b : Bool). a || b) (elsewhere one other (one ++ row.path) apart.forth apart.back (below one row.path)) (no_row one other apart all)

turned : {one other : List Step} → AreApart one other → AreApart other one
turned apart = record { forth = apart.back; back = apart.forth }

-- what one command leaves of the other's parent
pub inside-apart : (one other : List Step) → AreApart one other → (new all : Rows) → inside same_step other (put_inside one new all) ≡ inside same_step other all
unfolding inside put_inside
inside-apart one other apart new all =
    ap (map (seen_below other))
    (filter-exchanged (is_within (exactly same_step one)) (is_within (exactly same_step other)) (map (under_path one) new) (λ row. elsewhere other one row.path apart.back apart.forth) (no_row one other apart new) all)

pub put-apart : (one other : List Step) → AreApart one other → (new more all : Rows) → put_inside other more (put_inside one new all) ≡ put_inside one new (put_inside other more all)
unfolding put_inside
put-apart one other apart new more all =
    exchanged-apart (is_within (exactly same_step one)) (is_within (exactly same_step other)) (map (under_path one) new) (map (under_path other) more)
    (λ row. elsewhere one other row.path apart.forth apart.back) (λ row. elsewhere other one row.path apart.back apart.forth)
    (no_row one other apart new) (no_row other one (turned apart) more) all

-- a command went through: what it made of its parent's rows, and where that stands
pub record WentThrough (order : Order) (path : List Step) (all new : Rows) : Type 0 where
  pub made : Rows
  pub acts : acted order.line order.deed (kind_at path) (inside same_step path all) ≡ Ok made
  pub is : put_inside path made all ≡ new

pub went_through : (order : Order) (path : List Step) (all new : Rows) → applied_at order path all ≡ Ok new → WentThrough order path all new
unfolding applied_at within_limit
went_through order path all new e =
    let parts = both_ok (acted order.line order.deed (kind_at path) (inside same_step path all)) (λ made. within_limit (put_inside path made all)) new e in
    record {
      made = parts.0;
      acts = parts.1;
      is = not_refused (not (nat_le (elements_of (put_inside path parts.0 all)) element_limit)) (TooMany Elements (told_count (elements_of (put_inside path parts.0 all)))) (put_inside path parts.0 all) new parts.2;
    }

abbrev given : Rows → Outcome Rows
given x = Ok x

ok_is : (x y : Rows) → given x ≡ given y → x ≡ y
ok_is x y e = cc

same_made : (m : Outcome Rows) (x y : Rows) → m ≡ Ok x → m ≡ Ok y → x ≡ y
same_made m x y e f = ok_is x y (sym e ∙ f)

-- the same command at a parent of which nothing was changed
unchanged : (order : Order) (here there : List Step) → AreApart here there → (made all first second both : Rows) → put_inside here made all ≡ first → (one : WentThrough order there first both) → (other : WentThrough order there all second) → one.made ≡ other.made
unchanged order here there apart made all first second both is one other =
    same_made (acted order.line order.deed (kind_at there) (inside same_step there all)) one.made other.made
    (sym (ap (acted order.line order.deed (kind_at there)) (ap (inside same_step there) (sym is) ∙ inside-apart here there apart made all)) ∙ one.acts) other.acts

pub apart-commute : (one other : Order) (here there : List Step) (all first second both turned : Rows) → AreApart here there → applied_at one here all ≡ Ok first → applied_at other there first ≡ Ok both → applied_at other there all ≡ Ok second → applied_at one here second ≡ Ok turned → both ≡ turned
apart-commute one other here there all first second both turned_rows apart e f g h =
    let a = went_through one here all first e in
    let ab = went_through other there first both f in
    let b = went_through other there all second g in
    let ba = went_through one here second turned_rows h in
    let same_b = unchanged other here there apart a.made all first second both a.is ab b in
    let same_a = unchanged one there here (turned apart) b.made all second first turned_rows b.is ba a in
    sym ab.is
    ∙ ap₂ (λ (new old : Rows). put_inside there new old) same_b (sym a.is)
    ∙ put-apart here there apart a.made b.made all
    ∙ ap₂ (λ (new old : Rows). put_inside here new old) (sym same_a) b.is
    ∙ ba.is
