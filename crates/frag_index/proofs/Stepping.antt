-- What is found behind one accessor of a block.
use Rattle.std.proofs.Common.{◌≡◌, ℕ, List, Option, Some, None, IfSome, option_map, option_and_then, refl, sym, ap, subst, ◌∙◌}
use Rattle.std.specs.Prelude.{slice_get}
use Rattle.std.specs.Borrow.{Bor}
use Rattle.std.specs.Option.{option_copied}
use Rattle.std.proofs.lemmas.Option.{none-some, same_Some}
use Rattle.frag_rules.specs.Insides.{found_inside}
use Rattle.frag_sem.specs.CallPlaces.{access_named, count_of}
use Rattle.frag_sem.specs.PlaceTyping.{inner_named, inner_of}
use Rattle.frag_tree.specs.declared.access.Access.{Access}
use Rattle.frag_tree.specs.declared.block.Block.{Block}
use Rattle.frag_tree.specs.Trees.{BlockTree, ModuleTree, block_tree, one_block}
use Rattle.frag_index.specs.declared.site.Behind.{Behind}
use Rattle.frag_index.specs.declared.site.Inner.{Inner}
use Rattle.frag_index.specs.declared.site.Site.{Site}
use Rattle.frag_index.specs.Sites.{AllFit, AreNumbered, IsNumbered, LeadsBehind, SiteFits, StandsAt, inner_tree}
use Rattle.frag_index.proofs.Adding.{all-at}

-- what is found in a map of references, as the item
pub copied-now : {T : Type 0} (found : Option (Bor (Bor T))) (entry : Option (Bor T)) → option_copied found ≡ entry → option_map (λ (item : Bor (Bor T)). item.now.now) found ≡ option_map (λ (item : Bor T). item.now) entry
copied-now {T} found entry is = by found ∙ ap (option_map (λ (item : Bor T). item.now)) is
  where
    by : (o : Option (Bor (Bor T))) → option_map (λ (item : Bor (Bor T)). item.now.now) o ≡ option_map (λ (item : Bor T). item.now) (option_copied o)
    by None = refl
    by (Some x) = refl

pub found-behind : (sites : List Site) (site : Site) → SiteFits sites site → (access : Access) (unit : Bor Inner) (count : Option ℕ) → found_inside site.within.units access.element ≡ Some unit.now → count ≡ count_of (block_tree site.block.now) access
    → LeadsBehind sites (inner_of (block_tree site.block.now) access) (Some (record { count = count; unit = unit }))
found-behind sites site fits access unit count found count_is = record {
  same =
      ap (λ n. Some (record { count = n; tree = inner_tree unit.now })) count_is
      ∙ ap (option_map (λ tree. record { count = count_of (block_tree site.block.now) access; tree = tree })) (ap (option_map inner_tree) (sym found) ∙ fits.inside.units_are access.element);
  numbered = subst (λ (o : Option Inner). AreNumbered sites o) found (fits.inside.numbered access.element);
}

pub none-behind : (sites : List Site) (site : Site) → SiteFits sites site → (access : Access) → found_inside site.within.units access.element ≡ None → LeadsBehind sites (inner_of (block_tree site.block.now) access) None
none-behind sites site fits access none = record {
  same = ap (option_map (λ tree. record { count = count_of (block_tree site.block.now) access; tree = tree })) (ap (option_map inner_tree) (sym none) ∙ fits.inside.units_are access.element);
  numbered = tt;
}

pub named-behind : (sites : List Site) (unit : BlockTree) (name : List ℕ) (access : Access) (found : Option Behind) → access_named name unit.head.accessors ≡ Some access → LeadsBehind sites (inner_of unit access) found → LeadsBehind sites (inner_named (one_block unit) name) found
named-behind sites unit name access found is leads = subst (λ (o : Option Access). LeadsBehind sites (option_and_then (inner_of unit) o) found) (sym is) leads

pub none-named : (sites : List Site) (unit : BlockTree) (name : List ℕ) → access_named name unit.head.accessors ≡ None → LeadsBehind sites (inner_named (one_block unit) name) None
none-named sites unit name none = record { same = ap (option_and_then (inner_of unit)) (sym none); numbered = tt }

-- a module that is lent
pub lent-tree : (found : Option (Bor Inner)) (unit : Option Inner) → option_copied found ≡ unit → option_map (λ (unit : Bor Inner). inner_tree unit.now) found ≡ option_map inner_tree unit
lent-tree found unit is = by found ∙ ap (option_map inner_tree) is
  where
    by : (o : Option (Bor Inner)) → option_map (λ (unit : Bor Inner). inner_tree unit.now) o ≡ option_map inner_tree (option_copied o)
    by None = refl
    by (Some x) = refl

pub lent-numbered : (sites : List Site) (found : Option (Bor Inner)) (unit : Option Inner) → option_copied found ≡ unit → AreNumbered sites unit → IfSome found (λ unit. IsNumbered sites unit.now)
lent-numbered sites found unit is has = by found (subst (λ (o : Option Inner). AreNumbered sites o) (sym is) has)
  where
    by : (o : Option (Bor Inner)) → AreNumbered sites (option_copied o) → IfSome o (λ unit. IsNumbered sites unit.now)
    by None has = tt
    by (Some x) has = has

-- a register has no accessors
pub none-on-register : (sites : List Site) (unit : Inner) (lent : Inner) (name : List ℕ) (tree : ModuleTree) → inner_named tree name ≡ None → inner_tree unit ≡ tree → LeadsBehind sites (inner_named (inner_tree unit) name) None
none-on-register sites unit lent name tree none is = record { same = sym (ap (λ (tree : ModuleTree). inner_named tree name) is ∙ none); numbered = tt }

-- ---- the site of a block

pub site-of-block : (sites : List Site) (unit : Block) (number : ℕ) (site : Site) → StandsAt sites unit number → Some site ≡ slice_get sites number → site.block.now ≡ unit
site-of-block sites unit number site stands is = ap (λ (site : Site). site.block.now) (same_Some site stands.site (is ∙ stands.there)) ∙ stands.of_block

pub no-site : {A : Type 0} (sites : List Site) (unit : Block) (number : ℕ) → StandsAt sites unit number → None ≡ slice_get sites number → A
no-site sites unit number stands none = absurd (none-some stands.site (none ∙ stands.there))

pub site-fits : (sites : List Site) (number : ℕ) (site : Site) → AllFit sites → Some site ≡ slice_get sites number → SiteFits sites site
site-fits sites number site all is = all-at (SiteFits sites) sites number site all (sym is)
