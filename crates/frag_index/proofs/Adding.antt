-- Sites as they are added, one after the other.
use Rattle.std.proofs.Common.{◌≡◌, ℕ, zero, suc, Bool, true, false, List, [], ◌∷◌, ◌++◌, map, length, Option, Some, None, option_map, refl, sym, ap, subst, ◌∙◌, append_assoc, append-nil, if◌then◌else◌}
use Rattle.std.specs.Prelude.{slice_get}
use Rattle.std.specs.Borrow.{Bor}
use Rattle.std.specs.List.{AllByRecursion}
use Rattle.std.specs.Map.{lookup}
use Rattle.std.specs.Option.{option_or}
use Rattle.std.specs.Str.{bytes_eq}
use Rattle.std.proofs.lemmas.Option.{none-some, same_Some}
use Rattle.frag_rules.specs.Elements.{element_of}
use Rattle.frag_rules.specs.Insides.{found_inside, holds_nothing}
use Rattle.frag_rules.specs.Measures.{HasLaid, measure_seen, measured}
use Rattle.frag_rules.specs.declared.inside.Inside.{Inside}
use Rattle.frag_rules.specs.declared.measure.Measure.{Measure}
use Rattle.frag_rules.proofs.Insides.{KnowsBefore, knows-begin, knows-done, knows-more}
use Rattle.frag_sem.specs.Modules.{module_of, same_element, top_block}
use Rattle.frag_tree.specs.declared.block.Block.{Block}
use Rattle.frag_tree.specs.declared.block.Element.{Element}
use Rattle.frag_tree.specs.declared.block.Element.TheVariants as element
use Rattle.frag_tree.specs.declared.block.Module.{Module}
use Rattle.frag_tree.specs.declared.register.RegisterModule.{RegisterModule}
use Rattle.frag_tree.specs.Trees.{BlockTree, Modules, ModuleTree, block_tree, in_line, module_tree, one_block, one_register}
use Rattle.frag_index.specs.declared.built.Tops.{Tops}
use Rattle.frag_index.specs.declared.site.Added.{Added}
use Rattle.frag_index.specs.declared.site.Inner.{Inner}
use Rattle.frag_index.specs.declared.site.Inner.TheVariants as inner
use Rattle.frag_index.specs.declared.site.Site.{Site}
use Rattle.frag_index.specs.declared.site.Within.{Within}
use Rattle.frag_index.specs.Sites.{Adds, AddsAll, AddsTop, AllFit, AreNumbered, Grown, HoldsNothing, IsAdded, IsNumbered, IsSiteOf, SiteFits, TopsFit, WithinFits, inner_tree}

-- ---- lists that grow

slot-grown : {A : Type 0} (xs more : List A) (n : ℕ) (x : A) → slice_get xs n ≡ Some x → slice_get (xs ++ more) n ≡ Some x
slot-grown [] more zero x is = absurd (none-some x is)
slot-grown [] more (suc n) x is = absurd (none-some x is)
slot-grown (y ∷ xs) more zero x is = is
slot-grown (y ∷ xs) more (suc n) x is = slot-grown xs more n x is

last-there : {A : Type 0} (xs : List A) (x : A) → slice_get (xs ++ x ∷ []) (length xs) ≡ Some x
last-there [] x = refl
last-there (y ∷ xs) x = last-there xs x

all-one-more : {A : Type 0} (P : A → Type 0) (xs : List A) (x : A) → AllByRecursion P xs → P x → AllByRecursion P (xs ++ x ∷ [])
all-one-more P [] x all one = (one, tt)
all-one-more P (y ∷ xs) x all one = (all.0, all-one-more P xs x all.1 one)

pub all-at : {A : Type 0} (P : A → Type 0) (xs : List A) (n : ℕ) (x : A) → AllByRecursion P xs → slice_get xs n ≡ Some x → P x
all-at P [] zero x all is = absurd (none-some x is)
all-at P [] (suc n) x all is = absurd (none-some x is)
all-at P (y ∷ xs) zero x all is = subst P (same_Some y x is) all.0
all-at P (y ∷ xs) (suc n) x all is = all-at P xs n x all.1 is

grown-twice : (one two three : List Site) → Grown one two → Grown two three → Grown one three
grown-twice one two three first second = record {
  more = first.more ++ second.more;
  all = second.all ∙ (ap (λ xs. xs ++ second.more) first.all ∙ append_assoc one first.more second.more);
}

not-grown : (sites : List Site) → Grown sites sites
not-grown sites = record { more = []; all = sym (append-nil sites) }

-- ---- what fits, fits when more sites stand behind

numbered-grown : (sites more : List Site) (unit : Inner) → IsNumbered sites unit → IsNumbered (sites ++ more) unit
numbered-grown sites more (inner.Register unit) has = tt
numbered-grown sites more (inner.Block unit number) has = record {
  site = has.site;
  there = slot-grown sites more number has.site has.there;
  of_block = has.of_block;
}

are-grown : (sites more : List Site) (found : Option Inner) → AreNumbered sites found → AreNumbered (sites ++ more) found
are-grown sites more None has = has
are-grown sites more (Some unit) has = numbered-grown sites more unit has

site-grown : (sites more : List Site) (site : Site) → SiteFits sites site → SiteFits (sites ++ more) site
site-grown sites more site fits = record {
  accessors_are = fits.accessors_are;
  inside = record {
    units_are = fits.inside.units_are;
    numbered = λ wanted. are-grown sites more (found_inside site.within.units wanted) (fits.inside.numbered wanted);
    knows = fits.inside.knows;
  };
  laid = fits.laid;
}

all-grown : (sites more these : List Site) → AllByRecursion (SiteFits sites) these → AllByRecursion (SiteFits (sites ++ more)) these
all-grown sites more [] all = tt
all-grown sites more (site ∷ these) all = (site-grown sites more site all.0, all-grown sites more these all.1)

fit-more : (sites : List Site) (site : Site) → SiteFits sites site → AllFit sites → AllFit (sites ++ site ∷ [])
fit-more sites site fits all = all-one-more (SiteFits (sites ++ site ∷ [])) sites site (all-grown sites (site ∷ []) sites all) (site-grown sites (site ∷ []) site fits)

numbered-kept : (old now : List Site) → Grown old now → (unit : Inner) → IsNumbered old unit → IsNumbered now unit
numbered-kept old now grown unit has = subst (λ sites. IsNumbered sites unit) (sym grown.all) (numbered-grown old grown.more unit has)

-- ---- a block

pub laid-of : (sites : List Site) (unit : Block) (site : Site) → IsSiteOf sites unit site → HasLaid (block_tree unit) site.within.measures site.fields site.layout
laid-of sites unit site is = subst (λ (own : Block). HasLaid (block_tree own) site.within.measures site.fields site.layout) is.0 is.1.laid

pub inside-of : (sites : List Site) (within : Within) (modules all : Modules) → modules ≡ all → WithinFits sites within modules → WithinFits sites within all
inside-of sites within modules all same fits = subst (λ (found : Modules). WithinFits sites within found) same fits

pub block-added : (old mid now : List Site) (unit : Bor Block) (modules : Modules) (within : Within) (site : Site) (number : ℕ) (measure : Measure) → AddsAll old mid modules within → IsSiteOf mid unit.now site
    → measure_seen measure ≡ measured (one_block (block_tree unit.now)) → number ≡ length mid → now ≡ mid ++ site ∷ [] → Adds old now (one_block (block_tree unit.now)) (record { unit = inner.Block unit number; measure = measure })
block-added old mid now unit modules within site number measure adds is measure_is number_is now_is = record {
  grown = grown-twice old mid now adds.grown (record { more = site ∷ []; all = now_is });
  fit = λ fit. subst AllFit (sym now_is) (fit-more mid site is.1 (adds.fit fit));
  tree_is = refl;
  numbered = record {
    site = site;
    there = ap (λ sites. slice_get sites number) now_is ∙ (ap (slice_get (mid ++ site ∷ [])) number_is ∙ last-there mid site);
    of_block = is.0;
  };
  measure_is = measure_is;
}

pub register-added : (sites : List Site) (own : RegisterModule) (unit : RegisterModule) (measure : Measure) → unit ≡ own → measure_seen measure ≡ measured (one_register own)
    → Adds sites sites (one_register own) (record { unit = inner.Register unit; measure = measure })
register-added sites own unit measure is measure_is = record {
  grown = not-grown sites;
  fit = λ fit. fit;
  tree_is = ap one_register is;
  numbered = tt;
  measure_is = measure_is;
}

-- ---- the modules of a parent

abbrev pub own_tree : ModuleTree → ModuleTree
own_tree tree = tree

pub record AddedSoFar (old sites : List Site) (within : Within) (left all : List Module) : Type 0 where
  pub grown : Grown old sites
  pub fit : AllFit old → AllFit sites
  pub units : KnowsBefore inner_tree own_tree within.units left all
  pub numbered : (wanted : Element) → AreNumbered sites (found_inside within.units wanted)
  pub knows : KnowsBefore measure_seen measured within.measures left all

nothing-found : {T : Type 0} (inside : Inside T) → holds_nothing inside → (wanted : Element) → found_inside inside wanted ≡ None
unfolding found_inside
nothing-found inside none (element.Register name) = rw none.0 refl
nothing-found inside none (element.Block name) = rw none.1 refl

pub modules-begin : (sites : List Site) (within : Within) (all : List Module) → HoldsNothing within → AddedSoFar sites sites within all all
modules-begin sites within all none = record {
  grown = not-grown sites;
  fit = λ fit. fit;
  units = knows-begin inner_tree own_tree within.units all none.0;
  numbered = λ wanted. subst (λ (found : Option Inner). AreNumbered sites found) (sym (nothing-found within.units none.0 wanted)) tt;
  knows = knows-begin measure_seen measured within.measures all none.1;
}

pub modules-more : (old sites now : List Site) (within within' : Within) (left others all : List Module) (first : Module) (added : Added) → left ≡ first ∷ others → Adds sites now (module_tree first) added
    → IsAdded within (module_tree first) added within' → AddedSoFar old sites within left all → AddedSoFar old now within' others all
modules-more old sites now within within' left others all first added is adds kept before = record {
  grown = grown-twice old sites now before.grown adds.grown;
  fit = λ fit. adds.fit (before.fit fit);
  units = knows-more inner_tree own_tree within.units within'.units left others all first added.unit is adds.tree_is kept.units before.units;
  numbered = λ wanted. subst (λ (found : Option Inner). AreNumbered now found) (sym (kept.units wanted)) (by (found_inside within.units wanted) (same_element wanted (element_of (module_tree first))) (before.numbered wanted));
  knows = knows-more measure_seen measured within.measures within'.measures left others all first added.measure is adds.measure_is kept.measures before.knows;
}
  where
    by : (found : Option Inner) (b : Bool) → AreNumbered sites found → AreNumbered now (option_or found (if b then Some added.unit else None))
    by (Some unit) b has = numbered-kept sites now adds.grown unit has
    by None true has = adds.numbered
    by None false has = tt

own-mapped : (found : Option ModuleTree) → option_map own_tree found ≡ found
own-mapped None = refl
own-mapped (Some tree) = refl

pub modules-done : (old sites : List Site) (within : Within) (left all : List Module) → left ≡ [] → AddedSoFar old sites within left all → AddsAll old sites (in_line (map module_tree all)) within
modules-done old sites within left all is before = record {
  grown = before.grown;
  fit = before.fit;
  inside = record {
    units_are = λ wanted. knows-done inner_tree own_tree within.units left all is before.units wanted ∙ own-mapped (module_of wanted (in_line (map module_tree all)));
    numbered = before.numbered;
    knows = knows-done measure_seen measured within.measures left all is before.knows;
  };
}

-- ---- the blocks at the top

pub record TopsSoFar (tops : Tops) (left all : List Block) : Type 0 where
  pub fit : AllFit tops.sites.items
  pub trees : (name : List ℕ) → option_or (option_map inner_tree (lookup (bytes_eq name) tops.named)) (option_map one_block (top_block name (map block_tree left))) ≡ option_map one_block (top_block name (map block_tree all))
  pub numbered : (name : List ℕ) → AreNumbered tops.sites.items (lookup (bytes_eq name) tops.named)

pub tops-begin : (tops : Tops) (all : List Block) → tops.sites.items ≡ [] → tops.named ≡ [] → TopsSoFar tops all all
tops-begin tops all none nothing = record {
  fit = subst AllFit (sym none) tt;
  trees = λ name. ap (λ named. option_or (option_map inner_tree (lookup (bytes_eq name) named)) (option_map one_block (top_block name (map block_tree all)))) nothing;
  numbered = λ name. subst (λ (named : List (List ℕ × Inner)). AreNumbered tops.sites.items (lookup (bytes_eq name) named)) (sym nothing) tt;
}

pub tops-more : (tops tops' : Tops) (left others all : List Block) (first : Block) → left ≡ first ∷ others → AddsTop tops (block_tree first) tops' → TopsSoFar tops left all → TopsSoFar tops' others all
tops-more tops tops' left others all first is adds before = record {
  fit = adds.fit before.fit;
  trees = λ name.
      ap (λ o. option_or (option_map inner_tree o) (option_map one_block (top_block name (map block_tree others)))) (adds.kept name)
      ∙ (by (lookup (bytes_eq name) tops.named) (bytes_eq name (block_tree first).head.name) (top_block name (map block_tree others))
      ∙ (ap (λ blocks. option_or (option_map inner_tree (lookup (bytes_eq name) tops.named)) (option_map one_block (top_block name (map block_tree blocks)))) (sym is) ∙ before.trees name));
  numbered = λ name. subst (λ (found : Option Inner). AreNumbered tops'.sites.items found) (sym (adds.kept name)) (kept (lookup (bytes_eq name) tops.named) (bytes_eq name (block_tree first).head.name) (before.numbered name));
}
  where
    by : (o : Option Inner) (b : Bool) (m : Option BlockTree)
        → option_or (option_map inner_tree (option_or o (if b then Some adds.unit else None))) (option_map one_block m) ≡ option_or (option_map inner_tree o) (option_map one_block (if b then Some (block_tree first) else m))
    by (Some x) b m = refl
    by None true m = ap Some adds.tree_is
    by None false m = refl

    kept : (o : Option Inner) (b : Bool) → AreNumbered tops.sites.items o → AreNumbered tops'.sites.items (option_or o (if b then Some adds.unit else None))
    kept (Some unit) b has = numbered-kept tops.sites.items tops'.sites.items adds.grown unit has
    kept None true has = adds.numbered
    kept None false has = tt

none-more : {A : Type 0} (o : Option A) → o ≡ option_or o None
none-more None = refl
none-more (Some x) = refl

pub tops-done : (tops : Tops) (left all : List Block) → left ≡ [] → TopsSoFar tops left all → TopsFit tops (map block_tree all)
tops-done tops left all is before = record {
  fit = before.fit;
  trees = λ name.
      none-more (option_map inner_tree (lookup (bytes_eq name) tops.named))
      ∙ (ap (λ blocks. option_or (option_map inner_tree (lookup (bytes_eq name) tops.named)) (option_map one_block (top_block name (map block_tree blocks)))) (sym is) ∙ before.trees name);
  numbered = before.numbered;
}

pub top-added : (old now : Tops) (tree : BlockTree) (added : Added) (own : List ℕ) → Adds old.sites.items now.sites.items (one_block tree) added → own ≡ tree.head.name
    → ((name : List ℕ) → lookup (bytes_eq name) now.named ≡ option_or (lookup (bytes_eq name) old.named) (if bytes_eq name own then Some added.unit else None)) → AddsTop old tree now
top-added old now tree added own adds named kept = record {
  unit = added.unit;
  tree_is = adds.tree_is;
  grown = adds.grown;
  fit = adds.fit;
  numbered = adds.numbered;
  kept = λ name. kept name ∙ ap (λ n. option_or (lookup (bytes_eq name) old.named) (if bytes_eq name n then Some added.unit else None)) named;
}
