-- A command of which a text is one, and one that a mapping gives: what is met of it, and its commands.
use Rattle.std.proofs.Common.{ℕ, ◌≡◌, Bool, List, [], Option, Some, None, refl, sym, ap, subst}
use Rattle.std.proofs.lemmas.Option.{none-some}
use Rattle.yaml_block.specs.Trees.{Tree}
use Rattle.patch_form.specs.declared.word.TextWord.{TextWord}
use Rattle.patch_form.specs.declared.word.TextWord.TheVariants as texts
use Rattle.patch_form.specs.declared.word.Word.{Word}
use Rattle.patch_form.specs.declared.word.Word.TheVariants.{Delete, Copy, Modify, Add, Strip, Array}
use Rattle.patch_model.specs.Acts.{Order, PatternItems}
use Rattle.patch_form.specs.Unmet.{AllMet}
use Rattle.patch_form.specs.Demands.{Demand, addition_demands}
use Rattle.patch_model.specs.Held.{EachDeed, text_word, texts_demands}
use Rattle.patch_form.specs.Mappings.{command_demands, word_entries}
use Rattle.patch_model.specs.Orders.{entries_orders, text_deed, texts_orders, word_orders}
use Rattle.patch_form.specs.Parts.{entries_in}
use Rattle.patch_model.proofs.HeldParts.{each_addition, each_deed, entries_met}

abbrev demands_of : Option TextWord → ℕ → Tree → List Demand
demands_of None line tree = []
demands_of (Some text) line tree = texts_demands text line tree

abbrev orders_by : Option TextWord → List PatternItems → ℕ → Tree → List Order
orders_by None parents line tree = []
orders_by (Some text) parents line tree = texts_orders (text_deed text) parents line tree

module _ (device : Bool) (line : ℕ) (tree : Tree) where
  pub texts_met : (word : Word) (text : TextWord) → Some text ≡ text_word word → AllMet (command_demands word device line tree) → AllMet (texts_demands text line tree)
  texts_met Delete text e met = subst (λ (one : Option TextWord). AllMet (demands_of one line tree)) (sym e) met
  texts_met Copy text e met = absurd (none-some text (sym e))
  texts_met Modify text e met = absurd (none-some text (sym e))
  texts_met Add text e met = absurd (none-some text (sym e))
  texts_met Strip text e met = subst (λ (one : Option TextWord). AllMet (demands_of one line tree)) (sym e) met
  texts_met Array text e met = absurd (none-some text (sym e))

  pub deeds_met : (word : Word) → None ≡ text_word word → AllMet (command_demands word device line tree) → EachDeed word device (entries_in tree)
  deeds_met Delete e met = absurd (none-some texts.Delete e)
  deeds_met Copy e met = entries_met (word_entries Copy device) (EachDeed Copy device) line tree (each_deed Copy device (λ _ _ _ met. met)) met
  deeds_met Modify e met = entries_met (word_entries Modify device) (EachDeed Modify device) line tree (each_deed Modify device (λ _ _ _ met. met)) met
  deeds_met Add e met = entries_met addition_demands (EachDeed Add device) line tree (each_addition device) met
  deeds_met Strip e met = absurd (none-some texts.Strip e)
  deeds_met Array e met = entries_met (word_entries Array device) (EachDeed Array device) line tree (each_deed Array device (λ _ _ _ met. met)) met

  pub texts_ordered : (parents : List PatternItems) (word : Word) (text : TextWord) → Some text ≡ text_word word → texts_orders (text_deed text) parents line tree ≡ word_orders word device parents line tree
  texts_ordered parents Delete text e = ap (λ (one : Option TextWord). orders_by one parents line tree) e
  texts_ordered parents Copy text e = absurd (none-some text (sym e))
  texts_ordered parents Modify text e = absurd (none-some text (sym e))
  texts_ordered parents Add text e = absurd (none-some text (sym e))
  texts_ordered parents Strip text e = ap (λ (one : Option TextWord). orders_by one parents line tree) e
  texts_ordered parents Array text e = absurd (none-some text (sym e))

  pub deeds_ordered : (parents : List PatternItems) (word : Word) → None ≡ text_word word → entries_orders word device parents tree ≡ word_orders word device parents line tree
  deeds_ordered parents Delete e = absurd (none-some texts.Delete e)
  deeds_ordered parents Copy e = refl
  deeds_ordered parents Modify e = refl
  deeds_ordered parents Add e = refl
  deeds_ordered parents Strip e = absurd (none-some texts.Strip e)
  deeds_ordered parents Array e = refl
